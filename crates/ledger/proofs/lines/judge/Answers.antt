use native.Mathlib.Omega.{arith}
use mathlib.Core.Path.{sym, ap, ◌∙◌}
use Prim.Native.Nat.{◌+◌, ◌≤◌}
use lib.Dec.{eqb}
use lib.ListN.{length}
use Rattle.std.proofs.Common.{tests}
use Rattle.std.proofs.lemmas.List.{length_push}
use Rattle.std.proofs.lemmas.List.FromFn.{length-enumerate_from}
use Rattle.std.proofs.lemmas.Iterator.Splits.{YieldsList-from_slice_split}
use Rattle.std.proofs.lemmas.Iterator.Consumers.{YieldsList-from_enumerate, YieldsList-at, YieldsList-turn, YieldsList-end}
use Rattle.std.proofs.lemmas.Grind.{common_steps}
use Rattle.table.specs.Fold.{if}
use Rattle.ledger.specs.Ledger.{stands}
use Rattle.ledger.proofs.Judging.{parts_of, counted, lines_are, line_stands, line_amiss, lines_end}
use Rattle.ledger.proofs.lines.judge.Goals as goal

pub loop-i-init : goal.loop-i-init
loop-i-init c = lines_are c.args.file.now

pub returns-then-not-stands : goal.returns-then-not-stands
returns-then-not-stands c =
    let loop = c.loop-i in
    let lines = parts_of c.args.file.now in
    let road = YieldsList-from_enumerate (YieldsList-at {t = c.split.result} (cc) (YieldsList-from_slice_split _ (λ b. eqb b 10) c.args.file.now (cc) (cc) (cc) (λ x b q k. grind (arith, common_steps, tests, k.called)))) (cc) in
    let t = YieldsList-turn road loop.yielded _ loop.yielded_by _ _ (c.in-Some.i, c.in-Some.line) c.in-Some.is c.next.ensures.steps in
    let n = counted lines (length loop.yielded) c.in-Some.i c.in-Some.line.now t.0 t.1 in
    let bad = ap (stands loop.begun) (sym c.entry_of-entry.ensures) ∙ sym c.stands.ensures ∙ c.if-not-stands.true in
    rw n.1 (line_amiss (length loop.yielded + 1) loop.begun lines (length loop.yielded) c.in-Some.line.now n.0 n.2 bad ∙ loop.invariant)

pub loop-i-preserved : goal.loop-i-preserved
loop-i-preserved c =
    let loop = c.loop-i in
    let lines = parts_of c.args.file.now in
    let road = YieldsList-from_enumerate (YieldsList-at {t = c.split.result} (cc) (YieldsList-from_slice_split _ (λ b. eqb b 10) c.args.file.now (cc) (cc) (cc) (λ x b q k. grind (arith, common_steps, tests, k.called)))) (cc) in
    let t = YieldsList-turn road loop.yielded _ loop.yielded_by _ _ (c.in-Some.i, c.in-Some.line) c.in-Some.is c.next.ensures.steps in
    let n = counted lines (length loop.yielded) c.in-Some.i c.in-Some.line.now t.0 t.1 in
    let entry = c.entry_of-entry.ensures in
    let fine = ap (stands loop.begun) (sym entry) ∙ sym c.stands.ensures ∙ c.if-not-stands.false in
    rw (length_push loop.yielded (c.in-Some.i, c.in-Some.line), c.begins-begun.ensures, entry)
    (line_stands (length loop.yielded + 1) loop.begun lines (length loop.yielded) c.in-Some.line.now n.0 n.2 fine ∙ loop.invariant)

pub returns-then-begun : goal.returns-then-begun
unfolding if
returns-then-begun c =
    let loop = c.loop-i in
    let lines = parts_of c.args.file.now in
    let road = YieldsList-from_enumerate (YieldsList-at {t = c.split.result} (cc) (YieldsList-from_slice_split _ (λ b. eqb b 10) c.args.file.now (cc) (cc) (cc) (λ x b q k. grind (arith, common_steps, tests, k.called)))) (cc) in
    let t = YieldsList-end road loop.yielded _ loop.yielded_by _ _ c.in-None.is c.next.ensures.steps in
    let past : length lines ≤ length loop.yielded = omega (arith, t.1, length-enumerate_from 0 lines) in
    rw c.if-begun.true at (lines_end (length loop.yielded + 1) loop.begun lines (length loop.yielded) past ∙ loop.invariant)

pub returns-else-begun : goal.returns-else-begun
unfolding if
returns-else-begun c =
    let loop = c.loop-i in
    let lines = parts_of c.args.file.now in
    let road = YieldsList-from_enumerate (YieldsList-at {t = c.split.result} (cc) (YieldsList-from_slice_split _ (λ b. eqb b 10) c.args.file.now (cc) (cc) (cc) (λ x b q k. grind (arith, common_steps, tests, k.called)))) (cc) in
    let t = YieldsList-end road loop.yielded _ loop.yielded_by _ _ c.in-None.is c.next.ensures.steps in
    let past : length lines ≤ length loop.yielded = omega (arith, t.1, length-enumerate_from 0 lines) in
    rw c.if-begun.false at (lines_end (length loop.yielded + 1) loop.begun lines (length loop.yielded) past ∙ loop.invariant)
