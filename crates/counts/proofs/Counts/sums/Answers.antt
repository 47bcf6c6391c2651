use mathlib.Core.Bool.{true}
use mathlib.Core.Path.{◌≡◌, refl, sym, ap, ◌∙◌, subst}
use native.Mathlib.Omega.{arith}
use Prim.Native.Nat.{ℕ, ◌+◌, ◌<◌}
use lib.ListN.{set}
use Rattle.table.specs.Fold.{list_to}
use Rattle.table.proofs.Folds.{at_or_below}
use Rattle.table.proofs.Lists.{Filled, filled_more, filled_all}
use Rattle.counts.specs.Tally.{together}
use Rattle.counts.specs.Counts.{row_at, fits}
use Rattle.counts.specs.declared.Counts.{Counts}
use Rattle.counts.specs.declared.Tally.{Tally}
use Rattle.counts.proofs.Monoid.{sum_none, sum_some, both_left, both_right, both_listed, counts_known, counts_passed}
use Rattle.counts.proofs.Counts.sums.Goals as goal

pub returns-in_err-a : goal.returns-in_err-a
returns-in_err-a c =
    c.from_residual.ensures ∙ sym (ap (λ (x : Counts). x.rows) (both_left c.args.self c.args.other c.in_err-a.was))

pub returns-in_err-b : goal.returns-in_err-b
returns-in_err-b c =
    c.from_residual-in_err-b.ensures ∙ sym (ap (λ (x : Counts). x.rows) (both_right c.args.self c.args.other c.in_err-b.was))

pub loop-i-init : goal.loop-i-init
unfolding list_to
loop-i-init c = (record { cells = refl; front = refl }, λ j l. absurd (let never : j < 0 = l in omega arith))

pub returns-in_err-row : goal.returns-in_err-row
returns-in_err-row c =
    let at = c.loop-i in
    let a = c.in_ok-a.a in
    let b = c.in_ok-b.b in
    let large = sum_none (row_at a at.i) (row_at b at.i) c.in_err-row.ensures in
    c.from_residual-in_err-row.ensures
    ∙ sym
    (ap (λ (x : Counts). x.rows)
    (both_listed c.args.self c.args.other a b c.in_ok-a.was c.in_ok-b.was
    ∙ counts_passed (λ i. together (row_at a i) (row_at b i)) at.i (omega arith) large))

pub loop-i-preserved : goal.loop-i-preserved
loop-i-preserved c =
    let at = c.loop-i in
    let a = c.in_ok-a.a in
    let b = c.in_ok-b.b in
    let sum : ℕ → Tally = λ i. together (row_at a i) (row_at b i) in
    let (fit, is) = sum_some (row_at a at.i) (row_at b at.i) c.in_ok-row.field-0 c.in_ok-row.ensures in (
      subst (λ (x : Tally). Filled sum (set at.row-items at.i x) (at.i + 1) 8) (sym is) (filled_more sum at.row-items at.i 8 (omega arith) at.invariant.0),
      λ j l. at_or_below (λ k. fits (sum k) ≡ true) {n = at.i} j (omega arith) fit (at.invariant.1 j),
    )

pub returns : goal.returns
returns c =
    let at = c.loop-i in
    let a = c.in_ok-a.a in
    let b = c.in_ok-b.b in
    let sum : ℕ → Tally = λ i. together (row_at a i) (row_at b i) in
    let all : at.i ≡ 8 = omega arith in
    let filled = filled_all sum at.row-items 8 (subst (λ (n : ℕ). Filled sum at.row-items n 8) all at.invariant.0) in
    rw filled
    (sym
    (ap (λ (x : Counts). x.rows)
    (both_listed c.args.self c.args.other a b c.in_ok-a.was c.in_ok-b.was ∙ counts_known sum (λ j l. at.invariant.1 j (omega arith)))))
