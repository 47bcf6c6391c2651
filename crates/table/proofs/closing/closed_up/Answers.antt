use mathlib.Core.Path.{◌≡◌, ◌∙◌, subst}
use Prim.Native.Nat.{◌+◌, ◌-◌}
use native.Mathlib.Omega.{arith}
use lib.ListN.{length, get_or}
use borrow.Author.Rules.{rules}
use Rattle.std.proofs.lemmas.List.{get_or_default}
use Rattle.table.specs.Fold.{closed_up}
use Rattle.table.proofs.Lists.{Filled, closing_starts, closing_goes_on, closing_ends}
use Rattle.table.proofs.closing.closed_up.Goals as goal

pub loop-i-init : goal.loop-i-init
loop-i-init g c =
    let cells : length c.args.cells ≡ g.row.N = search rules in
    closing_starts c.args.cells c.args.empty c.args.j g.row.N cells c.requires

pub loop-i-preserved : goal.loop-i-preserved
loop-i-preserved g c =
    let a = c.args in
    let at = c.loop-i in
    let cells : length a.cells ≡ g.row.N = search rules in
    let read : c.index-cells-i.result ≡ get_or a.cells (at.i + 1) a.empty = c.index-cells-i.is ∙ get_or_default a.cells (at.i + 1) _ a.empty (omega (arith, cells)) in
    rw (← c.index-cells-i.is, read) (closing_goes_on a.cells a.empty a.j g.row.N cells c.requires at.left at.i at.auto.i (omega arith) at.invariant)

pub returns : goal.returns
returns g c =
    let a = c.args in
    let at = c.loop-i in
    let cells : length a.cells ≡ g.row.N = search rules in
    let last : at.i ≡ g.row.N - 1 = omega arith in
    let q = subst (λ n. Filled (λ x. get_or (closed_up a.empty a.j a.cells) x a.empty) at.left n g.row.N) last at.invariant in
    closing_ends a.cells a.empty a.j g.row.N cells c.requires at.left (g.row.N - 1) (omega arith) q
