-- `Stream::is_in_order` gives the test of a used stream: what refuses its reservation, and then its cells, whose budget is known to be small.
use borrow.Author.Tests.{eqb-true}
use mathlib.Core.Bool.{not}
use mathlib.Core.Path.{◌≡◌, sym, ap, ◌∙◌}
use Prim.Native.Nat.{ℕ, ◌≤◌}
use native.Mathlib.Omega.{arith}
use lib.Dec.{leb, eqb}
use borrow.Author.Rules.{rules}
use Rattle.table.specs.Admission.{granted_of, stream_refusal}
use Rattle.table.specs.Ranges.{period_max}
use Rattle.table.proofs.Judged.{stream_of}
use Rattle.table.proofs.Margins.{stream_told}
use Rattle.stream.specs.Stream.{sound_stream}
use Rattle.stream.specs.Search.{in_order}
use Rattle.stream.proofs.Refused.{by_test, refused_is}
use Rattle.stream.proofs.Stream.is_in_order.Goals as goal
use Rattle.stream.proofs.Stream.is_in_order.Goals.{After-is_err}

-- by number
tested : (c : After-is_err) → eqb (let a = c.args in stream_refusal a.numbers.worst a.numbers.span a.numbers.padding a.self.now.reserved a.self.now.period) 0 ≡ not c.is_err.result
tested c = ap (λ (n : ℕ). eqb n 0) (sym (stream_told _ _ _ _ _ _ c.stream_refusal.ensures)) ∙ by_test _ ∙ ap not (sym (refused_is c.stream_refusal.result) ∙ sym c.is_err.ensures.value)

pub returns-then-is_err : goal.returns-then-is_err
unfolding in_order
returns-then-is_err c = rw (tested (goal.at.returns-then-is_err c).After-is_err, c.if-is_err.true)

budget-small : (worst span k e p : ℕ) → stream_refusal worst span k e p ≡ 0 → granted_of worst k e ≤ period_max
budget-small worst span k e p none = let fits = stream_of worst span k e p none in omega (arith, fits.budget, fits.period_high)

pub is_sound-cells-requires : goal.is_sound-cells-requires
is_sound-cells-requires c =
    let none = eqb-true _ _ (tested (goal.at.is_sound-cells-requires c).After-is_err ∙ ap not c.if-is_err.false) in
    (c.requires.0, c.requires.1, budget-small _ _ _ _ _ none)

pub returns : goal.returns
unfolding in_order sound_stream
returns c =
    let x = c.args.self.now in
    let released : c.le.result ≡ leb x.release.0 c.args.h.0 = search rules in
    let due : c.le-2.result ≡ leb c.args.h.0 x.deadline.0 = search rules in
    rw (tested (goal.at.returns c).After-is_err, c.if-is_err.false, c.is_sound-cells.ensures, released, due)
