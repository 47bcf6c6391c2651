-- `Census::begin` has the table's numbers, and those of the first stream.
use mathlib.Core.Bool.{Bool, true, false, not, ◌||◌}
use mathlib.Core.Path.{◌≡◌, refl, sym, ap, ◌∙◌}
use Prim.Native.Nat.{ℕ}
use lib.Dec.{eqb, ltb}
use Rattle.table.specs.Fold.{if}
use Rattle.table.specs.Refusal.{given, ◌or_next◌, outside}
use Rattle.table.specs.Admission.{ranges_refusal}
use Rattle.table.proofs.Margins.{ranges_told}
use Rattle.stream.specs.Search.{begun}
use Rattle.stream.proofs.Refused.{by_test, refused_is}
use Rattle.stream.proofs.census.Census.begin.Goals as goal
use Rattle.stream.proofs.census.Census.begin.Goals.{After-is_err}

-- the two tests are one by number
by_number : (out : Bool) (n : ℕ) → eqb (given out 1 or_next n) 0 ≡ not (out || not (eqb n 0))
unfolding given ◌or_next◌
by_number true n = refl
by_number false n = by_test (eqb n 0)

-- the test that the code makes
test : (c : After-is_err) → eqb (given (outside 1 8 c.args.count) 1 or_next ranges_refusal c.args.numbers.worst c.args.numbers.span c.args.numbers.padding) 0
    ≡ not (ltb c.args.count 1 || ltb 8 c.args.count || c.is_err.result)
unfolding outside
test c = by_number (outside 1 8 c.args.count) (ranges_refusal c.args.numbers.worst c.args.numbers.span c.args.numbers.padding)
    ∙ ap (λ (b : Bool). not (ltb c.args.count 1 || ltb 8 c.args.count || b)) (ap (λ (n : ℕ). not (eqb n 0)) (sym (ranges_told c.args.numbers.worst c.args.numbers.span c.args.numbers.padding _ c.ranges_refusal.ensures)) ∙ sym (refused_is c.ranges_refusal.result) ∙ sym c.is_err.ensures.value)

pub returns-then-count-is_err : goal.returns-then-count-is_err
unfolding begun if
returns-then-count-is_err c = rw (test (goal.at.returns-then-count-is_err c).After-is_err, c.if-count-is_err.true)

pub returns : goal.returns
unfolding begun if
returns c = rw (c.none.ensures, test (goal.at.returns c).After-is_err, c.if-count-is_err.false)
