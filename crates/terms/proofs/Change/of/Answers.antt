-- `Change::of` is its definition, whose quotients and differences are those of numbers that are never negative; nothing passes 64 bits, since a quotient is at most what is divided.
use mathlib.Core.Path.{◌≡◌, refl, sym, ◌∙◌}
use Prim.Native.Nat.{◌+◌, ◌≤◌, ◌<◌}
use borrow.Author.Tests.{eq-eqb, ne_eqb, lt-ltb, le-ltb}
use Rattle.table.specs.Fold.{if}
use Rattle.table.specs.Margin.{over_of}
use Rattle.terms.specs.Terms.{room_of, shrink_of, change_of}
use Rattle.terms.proofs.Change.of.Goals as goal
use Rattle.terms.proofs.Change.of.Goals.{After-quotient-by}

pub returns-then-over-eq0 : goal.returns-then-over-eq0
unfolding change_of room_of if
returns-then-over-eq0 c =
    let fits = sym c.over-over.ensures ∙ c.if-over-eq0.true in
    rw (
      eq-eqb _ 0 fits,
      c.min.ensures,
      c.saturating_sub-by_period.ensures,
      c.granted.ensures,
      c.quotient-by_load.ensures,
      c.left.ensures,
      c.quotient-times.ensures,
    )

-- past the first test the load is over the span, by the amount that is asked for
exceeds : (c : After-quotient-by) → (over_of c.args.margin.0 ≡ 0 → ⊥)
exceeds c z = c.if-over-eq0.false (c.over-over.ensures ∙ z)

-- and what has to be taken off is what the definition says
by-is : (c : After-quotient-by) → let a = c.args in
    c.quotient-by.result + 1 ≡ shrink_of a.margin.0 a.numbers.span a.stream.period
unfolding shrink_of
by-is c = rw (c.quotient-by.ensures, c.over-over.ensures, c.quotient-times.ensures) refl

pub returns-then-by-stream : goal.returns-then-by-stream
unfolding change_of if
returns-then-by-stream c =
    let less : shrink_of c.args.margin.0 _ _ < c.args.stream.reserved = rw (by-is c.before.before) at c.if-by-stream.true in
    rw (ne_eqb _ 0 (exceeds c.before.before), lt-ltb _ _ less, by-is c.before.before)

pub returns-else-by-stream : goal.returns-else-by-stream
unfolding change_of if
returns-else-by-stream c =
    let more : c.args.stream.reserved ≤ shrink_of c.args.margin.0 _ _ = rw (by-is c.before.before) at c.if-by-stream.false in
    rw (ne_eqb _ 0 (exceeds c.before.before), le-ltb _ _ more)
