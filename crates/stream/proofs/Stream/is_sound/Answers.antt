-- `Stream::is_sound` gives the document's test: each part is what its function ensures. The charge is small once it is known to be near the budget.
use mathlib.Core.Bool.{Bool, not, ◌&&◌}
use mathlib.Core.Path.{◌≡◌, sym, ◌∙◌}
use Prim.Native.Nat.{ℕ, ◌+◌}
use lib.Dec.{leb, ltb, eqb}
use borrow.Author.Rules.{rules}
use borrow.Author.Tests.{tests}
use Rattle.table.specs.Admission.{granted_of}
use Rattle.time.specs.Time.{session_end, duration_max}
use Rattle.stream.specs.Stream.{sound_cells}
use Rattle.stream.specs.declared.Stream.{Stream}
use Rattle.stream.proofs.Stream.is_sound.Goals as goal
use Rattle.stream.proofs.Stream.is_sound.Goals.{After-is_near-charge}

-- the tests of the budget, the dates and the charge
abbrev first : ℕ → ℕ → Stream → Bool
first worst k x =
    eqb x.granted.0 (granted_of worst k x.reserved)
    && eqb x.deadline.0 (x.release.0 + x.period)
    && leb x.deadline.0 session_end
    && leb x.charge.0 (x.granted.0 + duration_max)

-- a deadline that is not past the end is at most that
not_past : (d : ℕ) → not (ltb session_end d) ≡ leb d session_end
not_past d = search (rules, tests)

-- what the code finds of them is that
tested : (c : After-is_near-charge)
    → (c.eq-budget.result && c.is_later_by-due.result && not c.is_past_end-in_session.result && c.is_near-charge.result) ≡ first c.args.numbers.worst c.args.numbers.padding c.args.self.now
tested c =
    rw (
      c.is_near-charge.ensures,
      c.is_past_end-in_session.ensures,
      not_past c.args.self.now.deadline.0,
      c.is_later_by-due.ensures,
      c.eq-budget.ensures,
      c.of.ensures,
      c.granted.ensures,
    )

pub returns-then-not-budget-due : goal.returns-then-not-budget-due
unfolding sound_cells
returns-then-not-budget-due c = rw (sym (tested (goal.at.returns-then-not-budget-due c).After-is_near-charge) ∙ c.if-not-budget-due.true)

pub returns-then-covered : goal.returns-then-covered
unfolding sound_cells
returns-then-covered c =
    let passed = sym (tested (goal.at.returns-then-covered c).After-is_near-charge) ∙ c.if-not-budget-due.false in
    rw (passed, sym c.covers-covered.ensures ∙ c.if-covered.true, c.queue_is_sound.ensures)

pub returns-else-covered : goal.returns-else-covered
unfolding sound_cells
returns-else-covered c =
    let passed = sym (tested (goal.at.returns-else-covered c).After-is_near-charge) ∙ c.if-not-budget-due.false in
    rw (passed, sym c.covers-covered.ensures ∙ c.if-covered.false) (c.if-covered.false)
