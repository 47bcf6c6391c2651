-- `stream_refusal` gives the refusals 5 and 6 of a stream: each way out rewrites the tests that led there.
use borrow.Author.Tests.{eq-eqb, ne_eqb}
use mathlib.Core.Bool.{Bool, true, false, ◌||◌}
use mathlib.Core.Path.{◌≡◌, subst}
use Prim.Native.Nat.{ℕ}
use lib.Dec.{ltb, eqb}
use Rattle.table.specs.Fold.{if}
use Rattle.table.specs.Refusal.{given, ◌or_next◌, outside}
use Rattle.table.specs.Admission.{granted_of, stream_refusal}
use Rattle.table.specs.Margin.{refusal_of, answer_by}
use Rattle.table.proofs.numbers.Numbers.stream_refusal.Goals as goal
use Rattle.table.proofs.numbers.Numbers.stream_refusal.Goals.{After-granted}

pub returns-then-period : goal.returns-then-period
unfolding stream_refusal given ◌or_next◌ outside answer_by refusal_of if
returns-then-period c = rw c.if-period.true

pub returns-then-self-period-ne0 : goal.returns-then-self-period-ne0
unfolding stream_refusal given ◌or_next◌ outside answer_by refusal_of if
returns-then-self-period-ne0 c = rw (c.if-period.false, ne_eqb _ _ c.if-self-period-ne0.true)

-- the test of 6, with the granted budget
abbrev six : After-granted → ℕ → Bool
six c g = let x = c.args.stream in eqb x.reserved 0 || ltb x.period g

abbrev budget : After-granted → ℕ
budget c = let n = c.args.self in granted_of n.worst n.padding c.args.stream.reserved

tested : (c : After-granted) (b : Bool) → six c c.granted.result ≡ b → six c (budget c) ≡ b
tested c b = subst (λ (g : ℕ). six c g ≡ b) c.granted.ensures

pub returns-then-reserved-period : goal.returns-then-reserved-period
unfolding stream_refusal given ◌or_next◌ outside answer_by refusal_of if
returns-then-reserved-period c = rw (c.if-period.false, eq-eqb _ _ c.if-self-period-ne0.false, tested c.before true c.if-reserved-period.true)

pub returns : goal.returns
unfolding stream_refusal given ◌or_next◌ outside answer_by refusal_of if
returns c = rw (c.if-period.false, eq-eqb _ _ c.if-self-period-ne0.false, tested c.before false c.if-reserved-period.false)
