-- The load by groups of streams with one period. Document 02, Req 04: "The sum divides the span by a period for each stream. It should add up the granted budgets of equal periods first and divide once for each distinct period. The load is the same number".
use Rattle.std.specs.Prelude.{ℕ, ◌+◌, ◌*◌, ◌/◌, eqb}
use Rattle.table.specs.Fold.{if, sum_to, smallest_to}
use Rattle.table.specs.Admission.{reserved_at, period_at, granted_of, smallest_period}
use Rattle.table.specs.declared.Table.{Table}

-- the granted budget of a stream, counted from 0
abbrev pub granted_at : Table → ℕ → ℕ
granted_at t i = granted_of t.worst t.padding (reserved_at t i)

-- "H / p"
abbrev pub quotient_at : Table → ℕ → ℕ
quotient_at t i = t.span / period_at t i

-- where the group of stream i stands: at the smallest j before i with i's period, and at i itself where none has it
unfoldable pub first_with : (ℕ → ℕ) → ℕ → ℕ
first_with period i = smallest_to (λ j. if (eqb (period j) (period i)) j i) i

-- "add up the granted budgets of equal periods": of the first n streams, the budgets of the group that stands at j; 0 where none stands
unfoldable pub group_to : (ℕ → ℕ) → (ℕ → ℕ) → ℕ → ℕ → ℕ
group_to budget period n j = sum_to (λ i. if (eqb (first_with period i) j) (budget i) 0) n

-- of all streams of a table
abbrev pub group_at : Table → ℕ → ℕ
group_at t = group_to (granted_at t) (period_at t) t.count

-- "and divide once for each distinct period": the share of the group that stands at j; where none stands nothing is divided
abbrev pub group_share_at : Table → ℕ → ℕ
group_share_at t j = if (eqb (group_at t j) 0) 0 (group_at t j * quotient_at t j)

-- and of all groups
unfoldable pub grouped_shares : Table → ℕ
grouped_shares t = sum_to (group_share_at t) t.count

-- "plus W × (H / smallest p)", whose quotient is that of its group, and the largest of all (`SmallestHasLargestQuotient`)
unfoldable pub grouped_load : Table → ℕ
grouped_load t = grouped_shares t + t.worst * (t.span / smallest_period t)
