-- What the loops over a table's groups keep: budgets that are added up at eight places, and then the shares and the largest quotient of the places passed.
use mathlib.Core.Bool.{Bool, true, false}
use mathlib.Core.List.{List}
use mathlib.Core.Logic.{⊎_elim}
use mathlib.Core.Path.{◌≡◌, refl, sym, ◌∙◌, ap, subst}
use Prim.Native.Nat.{ℕ, suc, ◌+◌, ◌*◌, ◌/◌, min, max, ◌≤◌, ◌<◌}
use native.Mathlib.Nat.{le_trans}
use native.Mathlib.Omega.{arith}
use lib.Dec.{eqb}
use lib.ListN.{length, get_or, set, replicate, length-set, get_or-replicate}
use lib.Seq.{get_or-set_same, get_or-set_other}
use borrow.Author.Tests.{eqb-true, eqb-false}
use Rattle.table.specs.Fold.{if, sum_to, largest_to, list_to}
use Rattle.table.specs.Ranges.{streams_max, span_max, period_max}
use Rattle.table.specs.Admission.{period_at, granted_of, smallest_period, numbers_refusal, streams_refusal}
use Rattle.table.specs.Groups.{granted_at, quotient_at, first_with, group_to, group_at, group_share_at, grouped_shares}
use Rattle.table.specs.Laws.{SmallestHasLargestQuotient}
use Rattle.table.specs.declared.Table.{Table}
use Rattle.table.proofs.Tests.{le_or_lt}
use Rattle.table.proofs.Folds.{sum_part, largest_le}
use Rattle.table.proofs.Lists.{filled_on, filled_all}
use Rattle.table.proofs.Judged.{numbers_of, streams_of, shares_high}
use Rattle.table.proofs.Grouped.{first_with_low, first_with_same, group_high, group_own, group_past, group_share, grouped_shares_lem, smallest_most}

-- of the first i places those of streams are so many
pub used_passed : (i n : ℕ) → i < n → (min i n ≡ i) × (min (i + 1) n ≡ suc i)
used_passed i n l = (omega arith, omega arith)

pub unused_passed : (i n : ℕ) → n ≤ i → min (i + 1) n ≡ min i n
unused_passed i n le = omega arith

-- at eight places stand the budgets of the first n streams, added up by groups
pub record Added (t : Table) (xs : List ℕ) (n : ℕ) : Type 0 where
  pub cells : length xs ≡ streams_max
  pub sums : (j : ℕ) → j < streams_max → get_or xs j 0 ≡ group_to (granted_at t) (period_at t) n j

pub added_none : (t : Table) → Added t (replicate streams_max 0) 0
unfolding group_to sum_to
added_none t = record { cells = refl; sums = λ j l. get_or-replicate streams_max j 0 0 l }

-- one stream more: its budget is added where its group stands, and the others are as they were
module _ (t : Table) (xs : List ℕ) (n : ℕ) (l : n < streams_max) (q : Added t xs n) where
  abbrev first : ℕ
  first = first_with (period_at t) n

  abbrev more : ℕ
  more = get_or xs first 0 + granted_at t n

  first_within : first < streams_max
  first_within = omega (arith, first_with_low (period_at t) n)

  more_at : (j : ℕ) → j < streams_max → (b : Bool) → eqb first j ≡ b
      → get_or (set xs first more) j 0 ≡ group_to (granted_at t) (period_at t) n j + if b (granted_at t n) 0
  unfolding if
  more_at j _ true e =
      let same = eqb-true first j e in
      ap (λ k. get_or (set xs first more) k 0) (sym same)
      ∙ get_or-set_same xs first more 0 (omega (arith, q.cells, first_within))
      ∙ ap (λ x. x + granted_at t n) (q.sums first first_within ∙ ap (group_to (granted_at t) (period_at t) n) same)
  more_at j below false e =
      get_or-set_other xs first j more 0 (λ same. eqb-false first j e (sym same)) ∙ q.sums j below ∙ omega arith

  pub added_more : Added t (set xs first more) (suc n)
  unfolding group_to sum_to
  added_more = record { cells = length-set xs first more ∙ q.cells; sums = λ j below. more_at j below (eqb first j) refl }

pub added_all : (t : Table) (xs : List ℕ) → Added t xs t.count → xs ≡ list_to (group_at t) streams_max
unfolding list_to
added_all t xs q =
    filled_all (group_at t) xs streams_max
    (filled_on (group_at t) xs 0 0 streams_max (omega arith) (λ j _ l. q.sums j l) (record { cells = q.cells; front = refl }))

module _ (t : Table) where
  -- what the groups of the first n streams come to, and the largest of their quotients
  pub record Passed (shares most n : ℕ) : Type 0 where
    pub sum : shares ≡ sum_to (group_share_at t) n
    pub largest : most ≡ largest_to (quotient_at t) n

  pub passed_none : Passed 0 0 0
  unfolding sum_to largest_to
  passed_none = record { sum = refl; largest = refl }

  -- with the group of one place more
  pub passed_group : (shares most i : ℕ) → i < t.count → Passed shares most (min i t.count)
      → Passed (shares + group_at t i * quotient_at t i) (max most (quotient_at t i)) (min (i + 1) t.count)
  unfolding sum_to largest_to
  passed_group shares most i l q =
      let n = used_passed i t.count l in
      let at = subst (Passed shares most) n.0 q in
      subst (Passed (shares + group_at t i * quotient_at t i) (max most (quotient_at t i))) (sym n.1)
      (record { sum = omega (arith, at.sum, group_share t i); largest = ap (λ m. max m (quotient_at t i)) at.largest })

  -- a place with a group is one of a stream
  pub grouped_used : (i : ℕ) → (group_at t i ≡ 0 → ⊥) → i < t.count
  grouped_used i some =
      ⊎_elim (λ (u : t.count ≤ i). absurd (some (group_past (granted_at t) (period_at t) t.count i u))) (λ u. u) (le_or_lt t.count i)

-- of a table whose streams are in order
module _ (t : Table) (streams : streams_refusal t ≡ 0) where
  granted_high : (i : ℕ) → i < t.count → granted_at t i ≤ period_max
  granted_high i l = let s = streams_of t streams i l in le_trans s.budget s.period_high

  -- a granted budget is at most its period, and a group has at most eight of them
  pub budgets_fit : (xs : List ℕ) (n j i : ℕ) → n < streams_max → n ≤ t.count → j < streams_max → i < t.count
      → Added t xs n → get_or xs j 0 + granted_at t i ≤ streams_max * period_max
  budgets_fit xs n j i eight le at l q =
      let sum = group_high period_max (granted_at t) (period_at t) n j (λ i u. granted_high i (omega arith)) in
      omega (arith, q.sums j at, sum, granted_high i l)

  -- a stream at whose place no group stands is of a group before it, since no granted budget is 0
  group_before : (i : ℕ) → i < t.count → group_at t i ≡ 0 → first_with (period_at t) i < i
  unfolding granted_of
  group_before i l none =
      ⊎_elim
      (λ (u : i ≤ first_with (period_at t) i).
      let own : first_with (period_at t) i ≡ i = omega (arith, first_with_low (period_at t) i) in
      absurd ((streams_of t streams i l).reserved_low (omega (arith, none, group_own (granted_at t) (period_at t) t.count i l own))))
      (λ u. u)
      (le_or_lt i (first_with (period_at t) i))

  -- so that a place without a group adds nothing, and its quotient was there already
  pub passed_by : (shares most i : ℕ) → group_at t i ≡ 0 → Passed t shares most (min i t.count) → Passed t shares most (min (i + 1) t.count)
  unfolding sum_to largest_to
  passed_by shares most i none q =
      ⊎_elim
      (λ (u : t.count ≤ i). rw (unused_passed i t.count u) q)
      (λ (u : i < t.count).
      let n = used_passed i t.count u in
      let at = subst (Passed t shares most) n.0 q in
      let before : quotient_at t i ≤ largest_to (quotient_at t) i
      = subst (λ p. t.span / p ≤ largest_to (quotient_at t) i) (first_with_same (period_at t) i) (largest_le (quotient_at t) i (first_with (period_at t) i) (group_before i u none)) in
      subst (Passed t shares most) (sym n.1)
      (record { sum = omega (arith, at.sum, group_share t i, ap (λ g. g * quotient_at t i) none); largest = omega (arith, at.largest, before) }))
      (le_or_lt t.count i)

  -- the shares of all groups are those of all streams, each at most the span
  pub group_shares_high : numbers_refusal t ≡ 0 → (n : ℕ) → n ≤ t.count → sum_to (group_share_at t) n ≤ streams_max * span_max
  unfolding grouped_shares
  group_shares_high numbers n le =
      omega (arith, sum_part (group_share_at t) n t.count le, grouped_shares_lem t, shares_high t numbers streams)

pub smallest_has_largest_quotient : SmallestHasLargestQuotient
unfolding smallest_period
smallest_has_largest_quotient t numbers streams =
    smallest_most t.span (period_at t) t.count (numbers_of t numbers).count_low (λ i l. omega (arith, (streams_of t streams i l).period_low))
