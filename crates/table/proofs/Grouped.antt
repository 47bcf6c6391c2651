-- Sums over groups are the sum over all, over any count; and what is known of groups of streams with one period.
use mathlib.Core.Path.{◌≡◌, refl, sym, ◌∙◌, ap}
use mathlib.Core.Logic.{⊎_elim}
use Prim.Native.Nat.{ℕ, zero, suc, ◌+◌, ◌*◌, ◌/◌, ◌≤◌, ◌<◌}
use native.Mathlib.Nat.{not-suc-le-zero, add-mul, le_antisymm, le_trans, le-div_iff_mul-le, mul-le-mul_left, div-mul-le_self}
use native.Mathlib.Omega.{arith}
use lib.Dec.{eqb}
use borrow.Author.Tests.{eq-eqb, ne_eqb, eqb-true}
use Rattle.table.specs.Fold.{if, sum_to, smallest_to, largest_to}
use Rattle.table.specs.Admission.{period_at, share_of, shares_of, smallest_period, load_of}
use Rattle.table.specs.Groups.{granted_at, quotient_at, first_with, group_to, group_at, group_share_at, grouped_shares, grouped_load}
use Rattle.table.specs.Laws.{GroupsAddUp, LoadByGroups, OneGroupForEachPeriod}
use Rattle.table.specs.declared.Table.{Table}
use Rattle.table.proofs.Tests.{le_or_lt, by_if}
use Rattle.table.proofs.Folds.{sum_high, sum_none, sum_term, sum_add, sum_agree, smallest_le, smallest_is, largest_le, largest_high}

-- of a sum in which one place alone counts, that place is left
sum_one : (k x : ℕ) (q : ℕ → ℕ) (m : ℕ) → k < m → sum_to (λ j. if (eqb k j) x 0 * q j) m ≡ x * q k
unfolding sum_to if
sum_one k x q zero l = absurd (not-suc-le-zero l)
sum_one k x q (suc m) l =
    ⊎_elim
    (λ (u : m ≤ k).
    let e : m ≡ k = omega arith in
    let none = sum_none (λ j. if (eqb k j) x 0 * q j) m (λ j v. rw (ne_eqb k j (λ (w : k ≡ j). omega arith)) (omega arith)) in
    rw (none, e, eq-eqb k k refl) (omega arith))
    (λ (u : k < m). rw (sum_one k x q m u, ne_eqb k m (λ (w : k ≡ m). omega arith)) (omega arith))
    (le_or_lt m k)

-- where each of n numbers is put at one of m places, and each place has a quotient, the sum over the places is the sum over the numbers
sum_placed : (place x q : ℕ → ℕ) (m n : ℕ) → ((i : ℕ) → i < n → place i < m)
    → sum_to (λ j. sum_to (λ i. if (eqb (place i) j) (x i) 0) n * q j) m ≡ sum_to (λ i. x i * q (place i)) n
unfolding sum_to
sum_placed place x q m zero placed = sum_none (λ j. 0 * q j) m (λ j _. omega arith)
sum_placed place x q m (suc n) placed =
    let rest : ℕ → ℕ = λ j. sum_to (λ i. if (eqb (place i) j) (x i) 0) n * q j in
    let last : ℕ → ℕ = λ j. if (eqb (place n) j) (x n) 0 * q j in
    let parted = sum_agree
    (λ j. sum_to (λ i. if (eqb (place i) j) (x i) 0) (suc n) * q j) (λ j. rest j + last j) m
    (λ j _. add-mul (sum_to (λ i. if (eqb (place i) j) (x i) 0) n) (if (eqb (place n) j) (x n) 0) (q j)) in
    parted ∙ sum_add rest last m ∙ omega (arith, sum_placed place x q m n (λ i l. placed i (omega arith)), sum_one (place n) (x n) q m (placed n (omega arith)))

-- the first that has a period is what this one and each before it with that period is
first_with_is : (P : ℕ → Type 0) (period : ℕ → ℕ) (i : ℕ) → P i → ((j : ℕ) → j < i → period j ≡ period i → P j) → P (first_with period i)
unfolding first_with smallest_to
first_with_is P period zero own before = by_if P (eqb (period 0) (period 0)) 0 0 (λ _. own) (λ _. own)
first_with_is P period (suc i) own before =
    smallest_is P (λ j. if (eqb (period j) (period (suc i))) j (suc i)) (suc i) (omega arith)
    (λ j l. by_if P (eqb (period j) (period (suc i))) j (suc i) (λ e. before j l (eqb-true _ _ e)) (λ _. own))

pub first_with_low : (period : ℕ → ℕ) (i : ℕ) → first_with period i ≤ i
first_with_low period i = first_with_is (λ j. j ≤ i) period i (omega arith) (λ j l _. omega arith)

pub first_with_same : (period : ℕ → ℕ) (i : ℕ) → period (first_with period i) ≡ period i
first_with_same period i = first_with_is (λ j. period j ≡ period i) period i refl (λ j _ e. e)

-- and none before it has it
first_with_least : (period : ℕ → ℕ) (i j : ℕ) → j ≤ i → period j ≡ period i → first_with period i ≤ j
unfolding first_with if
first_with_least period i j le e =
    ⊎_elim
    (λ (u : i ≤ j). omega (arith, first_with_low period i))
    (λ (u : j < i). rw (eq-eqb (period j) (period i) e) at (smallest_le (λ k. if (eqb (period k) (period i)) k i) i j u))
    (le_or_lt i j)

-- found where none before has the period: at the one that has it, or else at this one itself
pub first_with_at : (period : ℕ → ℕ) (i j : ℕ) → j ≤ i → ((k : ℕ) → k < j → period k ≡ period i → ⊥) → period j ≡ period i → first_with period i ≡ j
first_with_at period i j le none e =
    le_antisymm (first_with_least period i j le e) (first_with_is (λ k. j ≤ k) period i le (λ k _ same. ⊎_elim (λ (u : j ≤ k). u) (λ (u : k < j). absurd (none k u same)) (le_or_lt j k)))

pub groups_add_up : GroupsAddUp
unfolding group_to
groups_add_up budget period quotient n =
    sum_placed (first_with period) budget (λ j. quotient (period j)) n n (λ i l. omega (arith, first_with_low period i))
    ∙ sum_agree
    (λ i. budget i * quotient (period (first_with period i))) (λ i. budget i * quotient (period i)) n
    (λ i _. ap (λ p. budget i * quotient p) (first_with_same period i))

-- where no group stands, its budgets are 0 and so is their share
pub group_share : (t : Table) (j : ℕ) → group_share_at t j ≡ group_at t j * quotient_at t j
group_share t j =
    by_if (λ x. x ≡ group_at t j * quotient_at t j) (eqb (group_at t j) 0) 0 (group_at t j * quotient_at t j)
    (λ e. omega (arith, ap (λ g. g * quotient_at t j) (eqb-true (group_at t j) 0 e))) (λ _. refl)

-- the shares by groups are the shares
pub grouped_shares_lem : (t : Table) → grouped_shares t ≡ shares_of t
unfolding grouped_shares shares_of share_of
grouped_shares_lem t =
    sum_agree (group_share_at t) (λ j. group_at t j * quotient_at t j) t.count (λ j _. group_share t j)
    ∙ groups_add_up (granted_at t) (period_at t) (λ p. t.span / p) t.count

pub load_by_groups : LoadByGroups
unfolding grouped_load load_of
load_by_groups t = ap (λ n. n + t.worst * (t.span / smallest_period t)) (grouped_shares_lem t)

-- streams with one period are of one group
one_group : (period : ℕ → ℕ) (i j : ℕ) → period i ≡ period j → first_with period i ≡ first_with period j
one_group period i j e =
    ⊎_elim (λ (u : i ≤ j). up i j u e) (λ (u : j < i). sym (up j i (omega arith) (sym e))) (le_or_lt i j)
  where
    up : (i j : ℕ) → i ≤ j → period i ≡ period j → first_with period i ≡ first_with period j
    up i j le e =
        let low = first_with_low period i in
        let back = first_with_least period j (first_with period i) (omega arith) (first_with_same period i ∙ e) in
        le_antisymm (first_with_least period i (first_with period j) (omega arith) (first_with_same period j ∙ sym e)) back

-- a place at which no stream's group stands
group_none : (budget period : ℕ → ℕ) (n j : ℕ) → ((i : ℕ) → i < n → first_with period i ≡ j → ⊥) → group_to budget period n j ≡ 0
unfolding group_to if
group_none budget period n j none =
    sum_none (λ i. if (eqb (first_with period i) j) (budget i) 0) n (λ i l. rw (ne_eqb (first_with period i) j (none i l)))

pub one_group_for_each_period : OneGroupForEachPeriod
one_group_for_each_period budget period n i j = (
  one_group period i j,
  (λ e. sym (first_with_same period i) ∙ ap period e ∙ first_with_same period j),
  (λ none. group_none budget period n j (λ i _ e. none (one_group period j i (sym (ap period e) ∙ first_with_same period i) ∙ e))),
)

-- the smallest of the periods has the largest quotient
pub smallest_most : (span : ℕ) (period : ℕ → ℕ) (n : ℕ) → 1 ≤ n → ((i : ℕ) → i < n → 1 ≤ period i)
    → largest_to (λ i. span / period i) n ≡ span / smallest_to period n
smallest_most span period n some pos =
    le_antisymm
    (largest_high (span / smallest_to period n) (λ i. span / period i) n (λ i l. fewer (smallest_to period n) (period i) (smallest_is (λ p. 1 ≤ p) period n some pos) (smallest_le period n i l)))
    (smallest_is (λ p. span / p ≤ largest_to (λ i. span / period i) n) period n some (largest_le (λ i. span / period i) n))
  where
    fewer : (a b : ℕ) → 1 ≤ a → a ≤ b → span / b ≤ span / a
    fewer a b low le = (le-div_iff_mul-le low).1 (le_trans (mul-le-mul_left (span / b) le) (div-mul-le_self span b))

-- no group is more than so many budgets
pub group_high : (most : ℕ) (budget period : ℕ → ℕ) (n j : ℕ) → ((i : ℕ) → i < n → budget i ≤ most) → group_to budget period n j ≤ n * most
unfolding group_to
group_high most budget period n j high =
    sum_high most (λ i. if (eqb (first_with period i) j) (budget i) 0) n
    (λ i l. by_if (λ x. x ≤ most) (eqb (first_with period i) j) (budget i) 0 (λ _. high i l) (λ _. omega arith))

-- where a group stands, its first budget is in it; past the last stream none stands
pub group_own : (budget period : ℕ → ℕ) (n i : ℕ) → i < n → first_with period i ≡ i → budget i ≤ group_to budget period n i
unfolding group_to if
group_own budget period n i l e =
    rw (eq-eqb (first_with period i) i e) at (sum_term (λ j. if (eqb (first_with period j) i) (budget j) 0) n i l)

pub group_past : (budget period : ℕ → ℕ) (n j : ℕ) → n ≤ j → group_to budget period n j ≡ 0
group_past budget period n j le = group_none budget period n j (λ i l e. omega (arith, first_with_low period i))
