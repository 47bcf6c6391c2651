-- Paddings, and tables with one and another: 0 stands for 3 and any other k for itself, and with a larger padding admission is stricter, by 7 or by 6.
use mathlib.Core.Bool.{Bool, true, false, not, ◌||◌, false≢true}
use mathlib.Core.Logic.{◌⊎◌, inl, inr}
use mathlib.Core.Path.{◌≡◌, refl, sym, ap}
use Prim.Native.Nat.{ℕ, ◌+◌, ◌*◌, ◌/◌, ◌%◌, ◌≤◌, ◌<◌}
use native.Mathlib.Nat.{mul-le-mul_right, le_trans}
use native.Mathlib.Omega.{arith}
use lib.Dec.{ltb, eqb}
use borrow.Author.Tests.{le-ltb, ne_eqb}
use Rattle.table.specs.Ranges.{padding_default, period_min, period_max}
use Rattle.table.specs.Fold.{if}
use Rattle.table.specs.Refusal.{given, ◌or_next◌, outside}
use Rattle.table.specs.Admission.{reserved_at, period_at, with_padding, padding_of, granted_of, share_of, share_at, shares_of, smallest_period, load_of, numbers_refusal, stream_refusal, stream_refusal_at, streams_refusal, admission_of}
use Rattle.table.specs.Laws.{GrantedAsTold, ZeroStandsForThree, ZeroIsStricter}
use Rattle.table.specs.declared.Table.{Table}
use Rattle.table.proofs.Tests.{or_next_none}
use Rattle.table.proofs.Judged.{admits_of}
use Rattle.table.proofs.Folds.{sum_le, first_none, first_all, first_is}

pub granted_as_told : GrantedAsTold
unfolding granted_of padding_of if
granted_as_told = (λ worst e. refl, λ worst k e told. ap (λ (b : Bool). e + if b padding_default k * worst) (ne_eqb k 0 told))

pub zero_stands_for_three : ZeroStandsForThree
unfolding admission_of numbers_refusal streams_refusal stream_refusal load_of shares_of share_of smallest_period granted_of padding_of if
zero_stands_for_three t = refl

-- 6 is judged behind 5, by e and the budget: where neither refuses, another budget is refused by nothing where it fits the period, and by 6 or nothing whatever it is
other_budget : (five nothing above other : Bool) → given five 5 or_next given (nothing || above) 6 ≡ 0
    → let again = given five 5 or_next given (nothing || other) 6 in
    (other ≡ false → again ≡ 0) × ((again ≡ 0) ⊎ (again ≡ 6))
unfolding given ◌or_next◌
other_budget true nothing above other h = absurd (let z : 5 ≡ 0 = h in omega arith)
other_budget false true above other h = absurd (let z : 6 ≡ 0 = h in omega arith)
other_budget false false above true h = (λ e. absurd (false≢true (sym e)), inr refl)
other_budget false false above false h = (λ e. refl, inl refl)

-- a stream that is not refused, with another padding
stream_again : (worst span k j e p : ℕ) → stream_refusal worst span k e p ≡ 0
    → let again = stream_refusal worst span j e p in
    (granted_of worst j e ≤ p → again ≡ 0) × ((again ≡ 0) ⊎ (again ≡ 6))
unfolding stream_refusal
stream_again worst span k j e p h =
    let both = other_budget (outside period_min period_max p || not (eqb (span % p) 0)) (eqb e 0) (ltb p (granted_of worst k e)) (ltb p (granted_of worst j e)) h in
    (λ fits. both.0 (le-ltb p (granted_of worst j e) fits), both.1)

granted_le : (worst j k e : ℕ) → padding_of j ≤ padding_of k → granted_of worst j e ≤ granted_of worst k e
unfolding granted_of
granted_le worst j k e le = omega (arith, mul-le-mul_right worst le)

-- with a padding that stands for no more, the load is no more
load_le : (t : Table) (j k : ℕ) → padding_of j ≤ padding_of k → load_of (with_padding t j) ≤ load_of (with_padding t k)
unfolding load_of shares_of smallest_period share_of
load_le t j k le =
    omega (
      arith,
      sum_le (share_at (with_padding t j)) (share_at (with_padding t k)) t.count
          (λ i l. mul-le-mul_right (t.span / period_at t i) (granted_le t.worst j k (reserved_at t i) le)),
    )

-- a table that is admitted with k, with j in its place: no number refuses it with k, and each stream is refused by nothing where its budget fits, and by 6 otherwise
record Again (t : Table) (j k : ℕ) : Type 0 where
  numbers : numbers_refusal (with_padding t k) ≡ 0
  each : (i : ℕ) → i < t.count → let again = stream_refusal_at (with_padding t j) i in
      (granted_of t.worst j (reserved_at t i) ≤ period_at t i → again ≡ 0) × ((again ≡ 0) ⊎ (again ≡ 6))

again : (t : Table) (j k : ℕ) → admission_of (with_padding t k) ≡ 0 → Again t j k
unfolding admission_of streams_refusal
again t j k h =
    let parts = or_next_none _ _ h in
    let streams = first_none (stream_refusal_at (with_padding t k)) t.count (or_next_none _ _ parts.1).0 in
    record { numbers = parts.0; each = λ i l. stream_again t.worst t.span k j (reserved_at t i) (period_at t i) (streams i l) }

-- so it still is with a padding that stands for no more
module _ (t : Table) (j k : ℕ) (same : numbers_refusal (with_padding t j) ≡ numbers_refusal (with_padding t k)) (h : admission_of (with_padding t k) ≡ 0) where
  admitted_less : padding_of j ≤ padding_of k → admission_of (with_padding t j) ≡ 0
  unfolding admission_of streams_refusal ◌or_next◌ given
  admitted_less le =
      let admitted = admits_of (with_padding t k) h in
      let fits : (i : ℕ) → i < t.count → granted_of t.worst j (reserved_at t i) ≤ period_at t i
      = λ i l. le_trans (granted_le t.worst j k (reserved_at t i) le) (admitted.each i l).budget in
      rw (
        same,
        (again t j k h).numbers,
        first_all (stream_refusal_at (with_padding t j)) t.count (λ i l. ((again t j k h).each i l).0 (fits i l)),
        le-ltb t.span (load_of (with_padding t j)) (le_trans (load_le t j k le) admitted.fits),
      )

  -- and with any other it is refused by nothing, by 7 or by 6
  admitted_or : let n = admission_of (with_padding t j) in (n ≡ 0) ⊎ (n ≡ 7) ⊎ (n ≡ 6)
  unfolding admission_of streams_refusal ◌or_next◌ given
  admitted_or =
      let streams = first_is (λ n. (n ≡ 0) ⊎ (n ≡ 6)) (inl refl) (stream_refusal_at (with_padding t j)) t.count (λ i l. ((again t j k h).each i l).1) in
      rw (same, (again t j k h).numbers) (go (streams_refusal (with_padding t j)) (ltb t.span (load_of (with_padding t j))) streams)
    where
      go : (n : ℕ) (over : Bool) → (n ≡ 0) ⊎ (n ≡ 6) → let first = n or_next given over 7 in (first ≡ 0) ⊎ (first ≡ 7) ⊎ (first ≡ 6)
      go n true (inl e) = rw e (inr (inl refl))
      go n false (inl e) = rw e (inl refl)
      go n over (inr e) = rw e (inr (inr refl))

pub zero_is_stricter : ZeroIsStricter
unfolding numbers_refusal padding_of if
zero_is_stricter t = (λ h. admitted_less t 1 0 refl h (omega arith), admitted_or t 0 1 refl)
