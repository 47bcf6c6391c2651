-- The load of streams: their shares, and W for each of the smallest period; with fewer streams it is not larger.
use mathlib.Core.List.{List}
use mathlib.Core.Path.{◌≡◌, ap₂}
use Prim.Native.Nat.{ℕ, ◌+◌, ◌*◌, ◌/◌, ◌≤◌}
use native.Mathlib.Nat.{mul-le-mul, le_refl, le_trans, div-mul-le_self, le-div_iff_mul-le}
use native.Mathlib.Omega.{arith}
use lib.ListN.{length}
use Rattle.table.specs.Fold.{smallest_to}
use Rattle.table.specs.Ranges.{streams_max}
use Rattle.table.specs.Admission.{period_at, smallest_period, load_of}
use Rattle.table.specs.Reservations.{no_record, record_at, table_of_records, lent_table}
use Rattle.table.specs.declared.reservations.Reservation.{Reservation}
use Rattle.table.proofs.Folds.{smallest_is, smallest_agree}
use Rattle.table.proofs.Elements.{Each}
use Rattle.table.proofs.Judged.{stream_of}
use Rattle.booking.proofs.Streams.{EachFits, shares, shares_are, period_at_lem}

-- the smallest period of streams
abbrev pub smallest : List Reservation → ℕ
smallest xs = smallest_to (λ i. (record_at xs i).period) (length xs)

-- a smaller divisor makes no smaller quotient
pub quotient_falls : (n p q : ℕ) → 1 ≤ p → p ≤ q → n / q ≤ n / p
quotient_falls n p q low le = (le-div_iff_mul-le low).1 (le_trans (mul-le-mul (le_refl (n / q)) le) (div-mul-le_self n q))

module _ (worst span k : ℕ) where
  module _ (xs : List Reservation) (some : 1 ≤ length xs) (few : length xs ≤ streams_max) where
    pub smallest_are : smallest_period (lent_table worst span k xs) ≡ smallest xs
    unfolding smallest_period table_of_records
    smallest_are =
        smallest_agree (period_at (lent_table worst span k xs)) (λ i. (record_at xs i).period) (length xs) some
        (λ i l. period_at_lem worst span k xs i (omega arith))

    pub load_are : load_of (lent_table worst span k xs) ≡ shares worst span k xs + worst * (span / smallest xs)
    unfolding load_of table_of_records
    load_are = ap₂ (λ (n p : ℕ). n + worst * (span / p)) (shares_are worst span k xs few) smallest_are

    -- a period is not 0
    pub smallest_low : EachFits worst span k xs → 1 ≤ smallest xs
    smallest_low fits =
        smallest_is (λ p. 1 ≤ p) (λ i. (record_at xs i).period) (length xs) some
        (λ i l. omega (arith, (stream_of worst span k (record_at xs i).reserved (record_at xs i).period (fits i l)).period_low))

  -- fewer streams: their shares are at most as many, and none has a period below the smallest
  pub load_falls : (xs ys : List Reservation) → length xs ≤ streams_max → 1 ≤ length ys → length ys ≤ length xs → EachFits worst span k xs
      → shares worst span k ys ≤ shares worst span k xs → Each no_record (λ r. smallest xs ≤ r.period) ys
      → load_of (lent_table worst span k ys) ≤ load_of (lent_table worst span k xs)
  load_falls xs ys few some fewer fits fall least =
      let all : 1 ≤ length xs = omega arith in
      let later : smallest xs ≤ smallest ys = smallest_is (λ p. smallest xs ≤ p) (λ i. (record_at ys i).period) (length ys) some least in
      let term : worst * (span / smallest ys) ≤ worst * (span / smallest xs) =
      mul-le-mul (le_refl worst) (quotient_falls span (smallest xs) (smallest ys) (smallest_low xs all few fits) later) in
      omega (arith, load_are xs all few, load_are ys some (omega arith))
