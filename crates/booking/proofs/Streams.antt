-- Streams as a lent table: what its cells are, what is judged of it where each stream is in order, and its sums.
use mathlib.Core.List.{List, [], ◌∷◌, ◌++◌}
use mathlib.Core.Path.{◌≡◌, refl}
use Prim.Native.Nat.{ℕ, ◌≤◌, ◌<◌}
use native.Mathlib.Omega.{arith}
use lib.ListN.{length}
use borrow.Author.Tests.{le-ltb}
use Rattle.table.specs.Fold.{sum_to}
use Rattle.table.specs.Refusal.{given, ◌or_next◌, outside}
use Rattle.table.specs.Ranges.{streams_max}
use Rattle.table.specs.Admission.{reserved_at, period_at, share_of, share_at, shares_of, load_of, ranges_refusal, numbers_refusal, stream_refusal, stream_refusal_at, streams_refusal, parts_refusal, judged_shares, judged_load}
use Rattle.table.specs.Reservations.{no_record, record_at, table_of_records, lent_table}
use Rattle.table.specs.declared.Table.{Table}
use Rattle.table.specs.declared.reservations.Reservation.{Reservation}
use Rattle.table.proofs.Tests.{by_if}
use Rattle.table.proofs.Folds.{first_none, first_all, sum_agree}
use Rattle.table.proofs.Lists.{get_d_list_to}
use Rattle.table.proofs.Elements.{total, each_append, each_left, each_right}
use Rattle.table.proofs.Judged.{judged_load_lem, judged_shares_lem}

-- each stream is in order
abbrev pub EachFits : ℕ → ℕ → ℕ → List Reservation → Type 0
EachFits worst span k xs =
    (i : ℕ) → i < length xs → stream_refusal worst span k (record_at xs i).reserved (record_at xs i).period ≡ 0

-- the sum of the shares of streams
abbrev pub shares : ℕ → ℕ → ℕ → List Reservation → ℕ
shares worst span k = total no_record (λ r. share_of worst span k r.reserved r.period)

module _ (worst span k : ℕ) where
  -- each of two lists is exactly where each of both is
  pub fits_append : (xs ys : List Reservation) → EachFits worst span k xs → EachFits worst span k ys → EachFits worst span k (xs ++ ys)
  fits_append = each_append no_record (λ r. stream_refusal worst span k r.reserved r.period ≡ 0)

  pub fits_left : (xs ys : List Reservation) → EachFits worst span k (xs ++ ys) → EachFits worst span k xs
  fits_left = each_left no_record (λ r. stream_refusal worst span k r.reserved r.period ≡ 0)

  pub fits_right : (xs ys : List Reservation) → EachFits worst span k (xs ++ ys) → EachFits worst span k ys
  fits_right = each_right no_record (λ r. stream_refusal worst span k r.reserved r.period ≡ 0)

module _ (worst span k : ℕ) (xs : List Reservation) where
  abbrev table : Table
  table = lent_table worst span k xs

  -- the cells of the table are those of the records
  pub reserved_at_lem : (i : ℕ) → i < streams_max → reserved_at table i ≡ (record_at xs i).reserved
  unfolding table_of_records
  reserved_at_lem i l = get_d_list_to (λ j. (record_at xs j).reserved) 0 streams_max i l

  pub period_at_lem : (i : ℕ) → i < streams_max → period_at table i ≡ (record_at xs i).period
  unfolding table_of_records
  period_at_lem i l = get_d_list_to (λ j. (record_at xs j).period) 0 streams_max i l

  module _ (few : length xs ≤ streams_max) where
    -- no stream of it is refused exactly where each is in order
    pub streams_none : EachFits worst span k xs → streams_refusal table ≡ 0
    unfolding streams_refusal table_of_records
    streams_none fits =
        first_all (stream_refusal_at table) (length xs)
        (λ i l. rw (reserved_at_lem i (omega arith), period_at_lem i (omega arith)) (fits i l))

    pub streams_each : streams_refusal table ≡ 0 → EachFits worst span k xs
    unfolding streams_refusal table_of_records
    streams_each none i l =
        rw (reserved_at_lem i (omega arith), period_at_lem i (omega arith)) at (first_none (stream_refusal_at table) (length xs) none i l)

    -- its shares are those of its records
    pub shares_are : shares_of table ≡ shares worst span k xs
    unfolding shares_of table_of_records
    shares_are =
        sum_agree (share_at table) (λ i. share_of worst span k (record_at xs i).reserved (record_at xs i).period) (length xs)
        (λ i l. rw (reserved_at_lem i (omega arith), period_at_lem i (omega arith)))

  -- with a stream at least, where W, H and k are in their ranges and each stream is in order, nothing is refused by 1 to 6
  module _ (ranges : ranges_refusal worst span k ≡ 0) where
    numbers_pass : 1 ≤ length xs → length xs ≤ streams_max → numbers_refusal table ≡ 0
    unfolding numbers_refusal table_of_records outside given ◌or_next◌
    numbers_pass some few = rw (le-ltb (length xs) 1 some, le-ltb streams_max (length xs) few) ranges

    pub parts_fit : 1 ≤ length xs → length xs ≤ streams_max → EachFits worst span k xs → parts_refusal table ≡ 0
    unfolding parts_refusal ◌or_next◌
    parts_fit some few fits = rw (numbers_pass some few, streams_none few fits)

    -- so that its load is judged
    pub load_judged : 1 ≤ length xs → length xs ≤ streams_max → EachFits worst span k xs → judged_load table ≡ load_of table
    load_judged some few fits = judged_load_lem table (numbers_pass some few) (streams_none few fits)

-- and its shares, which are 0 where there is no stream
pub shares_judged : (worst span k : ℕ) (xs : List Reservation) → ranges_refusal worst span k ≡ 0 → length xs ≤ streams_max → EachFits worst span k xs
    → judged_shares (lent_table worst span k xs) ≡ shares_of (lent_table worst span k xs)
unfolding judged_shares shares_of table_of_records sum_to
shares_judged worst span k [] ranges few fits = by_if (λ (n : ℕ). n ≡ 0) _ 0 0 (λ _. refl) (λ _. refl)
shares_judged worst span k (x ∷ xs) ranges few fits = judged_shares_lem _ (parts_fit worst span k (x ∷ xs) ranges (omega arith) few fits)
