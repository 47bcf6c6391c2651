-- The refusals of a booking, one after the other: each way out of a function cites what is known there.
use mathlib.Core.Path.{◌≡◌, sym}
use Prim.Native.Nat.{ℕ, ◌≤◌, ◌<◌}
use native.Mathlib.Omega.{arith}
use borrow.Author.Tests.{not-false, le-leb, lt-leb, lt-ltb, le-ltb}
use Rattle.table.specs.Refusal.{given, ◌or_next◌}
use Rattle.table.specs.Ranges.{streams_max}
use Rattle.table.specs.Admission.{stream_refusal, parts_refusal, admission_of}
use Rattle.table.specs.Reservations.{table_of_records}
use Rattle.table.specs.declared.Table.{Table}
use Rattle.table.proofs.Tests.{given_none, or_next_none, or_next_first}
use Rattle.table.proofs.Margins.{refusal_some as table_some, past_parts}
use Rattle.booking.specs.Refusal.{refusal_number}
use Rattle.booking.specs.declared.refusal.Refusal.{Refusal}
use Rattle.booking.specs.declared.refusal.Refusal.TheVariants.{Table as OfTable, Limit, Stream, Desk, Unsound}
use Rattle.booking.specs.Book.{desk_of, with_desk, count_in, table_in, shares_in, is_sound}
use Rattle.booking.specs.Bookings.{with_stream, added, desk_refusal, add_refusal}
use Rattle.booking.specs.declared.Book.{Book}
use Rattle.booking.proofs.Sound.{Sound, sound_of}

-- the number of a refusal is never 0
pub refusal_some : (r : Refusal) → refusal_number r ≡ 0 → ⊥
refusal_some (OfTable r) e = table_some r e
refusal_some Limit e = omega arith
refusal_some Stream e = omega arith
refusal_some Desk e = omega arith
refusal_some Unsound e = omega arith

module _ (b : Book) (desk : ℕ) where
  -- past 31 and 30
  pub past_desk : desk_refusal b desk ≡ 0 → Sound b
  unfolding desk_refusal
  past_desk none = sound_of b (not-false (is_sound b) (given_none _ 30 (or_next_none _ _ none).0))

  module _ (e p : ℕ) where
    pub add_at_desk : (n : ℕ) → n ≡ desk_refusal b desk → (n ≡ 0 → ⊥) → n ≡ add_refusal b desk e p
    unfolding add_refusal
    add_at_desk n is some = rw (← is) (sym (or_next_first n _ some))

    module _ (none : desk_refusal b desk ≡ 0) where
      pub add_at_full : streams_max ≤ count_in b → 1 ≡ add_refusal b desk e p
      unfolding add_refusal ◌or_next◌ given
      add_at_full full = rw (none, le-leb streams_max (count_in b) full)

      module _ (space : count_in b < streams_max) where
        pub add_at_stream : (n : ℕ) → n ≡ stream_refusal b.worst b.span b.padding e p → (n ≡ 0 → ⊥) → n ≡ add_refusal b desk e p
        unfolding add_refusal ◌or_next◌ given
        add_at_stream n is some = rw (none, lt-leb streams_max (count_in b) space, ← is) (sym (or_next_first n _ some))

        module _ (fits : stream_refusal b.worst b.span b.padding e p ≡ 0) where
          abbrev own_limit : ℕ
          own_limit = (with_stream (desk_of b desk) e p).limit

          abbrev own_shares : ℕ
          own_shares = shares_in b (with_stream (desk_of b desk) e p)

          pub add_at_limit : own_limit < own_shares → 18 ≡ add_refusal b desk e p
          unfolding add_refusal ◌or_next◌ given
          add_at_limit past = rw (none, lt-leb streams_max (count_in b) space, fits, lt-ltb own_limit own_shares past)

          -- past the limit, the table of all streams is refused as it is when it is opened
          module _ (kept : own_shares ≤ own_limit) where
            abbrev all : Table
            all = table_in (added b desk e p)

            pub add_at_admission : parts_refusal all ≡ 0 → admission_of all ≡ add_refusal b desk e p
            unfolding add_refusal ◌or_next◌ given with_desk table_of_records
            add_at_admission parts = rw (past_parts all parts, none, lt-leb streams_max (count_in b) space, fits, le-ltb own_limit own_shares kept)
