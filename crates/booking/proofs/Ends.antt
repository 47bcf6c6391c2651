-- A table that is begun is sound, and a sound one that is finished is admitted.
use mathlib.Core.Bool.{true}
use mathlib.Core.Path.{◌≡◌, refl, ◌∙◌, ap}
use Prim.Native.Nat.{ℕ}
use native.Mathlib.Omega.{arith}
use lib.ListN.{length}
use borrow.Author.Tests.{eq-eqb, ne_eqb}
use Rattle.table.specs.Fold.{if, sum_to, all_to}
use Rattle.table.specs.Refusal.{given, ◌or_next◌, outside}
use Rattle.table.specs.Ranges.{streams_max}
use Rattle.table.specs.Admission.{shares_of, ranges_refusal, admission_of}
use Rattle.table.specs.Reservations.{table_of_records}
use Rattle.table.proofs.LentTables.{taken_table, length_refused}
use Rattle.booking.specs.Book.{streams_in, table_in, empty_cell, sound_cells, table_refusal, is_sound, keeps_limit}
use Rattle.booking.specs.Bookings.{empty_book, begun_of, finished_of, finished_table}
use Rattle.booking.specs.Laws.{BegunIsSound, FinishedIsAdmitted}
use Rattle.booking.proofs.Sound.{Sound, sound_of, sound_is, all_long, sound_admits}

-- a table that has booked nothing is sound where W, H and k are in their ranges
empty_sound : (worst span k limit1 limit2 : ℕ) → ranges_refusal worst span k ≡ 0 → Sound (empty_book worst span k limit1 limit2)
unfolding sound_cells empty_cell all_to table_refusal if shares_of table_of_records sum_to
empty_sound worst span k limit1 limit2 none =
    record { first = refl; second = refl; count_high = omega arith; refusal = none; first_limit = omega arith; second_limit = omega arith; unused = refl }

pub begun_is_sound : BegunIsSound
unfolding begun_of if is_sound sound_cells empty_cell all_to table_refusal keeps_limit given ◌or_next◌ outside
begun_is_sound worst span k limit1 limit2 = (
  λ none. rw (eq-eqb (ranges_refusal worst span k) 0 none) (sound_is (empty_book worst span k limit1 limit2) (empty_sound worst span k limit1 limit2 none), refl),
  λ some. rw (ne_eqb (ranges_refusal worst span k) 0 some),
  refl,
)

-- no stream is not 1 to 8
no_stream : (n : ℕ) → n ≡ 0 → outside 1 streams_max n ≡ true
unfolding outside
no_stream n none = rw none

pub finished_is_admitted : FinishedIsAdmitted
unfolding finished_of if
finished_is_admitted b h =
    let s = sound_of b h in
    let same : finished_table b ≡ table_in b = rw h (taken_table b.worst b.span b.padding (streams_in b)) in (
      rw h,
      same,
      λ some. ap admission_of same ∙ sound_admits b s some,
      λ none. ap admission_of same ∙ length_refused b.worst b.span b.padding (streams_in b) (no_stream (length (streams_in b)) (all_long b s ∙ none)),
    )
