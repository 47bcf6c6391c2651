-- The notes of a finished table are composed to its session file (`table_composes`): its numbers have 32 bits.
use mathlib.Core.Bool.{true}
use mathlib.Core.List.{List, [], ◌++◌}
use mathlib.Core.Path.{◌≡◌, ap, ◌∙◌, subst⁻¹}
use mathlib.Core.Logic.{⊎_elim}
use Prim.Native.Nat.{ℕ, ◌^◌, ◌≤◌, ◌<◌}
use native.Mathlib.Omega.{arith}
use lib.ListN.{length, drop, get_or, get_or-eq_default}
use borrow.Author.Tests.{ltb-false}
use Rattle.std.specs.Prelude.{None, Ok}
use Rattle.table.specs.Fold.{if, list_to}
use Rattle.table.specs.Ranges.{streams_max, worst_min, worst_max, span_min, span_max, padding_max, period_max}
use Rattle.table.specs.Admission.{granted_of}
use Rattle.table.specs.Reservations.{no_record, record_at, records_of, table_of_records}
use Rattle.table.specs.declared.reservations.Reservation.{Reservation}
use Rattle.table.proofs.Tests.{within, given_none, or_next_none, le_or_lt}
use Rattle.table.proofs.Lists.{length_list_to, get_d_list_to}
use Rattle.table.proofs.Judged.{stream_of}
use Rattle.order.specs.declared.Order.TheVariants.{Nearest}
use Rattle.file.specs.File.{file_of}
use Rattle.file.specs.Laws.{Words}
use Rattle.file.specs.declared.form.Form.TheVariants.{Two}
use Rattle.notes.specs.Line.{notes_of}
use Rattle.notes.specs.Notes.{started, read, bytes_read, filed, written_by}
use Rattle.notes.specs.Laws.{composed_of}
use Rattle.notes.proofs.RoundTrip.{table_composes}
use Rattle.booking.specs.Book.{streams_in, count_in, table_in, is_sound}
use Rattle.booking.specs.Bookings.{finished_of, finished_table}
use Rattle.booking.specs.declared.Book.{Book}
use Rattle.booking.proofs.Sound.{Sound, sound_of, streams_long, sound_ranges, sound_fits}
use Rattle.booking.proofs.Ends.{finished_is_admitted}
use Rattle.ledger.specs.Ledger.{finished_notes}
use Rattle.ledger.specs.Laws.{FinishedIsComposed}

module _ (b : Book) (ok : is_sound b ≡ true) where
  finished_is : (finished_of b).number ≡ 0
  unfolding finished_of if
  finished_is = rw ok

  printed_is : finished_notes b ≡ notes_of Two Nearest (finished_table b) []
  unfolding finished_notes if
  printed_is = rw finished_is

  count_is : (finished_table b).count ≡ count_in b
  unfolding finished_of records_of table_of_records if
  count_is = let s = sound_of b ok in rw ok (streams_long b s.first s.second)

-- W, H and k are in their ranges, and so is each period, and a reserved time is at most its period
module _ (b : Book) (s : Sound b) where
  abbrev all : List Reservation
  all = streams_in b

  record_fits : (i : ℕ) → ((record_at all i).reserved ≤ period_max) × ((record_at all i).period ≤ period_max)
  unfolding granted_of
  record_fits i =
      ⊎_elim
      (λ (past : length all ≤ i). rw (get_or-eq_default all no_record past) (omega arith, omega arith))
      (λ (l : i < length all). let q = stream_of _ _ _ _ _ (sound_fits b s i l) in (omega (arith, q.budget, q.period_high), q.period_high))
      (le_or_lt (length all) i)

  -- a cell of the table is one of a record, or 0 past the eighth
  cell_fits : (f : Reservation → ℕ) → ((i : ℕ) → f (record_at all i) ≤ period_max) → (i : ℕ) → get_or (list_to (λ j. f (record_at all j)) streams_max) i 0 < 2 ^ 32
  cell_fits f high i =
      ⊎_elim
      (λ (past : streams_max ≤ i). rw (get_or-eq_default (list_to (λ j. f (record_at all j)) streams_max) 0 {n = i} (omega (arith, length_list_to (λ j. f (record_at all j)) streams_max))) (omega arith))
      (λ (l : i < streams_max). rw (get_d_list_to (λ j. f (record_at all j)) 0 streams_max i l) (omega (arith, high i)))
      (le_or_lt streams_max i)

  table_words : Words (table_in b)
  unfolding table_of_records
  table_words =
      let two = or_next_none _ _ (sound_ranges b s) in
      let three = or_next_none _ _ two.1 in
      record {
        worst_fits = omega (arith, within worst_min worst_max b.worst (given_none _ 1 two.0));
        span_fits = omega (arith, within span_min span_max b.span (given_none _ 2 three.0));
        padding_fits = omega (arith, ltb-false padding_max b.padding (given_none _ 3 three.1));
        reserved_fits = cell_fits (λ r. r.reserved) (λ i. (record_fits i).0);
        period_fits = cell_fits (λ r. r.period) (λ i. (record_fits i).1);
      }

pub finished_is_composed : FinishedIsComposed
finished_is_composed b buffer out ok fits =
    let words = subst⁻¹ Words (finished_is_admitted b ok).1 (table_words b (sound_of b ok)) in
    let t = finished_table b in
    let file = file_of Two Nearest t [] in
    let few : t.count ≤ streams_max = rw (count_is b ok) (sound_of b ok).count_high in
    ap (λ (notes : List ℕ). composed_of (bytes_read (read started buffer) notes) out) (printed_is b ok)
    ∙ table_composes t buffer out words few fits
    ∙ ap (λ (streams : ℕ). filed (Ok (written_by streams None (length file))) (file ++ drop (length file) out)) (count_is b ok)
