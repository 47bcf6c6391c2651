-- A stream less: what an accepted withdrawal is known to have passed, and that the table is sound without it.
use mathlib.Core.Bool.{true}
use mathlib.Core.List.{List}
use mathlib.Core.Path.{◌≡◌, sym, subst}
use Prim.Native.Nat.{ℕ, suc, ◌-◌, ◌≤◌, ◌<◌}
use native.Mathlib.Nat.{le_trans}
use native.Mathlib.Omega.{arith}
use lib.ListN.{length}
use Rattle.table.specs.Fold.{leaving}
use Rattle.table.specs.Ranges.{streams_max}
use Rattle.table.specs.Admission.{share_of, load_of}
use Rattle.table.specs.Reservations.{no_record, record_at, table_of_records}
use Rattle.table.specs.declared.reservations.Reservation.{Reservation}
use Rattle.table.proofs.Tests.{given_none, or_next_none, within}
use Rattle.table.proofs.Folds.{smallest_le}
use Rattle.table.proofs.Elements.{Each, each_leaving, total, total_leaving}
use Rattle.table.proofs.Judged.{admits_of}
use Rattle.booking.specs.Book.{desk_of, with_desk, streams_of, streams_in, count_in, table_in, shares_in, sound_cells}
use Rattle.booking.specs.Bookings.{without_stream, withdrawn, desk_refusal, withdraw_refusal}
use Rattle.booking.specs.declared.Desk.{Desk}
use Rattle.booking.specs.declared.Book.{Book}
use Rattle.booking.proofs.Streams.{shares_are}
use Rattle.booking.proofs.Cells.{cells_of, fewer_streams, fewer_sound}
use Rattle.booking.proofs.Desks.{desk_each, with_count, with_total, with_each}
use Rattle.booking.proofs.Loads.{smallest, load_falls}
use Rattle.booking.proofs.Sound.{Sound, Fits, refuses_none, all_long, sound_ranges, sound_fits, sound_admits, desk_sound, desk_limit, with_sound, with_long}
use Rattle.booking.proofs.Adding.{BookedAt, booked_at}

module _ (b : Book) (desk number : ℕ) where
  -- what is not refused by 31, 30 or 19
  pub record Dropped : Type 0 where
    pub at_desk : BookedAt b desk
    pub low : 1 ≤ number
    pub high : number ≤ (desk_of b desk).count

  pub dropped_of : withdraw_refusal b desk number ≡ 0 → Dropped
  unfolding withdraw_refusal
  dropped_of h =
      let a = or_next_none (desk_refusal b desk) _ h in
      let range = within 1 (desk_of b desk).count number (given_none _ 18 a.1) in
      record { at_desk = booked_at b desk a.0; low = range.0; high = range.1 }

  module _ (t : Dropped) where
    abbrev before : Desk
    before = desk_of b desk

    abbrev own : Desk
    own = without_stream before number

    abbrev all : List Reservation
    all = streams_in b

    abbrev left : List Reservation
    left = streams_in (withdrawn b desk number)

    s : Sound b
    s = t.at_desk.sound

    cells : sound_cells before ≡ true
    cells = desk_sound b s desk

    own_sound : sound_cells own ≡ true
    own_sound = fewer_sound before cells number t.low t.high

    own_streams : streams_of own ≡ leaving (number - 1) (streams_of before)
    own_streams = fewer_streams before cells number t.low t.high

    there : number - 1 < length (streams_of before)
    there = omega (arith, (cells_of before cells).long, t.low, t.high)

    -- there is one less
    pub fewer_count : suc (count_in (withdrawn b desk number)) ≡ count_in b
    unfolding without_stream
    fewer_count = omega (arith, with_count b desk own, t.low, t.high)

    fewer_long : length left ≡ count_in (withdrawn b desk number)
    fewer_long = with_long b s desk own own_sound

    -- what each stream passes, each that is left passes
    fewer_each : (P : Reservation → Type 0) → Each no_record P all → Each no_record P left
    fewer_each P each =
        with_each b desk own P each
        (subst (Each no_record P) (sym own_streams) (each_leaving no_record P (number - 1) (streams_of before) there (desk_each b desk P each)))

    -- a sum falls by what one has
    own_total : (f : Reservation → ℕ) → total no_record f (streams_of own) ≤ total no_record f (streams_of before)
    own_total f =
        subst (λ xs. total no_record f xs ≤ total no_record f (streams_of before)) (sym own_streams)
        (omega (arith, total_leaving no_record f (number - 1) (streams_of before) there))

    fewer_total : (f : Reservation → ℕ) → total no_record f left ≤ total no_record f all
    fewer_total f = omega (arith, with_total b desk own f, own_total f)

    -- so the desk keeps its limit, and the load is at most the span
    own_limit : shares_in b own ≤ own.limit
    unfolding without_stream
    own_limit =
        let are = shares_are b.worst b.span b.padding in
        let fall = own_total (λ r. share_of b.worst b.span b.padding r.reserved r.period) in
        omega (
          arith,
          are (streams_of own) (omega (arith, cells_of own own_sound)),
          are (streams_of before) (omega (arith, cells_of before cells)),
          desk_limit b s desk,
          fall,
        )

    fewer_load : 1 ≤ count_in (withdrawn b desk number) → load_of (table_in (withdrawn b desk number)) ≤ b.span
    unfolding with_desk table_of_records
    fewer_load some =
        let count = fewer_count in
        let long = fewer_long in
        let total-long = all_long b s in
        le_trans
        (load_falls b.worst b.span b.padding all left (omega (arith, s.count_high)) (omega arith) (omega arith) (sound_fits b s)
        (fewer_total (λ r. share_of b.worst b.span b.padding r.reserved r.period))
        (fewer_each (λ r. smallest all ≤ r.period) (smallest_le (λ i. (record_at all i).period) (length all))))
        (admits_of (table_in b) (sound_admits b s (omega arith))).fits

    -- and the table is sound
    pub dropped_sound : Sound (withdrawn b desk number)
    unfolding with_desk
    dropped_sound =
        let few : count_in (withdrawn b desk number) ≤ streams_max = omega (arith, fewer_count, s.count_high) in
        with_sound b s desk own own_sound few
        (refuses_none (withdrawn b desk number) fewer_long few (sound_ranges b s) (fewer_each (Fits b) (sound_fits b s)) fewer_load)
        own_limit
