-- A sound table, test by test: what each test says, and that these facts make it sound; and what is known of one with a stream more.
use mathlib.Core.Bool.{true}
use mathlib.Core.List.{[], ◌∷◌, ◌++◌}
use mathlib.Core.Path.{◌≡◌, sym, ◌∙◌, subst}
use mathlib.Core.Logic.{⊎_elim}
use Prim.Native.Nat.{ℕ, suc, ◌≤◌, ◌<◌}
use native.Mathlib.Omega.{arith}
use lib.ListN.{length, length-append}
use borrow.Author.Tests.{leb-true, eqb-true, le-leb, eq-eqb, ne_eqb}
use Rattle.table.specs.Fold.{if}
use Rattle.table.specs.Ranges.{streams_max}
use Rattle.table.specs.Admission.{load_of, ranges_refusal, numbers_refusal, stream_refusal, streams_refusal, parts_refusal, admission_of, judged_shares}
use Rattle.table.specs.Reservations.{no_record, table_of_records}
use Rattle.table.specs.declared.reservations.Reservation.{Reservation}
use Rattle.table.proofs.Tests.{both, or_next_none, le_or_lt}
use Rattle.table.proofs.Elements.{Each, each_one, each_append}
use Rattle.table.proofs.Margins.{load_fits}
use Rattle.booking.specs.Book.{desk_of, with_desk, streams_of, streams_in, count_in, table_with, table_in, shares_in, keeps_limit, sound_cells, table_refusal, is_sound}
use Rattle.booking.specs.Bookings.{with_stream, added}
use Rattle.booking.specs.declared.Desk.{Desk}
use Rattle.booking.specs.declared.Book.{Book}
use Rattle.booking.proofs.Streams.{EachFits, streams_each, parts_fit, shares_judged, fits_left, fits_right}
use Rattle.booking.proofs.Cells.{cells_of, more_streams, more_sound}
use Rattle.booking.proofs.Desks.{desk_has, first_has, second_has, desk_count, desk_each, with_count, with_each}

pub record Sound (b : Book) : Type 0 where
  pub first : sound_cells b.first ≡ true
  pub second : sound_cells b.second ≡ true
  pub count_high : count_in b ≤ streams_max
  pub refusal : table_refusal b ≡ 0
  pub first_limit : shares_in b b.first ≤ b.first.limit
  pub second_limit : shares_in b b.second ≤ b.second.limit
  pub unused : b.unused ≡ 0

pub sound_of : (b : Book) → is_sound b ≡ true → Sound b
unfolding is_sound keeps_limit
sound_of b h =
    let unused = both _ _ h in
    let second_limit = both _ _ unused.0 in
    let first_limit = both _ _ second_limit.0 in
    let refusal = both _ _ first_limit.0 in
    let count = both _ _ refusal.0 in
    let cells = both _ _ count.0 in
    record {
      first = cells.0;
      second = cells.1;
      count_high = leb-true _ _ count.1;
      refusal = eqb-true _ _ refusal.1;
      first_limit = leb-true _ _ first_limit.1;
      second_limit = leb-true _ _ second_limit.1;
      unused = eqb-true _ _ unused.1;
    }

pub sound_is : (b : Book) → Sound b → is_sound b ≡ true
unfolding is_sound keeps_limit
sound_is b s =
    rw (
      s.first,
      s.second,
      le-leb (count_in b) streams_max s.count_high,
      eq-eqb (table_refusal b) 0 s.refusal,
      le-leb (shares_in b b.first) b.first.limit s.first_limit,
      le-leb (shares_in b b.second) b.second.limit s.second_limit,
      eq-eqb b.unused 0 s.unused,
    )

-- a stream is in order with the W, H and k of a table
abbrev pub Fits : Book → Reservation → Type 0
Fits b r = stream_refusal b.worst b.span b.padding r.reserved r.period ≡ 0

-- where the cells of both desks are sound, all streams are as many as both count
pub streams_long : (b : Book) → sound_cells b.first ≡ true → sound_cells b.second ≡ true → length (streams_in b) ≡ count_in b
streams_long b one two =
    omega (arith, length-append (streams_of b.first) (streams_of b.second), (cells_of b.first one).long, (cells_of b.second two).long)

-- nothing is refused of a table where W, H and k are in their ranges, each stream is in order, and the load is at most the span
pub refuses_none : (b : Book) → length (streams_in b) ≡ count_in b → count_in b ≤ streams_max → ranges_refusal b.worst b.span b.padding ≡ 0
    → EachFits b.worst b.span b.padding (streams_in b) → (1 ≤ count_in b → load_of (table_in b) ≤ b.span) → table_refusal b ≡ 0
unfolding table_refusal table_of_records if
refuses_none b long few ranges fits load =
    ⊎_elim
    (λ (some : 1 ≤ count_in b).
    rw (ne_eqb (count_in b) 0 (λ e. omega arith))
    (load_fits (table_in b) (parts_fit b.worst b.span b.padding (streams_in b) ranges (omega arith) (omega arith) fits) (load some)))
    (λ (none : count_in b < 1). rw (eq-eqb (count_in b) 0 (omega arith)) ranges)
    (le_or_lt 1 (count_in b))

-- before the limits are looked at
module _ (b : Book) (one : sound_cells b.first ≡ true) (two : sound_cells b.second ≡ true) (few : count_in b ≤ streams_max) (none : table_refusal b ≡ 0) where
  -- a table with a stream is admitted
  admitted : 1 ≤ count_in b → admission_of (table_in b) ≡ 0
  unfolding table_refusal if
  admitted some = rw (ne_eqb (count_in b) 0 (λ e. omega arith)) at none

  in_ranges : ranges_refusal b.worst b.span b.padding ≡ 0
  unfolding table_refusal admission_of numbers_refusal table_of_records if
  in_ranges =
      ⊎_elim
      (λ (some : 1 ≤ count_in b).
      let numbers = (or_next_none (numbers_refusal (table_in b)) _ (admitted some)).0 in
      (or_next_none _ (ranges_refusal b.worst b.span b.padding) numbers).1)
      (λ (empty : count_in b < 1). rw (eq-eqb (count_in b) 0 (omega arith)) at none)
      (le_or_lt 1 (count_in b))

  each_fits : EachFits b.worst b.span b.padding (streams_in b)
  unfolding admission_of
  each_fits i l =
      let long = streams_long b one two in
      let some : 1 ≤ count_in b = omega (arith, long) in
      let later = (or_next_none (numbers_refusal (table_in b)) _ (admitted some)).1 in
      streams_each b.worst b.span b.padding (streams_in b) (omega (arith, long, few))
      (or_next_none (streams_refusal (table_in b)) _ later).0 i l

  -- and the shares of each desk are judged
  pub desks_judged : (judged_shares (table_with b (streams_of b.first)) ≡ shares_in b b.first) × (judged_shares (table_with b (streams_of b.second)) ≡ shares_in b b.second)
  desks_judged =
      let judged : (d : Desk) → sound_cells d ≡ true → EachFits b.worst b.span b.padding (streams_of d) → judged_shares (table_with b (streams_of d)) ≡ shares_in b d =
      λ d cells fits. shares_judged b.worst b.span b.padding (streams_of d) in_ranges (omega (arith, cells_of d cells)) fits in
      let streams1 = streams_of b.first in
      let streams2 = streams_of b.second in (
        judged b.first one (fits_left b.worst b.span b.padding streams1 streams2 each_fits),
        judged b.second two (fits_right b.worst b.span b.padding streams1 streams2 each_fits),
      )

module _ (b : Book) (s : Sound b) where
  pub sound_admits : 1 ≤ count_in b → admission_of (table_in b) ≡ 0
  sound_admits = admitted b s.first s.second s.count_high s.refusal

  pub all_long : length (streams_in b) ≡ count_in b
  all_long = streams_long b s.first s.second

  pub sound_ranges : ranges_refusal b.worst b.span b.padding ≡ 0
  sound_ranges = in_ranges b s.first s.second s.count_high s.refusal

  pub sound_fits : EachFits b.worst b.span b.padding (streams_in b)
  sound_fits = each_fits b s.first s.second s.count_high s.refusal

  pub desk_sound : (desk : ℕ) → sound_cells (desk_of b desk) ≡ true
  desk_sound desk = desk_has b desk (λ d. sound_cells d ≡ true) s.first s.second

  pub desk_limit : (desk : ℕ) → shares_in b (desk_of b desk) ≤ (desk_of b desk).limit
  desk_limit desk = desk_has b desk (λ d. shares_in b d ≤ d.limit) s.first_limit s.second_limit

  -- A desk that is another, whose cells are sound and whose limit is kept, leaves the table sound where nothing is refused of it then.
  module _ (desk : ℕ) (d : Desk) (cells : sound_cells d ≡ true) where
    pub with_cells : (sound_cells (with_desk b desk d).first ≡ true) × (sound_cells (with_desk b desk d).second ≡ true)
    with_cells = (
      first_has b desk (λ x. sound_cells x ≡ true) d cells s.first,
      second_has b desk (λ x. sound_cells x ≡ true) d cells s.second,
    )

    pub with_long : length (streams_in (with_desk b desk d)) ≡ count_in (with_desk b desk d)
    with_long = streams_long (with_desk b desk d) with_cells.0 with_cells.1

    pub with_sound : count_in (with_desk b desk d) ≤ streams_max → table_refusal (with_desk b desk d) ≡ 0 → shares_in b d ≤ d.limit → Sound (with_desk b desk d)
    unfolding with_desk
    with_sound few none kept =
        record {
          first = with_cells.0;
          second = with_cells.1;
          count_high = few;
          refusal = none;
          first_limit = first_has b desk (λ x. shares_in b x ≤ x.limit) d kept s.first_limit;
          second_limit = second_has b desk (λ x. shares_in b x ≤ x.limit) d kept s.second_limit;
          unused = s.unused;
        }

  -- With a stream more, whose reservation is in order, the cells are sound, each stream is in order, nothing of 1 to 6 is refused, and the shares are judged.
  module _ (desk e p : ℕ) (space : count_in b < streams_max) where
    abbrev own : Desk
    own = with_stream (desk_of b desk) e p

    own_space : (desk_of b desk).count < streams_max
    own_space = omega (arith, desk_count b desk)

    pub own_sound : sound_cells own ≡ true
    own_sound = more_sound (desk_of b desk) (desk_sound desk) e p own_space

    pub own_streams : streams_of own ≡ streams_of (desk_of b desk) ++ (record { reserved = e; period = p } ∷ [])
    own_streams = more_streams (desk_of b desk) (desk_sound desk) e p own_space

    pub added_count : count_in (added b desk e p) ≡ suc (count_in b)
    unfolding with_stream
    added_count = omega (arith, with_count b desk own)

    pub added_cells : (sound_cells (added b desk e p).first ≡ true) × (sound_cells (added b desk e p).second ≡ true) × (count_in (added b desk e p) ≡ suc (count_in b))
    added_cells = ((with_cells desk own own_sound).0, (with_cells desk own own_sound).1, added_count)

    pub added_long : length (streams_in (added b desk e p)) ≡ suc (count_in b)
    added_long = with_long desk own own_sound ∙ added_count

    -- what each stream passes, and the new one, each passes then, of the desk and of all
    pub own_each : (P : Reservation → Type 0) → Each no_record P (streams_in b) → P (record { reserved = e; period = p }) → Each no_record P (streams_of own)
    own_each P all new =
        let r : Reservation = record { reserved = e; period = p } in
        subst (Each no_record P) (sym own_streams)
        (each_append no_record P (streams_of (desk_of b desk)) (r ∷ []) (desk_each b desk P all) (each_one no_record P r new))

    pub added_each : (P : Reservation → Type 0) → Each no_record P (streams_in b) → P (record { reserved = e; period = p }) → Each no_record P (streams_in (added b desk e p))
    added_each P all new = with_each b desk own P all (own_each P all new)

    module _ (passes : stream_refusal b.worst b.span b.padding e p ≡ 0) where
      pub added_fits : EachFits b.worst b.span b.padding (streams_in (added b desk e p))
      added_fits = added_each (Fits b) sound_fits passes

      pub added_parts : parts_refusal (table_in (added b desk e p)) ≡ 0
      unfolding with_desk
      added_parts =
          parts_fit b.worst b.span b.padding (streams_in (added b desk e p)) sound_ranges (omega (arith, added_long)) (omega (arith, added_long)) added_fits

      pub added_shares : judged_shares (table_with b (streams_of own)) ≡ shares_in b own
      added_shares =
          shares_judged b.worst b.span b.padding (streams_of own) sound_ranges (omega (arith, cells_of own own_sound)) (own_each (Fits b) sound_fits passes)
