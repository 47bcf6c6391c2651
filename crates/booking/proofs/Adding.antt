-- A stream more: what an accepted one is known to have passed, and that the table is sound with it.
use mathlib.Core.Path.{◌≡◌, sym, ◌∙◌}
use Prim.Native.Nat.{ℕ, ◌≤◌, ◌<◌}
use native.Mathlib.Omega.{arith}
use borrow.Author.Tests.{leb-false, ltb-false}
use Rattle.table.specs.Ranges.{streams_max}
use Rattle.table.specs.Admission.{load_of, stream_refusal}
use Rattle.table.proofs.Tests.{given_none, or_next_none, within}
use Rattle.booking.specs.Book.{desk_of, with_desk, count_in, table_in, shares_in}
use Rattle.booking.specs.Bookings.{with_stream, added, desk_refusal, add_refusal}
use Rattle.booking.specs.declared.Book.{Book}
use Rattle.booking.proofs.Refusals.{past_desk}
use Rattle.booking.proofs.Sound.{Sound, refuses_none, sound_ranges, with_sound, own_sound, added_count, added_long, added_fits}

-- what is not refused by 31 or 30
pub record BookedAt (b : Book) (desk : ℕ) : Type 0 where
  pub sound : Sound b
  pub low : 1 ≤ desk
  pub high : desk ≤ 2

pub booked_at : (b : Book) (desk : ℕ) → desk_refusal b desk ≡ 0 → BookedAt b desk
unfolding desk_refusal
booked_at b desk h =
    let a = or_next_none _ _ h in
    let range = within 1 2 desk (given_none _ 29 a.1) in
    record { sound = past_desk b desk h; low = range.0; high = range.1 }

module _ (b : Book) (desk e p : ℕ) where
  -- and, of a stream more, by 1, 5, 6, 18 or 7
  pub record Taken : Type 0 where
    pub at_desk : BookedAt b desk
    pub space : count_in b < streams_max
    pub passes : stream_refusal b.worst b.span b.padding e p ≡ 0
    pub limit : shares_in b (with_stream (desk_of b desk) e p) ≤ (with_stream (desk_of b desk) e p).limit
    pub load : load_of (table_in (added b desk e p)) ≤ b.span

  pub taken_of : add_refusal b desk e p ≡ 0 → Taken
  unfolding add_refusal
  taken_of h =
      let one = or_next_none (desk_refusal b desk) _ h in
      let five = or_next_none _ _ one.1 in
      let eighteen = or_next_none (stream_refusal b.worst b.span b.padding e p) _ five.1 in
      let seven = or_next_none _ _ eighteen.1 in
      record {
        at_desk = booked_at b desk one.0;
        space = leb-false streams_max (count_in b) (given_none _ 0 five.0);
        passes = eighteen.0;
        limit = ltb-false _ _ (given_none _ 17 seven.0);
        load = ltb-false _ _ (given_none _ 6 seven.1);
      }

  -- the table is sound with it
  pub taken_sound : Taken → Sound (added b desk e p)
  unfolding with_desk
  taken_sound t =
      let s = t.at_desk.sound in
      let space = t.space in
      let count = added_count b s desk e p space in
      let few : count_in (added b desk e p) ≤ streams_max = omega arith in
      with_sound b s desk (with_stream (desk_of b desk) e p) (own_sound b s desk e p space) few
      (refuses_none (added b desk e p) (added_long b s desk e p space ∙ sym count) few (sound_ranges b s) (added_fits b s desk e p space t.passes) (λ _. t.load))
      t.limit
