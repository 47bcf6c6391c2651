-- Who withdraws what was just added has the table back, cell by cell.
use mathlib.Core.Bool.{true}
use mathlib.Core.List.{List}
use mathlib.Core.Path.{◌≡◌, sym, ◌∙◌, ap, ap₂}
use Prim.Native.Nat.{ℕ, suc, ◌-◌, ◌<◌}
use native.Mathlib.Omega.{arith}
use lib.Dec.{eqb}
use borrow.Author.Tests.{eqb-true, eqb-false, le-ltb}
use Rattle.table.specs.Fold.{if, leaving}
use Rattle.table.specs.Refusal.{given, ◌or_next◌, outside}
use Rattle.table.specs.Ranges.{streams_max}
use Rattle.table.specs.declared.reservations.Reservation.{Reservation}
use Rattle.table.proofs.Tests.{by_if}
use Rattle.table.proofs.Lists.{leaving_last}
use Rattle.booking.specs.Book.{desk_of, with_desk, streams_of, sound_cells}
use Rattle.booking.specs.Bookings.{accepted, booked, with_stream, without_stream, added, withdrawn, desk_refusal, add_refusal, withdraw_refusal, add_of, withdraw_of}
use Rattle.booking.specs.Laws.{AddedIsWithdrawn}
use Rattle.booking.specs.declared.Desk.{Desk}
use Rattle.booking.specs.declared.Book.{Book}
use Rattle.booking.specs.declared.Booked.{Booked}
use Rattle.booking.proofs.Cells.{listed, cells_of, more_streams, more_sound, fewer_streams, fewer_sound}
use Rattle.booking.proofs.Desks.{desk_count, desk_with, with_with, with_same}
use Rattle.booking.proofs.Sound.{sound_is, desk_sound}
use Rattle.booking.proofs.Adding.{Taken, taken_of, taken_sound}

-- a desk without the stream that it was given last is the desk that it was
last_leaves : (d : Desk) → sound_cells d ≡ true → (e p : ℕ) → d.count < streams_max → without_stream (with_stream d e p) (suc d.count) ≡ d
unfolding with_stream without_stream
last_leaves d h e p space =
    let r : Reservation = record { reserved = e; period = p } in
    let more = with_stream d e p in
    let less = without_stream more (suc d.count) in
    let sound = more_sound d h e p space in
    let fewer : sound_cells less ≡ true = fewer_sound more sound (suc d.count) (omega arith) (omega arith) in
    let back : suc d.count - 1 ≡ d.count = omega arith in
    let streams : streams_of less ≡ streams_of d =
    fewer_streams more sound (suc d.count) (omega arith) (omega arith)
    ∙ ap₂ leaving (back ∙ sym (cells_of d h).long) (more_streams d h e p space)
    ∙ leaving_last (streams_of d) r in
    let rows : less.streams ≡ d.streams = (cells_of less fewer).are ∙ ap listed streams ∙ sym (cells_of d h).are in
    ap₂ (λ (n : ℕ) (cells : List Reservation). record { limit = d.limit; count = n; streams = cells }) back rows

module _ (b : Book) (desk e p : ℕ) (t : Taken b desk e p) where
  abbrev after : Book
  after = added b desk e p

  abbrev number : ℕ
  number = suc (desk_of b desk).count

  own : desk_of after desk ≡ with_stream (desk_of b desk) e p
  own = desk_with b desk (with_stream (desk_of b desk) e p)

  -- it is the last of its desk, so that nothing refuses to withdraw it
  count : (desk_of after desk).count ≡ number
  unfolding with_stream
  count = ap (λ (d : Desk). d.count) own

  passes : withdraw_refusal after desk number ≡ 0
  unfolding withdraw_refusal desk_refusal given ◌or_next◌ outside
  passes =
      rw (
        sound_is after (taken_sound b desk e p t),
        le-ltb desk 1 t.at_desk.low,
        le-ltb 2 desk t.at_desk.high,
        le-ltb number 1 (omega arith),
        le-ltb (desk_of after desk).count number (omega (arith, count)),
      )

  -- and the table is what it was
  undone : withdrawn after desk number ≡ b
  undone =
      let d = desk_of b desk in
      let s = t.at_desk.sound in
      ap (λ (x : Desk). with_desk after desk (without_stream x number)) own
      ∙ ap (with_desk after desk) (last_leaves d (desk_sound b s desk) e p (omega (arith, t.space, desk_count b desk)))
      ∙ with_with b desk (with_stream d e p) d
      ∙ with_same b desk

  replied : withdraw_of after desk number ≡ booked b (accepted (desk_of b desk).count)
  unfolding withdraw_of if
  replied =
      let one : (desk_of after desk).count - 1 ≡ (desk_of b desk).count = omega (arith, count) in
      rw passes (ap₂ (λ (x : Book) (n : ℕ). booked x (accepted n)) undone one)

pub added_is_withdrawn : AddedIsWithdrawn
unfolding add_of
added_is_withdrawn b desk e p =
    by_if (λ (r : Booked). r.receipt.number ≡ 0 → withdraw_of r.book desk r.receipt.value ≡ booked b (accepted (desk_of b desk).count))
    (eqb (add_refusal b desk e p) 0) _ _
    (λ t _. replied b desk e p (taken_of b desk e p (eqb-true _ _ t)))
    (λ f none. absurd (eqb-false _ _ f none))
