-- What a booking comes to, whichever it is: accepted, it changes its desk; refused, nothing. So a sound table stays sound, limits are kept, and the other desk stays.
use mathlib.Core.Bool.{true, false}
use mathlib.Core.List.{List, [], ◌∷◌, ◌++◌}
use mathlib.Core.Path.{◌≡◌, refl, sym, ◌∙◌, ap, subst}
use Prim.Native.Nat.{ℕ, ◌-◌, ◌≤◌}
use native.Mathlib.Omega.{arith}
use lib.Dec.{eqb}
use borrow.Author.Tests.{eqb-true, eqb-false}
use Rattle.table.specs.Fold.{if, leaving}
use Rattle.table.specs.Refusal.{given, ◌or_next◌}
use Rattle.table.proofs.Tests.{by_if}
use Rattle.booking.specs.Book.{desk_of, with_desk, streams_of, shares_in, is_sound}
use Rattle.booking.specs.Bookings.{accepted, refused, booked, with_stream, without_stream, desk_refusal, add_refusal, withdraw_refusal, add_of, withdraw_of, booking_of, finished_of}
use Rattle.booking.specs.Laws.{after_all, desk_in, Kept, BookingKeepsSound, BookingsKeepSound, RefusedChangesNothing, UnsoundIsRefused, OthersStay, StreamsInOrder, LimitIsKept}
use Rattle.booking.specs.declared.Desk.{Desk}
use Rattle.booking.specs.declared.Book.{Book}
use Rattle.booking.specs.declared.Booked.{Booked}
use Rattle.booking.specs.declared.Booking.{Booking}
use Rattle.booking.specs.declared.Booking.TheVariants.{Add, Withdraw}
use Rattle.booking.proofs.Cells.{more_streams, fewer_streams}
use Rattle.booking.proofs.Desks.{desk_count, desk_alike, desk_with, with_limits, first_stays, second_stays}
use Rattle.booking.proofs.Sound.{Sound, sound_of, sound_is, desk_sound, desk_limit}
use Rattle.booking.proofs.Adding.{taken_of, taken_sound}
use Rattle.booking.proofs.Withdrawing.{dropped_of, dropped_sound}

-- its refusal, the desk as it is then, and the table
abbrev pub refusal_of : Book → Booking → ℕ
refusal_of b (Add desk e p) = add_refusal b desk e p
refusal_of b (Withdraw desk number) = withdraw_refusal b desk number

abbrev pub own_after : Book → Booking → Desk
own_after b (Add desk e p) = with_stream (desk_of b desk) e p
own_after b (Withdraw desk number) = without_stream (desk_of b desk) number

abbrev pub book_after : Book → Booking → Book
book_after b x = with_desk b (desk_in x) (own_after b x)

-- what holds of both outcomes holds of the booking
pub outcome : (P : Booked → Type 0) (b : Book) (x : Booking)
    → (refusal_of b x ≡ 0 → P (booked (book_after b x) (accepted (own_after b x).count)))
    → ((refusal_of b x ≡ 0 → ⊥) → P (booked b (refused (refusal_of b x))))
    → P (booking_of b x)
unfolding add_of withdraw_of with_stream without_stream
outcome P b (Add desk e p) taken stays =
    by_if P (eqb (add_refusal b desk e p) 0) _ _ (λ t. taken (eqb-true _ _ t)) (λ f. stays (eqb-false _ _ f))
outcome P b (Withdraw desk number) taken stays =
    by_if P (eqb (withdraw_refusal b desk number) 0) _ _ (λ t. taken (eqb-true _ _ t)) (λ f. stays (eqb-false _ _ f))

-- an accepted one keeps the table sound
pub after_sound : (b : Book) (x : Booking) → refusal_of b x ≡ 0 → Sound (book_after b x)
after_sound b (Add desk e p) z = taken_sound b desk e p (taken_of b desk e p z)
after_sound b (Withdraw desk number) z = dropped_sound b desk number (dropped_of b desk number z)

pub booking_keeps_sound : BookingKeepsSound
booking_keeps_sound b x h = outcome (λ r. is_sound r.book ≡ true) b x (λ z. sound_is (book_after b x) (after_sound b x z)) (λ _. h)

pub bookings_keep_sound : BookingsKeepSound
unfolding after_all
bookings_keep_sound b [] h = h
bookings_keep_sound b (x ∷ rest) h = bookings_keep_sound (booking_of b x).book rest (booking_keeps_sound b x h)

pub refused_changes_nothing : RefusedChangesNothing
refused_changes_nothing b x =
    outcome (λ r. (r.receipt.number ≡ 0 → ⊥) → (r.book ≡ b) × (r.receipt.value ≡ 0)) b x (λ _ some. absurd (some refl)) (λ _ _. (refl, refl))

-- 31 comes first, whatever is asked
unsound_refusal : (b : Book) (x : Booking) → is_sound b ≡ false → refusal_of b x ≡ 31
unfolding add_refusal withdraw_refusal desk_refusal given ◌or_next◌
unsound_refusal b (Add desk e p) h = rw h
unsound_refusal b (Withdraw desk number) h = rw h

pub unsound_is_refused : UnsoundIsRefused
unfolding finished_of if
unsound_is_refused b x h =
    let told = unsound_refusal b x h in (
      outcome (λ r. r ≡ booked b (refused 31)) b x (λ none. absurd (31-is-not (sym told ∙ none))) (λ _. ap (λ (n : ℕ). booked b (refused n)) told),
      rw h,
    )
  where
    31-is-not : ◌≡◌ {A = ℕ} 31 0 → ⊥
    31-is-not e = omega (arith, e)

-- what is added comes behind a desk's own, and what is withdrawn is left out
pub streams_in_order : StreamsInOrder
streams_in_order b desk = (
  λ e p.
      outcome
      (λ r. r.receipt.number ≡ 0 → streams_of (desk_of r.book desk) ≡ streams_of (desk_of b desk) ++ (record { reserved = e; period = p } ∷ []))
      b
      (Add desk e p)
      (λ z _.
      let t = taken_of b desk e p z in
      ap (λ (d : Desk). streams_of d) (desk_with b desk (with_stream (desk_of b desk) e p))
      ∙ more_streams (desk_of b desk) (desk_sound b t.at_desk.sound desk) e p (omega (arith, t.space, desk_count b desk)))
      (λ some none. absurd (some none)),
  λ number.
      outcome
      (λ r. r.receipt.number ≡ 0 → streams_of (desk_of r.book desk) ≡ leaving (number - 1) (streams_of (desk_of b desk)))
      b
      (Withdraw desk number)
      (λ z _.
      let t = dropped_of b desk number z in
      ap (λ (d : Desk). streams_of d) (desk_with b desk (without_stream (desk_of b desk) number))
      ∙ fewer_streams (desk_of b desk) (desk_sound b t.at_desk.sound desk) number t.low t.high)
      (λ some none. absurd (some none)),
)

-- a desk has its limit afterwards
limit_stays : (b : Book) (x : Booking) → (own_after b x).limit ≡ (desk_of b (desk_in x)).limit
unfolding with_stream without_stream
limit_stays b (Add desk e p) = refl
limit_stays b (Withdraw desk number) = refl

pub others_stay : OthersStay
unfolding with_desk
others_stay b x =
    let desk = desk_in x in
    let own = own_after b x in
    outcome (λ r. Kept desk b r.book × (r.receipt.number ≡ 0 → r.receipt.value ≡ (desk_of r.book desk).count)) b x
    (λ _. (
      record {
        worst = refl;
        span = refl;
        padding = refl;
        unused = refl;
        first_limit = (with_limits b desk own (limit_stays b x)).0;
        second_limit = (with_limits b desk own (limit_stays b x)).1;
        second_stays = second_stays b desk own;
        first_stays = first_stays b desk own;
      },
      λ _. ap (λ (d : Desk). d.count) (sym (desk_with b desk own)),
    ))
    (λ some. (
      record {
        worst = refl;
        span = refl;
        padding = refl;
        unused = refl;
        first_limit = refl;
        second_limit = refl;
        second_stays = λ _. refl;
        first_stays = λ _. refl;
      },
      λ none. absurd (some none),
    ))

-- limits are what they were after any bookings
limits_stay : (b : Book) (bookings : List Booking) (desk : ℕ) → (desk_of (after_all b bookings) desk).limit ≡ (desk_of b desk).limit
unfolding after_all
limits_stay b [] desk = refl
limits_stay b (x ∷ rest) desk =
    let kept = (others_stay b x).0 in
    let after = (booking_of b x).book in
    limits_stay after rest desk ∙ desk_alike (λ d. d.limit) after b desk kept.first_limit kept.second_limit

pub limit_is_kept : LimitIsKept
limit_is_kept b bookings desk h =
    let after = after_all b bookings in
    subst (λ (n : ℕ). shares_in after (desk_of after desk) ≤ n) (limits_stay b bookings desk)
    (desk_limit after (sound_of after (bookings_keep_sound b bookings h)) desk)
