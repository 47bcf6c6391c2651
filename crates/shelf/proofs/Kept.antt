-- What an image keeps: it is its session and back again, a refusal changes none of its numbers, and what is asked of it is what it shows.
use mathlib.Core.Path.{◌≡◌, refl, sym, ap, ◌∙◌}
use mathlib.Core.Bool.{Bool, true, false, false≢true}
use Prim.Native.Nat.{ℕ, suc}
use native.Mathlib.Omega.{arith}
use Rattle.table.specs.Fold.{if}
use Rattle.table.specs.Refusal.{given, ◌or_next◌}
use Rattle.table.proofs.Tests.{by_if}
use Rattle.order.specs.Order.{is_order}
use Rattle.order.proofs.Orders.{numbers_are_orders}
use Rattle.session.specs.Session.{asked, sound}
use Rattle.session.specs.Opening.{zero_session}
use Rattle.session.proofs.Openings.{opening_is_sound, ask_is_latest}
use Rattle.view.specs.View.{view_of, state_refusal, state_of, closing_of}
use Rattle.view.specs.declared.View.{View}
use Rattle.session.specs.Calls.{refusal, ruled, verdict, apply, answer_to}
use Rattle.session.specs.declared.Session.{Session}
use Rattle.calls.specs.declared.Call.{Call}
use Rattle.shelf.specs.Image.{Answered, image_of, session_of, opened_as, told_as, answered_as, shown_of, moment_as, latest_as}
use Rattle.shelf.specs.Laws.{NothingIsLost, AskedAsShown, RefusalChangesNothing, OtherOrdersAreRefused}
use Rattle.shelf.specs.declared.images.Image.{Image}

-- where there is no such order
pub no_order : (b : Bool) → (b ≡ true → ⊥) → b ≡ false
no_order true never = absurd (never refl)
no_order false never = refl

back : (i : Image) → is_order i.order ≡ true → image_of (session_of i) ≡ i
unfolding image_of session_of
back i e = rw (numbers_are_orders.1 i.order e)

pub nothing_is_lost : NothingIsLost
unfolding image_of session_of
nothing_is_lost = (λ s. rw (numbers_are_orders.0 s.order).1, back)

same_session : (s : Session) (k : Call) (n : ℕ) → refusal s k ≡ suc n → (answer_to s k).session ≡ s
unfolding answer_to verdict ruled apply
same_session s k n e = rw e

pub refusal_changes_nothing : RefusalChangesNothing
unfolding answered_as
refusal_changes_nothing i k n e =
    by_if (λ (a : Answered). a.session ≡ i) (is_order i.order) _ _
    (λ of_one. ap image_of (same_session (session_of i) k n e) ∙ back i of_one)
    (λ other. refl)

-- a session that is shown is sound, and so is told its latest safe moment
shown_is : (i : Image) (s : Session) → (sound s ≡ true → latest_as i.horizon.0 i.remainders.0 i.span ≡ moment_as (asked s)) → (view_of s).number ≡ 0
    → latest_as i.horizon.0 i.remainders.0 i.span ≡ record { number = 0; at = (view_of s).latest.0 }
unfolding view_of
shown_is i s same =
    by_if (λ (v : View). v.number ≡ 0 → latest_as i.horizon.0 i.remainders.0 i.span ≡ record { number = 0; at = v.latest.0 }) (sound s) _ _
    (λ ok is. same ok ∙ ap moment_as (ask_is_latest.0 s ok))
    (λ bad is. absurd (omega (arith, is)))

pub asked_as_shown : AskedAsShown
unfolding shown_of session_of
asked_as_shown i =
    by_if (λ (s : Session). (view_of s).number ≡ 0 → latest_as i.horizon.0 i.remainders.0 i.span ≡ record { number = 0; at = (view_of s).latest.0 }) (is_order i.order) _ _
    (λ of_one. shown_is i (session_of i) (λ ok. refl))
    (λ other. shown_is i zero_session (λ ok. absurd (false≢true (sym opening_is_sound.1 ∙ ok))))

pub other_orders_are_refused : OtherOrdersAreRefused
unfolding opened_as answered_as shown_of view_of state_of closing_of state_refusal given ◌or_next◌ told_as if
other_orders_are_refused = (
  λ t order none. rw none,
  λ i k none. (rw none, rw none),
  λ i n none. (rw (none, opening_is_sound.1), rw (none, opening_is_sound.1), rw (none, opening_is_sound.1)),
)
