-- What is proved of images.
use Rattle.std.specs.Prelude.{◌≡◌, true, false, ℕ, suc}
use Rattle.table.specs.declared.Table.{Table}
use Rattle.order.specs.Order.{is_order}
use Rattle.session.specs.Calls.{refusal}
use Rattle.session.specs.declared.Session.{Session}
use Rattle.calls.specs.declared.Call.{Call}
use Rattle.shelf.specs.Image.{image_of, session_of, unopened, opened_as, answered_as, viewed_as, state_as, closing_as, latest_as}
use Rattle.shelf.specs.declared.images.Image.{Image}

-- An image is its session and back again, so that nothing is lost on the way.
abbrev pub NothingIsLost : Type 0
NothingIsLost =
    ((s : Session) → session_of (image_of s) ≡ s)
    × ((i : Image) → is_order i.order ≡ true → image_of (session_of i) ≡ i)

-- What is asked of an image's three cells is the latest safe moment that is shown of it, where one is shown.
abbrev pub AskedAsShown : Type 0
AskedAsShown =
    (i : Image) → (viewed_as i).number ≡ 0 → latest_as i.horizon.0 i.remainders.0 i.span ≡ record { number = 0; at = (viewed_as i).latest.0 }

-- "A refused call returns its number and changes no byte of session or buffer."
abbrev pub RefusalChangesNothing : Type 0
RefusalChangesNothing = (i : Image) (k : Call) (n : ℕ) → refusal (session_of i) k ≡ suc n → (answered_as i k).session ≡ i

-- A number that is that of no order is refused by 31, whatever the rest: nothing is opened, no call changes the image, and nothing is shown of it.
abbrev pub OtherOrdersAreRefused : Type 0
OtherOrdersAreRefused =
    ((t : Table) (order : ℕ) → is_order order ≡ false → opened_as t order ≡ unopened)
    × ((i : Image) (k : Call) → is_order i.order ≡ false → ((answered_as i k).reply.number ≡ 31) × ((answered_as i k).session ≡ i))
    × ((i : Image) (n : ℕ) → is_order i.order ≡ false → ((viewed_as i).number ≡ 31) × ((state_as i n).number ≡ 31) × ((closing_as i n).number ≡ 31))
