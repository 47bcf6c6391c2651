-- A tag that is not 0 is shown; and one that is left out is 0.
use mathlib.Core.Path.{◌≡◌, refl}
use mathlib.Core.List.{[], ◌∷◌}
use Prim.Native.Nat.{ℕ, zero, suc}
use Rattle.table.specs.Fold.{if}
use Rattle.listing.specs.Line.{ascii}
use Rattle.listing.specs.Laws.{spelt_after}
use Rattle.notes.specs.Draft.{held_after, takes_name}
use Rattle.notes.specs.Line.{pair_line, triple_line, tag_shown}
use Rattle.notes.specs.Words.{all_of, is_name, is_number, is_value, value_of}
use Rattle.notes.specs.Laws.{TagMayBeLeftOut}

pub tag_shown_lem : (tag : ℕ) → (tag ≡ 0 → ⊥) → tag_shown tag ≡ tag ∷ []
tag_shown_lem zero some = absurd (some refl)
tag_shown_lem (suc n) some = refl

pub tag_may_be_left_out : TagMayBeLeftOut
unfolding if ascii spelt_after held_after takes_name pair_line triple_line all_of is_name is_number is_value value_of
tag_may_be_left_out stream place = refl
