-- What holds of each element of a list.
use mathlib.Core.Path.{subst}
use mathlib.Core.List.{List, [], ◌∷◌, ◌++◌, map, map-id}
use Rattle.listing.specs.Laws.{Each}

module _ {A : Type 0} (P : A → Type 0) where
  pub each_append : (a b : List A) → Each P a → Each P b → Each P (a ++ b)
  unfolding Each
  each_append [] b p q = q
  each_append (x ∷ a) b p q = (p.0, each_append a b p.1 q)

  pub each_map : {B : Type 0} (Q : B → Type 0) (f : A → B) → ((x : A) → P x → Q (f x)) → (a : List A) → Each P a → Each Q (map f a)
  unfolding Each
  each_map Q f g [] p = tt
  each_map Q f g (x ∷ a) p = (g x p.0, each_map Q f g a p.1)

  pub each_weaker : (Q : A → Type 0) → ((x : A) → P x → Q x) → (a : List A) → Each P a → Each Q a
  each_weaker Q g a p = subst (Each Q) (map-id a) (each_map Q (λ x. x) g a p)
