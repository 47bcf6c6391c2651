-- The elements of a list: those of one that is mapped, the only one, and what each of them has.
use mathlib.Core.List.{List, [], ◌∷◌, ◌++◌, map}
use mathlib.Core.Logic.{inl, inr}
use mathlib.Core.Path.{◌≡◌, refl, ap}
use Rattle.listing.specs.Laws.{Each}
use Rattle.logs.specs.Follow.{Among}
use Rattle.logs.specs.Laws.{Once}

module _ {A B : Type 0} (f : A → B) where
  pub map_among : (x : A) (xs : List A) → Among x xs → Among (f x) (map f xs)
  unfolding Among
  map_among x [] p = p
  map_among x (y ∷ xs) (inl e) = inl (ap f e)
  map_among x (y ∷ xs) (inr p) = inr (map_among x xs p)

  pub among_map : (y : B) (xs : List A) → Among y (map f xs) → (x : A) × Among x xs × (y ≡ f x)
  unfolding Among
  among_map y [] p = absurd p
  among_map y (x ∷ xs) (inl e) = (x, inl refl, e)
  among_map y (x ∷ xs) (inr p) = let later = among_map y xs p in (later.0, inr later.1, later.2)

  -- an element is told by its image
  abbrev pub Tells : List A → Type 0
  Tells xs = (a b : A) → Among a xs → Among b xs → f a ≡ f b → a ≡ b

  -- then none stands there again
  pub once_map : (xs : List A) → Tells xs → Once xs → Once (map f xs)
  unfolding Among Once
  once_map [] tells p = tt
  once_map (x ∷ xs) tells p = (
    λ again.
        let other = among_map (f x) xs again in
        let same : x ≡ other.0 = tells x other.0 (inl refl) (inr other.1) other.2 in
        p.0 (rw same other.1),
    once_map xs (λ a b i j. tells a b (inr i) (inr j)) p.1,
  )

-- the only element of a list
pub among_one : {A : Type 0} (x y : A) → Among x (y ∷ []) → x ≡ y
unfolding Among
among_one x y (inl e) = e
among_one x y (inr p) = absurd p

pub one_among : {A : Type 0} (x : A) → Among x (x ∷ [])
unfolding Among
one_among x = inl refl

pub once_one : {A : Type 0} (x : A) → Once (x ∷ [])
unfolding Among Once
once_one x = (λ p. p, tt)

-- what each element of two lists has, those of either have
pub each_parts : {A : Type 0} (P : A → Type 0) (a b : List A) → Each P (a ++ b) → Each P a × Each P b
unfolding Each
each_parts P [] b p = (tt, p)
each_parts P (x ∷ a) b p = let q = each_parts P a b p.1 in ((p.0, q.0), q.1)
