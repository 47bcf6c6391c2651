-- What each element of a list passes, and sums over its elements: of two lists together, and of one that leaves one out.
use mathlib.Core.List.{List, [], ◌∷◌, ◌++◌}
use mathlib.Core.Path.{◌≡◌, subst}
use mathlib.Core.Logic.{⊎_elim}
use Prim.Native.Nat.{ℕ, zero, suc, ◌+◌, ◌-◌, ◌≤◌, ◌<◌}
use native.Mathlib.Nat.{not-suc-le-zero, suc-le-suc_iff}
use native.Mathlib.Omega.{arith}
use lib.ListN.{length, get_or, length-append, get_or-append}
use lib.Seq.{get_or-append-add}
use Rattle.table.specs.Fold.{leaving, sum_to}
use Rattle.table.proofs.Tests.{le_or_lt}
use Rattle.table.proofs.Folds.{sum_front}
use Rattle.table.proofs.Lists.{leaving_below, leaving_from, length_leaving}

-- what each element of a list passes
abbrev pub Each : {A : Type 0} → A → (A → Type 0) → List A → Type 0
Each d P xs = (i : ℕ) → i < length xs → P (get_or xs i d)

module _ {A : Type 0} (d : A) (P : A → Type 0) where
  pub each_one : (x : A) → P x → Each d P (x ∷ [])
  each_one x p zero l = p
  each_one x p (suc i) l = absurd (omega arith)

  -- each of two lists does exactly where each of both does
  pub each_append : (xs ys : List A) → Each d P xs → Each d P ys → Each d P (xs ++ ys)
  each_append xs ys here there i l =
      ⊎_elim
      (λ (u : length xs ≤ i).
      let n = i - length xs in
      let place : length xs + n ≡ i = omega arith in
      subst (λ (m : ℕ). P (get_or (xs ++ ys) m d)) place (rw (get_or-append-add xs ys n d) (there n (omega (arith, length-append xs ys)))))
      (λ (u : i < length xs). rw (get_or-append xs ys d i u) (here i u))
      (le_or_lt (length xs) i)

  pub each_left : (xs ys : List A) → Each d P (xs ++ ys) → Each d P xs
  each_left xs ys each i l = rw (get_or-append xs ys d i l) at (each i (omega (arith, length-append xs ys)))

  pub each_right : (xs ys : List A) → Each d P (xs ++ ys) → Each d P ys
  each_right xs ys each i l = rw (get_or-append-add xs ys i d) at (each (length xs + i) (omega (arith, length-append xs ys)))

  -- and each that is left of a list where one is left out
  pub each_leaving : (j : ℕ) (xs : List A) → j < length xs → Each d P xs → Each d P (leaving j xs)
  each_leaving j xs l each i m =
      ⊎_elim
      (λ (u : j ≤ i). rw (leaving_from d j i xs u) (each (suc i) (omega (arith, length_leaving j xs l))))
      (λ (u : i < j). rw (leaving_below d j i xs u) (each i (omega arith)))
      (le_or_lt j i)

-- the sum of a number of each element
abbrev pub total : {A : Type 0} → A → (A → ℕ) → List A → ℕ
total d f xs = sum_to (λ i. f (get_or xs i d)) (length xs)

module _ {A : Type 0} (d : A) (f : A → ℕ) where
  pub total_cons : (x : A) (xs : List A) → total d f (x ∷ xs) ≡ f x + total d f xs
  total_cons x xs = sum_front (λ i. f (get_or (x ∷ xs) i d)) (length xs)

  pub total_append : (xs ys : List A) → total d f (xs ++ ys) ≡ total d f xs + total d f ys
  unfolding sum_to
  total_append [] ys = omega arith
  total_append (x ∷ xs) ys = omega (arith, total_cons x (xs ++ ys), total_cons x xs, total_append xs ys)

  pub total_leaving : (j : ℕ) (xs : List A) → j < length xs → total d f (leaving j xs) + f (get_or xs j d) ≡ total d f xs
  unfolding leaving
  total_leaving j [] l = absurd (not-suc-le-zero l)
  total_leaving zero (x ∷ xs) l = omega (arith, total_cons x xs)
  total_leaving (suc j) (x ∷ xs) l =
      omega (arith, total_cons x xs, total_cons x (leaving j xs), total_leaving j xs (suc-le-suc_iff.0 l))
