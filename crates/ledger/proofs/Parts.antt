-- What counts of a line, which is its start.
use mathlib.Core.Bool.{true, false, false≢true}
use mathlib.Core.List.{List, [], ◌∷◌, ◌++◌}
use mathlib.Core.Logic.{◌⊎◌, inl, inr}
use mathlib.Core.Path.{◌≡◌, refl, sym, ap, ◌∙◌}
use Prim.Native.Nat.{ℕ, suc, ◌+◌, ◌-◌, ◌<◌}
use native.Mathlib.Omega.{arith}
use lib.Dec.{eqb}
use lib.ListN.{length, take, drop, get_or, drop_of_length-le}
use lib.Seq.{take-suc, take-length, drop-cons}
use lib.Pointwise.{pointwise}
use borrow.Author.Tests.{eq-eqb, eqb-true, ne_eqb}
use Rattle.std.specs.List.{position_or_len}
use Rattle.table.specs.Fold.{if}
use Rattle.notes.specs.Draft.{hash, carriage_return}
use Rattle.notes.specs.Words.{unreturned, uncommented}
use Rattle.notes.proofs.Grammar.{test, and_true}

-- ---- a carriage return at the end

module _ (x : ℕ) where
  off_returned : (a : List ℕ) → eqb x carriage_return ≡ true → unreturned (a ++ (x ∷ [])) ≡ a
  unfolding unreturned if
  off_returned [] h = rw h
  off_returned (y ∷ []) h = rw h
  off_returned (y ∷ z ∷ a) h = ap (λ (l : List ℕ). y ∷ l) (off_returned (z ∷ a) h)

  unreturned_on : (a : List ℕ) → eqb x carriage_return ≡ false → unreturned (a ++ (x ∷ [])) ≡ a ++ (x ∷ [])
  unfolding unreturned if
  unreturned_on [] h = rw h
  unreturned_on (y ∷ []) h = rw h
  unreturned_on (y ∷ z ∷ a) h = ap (λ (l : List ℕ). y ∷ l) (unreturned_on (z ∷ a) h)

module _ (line : List ℕ) (some : 0 < length line) where
  last_apart : line ≡ take (length line - 1) line ++ (get_or line (length line - 1) 0 ∷ [])
  last_apart =
      let whole : suc (length line - 1) ≡ length line = omega arith in
      sym (take-length line) ∙ ap (λ (n : ℕ). take n line) (sym whole) ∙ take-suc line (length line - 1) 0 (omega arith)

  pub returned_at : get_or line (length line - 1) 0 ≡ carriage_return → take (length line - 1) line ≡ unreturned line
  returned_at e =
      sym (ap unreturned last_apart ∙ off_returned _ (take (length line - 1) line) (eq-eqb _ carriage_return e))

  pub whole_at : (get_or line (length line - 1) 0 ≡ carriage_return → ⊥) → line ≡ unreturned line
  whole_at e =
      sym (ap unreturned last_apart ∙ unreturned_on _ (take (length line - 1) line) (ne_eqb _ carriage_return e) ∙ sym last_apart)

-- the test of the last byte
last_test : (line : List ℕ) → 0 < length line
    → pointwise eqb (drop (length line - 1) line) (carriage_return ∷ []) ≡ eqb (get_or line (length line - 1) 0) carriage_return
last_test line some =
    let last : drop (suc (length line - 1)) line ≡ [] = drop_of_length-le line {i = suc (length line - 1)} (omega arith) in
    rw (drop-cons line (length line - 1) 0 (omega arith), last, and_true)

pub off_stripped : (line : List ℕ) → pointwise eqb (drop (length line - 1) line) (carriage_return ∷ []) ≡ true → take (length line - 1) line ≡ unreturned line
off_stripped [] h = cc
off_stripped (byte ∷ rest) h =
    let line = byte ∷ rest in
    let some : 0 < length line = omega arith in
    returned_at line some (eqb-true (get_or line (length line - 1) 0) carriage_return (sym (last_test line some) ∙ h))

pub not_stripped : (line : List ℕ) → pointwise eqb (drop (length line - 1) line) (carriage_return ∷ []) ≡ false → line ≡ unreturned line
unfolding unreturned
not_stripped [] h = refl
not_stripped (byte ∷ rest) h =
    let line = byte ∷ rest in
    let some : 0 < length line = omega arith in
    whole_at line some (λ e. false≢true (sym h ∙ last_test line some ∙ eq-eqb _ carriage_return e))

-- ---- a comment

-- what is before one is as long as the bytes before the first #
pub comment_at : (line : List ℕ) → take (position_or_len (λ b. eqb b hash) line) line ≡ uncommented line
unfolding uncommented if
comment_at [] = refl
comment_at (byte ∷ rest) = go (test (eqb byte hash)) (comment_at rest)
  where
    go : (eqb byte hash ≡ true) ⊎ (eqb byte hash ≡ false) → take (position_or_len (λ b. eqb b hash) rest) rest ≡ uncommented rest
        → take (position_or_len (λ b. eqb b hash) (byte ∷ rest)) (byte ∷ rest) ≡ uncommented (byte ∷ rest)
    go (inl h) later = rw h
    go (inr h) later =
        let n = position_or_len (λ b. eqb b hash) rest in
        let one : 1 + n ≡ suc n = omega arith in
        rw (h, one) (ap (λ (l : List ℕ). byte ∷ l) later)
