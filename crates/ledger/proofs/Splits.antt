-- The parts of a text, behind the start of the first of them.
use mathlib.Core.Bool.{Bool, true, false}
use mathlib.Core.List.{List, [], ◌∷◌, ◌++◌, append_assoc, append-nil}
use mathlib.Core.Path.{◌≡◌, refl, sym, ap}
use Prim.Native.Nat.{ℕ}
use native.Mathlib.Omega.{arith}
use lib.ListN.{length}
use Rattle.std.specs.List.{slice_split, onto_first}
use Rattle.std.proofs.lemmas.List.Splits.{length-slice_split, slice_split-cons_yes, slice_split-cons_no}

abbrev pub behind_start : List ℕ → List (List ℕ) → List (List ℕ)
behind_start start [] = start ∷ []
behind_start start (part ∷ rest) = (start ++ part) ∷ rest

-- a byte more in front of the first part
onto_behind : (start : List ℕ) (byte : ℕ) (parts : List (List ℕ)) → behind_start start (onto_first byte parts) ≡ behind_start (start ++ (byte ∷ [])) parts
onto_behind start byte [] = refl
onto_behind start byte (part ∷ rest) = ap (λ (l : List ℕ). l ∷ rest) (sym (append_assoc start (byte ∷ []) part))

module _ (p : ℕ → Bool) where
  -- a text has a part
  pub behind_none : (text : List ℕ) → behind_start [] (slice_split p text) ≡ slice_split p text
  behind_none text = go (slice_split p text) (λ none. omega (arith, length-slice_split p text, ap length none))
    where
      go : (parts : List (List ℕ)) → (parts ≡ [] → ⊥) → behind_start [] parts ≡ parts
      go [] some = absurd (some refl)
      go (part ∷ rest) some = refl

  module _ (start : List ℕ) (byte : ℕ) (text : List ℕ) where
    pub behind_next : p byte ≡ true → behind_start start (slice_split p (byte ∷ text)) ≡ start ∷ slice_split p text
    behind_next h = rw (slice_split-cons_yes p byte text h, append-nil start)

    pub behind_longer : p byte ≡ false → behind_start start (slice_split p (byte ∷ text)) ≡ behind_start (start ++ (byte ∷ [])) (slice_split p text)
    behind_longer h = rw (slice_split-cons_no p byte text h) (onto_behind start byte (slice_split p text))
