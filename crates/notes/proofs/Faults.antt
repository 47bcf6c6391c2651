-- A word takes up to three numbers or names.
use mathlib.Core.Bool.{◌&&◌, ◌||◌}
use mathlib.Core.List.{List, [], ◌∷◌}
use lib.ListN.{get_or}
use lib.Dec.{eqb}
use Rattle.std.specs.List.{starts_with}
use mathlib.Core.Path.{◌≡◌, refl, sym}
use denote.Enum.Bare.{sameb}
use Prim.Native.Nat.{ℕ, ◌≤◌}
use native.Mathlib.Omega.{arith}
use borrow.Author.Tests.{eq-eqb, eqb-true}
use Rattle.table.proofs.Tests.{by_if, same_test}
use Rattle.notes.specs.contracts.draft.Place.{the_type}
use Rattle.notes.specs.declared.draft.Place.{Place}
use Rattle.notes.specs.declared.draft.Place.TheVariants.{Between, Within, Comment, Returned, Stray, Amiss}
use Rattle.notes.specs.declared.draft.Draft.{Draft}
use Rattle.notes.specs.Fault.{is_stray, is_amiss}
use Rattle.notes.specs.Heard.{opens_at}
use Rattle.notes.proofs.Grammar.{and_false, and_true, and_assoc}
use Rattle.notes.specs.Draft.{takes_name}
use Rattle.notes.specs.Line.{word_line, number_line, triple_line}
use Rattle.notes.specs.Numbers.{is_right, takes, fits}

pub takes_few : (word : ℕ) → takes word ≤ 3
unfolding takes
takes_few word =
    by_if (λ (n : ℕ). n ≤ 3) (is_right (word_line word)) 0 _ (λ _. omega arith)
    (λ _. by_if (λ (n : ℕ). n ≤ 3) (takes_name word || is_right (number_line word 0)) 1 _ (λ _. omega arith)
    (λ _. by_if (λ (n : ℕ). n ≤ 3) (is_right (triple_line word 0 0 0)) 3 2 (λ _. omega arith) (λ _. omega arith)))

-- the tests of a place
pub stray_test : (place : Place) → sameb the_type place Stray ≡ is_stray place
stray_test Between = refl
stray_test Within = refl
stray_test Comment = refl
stray_test Returned = refl
stray_test Stray = refl
stray_test Amiss = refl

pub amiss_test : (place : Place) → sameb the_type place Amiss ≡ is_amiss place
amiss_test Between = refl
amiss_test Within = refl
amiss_test Comment = refl
amiss_test Returned = refl
amiss_test Stray = refl
amiss_test Amiss = refl

pub between_test : (place : Place) (draft : Draft) → (sameb the_type place Between && fits draft) ≡ opens_at place draft
between_test Between draft = refl
between_test Within draft = refl
between_test Comment draft = refl
between_test Returned draft = refl
between_test Stray draft = refl
between_test Amiss draft = refl

-- three bytes at the start of a field
turned : (a b : ℕ) → eqb a b ≡ eqb b a
turned a b =
    same_test (eqb a b) (eqb b a)
    (λ h. eq-eqb b a (sym (eqb-true a b h)))
    (λ h. eq-eqb a b (sym (eqb-true b a h)))

pub mark_test : (bytes : List ℕ)
    → starts_with eqb bytes (239 ∷ 187 ∷ 191 ∷ []) ≡ (eqb (get_or bytes 0 0) 239 && eqb (get_or bytes 1 0) 187 && eqb (get_or bytes 2 0) 191)
mark_test [] = refl
mark_test (a ∷ []) = rw (turned 239 a, and_false (eqb a 239))
mark_test (a ∷ b ∷ []) = rw (turned 239 a, turned 187 b, and_false (eqb b 187), and_false (eqb a 239), and_false (eqb a 239 && eqb b 187))
mark_test (a ∷ b ∷ c ∷ rest) =
    rw (turned 239 a, turned 187 b, turned 191 c, and_true (eqb c 191), and_assoc (eqb a 239) (eqb b 187) (eqb c 191))
