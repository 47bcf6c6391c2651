-- Words are told apart by the numbers as which they are held.
use mathlib.Core.Path.{◌≡◌, refl, sym, ap, ◌∙◌}
use mathlib.Core.Logic.{⊎_elim}
use mathlib.Core.List.{List, [], ◌∷◌, ◌++◌}
use Prim.Native.Nat.{ℕ, zero, suc, ◌+◌, ◌-◌, ◌*◌, ◌≤◌, ◌<◌}
use native.Mathlib.Omega.{arith}
use lib.ListN.{length, take, drop, take-append-drop, length-take, length-drop}
use Rattle.table.proofs.Tests.{le_or_lt}
use Rattle.listing.specs.Laws.{Each}
use Rattle.notes.specs.Draft.{held_after}
use Rattle.notes.specs.Laws.{Letter, WordsTell}

pub held_append : (a b : List ℕ) (n : ℕ) → held_after n (a ++ b) ≡ held_after (held_after n a) b
unfolding held_after
held_append [] b n = refl
held_append (x ∷ a) b n = held_append a b (n * 256 + x)

pub held_grows : (a : List ℕ) (n : ℕ) → n ≤ held_after n a
unfolding held_after
held_grows [] n = omega arith
held_grows (x ∷ a) n = omega (arith, held_grows a (n * 256 + x))

-- a word is held as a number above 0
held_some : (a : List ℕ) → 1 ≤ length a → Each Letter a → 0 < held_after 0 a
unfolding held_after Each
held_some [] some p = omega (arith, some)
held_some (x ∷ a) some p = omega (arith, held_grows a (0 * 256 + x), p.0.0)

-- words of one length tell their letters, and what stood before them
same_length_tells : (a b : List ℕ) (n m : ℕ) → length a ≡ length b → Each Letter a → Each Letter b → held_after n a ≡ held_after m b → (n ≡ m) × (a ≡ b)
unfolding held_after Each
same_length_tells [] [] n m l p q h = (h, refl)
same_length_tells [] (y ∷ b) n m l p q h = absurd (omega (arith, l))
same_length_tells (x ∷ a) [] n m l p q h = absurd (omega (arith, l))
same_length_tells (x ∷ a) (y ∷ b) n m l p q h =
    let r = same_length_tells a b (n * 256 + x) (m * 256 + y) (omega (arith, l)) p.1 q.1 h in
    let x-is : x ≡ y = omega (arith, r.0, p.0.1, q.0.1) in
    (omega (arith, r.0, x-is), rw (x-is, r.1))

each_parts : (n : ℕ) (a : List ℕ) → Each Letter a → Each Letter (take n a) × Each Letter (drop n a)
unfolding Each
each_parts zero a p = (tt, p)
each_parts (suc n) [] p = (tt, tt)
each_parts (suc n) (x ∷ a) p = let q = each_parts n a p.1 in ((p.0, q.0), q.1)

-- no word is held as a longer one is: the letters in front would be held as 0
longer_differs : (a b : List ℕ) → length a < length b → Each Letter a → Each Letter b → held_after 0 a ≡ held_after 0 b → ⊥
longer_differs a b l p q h =
    let k = length b - length a in
    let parts = each_parts k b q in
    let split = ap (held_after 0) (sym (take-append-drop k b)) ∙ held_append (take k b) (drop k b) 0 in
    let r = same_length_tells a (drop k b) 0 (held_after 0 (take k b)) (omega (arith, l, length-drop k b)) p parts.1 (h ∙ split) in
    omega (arith, r.0, held_some (take k b) (omega (arith, l, length-take k b)) parts.0)

pub words_tell : WordsTell
words_tell a b p q h =
    ⊎_elim
    (λ no_more. ⊎_elim (λ no_less. (same_length_tells a b 0 0 (omega (arith, no_more, no_less)) p q h).1) (λ less. absurd (longer_differs a b less p q h)) (le_or_lt (length b) (length a)))
    (λ more. absurd (longer_differs b a more q p (sym h)))
    (le_or_lt (length a) (length b))
