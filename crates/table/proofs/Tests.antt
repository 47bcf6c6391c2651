-- Laws of tests, of choices by a test and of refusals in order.
use mathlib.Core.Bool.{Bool, true, false, ◌&&◌, ◌||◌, false≢true}
use mathlib.Core.Path.{◌≡◌, refl, sym}
use mathlib.Core.Logic.{◌⊎◌, inl, inr}
use Prim.Native.Nat.{ℕ, zero, suc, ◌≤◌, ◌<◌}
use native.Mathlib.Decide.{dec_le}
use native.Mathlib.Omega.{arith}
use lib.Dec.{ltb}
use borrow.Author.Tests.{ltb-true, ltb-false, le-ltb}
use Rattle.table.specs.Fold.{if}
use Rattle.table.specs.Refusal.{given, ◌or_next◌, outside}

pub le_or_lt : (a b : ℕ) → (a ≤ b) ⊎ (b < a)
le_or_lt a b = go (dec_le a b)
  where
    go : Dec (a ≤ b) → (a ≤ b) ⊎ (b < a)
    go (yes h) = inl h
    go (no h) = inr (omega arith)

pub both : (a b : Bool) → (a && b) ≡ true → (a ≡ true) × (b ≡ true)
both true b h = (refl, h)
both false b h = absurd (false≢true h)

pub neither : (a b : Bool) → (a || b) ≡ false → (a ≡ false) × (b ≡ false)
neither true b h = absurd (false≢true (sym h))
neither false b h = (refl, h)

-- a cell that is used or 0
pub used_or_zero : (a b : Bool) → (a || b) ≡ true → a ≡ false → b ≡ true
used_or_zero a b h unused = rw unused at h

-- of two numbers at most one is less; and where none of two is less than the one behind it, the first is not less than the last
pub less_once : (x y : ℕ) → ltb x y ≡ true → ltb y x ≡ false
less_once x y h = let l = ltb-true x y h in le-ltb y x (omega arith)

pub less_on : (x y z : ℕ) → ltb x y ≡ false → ltb y z ≡ false → ltb x z ≡ false
less_on x y z h k = let l = ltb-false x y h in let m = ltb-false y z k in le-ltb x z (omega arith)

-- two tests are one where each holds if the other does
pub same_test : (a b : Bool) → (a ≡ true → b ≡ true) → (b ≡ true → a ≡ true) → a ≡ b
same_test true b f g = sym (f refl)
same_test false true f g = g refl
same_test false false f g = refl

-- what holds of either side of a choice, where its test says so, holds of the choice
pub by_if : {A : Type 0} (P : A → Type 0) (b : Bool) (x y : A) → (b ≡ true → P x) → (b ≡ false → P y) → P (if b x y)
unfolding if
by_if P true x y p q = p refl
by_if P false x y p q = q refl

-- a number that is not outside its range is within it
pub within : (low high n : ℕ) → outside low high n ≡ false → (low ≤ n) × (n ≤ high)
unfolding outside
within low high n h =
    let k = neither (ltb n low) (ltb high n) h in
    (ltb-false n low k.0, ltb-false high n k.1)

-- nothing is refused only where the test fails
pub given_none : (b : Bool) (n : ℕ) → given b (suc n) ≡ 0 → b ≡ false
unfolding given
given_none true n h = absurd (let z : suc n ≡ 0 = h in omega arith)
given_none false n h = refl

-- nothing is refused only where neither part refuses
pub or_next_none : (n m : ℕ) → n or_next m ≡ 0 → (n ≡ 0) × (m ≡ 0)
unfolding ◌or_next◌
or_next_none zero m h = (refl, h)
or_next_none (suc n) m h = absurd (let z : suc n ≡ 0 = h in omega arith)

-- a refusal is at most a bound that each of its parts keeps
pub given_high : (b : Bool) (n top : ℕ) → n ≤ top → given b n ≤ top
unfolding given
given_high true n top l = l
given_high false n top l = omega arith

pub or_next_high : (n m top : ℕ) → n ≤ top → m ≤ top → (n or_next m) ≤ top
unfolding ◌or_next◌
or_next_high zero m top l k = k
or_next_high (suc n) m top l k = l

-- what each of two refusals passes, the first of them passes
pub or_next_is : (P : ℕ → Type 0) (n m : ℕ) → P n → P m → P (n or_next m)
unfolding ◌or_next◌
or_next_is P zero m pn pm = pm
or_next_is P (suc n) m pn pm = pn

-- the first refusal stands
pub or_next_first : (n m : ℕ) → (n ≡ 0 → ⊥) → n or_next m ≡ n
unfolding ◌or_next◌
or_next_first zero m h = absurd (h refl)
or_next_first (suc n) m h = refl

-- what comes next counts only where nothing is refused before
pub or_next_agree : (n m k o : ℕ) → n ≡ k → (n ≡ 0 → m ≡ o) → n or_next m ≡ k or_next o
unfolding ◌or_next◌
or_next_agree zero m k o same next = rw (sym same) (next refl)
or_next_agree (suc n) m k o same next = rw (sym same)

-- the first of three is that of the first two, and the third
pub or_next_assoc : (n m o : ℕ) → n or_next m or_next o ≡ (n or_next m) or_next o
unfolding ◌or_next◌
or_next_assoc zero m o = refl
or_next_assoc (suc n) m o = refl
