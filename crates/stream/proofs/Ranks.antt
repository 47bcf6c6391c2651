-- Orders by which one index goes before another: by a number, by a place, by an exact fraction, and by one of these and then another.
use mathlib.Core.Bool.{Bool, true, false, ◌&&◌, ◌||◌, false≢true}
use mathlib.Core.Path.{◌≡◌, refl, sym}
use Prim.Native.Nat.{ℕ, ◌*◌, ◌≤◌, ◌<◌}
use native.Mathlib.Nat.{mul-le-mul_right, le_of_mul-le-mul_right}
use native.Mathlib.Omega.{arith}
use lib.Dec.{ltb, eqb}
use borrow.Author.Tests.{ltb-false, eqb-true, le-ltb, eq-eqb}
use Rattle.table.proofs.Tests.{less_once, less_on}
use Rattle.order.specs.Order.{goes_before}
use Rattle.order.specs.declared.Order.{Order}
use Rattle.order.proofs.Orders.{places_are_ordered}
use Rattle.time.specs.Exact.{Fraction, less, same}

-- of two indices below n at most one goes before the other; and where a does not go before b, nor b before c, a does not go before c
pub record Ranks (before : ℕ → ℕ → Bool) (n : ℕ) : Type 0 where
  pub one_way : {a b : ℕ} → a < n → b < n → before a b ≡ true → before b a ≡ false
  pub onward : {a b c : ℕ} → a < n → b < n → c < n → before a b ≡ false → before b c ≡ false → before a c ≡ false

-- two indices are alike exactly if neither goes before the other
pub record Ties (before alike : ℕ → ℕ → Bool) (n : ℕ) : Type 0 where
  pub alike_if : {a b : ℕ} → a < n → b < n → before a b ≡ false → before b a ≡ false → alike a b ≡ true
  pub only_if : {a b : ℕ} → a < n → b < n → alike a b ≡ true → (before a b ≡ false) × (before b a ≡ false)

-- they are equal if neither is less
equal_if : (x y : ℕ) → ltb x y ≡ false → ltb y x ≡ false → eqb x y ≡ true
equal_if x y h k = let l = ltb-false x y h in let m = ltb-false y x k in eq-eqb x y (omega arith)

-- and only then
equal_only : (x y : ℕ) → eqb x y ≡ true → (ltb x y ≡ false) × (ltb y x ≡ false)
equal_only x y h = let e = eqb-true x y h in (le-ltb x y (omega arith), le-ltb y x (omega arith))

module _ (f : ℕ → ℕ) (n : ℕ) where
  -- by a number: the less goes first
  pub number_ranks : Ranks (λ a b. ltb (f a) (f b)) n
  number_ranks =
      record {
        one_way = λ {a} {b} la lb. less_once (f a) (f b);
        onward = λ {a} {b} {c} la lb lc. less_on (f a) (f b) (f c);
      }

  -- and equal numbers are alike
  pub number_ties : Ties (λ a b. ltb (f a) (f b)) (λ a b. eqb (f a) (f b)) n
  number_ties =
      record { alike_if = λ {a} {b} la lb. equal_if (f a) (f b); only_if = λ {a} {b} la lb. equal_only (f a) (f b) }

-- by their places, in either order
pub place_ranks : (order : Order) (head : ℕ) (f : ℕ → ℕ) (n : ℕ) → Ranks (λ a b. goes_before order head (f a) (f b)) n
place_ranks order head f n =
    record {
      one_way = λ {a} {b} la lb. (places_are_ordered order head (f a) (f b)).0;
      onward = λ {a} {b} {c} la lb lc. (places_are_ordered order head (f a) (f b)).1 (f c);
    }

-- where the second fraction is at most the first and the third at most the second, the third is at most the first
cross : (x g y h z k : ℕ) → 1 ≤ h → y * g ≤ x * h → z * h ≤ y * k → z * g ≤ x * k
cross x g y h z k pos l m =
    le_of_mul-le-mul_right {k = h} (omega (arith, mul-le-mul_right k l, mul-le-mul_right g m)) pos

module _ (f : ℕ → Fraction) (n : ℕ) (positive : (i : ℕ) → i < n → 1 ≤ (f i).below) where
  -- by an exact fraction: the less goes first
  pub fraction_ranks : Ranks (λ a b. less (f a) (f b)) n
  unfolding less
  fraction_ranks =
      record {
        one_way = λ {a} {b} la lb. less_once ((f a).above * (f b).below) ((f b).above * (f a).below);
        onward = λ {a} {b} {c} la lb lc h k.
            le-ltb _ _
            (cross (f a).above (f a).below (f b).above (f b).below (f c).above (f c).below (positive b lb)
            (ltb-false _ _ h)
            (ltb-false _ _ k));
      }

  -- and the same fractions are alike, however they are written
  pub fraction_ties : Ties (λ a b. less (f a) (f b)) (λ a b. same (f a) (f b)) n
  unfolding less same
  fraction_ties =
      record {
        alike_if = λ {a} {b} la lb. equal_if ((f a).above * (f b).below) ((f b).above * (f a).below);
        only_if = λ {a} {b} la lb. equal_only ((f a).above * (f b).below) ((f b).above * (f a).below);
      }

-- one goes before by the second order: where it goes before at all, and not by the first
then_true : (p q r : Bool) → (p || (q && r)) ≡ true → p ≡ false → (q ≡ true) × (r ≡ true)
then_true true q r h n = absurd (false≢true (sym n))
then_true false true r h n = (refl, h)
then_true false false r h n = absurd (false≢true h)

-- it does not go before: not by the first order, nor by the second where they are alike
then_false : (p q r : Bool) → (p || (q && r)) ≡ false → (p ≡ false) × (q ≡ true → r ≡ false)
then_false true q r h = absurd (false≢true (sym h))
then_false false true r h = (refl, λ e. h)
then_false false false r h = (refl, λ e. absurd (false≢true e))

-- and the other way round
false_then : (p q r : Bool) → p ≡ false → (q ≡ true → r ≡ false) → (p || (q && r)) ≡ false
false_then true q r n h = n
false_then false true r n h = h refl
false_then false false r n h = refl

module _ {before alike next : ℕ → ℕ → Bool} {n : ℕ} (o : Ranks before n) (t : Ties before alike n) (o' : Ranks next n) where
  -- by one order, and where two are alike by another
  abbrev both : ℕ → ℕ → Bool
  both a b = before a b || (alike a b && next a b)

  -- where a goes before b so, b does not go before a by the first
  behind : {a b : ℕ} → a < n → b < n → both a b ≡ true → (p : Bool) → before b a ≡ p → before b a ≡ false
  behind la lb h true e = (t.only_if la lb (then_true _ _ _ h (o.one_way lb la e)).0).1
  behind la lb h false e = e

  -- so it is an order too
  pub then_ranks : Ranks both n
  then_ranks =
      record {
        one_way = λ {a} {b} la lb h.
            false_then _ _ _ (behind la lb h (before b a) refl)
            (λ e. o'.one_way la lb (then_true _ (alike a b) _ h (t.only_if lb la e).1).1);
        onward = λ la lb lc h k.
            let x = then_false _ _ _ h in
            let y = then_false _ _ _ k in
            false_then _ _ _ (o.onward la lb lc x.0 y.0)
            (λ e.
            let back = (t.only_if la lc e).1 in
            let level = t.alike_if la lb x.0 (o.onward lb lc la y.0 back) in
            let level' = t.alike_if lb lc y.0 (o.onward lc la lb back x.0) in
            o'.onward la lb lc (x.1 level) (y.1 level'));
      }
