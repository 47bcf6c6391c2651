-- The orders: their numbers, and how they rank places.
use mathlib.Core.Bool.{Bool, true, false, ◌&&◌, ◌||◌}
use mathlib.Core.Path.{◌≡◌, refl, sym}
use mathlib.Core.Logic.{⊎_elim}
use Prim.Native.Nat.{ℕ, ◌≤◌, ◌<◌}
use native.Mathlib.Omega.{arith}
use lib.Dec.{ltb, eqb}
use borrow.Author.Tests.{le-leb, leb-true, ltb-true, ltb-false, lt-ltb, le-ltb, eqb-true, eqb-false}
use Rattle.table.specs.Fold.{if}
use Rattle.table.proofs.Tests.{by_if, both, neither, le_or_lt, less_once, less_on}
use Rattle.order.specs.Order.{order_number, is_order, order_of, distance, swept_before, goes_before}
use Rattle.order.specs.Laws.{NumbersAreOrders, PlacesAreOrdered, NearestTaken, SweptTo, SweepTaken, TiesAreEqual}
use Rattle.order.specs.declared.Order.{Order}
use Rattle.order.specs.declared.Order.TheVariants.{Nearest, Sweep}

number_of_order : (o : Order) → (is_order (order_number o) ≡ true) × (order_of (order_number o) ≡ o)
unfolding order_of if
number_of_order Nearest = (refl, refl)
number_of_order Sweep = (refl, refl)

order_of_number : (n : ℕ) → is_order n ≡ true → order_number (order_of n) ≡ n
unfolding order_of if
order_of_number n h = go (eqb n 1) refl
  where
    go : (b : Bool) → eqb n 1 ≡ b → order_number (if b Sweep Nearest) ≡ n
    go true e = sym (eqb-true n 1 e)
    go false e = let l = leb-true n 1 h in let d = eqb-false n 1 e in omega arith

-- a number that has no order stands for nearest
pub nearest_else : (n : ℕ) → (is_order n ≡ true → ⊥) → order_of n ≡ Nearest
unfolding order_of
nearest_else n none =
    by_if (λ o. o ≡ Nearest) (eqb n 1) Sweep Nearest (λ e. absurd (none (le-leb n 1 (let one = eqb-true n 1 e in omega arith)))) (λ e. refl)

pub numbers_are_orders : NumbersAreOrders
numbers_are_orders = (number_of_order, order_of_number)

module _ (head : ℕ) where
  -- where a sweep does not take a before b, b may be the place taken
  swept_not : (a b : ℕ) → swept_before head a b ≡ false → SweptTo head b a
  unfolding swept_before if
  swept_not a b h = ⊎_elim (λ (up : head ≤ a). above up) (λ (down : a < head). below down) (le_or_lt head a)
    where
      above : head ≤ a → SweptTo head b a
      above up =
          let parts = neither (ltb b head) (ltb a b) (rw (le-ltb a head up) at h) in
          let high = ltb-false b head parts.0 in
          let least = ltb-false a b parts.1 in
          record { ahead = λ u. (high, least); none_ahead = λ l. absurd (omega arith) }

      below : a < head → SweptTo head b a
      below down =
          let test : (ltb b head && ltb a b) ≡ false = rw (lt-ltb a head down) at h in
          record {
            ahead = λ u. absurd (omega arith);
            none_ahead = λ l. (down, ltb-false a b (rw (lt-ltb b head l) at test));
          }

  -- and the other way round
  not_swept : (a b : ℕ) → SweptTo head b a → swept_before head a b ≡ false
  unfolding swept_before if
  not_swept a b t = ⊎_elim (λ (up : head ≤ a). above up) (λ (down : a < head). below down) (le_or_lt head a)
    where
      above : head ≤ a → swept_before head a b ≡ false
      above up = rw (le-ltb a head up, le-ltb b head (t.ahead up).0, le-ltb a b (t.ahead up).1) refl

      below : a < head → swept_before head a b ≡ false
      below down =
          ⊎_elim
          (λ (u : head ≤ b). rw (lt-ltb a head down, le-ltb b head u) refl)
          (λ (l : b < head). rw (lt-ltb a head down, lt-ltb b head l, le-ltb a b (t.none_ahead l).1) refl)
          (le_or_lt head b)

  -- a place that goes before another is no larger where neither is below the head, and where the other is below and it is too
  swept_so : (a b : ℕ) → swept_before head a b ≡ true → SweptTo head a b
  unfolding swept_before if
  swept_so a b h = ⊎_elim (λ (up : head ≤ a). above up) (λ (down : a < head). below down) (le_or_lt head a)
    where
      above : head ≤ a → SweptTo head a b
      above up =
          let test : (ltb b head || ltb a b) ≡ true = rw (le-ltb a head up) at h in
          record {
            ahead = λ u. let l = ltb-true a b (rw (le-ltb b head u) at test) in (up, omega arith);
            none_ahead = λ l. absurd (omega arith);
          }

      below : a < head → SweptTo head a b
      below down =
          let parts = both (ltb b head) (ltb a b) (rw (lt-ltb a head down) at h) in
          let low = ltb-true b head parts.0 in
          let less = ltb-true a b parts.1 in
          record { ahead = λ u. absurd (omega arith); none_ahead = λ l. (low, omega arith) }

  swept_on : (a b c : ℕ) → SweptTo head b a → SweptTo head c b → SweptTo head c a
  swept_on a b c t u =
      record {
        ahead = λ up. let first = t.ahead up in let next = u.ahead first.0 in (next.0, omega arith);
        none_ahead = λ l. let next = u.none_ahead l in let first = t.none_ahead next.0 in (first.0, omega arith);
      }

pub places_are_ordered : PlacesAreOrdered
places_are_ordered Nearest head a b =
    (less_once (distance head a) (distance head b), λ c. less_on (distance head a) (distance head b) (distance head c))
places_are_ordered Sweep head a b = (
  λ h. not_swept head b a (swept_so head a b h),
  λ c h k. not_swept head a c (swept_on head a b c (swept_not head a b h) (swept_not head b c k)),
)

-- no place goes before itself
pub alike : (o : Order) (head a : ℕ) → goes_before o head a a ≡ false
alike o head a = go (goes_before o head a a) refl
  where
    go : (b : Bool) → goes_before o head a a ≡ b → goes_before o head a a ≡ false
    go true e = (places_are_ordered o head a a).0 e
    go false e = e

pub nearest_taken : NearestTaken
nearest_taken head taken b h = ltb-false (distance head b) (distance head taken) h

pub sweep_taken : SweepTaken
sweep_taken head taken b h = swept_not head b taken h

pub ties_are_equal : TiesAreEqual
ties_are_equal head a b = (
  λ h k. let l = nearest_taken head b a h in let m = nearest_taken head a b k in omega arith,
  λ h k. same (swept_not head a b h) (swept_not head b a k),
)
  where
    same : SweptTo head b a → SweptTo head a b → a ≡ b
    same t u =
        ⊎_elim
        (λ (up : head ≤ a). let x = t.ahead up in let y = u.ahead x.0 in omega arith)
        (λ (down : a < head). let x = u.none_ahead down in let y = t.none_ahead x.0 in omega arith)
        (le_or_lt head a)
