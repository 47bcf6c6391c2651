-- What is proved of the orders.
use Rattle.std.specs.Prelude.{◌≡◌, true, false, ℕ, ◌≤◌, ◌<◌}
use Rattle.order.specs.Order.{order_number, is_order, order_of, distance, goes_before}
use Rattle.order.specs.declared.Order.{Order}
use Rattle.order.specs.declared.Order.TheVariants.{Nearest, Sweep}

-- Orders and their numbers determine each other.
abbrev pub NumbersAreOrders : Type 0
NumbersAreOrders =
    ((o : Order) → (is_order (order_number o) ≡ true) × (order_of (order_number o) ≡ o))
    × ((n : ℕ) → is_order n ≡ true → order_number (order_of n) ≡ n)

-- Of two places at most one goes before the other; and where a does not go before b, nor b before c, a does not go before c.
abbrev pub PlacesAreOrdered : Type 0
PlacesAreOrdered =
    (o : Order) (head a b : ℕ)
    → (goes_before o head a b ≡ true → goes_before o head b a ≡ false)
    × ((c : ℕ) → goes_before o head a b ≡ false → goes_before o head b c ≡ false → goes_before o head a c ≡ false)

-- What it says of the place that is taken where b, any other candidate, does not go before it: by nearest b is no nearer,
abbrev pub NearestTaken : Type 0
NearestTaken = (head taken b : ℕ) → goes_before Nearest head b taken ≡ false → distance head taken ≤ distance head b

-- and by sweep "the smallest place not below the head, and if there is none, the smallest place of all": where b is not below the head, neither is the place taken, and it is no larger; where the place taken is below the head, so is every other, and it is the smallest of all.
pub record SweptTo (head taken b : ℕ) : Type 0 where
  pub ahead : head ≤ b → (head ≤ taken) × (taken ≤ b)
  pub none_ahead : taken < head → (b < head) × (taken ≤ b)

abbrev pub SweepTaken : Type 0
SweepTaken = (head taken b : ℕ) → goes_before Sweep head b taken ≡ false → SweptTo head taken b

-- Two places are alike in an order where neither goes before the other: by nearest at the same distance, and by sweep where they are the same place.
abbrev pub TiesAreEqual : Type 0
TiesAreEqual =
    (head a b : ℕ)
    → (goes_before Nearest head a b ≡ false → goes_before Nearest head b a ≡ false → distance head a ≡ distance head b)
    × (goes_before Sweep head a b ≡ false → goes_before Sweep head b a ≡ false → a ≡ b)
