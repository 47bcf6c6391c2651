-- The order in which a turn takes the requests of one deadline: which there are, their numbers, and when one place goes before another.
use Rattle.std.specs.Prelude.{Bool, ◌&&◌, ◌||◌, ℕ, ◌-◌, leb, ltb, eqb}
use Rattle.table.specs.Fold.{if}
use Rattle.order.specs.declared.Order.{Order}
use Rattle.order.specs.declared.Order.TheVariants.{Nearest, Sweep}

-- document 02, Req 08: "0 nearest, 1 sweep"
abbrev pub order_number : Order → ℕ
order_number Nearest = 0
order_number Sweep = 1

-- and "another value" is that of no order
abbrev pub is_order : ℕ → Bool
is_order n = leb n 1

-- the order of a number; where it has none, nearest
unfoldable pub order_of : ℕ → Order
order_of n = if (eqb n 1) Sweep Nearest

-- how far a place is from the head, over all 64 bits
unfoldable pub distance : ℕ → ℕ → ℕ
distance head place = if (ltb head place) (place - head) (head - place)

-- Document 02, Req 08: "the smallest place not below the head, and if there is none, the smallest place of all". A place below the head goes only before a larger one that is below it too; any other goes before each that is below, and before each that is larger.
unfoldable pub swept_before : ℕ → ℕ → ℕ → Bool
swept_before head a b = if (ltb a head) (ltb b head && ltb a b) (ltb b head || ltb a b)

-- whether place a is taken before place b: document 01: "the place nearest the head", or by a sweep. Of places of which neither goes before the other there is a tie.
abbrev pub goes_before : Order → ℕ → ℕ → ℕ → Bool
goes_before Nearest head a b = ltb (distance head a) (distance head b)
goes_before Sweep head a b = swept_before head a b
