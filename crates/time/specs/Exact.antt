-- Exact moments of clock time: fractions, never rounded.
use Rattle.std.specs.Prelude.{Bool, ℕ, ◌+◌, ◌*◌, ◌/◌, ◌%◌, ◌^◌, ◌≤◌, ◌<◌, ltb, eqb}
use Rattle.time.specs.declared.Exact.{Exact}

-- an exact fraction, and the order of two
pub record Fraction : Type 0 where
  pub above : ℕ
  pub below : ℕ

unfoldable pub less : Fraction → Fraction → Bool
less a b = ltb (a.above * b.below) (b.above * a.below)

unfoldable pub same : Fraction → Fraction → Bool
same a b = eqb (a.above * b.below) (b.above * a.below)

-- What the code keeps of such a fraction follows; no rule stands below.

-- "r + c × p / g": whole microseconds, and what is left over g
abbrev pub paced : ℕ → ℕ → ℕ → ℕ → Exact
paced r c p g = record { whole = r + c * p / g; rest = c * p % g; below = g }

-- the fraction that an exact moment is
abbrev pub fraction_of : Exact → Fraction
fraction_of e = record { above = e.whole * e.below + e.rest; below = e.below }

-- less than a microsecond is left over, and its products fit 64 bits
pub record Proper (e : Exact) : Type 0 where
  pub rest_low : e.rest < e.below
  pub below_high : e.below ≤ 2 ^ 32
