-- Counters of loops over the eight streams, or over the first n of some things.
use mathlib.Core.Path.{◌≡◌}
use Prim.Native.Nat.{ℕ, ◌+◌, ◌-◌, ◌≤◌, ◌<◌}
use native.Mathlib.Omega.{arith}
use mir.Syntax.{w64}
use mir.Val.{Fits}

pub next_fits : (i : ℕ) → i < 8 → Fits w64 (i + 1)
next_fits i l = omega (arith, l)

pub below_eight : (i n : ℕ) → i < n → n ≤ 8 → i < 8
below_eight i n l le = omega (arith, l, le)

pub none_passed : (n : ℕ) → 0 ≤ n
none_passed n = omega arith

pub one_passed : (i n : ℕ) → i < n → i + 1 ≤ n
one_passed i n l = omega (arith, l)

pub all_passed : (i n : ℕ) → i ≤ n → n ≤ i → i ≡ n
all_passed i n le past = omega (arith, le, past)

pub fewer : (n i : ℕ) → i < n → n - (i + 1) < n - i
fewer n i l = omega (arith, l)
