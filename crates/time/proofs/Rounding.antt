-- A number less a fraction, rounded down, by the fraction rounded up.
use mathlib.Core.Bool.{Bool, true, false}
use mathlib.Core.Path.{◌≡◌, refl, sym, ap}
use lib.Dec.{leb}
use borrow.Author.Tests.{leb-true, leb-false}
use Prim.Native.Nat.{ℕ, ◌+◌, ◌-◌, ◌*◌, ◌/◌, ◌≤◌, ◌<◌}
use native.Mathlib.Nat.{mul-le-mul_right, div-mul-le_self, lt-div-mul-add, div-eq_of_lt-le, div-lt_iff_lt-mul}
use Rattle.std.specs.Int.{div_ceil}
use Rattle.std.proofs.lemmas.Grind.{div_ceil_times}
use native.Mathlib.Omega.{arith}

module _ (m x n : ℕ) (hm : 0 < m) where
  up : ℕ
  up = (n + (m - 1)) / m

  over : n ≤ up * m
  unfolding up
  over = let h : n + (m - 1) < up * m + m = lt-div-mul-add hm in omega arith

  under : up * m ≤ n + (m - 1)
  unfolding up
  under = div-mul-le_self (n + (m - 1)) m

  low : up ≤ x → (x * m - n) / m ≡ x - up
  low h =
      let whole : x - up + up ≡ x = omega arith in
      let scaled = ap (λ (y : ℕ). y * m) whole in
      div-eq_of_lt-le m (omega (arith, over, under, scaled)) (omega (arith, over, under, scaled))

  high : x < up → (x * m - n) / m ≡ x - up
  high h =
      let scaled = mul-le-mul_right m h in
      let none : x - up ≡ 0 = omega arith in
      div-eq_of_lt-le m (rw none (omega arith)) (rw none (omega (arith, over, under, scaled)))

  pub floor_less : (x * m - n) / m ≡ x - (n + (m - 1)) / m
  unfolding up
  floor_less = go (leb up x) refl
    where
      go : (b : Bool) → leb up x ≡ b → (x * m - n) / m ≡ x - up
      go true e = low (leb-true up x e)
      go false e = high (leb-false up x e)

-- a fraction of at most x, rounded up, is at most x
pub up_low : (m x n : ℕ) → 0 < m → n ≤ x * m → (n + (m - 1)) / m ≤ x
up_low m x n hm le = let l : (n + (m - 1)) / m < x + 1 = (div-lt_iff_lt-mul hm).1 (omega arith) in omega arith

-- and at most x only if the fraction is
pub low_up : (m x n : ℕ) → 0 < m → (n + (m - 1)) / m ≤ x → n ≤ x * m
low_up m x n hm le = let scaled = mul-le-mul_right m le in let high : n + (m - 1) < (n + (m - 1)) / m * m + m = lt-div-mul-add hm in omega (arith, scaled, high)

-- `div_ceil` rounds up
pub up_is : (m n : ℕ) → 0 < m → div_ceil n m ≡ (n + (m - 1)) / m
up_is m n hm =
    let near = div_ceil_times n m hm in
    sym (div-eq_of_lt-le m (omega (arith, near.0, near.1)) (omega (arith, near.0, near.1)))
