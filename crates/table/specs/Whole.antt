-- Whole numbers of either sign. Such a number is `pos n`, which is n, or `negsuc n`, which is -(n + 1).
use Rattle.std.specs.Prelude.{Bool, false, ℕ, zero, suc, eqb, ℤ, pos, negsuc, ◌+ℤ◌}

-- whether two are the same
unfoldable pub eq_z : ℤ → ℤ → Bool
eq_z (pos a) (pos b) = eqb a b
eq_z (pos a) (negsuc b) = false
eq_z (negsuc a) (pos b) = false
eq_z (negsuc a) (negsuc b) = eqb a b

-- how far one is above 0, and how far below; 0 where it is not
unfoldable pub above_zero : ℤ → ℕ
above_zero (pos n) = n
above_zero (negsuc n) = 0

unfoldable pub below_zero : ℤ → ℕ
below_zero (pos n) = 0
below_zero (negsuc n) = suc n

-- f 0 + .. + f (n - 1), where each has a sign of its own
unfoldable pub signed_sum_to : (ℕ → ℤ) → ℕ → ℤ
signed_sum_to f zero = pos 0
signed_sum_to f (suc n) = signed_sum_to f n +ℤ f n
