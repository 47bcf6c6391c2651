-- Two exact moments are compared by their whole parts, and then by their rests crosswise.
use mathlib.Core.Bool.{true, false, ◌&&◌, ◌||◌}
use mathlib.Core.Path.{◌≡◌, refl, ap}
use mathlib.Core.Logic.{◌⊎◌, inl, inr, ⊎_elim}
use Prim.Native.Nat.{ℕ, suc, ◌+◌, ◌*◌, ◌≤◌, ◌<◌}
use native.Mathlib.Nat.{mul-le-mul_right, mul_comm, mul-lt-mul_of_pos_right, le_of_lt}
use native.Mathlib.Decide.{dec_le}
use native.Mathlib.Omega.{arith}
use lib.Dec.{ltb, eqb}
use borrow.Author.Tests.{lt-ltb, le-ltb, ne_eqb, eq-eqb}
use Rattle.time.specs.Exact.{less, same, fraction_of, Proper}
use Rattle.time.specs.declared.Exact.{Exact}

le_or_lt : (a b : ℕ) → (a ≤ b) ⊎ (b < a)
le_or_lt a b = go (dec_le a b)
  where
    go : Dec (a ≤ b) → (a ≤ b) ⊎ (b < a)
    go (yes h) = inl h
    go (no h) = inr (omega arith)

-- of two numbers one is less, or they are the same: what both tests then say
three : (a b : ℕ) {P : Type 0} → (a < b → P) → (a ≡ b → P) → (b < a → P) → P
three a b less same more = ⊎_elim (λ (l : a ≤ b). ⊎_elim (λ (k : b ≤ a). same (omega arith)) less (le_or_lt b a)) more (le_or_lt a b)

less_tests : (a b : ℕ) → a < b → (ltb a b ≡ true) × (eqb a b ≡ false)
less_tests a b l = (lt-ltb a b l, ne_eqb a b (λ e. omega arith))

same_tests : (a b : ℕ) → a ≡ b → (ltb a b ≡ false) × (eqb a b ≡ true)
same_tests a b e = (le-ltb a b (omega arith), eq-eqb a b e)

more_tests : (a b : ℕ) → b < a → (ltb a b ≡ false) × (eqb a b ≡ false)
more_tests a b l = (le-ltb a b (le_of_lt l), ne_eqb a b (λ e. omega arith))

-- two numbers by a common unit u: x × u + v and y × u + w, where v and w are below it
module _ (u x v y w : ℕ) (hv : v < u) (hw : w < u) where
  step : {m n : ℕ} → m < n → m * u + u ≤ n * u
  step {m} {n} l = let scaled = mul-le-mul_right {m = suc m} u l in omega arith

  abbrev Agree : Type 0
  Agree =
      (ltb (x * u + v) (y * u + w) ≡ (ltb x y || (eqb x y && ltb v w)))
      × (eqb (x * u + v) (y * u + w) ≡ (eqb x y && eqb v w))

  below : x < y → Agree
  below l =
      let s = step l in
      let part = less_tests x y l in
      let all = less_tests (x * u + v) (y * u + w) (omega arith) in
      rw (part.0, part.1, all.0, all.1) (refl, refl)

  above : y < x → Agree
  above l =
      let s = step l in
      let part = more_tests x y l in
      let all = more_tests (x * u + v) (y * u + w) (omega arith) in
      rw (part.0, part.1, all.0, all.1) (refl, refl)

  level : x ≡ y → Agree
  level e =
      let scaled = ap (λ (z : ℕ). z * u) e in
      let part = same_tests x y e in
      rw (part.0, part.1)
      (three v w
      (λ l. let rest = less_tests v w l in let all = less_tests (x * u + v) (y * u + w) (omega arith) in rw (rest.0, rest.1, all.0, all.1) (refl, refl))
      (λ k. let rest = same_tests v w k in let all = same_tests (x * u + v) (y * u + w) (omega arith) in rw (rest.0, rest.1, all.0, all.1) (refl, refl))
      (λ l. let rest = more_tests v w l in let all = more_tests (x * u + v) (y * u + w) (omega arith) in rw (rest.0, rest.1, all.0, all.1) (refl, refl)))

  pub by_parts : Agree
  by_parts = three x y below level above

-- Of exact moments with less than a microsecond left over: earlier, and the same.
module _ (a b : Exact) (pa : Proper a) (pb : Proper b) where
  abbrev unit : ℕ
  unit = a.below * b.below

  abbrev rest_a : ℕ
  rest_a = a.rest * b.below

  abbrev rest_b : ℕ
  rest_b = b.rest * a.below

  one : (a.whole * a.below + a.rest) * b.below ≡ a.whole * unit + rest_a
  one = omega arith

  other : (b.whole * b.below + b.rest) * a.below ≡ b.whole * unit + rest_b
  other = omega arith

  rest_a_low : rest_a < unit
  rest_a_low = mul-lt-mul_of_pos_right pa.rest_low (omega (arith, pb.rest_low))

  rest_b_low : rest_b < unit
  rest_b_low = rw (mul_comm a.below b.below) (mul-lt-mul_of_pos_right pb.rest_low (omega (arith, pa.rest_low)))

  pub exact_before : less (fraction_of a) (fraction_of b) ≡ (ltb a.whole b.whole || (eqb a.whole b.whole && ltb rest_a rest_b))
  unfolding less
  exact_before = rw (one, other) (by_parts unit a.whole rest_a b.whole rest_b rest_a_low rest_b_low).0

  pub exact_same : same (fraction_of a) (fraction_of b) ≡ (eqb a.whole b.whole && eqb rest_a rest_b)
  unfolding same
  exact_same = rw (one, other) (by_parts unit a.whole rest_a b.whole rest_b rest_a_low rest_b_low).1
