-- Whole numbers of either sign: differences, the test of two for being one, and how 64 bits hold them. `of_z` gives the bits of a number, and `to_z` the number that bits stand for.
use mathlib.Core.Bool.{true, false, ◌&&◌, false≢true}
use mathlib.Core.Path.{◌≡◌, refl, sym, subst, ◌∙◌, ap}
use mathlib.Core.Logic.{⊎_elim}
use Prim.Native.Nat.{ℕ, zero, suc, ◌+◌, ◌-◌, ◌≤◌, ◌<◌, ◌^◌}
use native.Mathlib.Omega.{arith}
use lib.Dec.{eqb}
use lib.IntN.{ℤ, pos, negsuc, nat_abs, neg_ℤ, sub_ℕ, ◌+ℤ◌, ◌-ℤ◌, +ℤ_assoc, +ℤ_comm, neg_ℤ-+ℤ, neg_ℤ-neg_ℤ}
use lib.Signed.{lt_z, le_z}
use Rattle.std.specs.Int.{int_max, int_min}
use mir.Syntax.{w64}
use mir.Val.{SFits, to_z, of_z}
use mir.ValLaws.{to_z_pos, to_z-of_z}
use borrow.Author.Tests.{lt-ltb, le-ltb, le-leb, eq-eqb, ne_eqb, eqb-true}
use Rattle.table.specs.Fold.{sum_to}
use Rattle.table.specs.Whole.{eq_z, above_zero, below_zero, signed_sum_to}
use Rattle.table.specs.Margin.{less_load}
use Rattle.table.proofs.Tests.{le_or_lt, same_test}

-- a difference is what is left, or what is over
sub_over : (a b : ℕ) → a < b → sub_ℕ a b ≡ negsuc (b - suc a)
sub_over a b l = rw (lt-ltb a b l)

pub less_left : (a b : ℕ) → b ≤ a → less_load a b ≡ pos (a - b)
less_left a zero l = ap pos (let e : a + 0 ≡ a - 0 = omega arith in e)
less_left a (suc b) l = rw (le-ltb a (suc b) l)

pub less_over : (a b : ℕ) → a < b → less_load a b ≡ negsuc (b - suc a)
less_over a zero l = absurd (omega arith)
less_over a (suc b) l = sub_over a (suc b) l

-- it is at most the first above 0, and at most the second below
pub less_above : (a b : ℕ) → above_zero (pos a -ℤ pos b) ≤ a
unfolding above_zero
less_above a b =
    ⊎_elim
    (λ (l : b ≤ a). rw (less_left a b l) (omega arith))
    (λ (l : a < b). rw (less_over a b l) (omega arith))
    (le_or_lt b a)

pub less_below : (a b : ℕ) → below_zero (pos a -ℤ pos b) ≤ b
unfolding below_zero
less_below a b =
    ⊎_elim
    (λ (l : b ≤ a). rw (less_left a b l) (omega arith))
    (λ (l : a < b). rw (less_over a b l) (omega (arith, l)))
    (le_or_lt b a)

-- of two numbers of 63 bits the difference is read as it is
pub record Difference (a b : ℕ) : Type 0 where
  pub fits : SFits w64 (to_z w64 a -ℤ to_z w64 b)
  pub is : to_z w64 (of_z w64 (to_z w64 a -ℤ to_z w64 b)) ≡ pos a -ℤ pos b

less_fits : (a b : ℕ) → a < 2 ^ 63 → b < 2 ^ 63 → SFits w64 (pos a -ℤ pos b)
less_fits a b k l =
    ⊎_elim
    (λ (u : b ≤ a). subst (SFits w64) (sym (less_left a b u)) (record { sfits = omega arith }))
    (λ (u : a < b). subst (SFits w64) (sym (less_over a b u)) (record { sfits = omega arith }))
    (le_or_lt b a)

pub difference : (a b : ℕ) → a < 2 ^ 63 → b < 2 ^ 63 → Difference a b
difference a b k l =
    let same : to_z w64 a -ℤ to_z w64 b ≡ pos a -ℤ pos b = ap (λ (z : ℤ). z -ℤ to_z w64 b) (to_z_pos w64 a k) ∙ ap (λ (z : ℤ). pos a -ℤ z) (to_z_pos w64 b l) in
    let fits = subst (SFits w64) (sym same) (less_fits a b k l) in
    record { fits = fits; is = to_z-of_z w64 _ fits ∙ same }

one_up : (n : ℕ) → negsuc n +ℤ pos 1 ≡ neg_ℤ (pos n)
one_up zero = refl
one_up (suc n) = sub_over 1 (suc (suc n)) (omega arith) ∙ ap negsuc (let e : suc (suc n) - 2 ≡ n = omega arith in e)

turns : (n : ℕ) → pos 0 -ℤ neg_ℤ (pos n) ≡ pos n
turns zero = refl
turns (suc n) = ap pos (let e : 0 + suc n ≡ suc n = omega arith in e)

neg_fits : (n : ℕ) → n < 2 ^ 63 → SFits w64 (neg_ℤ (pos n))
neg_fits zero l = record { sfits = omega arith }
neg_fits (suc n) l = record { sfits = omega arith }

-- a number and 1
abbrev up : ℤ → ℤ
up z = to_z w64 (of_z w64 z) +ℤ pos 1

-- and that turned
abbrev turned : ℤ → ℤ
turned z = pos 0 -ℤ to_z w64 (of_z w64 (up z))

-- what is known of a number below 0
pub record Below (z : ℤ) : Type 0 where
  pub up_fits : SFits w64 (up z)
  pub turned_fits : SFits w64 (turned z)
  pub is_turned : to_z w64 (of_z w64 (turned z)) ≡ pos (below_zero z - 1)
  pub parts : nat_abs (to_z w64 (of_z w64 z)) ≡ below_zero z
  pub some : 1 ≤ below_zero z
  pub few : below_zero z ≤ 2 ^ 63
  pub none : 0 ≡ above_zero z

pub below : (z : ℤ) → SFits w64 z → lt_z (to_z w64 (of_z w64 z)) (pos 0) ≡ true → Below z
unfolding above_zero below_zero
below (pos n) f l = absurd (false≢true (sym (ap (λ (x : ℤ). lt_z x (pos 0)) (to_z-of_z w64 (pos n) f) ∙ le-ltb n 0 (omega arith)) ∙ l))
below (negsuc n) f l =
    let is_up = ap (λ (x : ℤ). x +ℤ pos 1) (to_z-of_z w64 (negsuc n) f) ∙ one_up n in
    let fits = neg_fits n f.sfits in
    let up_fits = subst (SFits w64) (sym is_up) fits in
    let is_turned = ap (λ (x : ℤ). pos 0 -ℤ x) (to_z-of_z w64 (up (negsuc n)) up_fits ∙ is_up) ∙ turns n in
    let turned_fits = subst (SFits w64) (sym is_turned) (record { sfits = f.sfits }) in
    record {
      up_fits = up_fits;
      turned_fits = turned_fits;
      is_turned = to_z-of_z w64 (turned (negsuc n)) turned_fits ∙ is_turned ∙ ap pos (let e : n ≡ suc n - 1 = omega arith in e);
      parts = ap nat_abs (to_z-of_z w64 (negsuc n) f);
      some = omega arith;
      few = f.sfits;
      none = refl;
    }

-- and of one that is not
pub record NotBelow (z : ℤ) : Type 0 where
  pub is : to_z w64 (of_z w64 z) ≡ pos (above_zero z)
  pub parts : nat_abs (to_z w64 (of_z w64 z)) ≡ above_zero z
  pub few : above_zero z < 2 ^ 63
  pub none : 0 ≡ below_zero z

pub not_below : (z : ℤ) → SFits w64 z → lt_z (to_z w64 (of_z w64 z)) (pos 0) ≡ false → NotBelow z
unfolding above_zero below_zero
not_below (pos n) f l = record { is = to_z-of_z w64 (pos n) f; parts = ap nat_abs (to_z-of_z w64 (pos n) f); few = f.sfits; none = refl }
not_below (negsuc n) f l = absurd (false≢true (sym l ∙ ap (λ (x : ℤ). lt_z x (pos 0)) (to_z-of_z w64 (negsuc n) f)))

-- the test of two numbers says whether they are one
pub same_is : (a b : ℤ) → eq_z a b ≡ true → a ≡ b
unfolding eq_z
same_is (pos a) (pos b) t = ap pos (eqb-true a b t)
same_is (pos a) (negsuc b) t = absurd (false≢true t)
same_is (negsuc a) (pos b) t = absurd (false≢true t)
same_is (negsuc a) (negsuc b) t = ap negsuc (eqb-true a b t)

pub is_same : (a b : ℤ) → a ≡ b → eq_z a b ≡ true
unfolding eq_z
is_same a b e = ap (eq_z a) (sym e) ∙ self a
  where
    self : (a : ℤ) → eq_z a a ≡ true
    self (pos a) = eq-eqb a a refl
    self (negsuc a) = eq-eqb a a refl

-- what is left is so much where the number is not below 0 and is so far above it
pub left_is : (z : ℤ) (left n : ℕ) → SFits w64 z → left ≡ above_zero z → (le_z (pos 0) (to_z w64 (of_z w64 z)) && eqb left n) ≡ eq_z z (pos n)
unfolding above_zero eq_z
left_is (pos m) left n f e = rw (to_z-of_z w64 (pos m) f, e, le-leb 0 m (omega arith))
left_is (negsuc m) left n f e = rw (to_z-of_z w64 (negsuc m) f)

-- differences are added part by part, and taken off turned round
pub add_less : (a b c d : ℕ) → (pos a -ℤ pos b) +ℤ (pos c -ℤ pos d) ≡ pos (a + c) -ℤ pos (b + d)
add_less a b c d =
    let u = neg_ℤ (pos b) in
    let v = neg_ℤ (pos d) in
    +ℤ_assoc (pos a) u (pos c +ℤ v)
    ∙ ap (λ (z : ℤ). pos a +ℤ z) (sym (+ℤ_assoc u (pos c) v) ∙ ap (λ (z : ℤ). z +ℤ v) (+ℤ_comm u (pos c)) ∙ +ℤ_assoc (pos c) u v)
    ∙ sym (+ℤ_assoc (pos a) (pos c) (u +ℤ v))
    ∙ ap (λ (z : ℤ). pos (a + c) +ℤ z) (sym (neg_ℤ-+ℤ (pos b) (pos d)))

pub less_less : (a b c : ℕ) → pos a -ℤ (pos b -ℤ pos c) ≡ pos (a + c) -ℤ pos b
less_less a b c =
    ap (λ (z : ℤ). pos a +ℤ z) (neg_ℤ-+ℤ (pos b) (neg_ℤ (pos c)) ∙ ap (λ (z : ℤ). neg_ℤ (pos b) +ℤ z) (neg_ℤ-neg_ℤ (pos c)) ∙ +ℤ_comm (neg_ℤ (pos b)) (pos c))
    ∙ sym (+ℤ_assoc (pos a) (pos c) (neg_ℤ (pos b)))

pub less_more : (a b c : ℕ) → pos a -ℤ pos (b + c) ≡ (pos a -ℤ pos b) -ℤ pos c
less_more a b c = ap (λ (z : ℤ). pos a +ℤ z) (neg_ℤ-+ℤ (pos b) (pos c)) ∙ sym (+ℤ_assoc (pos a) (neg_ℤ (pos b)) (neg_ℤ (pos c)))

-- and so are sums of them
pub sum_less : (f g : ℕ → ℕ) (n : ℕ) → signed_sum_to (λ i. pos (f i) -ℤ pos (g i)) n ≡ pos (sum_to f n) -ℤ pos (sum_to g n)
unfolding signed_sum_to sum_to
sum_less f g zero = refl
sum_less f g (suc n) = ap (λ (z : ℤ). z +ℤ (pos (f n) -ℤ pos (g n))) (sum_less f g n) ∙ add_less (sum_to f n) (sum_to g n) (f n) (g n)

-- two numbers are the same where their bits are
pub same_bits : (a b : ℤ) → SFits w64 a → SFits w64 b → eqb (of_z w64 a) (of_z w64 b) ≡ eq_z a b
unfolding eq_z
same_bits (pos a) (pos b) f g = refl
same_bits (pos a) (negsuc b) f g = ne_eqb a (2 ^ 64 - suc b) (λ e. omega (arith, f.sfits, g.sfits, e))
same_bits (negsuc a) (pos b) f g = ne_eqb (2 ^ 64 - suc a) b (λ e. omega (arith, f.sfits, g.sfits, e))
same_bits (negsuc a) (negsuc b) f g =
    same_test _ _
    (λ t. eq-eqb a b (let e = eqb-true (2 ^ 64 - suc a) (2 ^ 64 - suc b) t in omega (arith, f.sfits, g.sfits, e)))
    (λ t. eq-eqb _ _ (ap (λ (n : ℕ). 2 ^ 64 - suc n) (eqb-true a b t)))

-- a number less one of 63 bits, where that has 63 bits and a sign
pub record Lessened (z : ℤ) (b : ℕ) : Type 0 where
  pub fits : SFits w64 (to_z w64 (of_z w64 z) -ℤ to_z w64 b)
  pub is : to_z w64 (of_z w64 (to_z w64 (of_z w64 z) -ℤ to_z w64 b)) ≡ z -ℤ pos b

lessened_fits : (z : ℤ) (b : ℕ) → above_zero z < 2 ^ 63 → below_zero z + b < 2 ^ 63 → SFits w64 (z -ℤ pos b)
unfolding above_zero below_zero
lessened_fits (pos a) b k l = less_fits a b k (omega arith)
lessened_fits (negsuc a) zero k l = subst (SFits w64) (sym (sub_over 0 (suc a) (omega arith))) (record { sfits = omega arith })
lessened_fits (negsuc a) (suc b) k l = record { sfits = omega arith }

pub lessened : (z : ℤ) (b : ℕ) → SFits w64 z → above_zero z < 2 ^ 63 → below_zero z + b < 2 ^ 63 → Lessened z b
lessened z b f k l =
    let same : to_z w64 (of_z w64 z) -ℤ to_z w64 b ≡ z -ℤ pos b =
    ap (λ (y : ℤ). y -ℤ to_z w64 b) (to_z-of_z w64 z f) ∙ ap (λ (y : ℤ). z -ℤ y) (to_z_pos w64 b (omega arith)) in
    let fits = subst (SFits w64) (sym same) (lessened_fits z b k l) in
    record { fits = fits; is = to_z-of_z w64 _ fits ∙ same }

-- the larger of a number and 0, and the smaller, by how far they are from 0
pub larger_is : (z : ℤ) → SFits w64 z → nat_abs (to_z w64 (of_z w64 (int_max (to_z w64 (of_z w64 z)) (pos 0)))) ≡ above_zero z
unfolding above_zero
larger_is z f = rw (to_z-of_z w64 z f) (go z f)
  where
    go : (z : ℤ) → SFits w64 z → nat_abs (to_z w64 (of_z w64 (int_max z (pos 0)))) ≡ above_zero z
    go (pos zero) f = refl
    go (pos (suc n)) f = rw (lt-ltb 0 (suc n) (omega arith)) (ap nat_abs (to_z-of_z w64 (pos (suc n)) f))
    go (negsuc n) f = refl

pub smaller_is : (z : ℤ) → SFits w64 z → nat_abs (to_z w64 (of_z w64 (int_min (to_z w64 (of_z w64 z)) (pos 0)))) ≡ below_zero z
unfolding below_zero
smaller_is z f = rw (to_z-of_z w64 z f) (go z f)
  where
    go : (z : ℤ) → SFits w64 z → nat_abs (to_z w64 (of_z w64 (int_min z (pos 0)))) ≡ below_zero z
    go (pos zero) f = refl
    go (pos (suc n)) f = rw (lt-ltb 0 (suc n) (omega arith))
    go (negsuc n) f = ap nat_abs (to_z-of_z w64 (negsuc n) f)
