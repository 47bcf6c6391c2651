-- The first number of some that is not 0, and where it stands.
use mathlib.Core.Path.{◌≡◌, refl}
use mathlib.Core.Logic.{◌⊎◌, inl, inr}
use Prim.Native.Nat.{ℕ, zero, suc, ◌+◌, ◌<◌}
use native.Mathlib.Omega.{arith}
use borrow.Author.Tests.{ne_eqb, eq-eqb}
use Rattle.table.specs.Refusal.{given, ◌or_next◌, first_to}
use Rattle.table.proofs.Tests.{or_next_first}
use Rattle.terms.specs.Terms.{numbered}

pub record Found (f : ℕ → ℕ) (n : ℕ) : Type 0 where
  pub at : ℕ
  pub below : at < n
  pub stands : first_to (numbered f) n ≡ at + 1
  pub first : first_to f n ≡ f at
  pub some : f at ≡ 0 → ⊥

pub record NoneFound (f : ℕ → ℕ) (n : ℕ) : Type 0 where
  pub nowhere : first_to (numbered f) n ≡ 0
  pub none : first_to f n ≡ 0

module _ (f : ℕ → ℕ) where
  pub numbered_none : (n : ℕ) → f n ≡ 0 → numbered f n ≡ 0
  unfolding numbered given
  numbered_none n z = rw (eq-eqb (f n) 0 z)

  pub numbered_some : (n : ℕ) → (f n ≡ 0 → ⊥) → numbered f n ≡ n + 1
  unfolding numbered given
  numbered_some n h = rw (ne_eqb (f n) 0 h)

  later : {n : ℕ} → Found f n → Found f (suc n)
  unfolding first_to
  later {n} k =
      record {
        at = k.at;
        below = omega (arith, k.below);
        stands = rw k.stands (or_next_first (k.at + 1) (numbered f n) (λ z. omega arith));
        first = rw k.first (or_next_first (f k.at) (f n) k.some);
        some = k.some;
      }

  here : {n : ℕ} → NoneFound f n → (v : ℕ) → f n ≡ v → NoneFound f (suc n) ⊎ Found f (suc n)
  unfolding first_to ◌or_next◌
  here {n} k zero e = inl (record { nowhere = rw k.nowhere (numbered_none n e); none = rw k.none e })
  here {n} k (suc v) e =
      let some : f n ≡ 0 → ⊥ = λ z. omega (arith, z, e) in
      inr
      (record { at = n; below = omega arith; stands = rw k.nowhere (numbered_some n some); first = rw k.none; some = some })

  pub search_first : (n : ℕ) → NoneFound f n ⊎ Found f n
  unfolding first_to
  search_first zero = inl (record { nowhere = refl; none = refl })
  search_first (suc n) = go (search_first n)
    where
      go : NoneFound f n ⊎ Found f n → NoneFound f (suc n) ⊎ Found f (suc n)
      go (inl k) = here k (f n) refl
      go (inr k) = inr (later k)
