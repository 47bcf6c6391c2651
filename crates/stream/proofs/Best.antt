-- The first that no other beats: it is one of those that pass, and each further index either leaves it or takes its place.
use mathlib.Core.Bool.{Bool, true, false, false≢true}
use mathlib.Core.Path.{◌≡◌, refl}
use Prim.Native.Nat.{ℕ, zero, suc, ◌≤◌, ◌<◌}
use native.Mathlib.Omega.{arith}
use lib.Dec.{leb}
use borrow.Author.Tests.{leb-true}
use Rattle.table.specs.Fold.{if, some_to}
use Rattle.table.proofs.Tests.{by_if}
use Rattle.table.proofs.Folds.{some_none}
use Rattle.stream.specs.Choice.{first_best}

module _ (passes : ℕ → Bool) (beats : ℕ → ℕ → Bool) where
  abbrev best : ℕ → ℕ
  best = first_best passes beats

  -- it is below the count, if anything is
  pub best_low : (n : ℕ) → best (suc n) ≤ n
  unfolding first_best
  best_low zero = by_if (λ (b : ℕ). b ≤ 0) _ 0 0 (λ h. omega arith) (λ h. omega arith)
  best_low (suc n) =
      by_if (λ (b : ℕ). b ≤ suc n) _ (suc n) (best (suc n)) (λ h. omega arith) (λ h. omega (arith, best_low n))

  -- an index that does not pass leaves it
  pub best_skips : (n : ℕ) → passes n ≡ false → best (suc n) ≡ best n
  unfolding first_best if
  best_skips n fails = rw fails

  -- the first index that passes is it
  pub best_starts : (n : ℕ) → passes n ≡ true → some_to passes n ≡ false → best (suc n) ≡ n
  unfolding first_best if
  best_starts zero here none = omega (arith, best_low zero)
  best_starts (suc n) here none =
      let fails = some_none passes (suc n) none (best (suc n)) (omega (arith, best_low n)) in
      rw (here, fails)

  -- a later one that passes takes its place exactly if it beats it
  pub best_meets : (n : ℕ) → passes n ≡ true → passes (best n) ≡ true → best (suc n) ≡ if (beats n (best n)) n (best n)
  unfolding first_best
  best_meets n here there = rw (here, there)

  -- where one passes, it passes
  pub best_passes : (n : ℕ) → some_to passes n ≡ true → passes (best n) ≡ true
  unfolding some_to
  best_passes zero some = absurd (false≢true some)
  best_passes (suc n) some = go (passes n) refl (some_to passes n) refl (best_passes n)
    where
      go : (p : Bool) → passes n ≡ p → (q : Bool) → some_to passes n ≡ q → (some_to passes n ≡ true → passes (best n) ≡ true) → passes (best (suc n)) ≡ true
      go true here true e before =
          rw (best_meets n here (before e)) (by_if (λ b. passes b ≡ true) _ n (best n) (λ h. here) (λ h. before e))
      go true here false e before = rw (best_starts n here e) here
      go false fails true e before = rw (best_skips n fails) (before e)
      go false fails false e before = absurd (false≢true (rw (e, fails) at some))

  -- and it is below the count
  pub best_below : (n : ℕ) → some_to passes n ≡ true → best n < n
  unfolding some_to
  best_below zero some = absurd (false≢true some)
  best_below (suc n) some = omega (arith, best_low n)

  -- a later one that passes, where one did before
  pub best_next : (n : ℕ) → passes n ≡ true → some_to passes n ≡ true → best (suc n) ≡ if (beats n (best n)) n (best n)
  best_next n here some = best_meets n here (best_passes n some)

-- where some one has 1 or more, so has the best of those
pub best_positive : (f : ℕ → ℕ) (beats : ℕ → ℕ → Bool) (n : ℕ) → some_to (λ i. leb 1 (f i)) n ≡ true
    → (first_best (λ i. leb 1 (f i)) beats n < n) × (1 ≤ f (first_best (λ i. leb 1 (f i)) beats n))
best_positive f beats n some =
    (best_below (λ i. leb 1 (f i)) beats n some, leb-true 1 _ (best_passes (λ i. leb 1 (f i)) beats n some))
