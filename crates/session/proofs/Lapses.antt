-- The search for the stream that loses a slot: what it has found below a count, and one stream further.
use mathlib.Core.Bool.{Bool, true, false, ◌&&◌, or-false}
use mathlib.Core.Path.{◌≡◌, refl}
use Prim.Native.Nat.{ℕ, suc}
use Rattle.std.proofs.Common.{Option, Some, None}
use Rattle.table.specs.Fold.{if, some_to}
use Rattle.stream.specs.Choice.{first_best}
use Rattle.stream.specs.Search.{goes_first}
use Rattle.stream.proofs.Best.{best_skips, best_starts, best_next}

-- a choice of the stream is one of the whole
whole : (b : Bool) (m n : ℕ) → Some (if b m n) ≡ (if b (Some m) (Some n))
unfolding if
whole true m n = refl
whole false m n = refl

module _ (passes : ℕ → Bool) (beats : ℕ → ℕ → Bool) where
  abbrev pub lapse_to : ℕ → Option ℕ
  lapse_to n = if (some_to passes n) (Some (first_best passes beats n)) None

  -- what it has found with one more, by what it had found
  pub lapse_more : (n : ℕ) → lapse_to (suc n) ≡ (if (passes n && goes_first beats (lapse_to n) n) (Some n) (lapse_to n))
  unfolding some_to if
  lapse_more n = go (passes n) refl (some_to passes n) refl
    where
      go : (p : Bool) → passes n ≡ p → (q : Bool) → some_to passes n ≡ q → lapse_to (suc n) ≡ (if (passes n && goes_first beats (lapse_to n) n) (Some n) (lapse_to n))
      go true here true some =
          rw (best_next passes beats n here some, here, some) (whole (beats n (first_best passes beats n)) n (first_best passes beats n))
      go true here false none = rw (best_starts passes beats n here none, here, none)
      go false fails q e = rw (best_skips passes beats n fails, fails, or-false (some_to passes n))
