-- The request of a queue that goes first, step by step, and that it does.
use mathlib.Core.Bool.{Bool, true, false}
use mathlib.Core.List.{List}
use mathlib.Core.Path.{◌≡◌, refl}
use Prim.Native.Nat.{ℕ, zero, suc, ◌≤◌, ◌<◌}
use native.Mathlib.Nat.{not-suc-le-zero, suc-le-suc_iff}
use native.Mathlib.Omega.{arith}
use lib.ListN.{get_or}
use Rattle.table.specs.Fold.{if}
use Rattle.order.specs.Order.{goes_before}
use Rattle.stream.specs.Choice.{first_best, leading}
use Rattle.stream.specs.Search.{lead, foremost}
use Rattle.stream.specs.Laws.{LeadingIsFirst}
use Rattle.stream.specs.declared.choice.Lead.{Lead}
use Rattle.stream.proofs.Best.{best_low}
use Rattle.stream.proofs.Ranks.{place_ranks}
use Rattle.stream.proofs.First.{best_leads}

-- by any comparison
module _ (before : ℕ → ℕ → Bool) (places : List ℕ) where
  -- one more place is taken exactly if it goes before the best
  pub lead_next : (j : ℕ) → foremost before (lead before places j) j (get_or places j 0) ≡ lead before places (suc j)
  unfolding leading first_best foremost if
  lead_next j = go (before (get_or places j 0) (get_or places (leading before places j) 0))
    where
      go : (b : Bool) → ◌≡◌ {A = Lead} (if b (record { index = j; place = get_or places j 0 }) (lead before places j))
          (record { index = if b j (leading before places j); place = get_or places (if b j (leading before places j)) 0 })
      go true = refl
      go false = refl

  -- the leading one of some requests is one of them
  pub leading_in : (m : ℕ) → 1 ≤ m → leading before places m < m
  unfolding leading
  leading_in zero h = absurd (not-suc-le-zero h)
  leading_in (suc m) h = suc-le-suc_iff.1 (best_low _ _ m)

-- by either order it goes first, and of equals the earliest
pub leading_is_first : LeadingIsFirst
unfolding leading
leading_is_first order head places m j l =
    let at : ℕ → ℕ = λ i. get_or places i 0 in
    let leads = best_leads (λ i. true) (λ a b. goes_before order head (at a) (at b)) m (place_ranks order head at m) m (omega arith) j l refl in
    (leading_in (goes_before order head) places m (omega arith), leads.0, leads.1)
