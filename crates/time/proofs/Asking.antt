-- What asking for the latest safe moment comes to, by the sign of the sum: the quotient is rounded down below 0 and up above it, since the horizon times the span does not fit 64 bits.
use mathlib.Core.Path.{◌≡◌, refl, sym, ap, ◌∙◌}
use mathlib.Core.Logic.{⊎_elim}
use Rattle.std.proofs.Common.{Some, None}
use Prim.Native.Nat.{ℕ, suc, ◌+◌, ◌-◌, ◌*◌, ◌/◌, ◌^◌, ◌≤◌, ◌<◌}
use native.Mathlib.Nat.{mul-add-div_right}
use native.Mathlib.Omega.{arith}
use lib.Dec.{ltb}
use lib.IntN.{ℤ, pos, negsuc, ◌-ℤ◌}
use borrow.Author.Tests.{lt-ltb, le-ltb, eq-eqb, ne_eqb}
use Rattle.table.specs.Fold.{if}
use Rattle.table.specs.Whole.{above_zero, below_zero}
use Rattle.table.proofs.Tests.{le_or_lt}
use Rattle.table.proofs.Whole.{less_left, less_over, less_less}
use Rattle.time.specs.Time.{moment}
use Rattle.time.specs.Latest.{rounded_down, latest_of}
use Rattle.time.proofs.Rounding.{floor_less, up_low, low_up}

pub no_span : (h : ℕ) (s : ℤ) (span : ℕ) → span ≡ 0 → latest_of h s span ≡ None
unfolding latest_of if
no_span h s span none = rw (eq-eqb span 0 none)

module _ (h : ℕ) (span : ℕ) (some : 0 < span) where
  by_sum : (s : ℤ) (left : ℤ) → left ≡ pos (h * span) -ℤ s → latest_of h s span ≡ rounded_down left span
  unfolding latest_of if
  by_sum s left e = rw (e, ne_eqb span 0 (λ none. omega (arith, some, none)))

  -- above 0 it is sooner
  module _ (s : ℤ) (none : 0 ≡ below_zero s) where
    abbrev sooner : ℕ
    sooner = (above_zero s + (span - 1)) / span

    is_above : (s : ℤ) → 0 ≡ below_zero s → pos (above_zero s) ≡ s
    unfolding above_zero below_zero
    is_above (pos n) none = refl
    is_above (negsuc n) none = absurd (omega (arith, none))

    by_above : (left : ℤ) → left ≡ pos (h * span) -ℤ pos (above_zero s) → latest_of h s span ≡ rounded_down left span
    by_above left e = by_sum s left (e ∙ ap (λ (z : ℤ). pos (h * span) -ℤ z) (is_above s none))

    pub at_sooner : h < 2 ^ 64 → sooner ≤ h → latest_of h s span ≡ Some (moment (h - sooner))
    unfolding rounded_down if
    at_sooner small le =
        by_above _ (sym (less_left (h * span) (above_zero s) (low_up span h (above_zero s) some le)))
        ∙ rw (floor_less span h (above_zero s) some, lt-ltb (h - sooner) (2 ^ 64) (omega (arith, small)))

    pub too_soon : h < sooner → latest_of h s span ≡ None
    unfolding rounded_down
    too_soon l =
        ⊎_elim
        (λ (le : above_zero s ≤ h * span). absurd (omega (arith, l, up_low span h (above_zero s) some le)))
        (λ (more : h * span < above_zero s). by_above _ (sym (less_over (h * span) (above_zero s) more)))
        (le_or_lt (above_zero s) (h * span))

  -- below 0 it is later
  abbrev later : ℤ → ℕ
  later s = below_zero s / span

  below_is : (s : ℤ) → 1 ≤ below_zero s → latest_of h s span ≡ (if (ltb (h + later s) (2 ^ 64)) (Some (moment (h + later s))) None)
  unfolding rounded_down below_zero
  below_is (pos n) more = absurd (omega (arith, more))
  below_is (negsuc n) more = by_sum (negsuc n) (pos (h * span + suc n)) refl ∙ rw (mul-add-div_right some h (suc n))

  pub at_later : (s : ℤ) → 1 ≤ below_zero s → h + later s < 2 ^ 64 → latest_of h s span ≡ Some (moment (h + later s))
  unfolding if
  at_later s more l = below_is s more ∙ rw (lt-ltb (h + later s) (2 ^ 64) l)

  pub too_late : (s : ℤ) → 1 ≤ below_zero s → 2 ^ 64 ≤ h + later s → latest_of h s span ≡ None
  unfolding if
  too_late s more l = below_is s more ∙ rw (le-ltb (h + later s) (2 ^ 64) l)

  -- of a sum that is what the streams may use less what they were charged, it is the horizon and the charges less the parts
  pub of_sums : (charges parts : ℕ) → parts ≤ h * span → h + charges < 2 ^ 64
      → latest_of h (pos parts -ℤ pos (charges * span)) span ≡ Some (moment (((h + charges) * span - parts) / span))
  unfolding rounded_down if
  of_sums charges parts le small =
      let all : (h + charges) * span ≡ h * span + charges * span = omega arith in
      let left : pos ((h + charges) * span - parts) ≡ pos (h * span) -ℤ (pos parts -ℤ pos (charges * span)) =
      ap (λ (n : ℕ). pos (n - parts)) all
      ∙ sym (less_less (h * span) parts (charges * span) ∙ less_left (h * span + charges * span) parts (omega (arith, le))) in
      by_sum _ _ left
      ∙ rw (floor_less span (h + charges) parts some, lt-ltb (h + charges - (parts + (span - 1)) / span) (2 ^ 64) (omega (arith, small)))
