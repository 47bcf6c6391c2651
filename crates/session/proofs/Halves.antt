-- The two halves of the promise's invariant. With q = g × (H / p) for a stream, and u = r × q + c × H for what it has used of it, both scaled by H: each stream has room, u ≤ h × q; and the clock is in time, t × H + h × Q ≤ h × H + U for the sums Q and U. Nothing is subtracted.
use mathlib.Core.Path.{◌≡◌, sym, ◌∙◌, ap, subst}
use mathlib.Core.Logic.{⊎_elim}
use Prim.Native.Nat.{ℕ, ◌+◌, ◌-◌, ◌*◌, ◌/◌, ◌≤◌, ◌<◌}
use native.Mathlib.Nat.{div-add-mod', mul-le-mul_right, le_of_mul-le-mul_right, lt_of_mul-lt-mul_right}
use native.Mathlib.Omega.{arith}
use Rattle.table.specs.Fold.{sum_to}
use Rattle.table.specs.Admission.{share_at, shares_of, load_of}
use Rattle.table.proofs.Tests.{le_or_lt}
use Rattle.table.proofs.Folds.{sum_le, sum_scaled, sum_agree}
use Rattle.session.specs.Session.{stream_at, horizon, slots_at, table_of}
use Rattle.stream.specs.declared.Stream.{Stream}
use Rattle.session.specs.declared.Session.{Session}
use Rattle.stream.proofs.Slots.{slot_fits}
use Rattle.session.proofs.Sound.{Sound, admits, bounded, reservation}
use Rattle.session.proofs.Remainders.{share_is}

abbrev pub rate : ℕ → Stream → ℕ
rate span x = x.granted.0 * (span / x.period)

abbrev pub used : ℕ → Stream → ℕ
used span x = x.release.0 * rate span x + x.charge.0 * span

abbrev pub rate_at : Session → ℕ → ℕ
rate_at s i = rate s.span (stream_at s i)

abbrev pub used_at : Session → ℕ → ℕ
used_at s i = used s.span (stream_at s i)

-- the first half: each stream has room
abbrev pub Room : Session → Type 0
Room s = (i : ℕ) → i < s.count → used_at s i ≤ horizon s * rate_at s i

-- the second half: the clock is in time
abbrev pub InTime : Session → ℕ → Type 0
InTime s t = t * s.span + horizon s * sum_to (rate_at s) s.count ≤ horizon s * s.span + sum_to (used_at s) s.count

-- what a slot leaves free: W more, scaled by H = w × p
slot_leaves : (h r k g p w span c worst : ℕ) → w * p ≡ span → r + k ≡ h → (c + worst) * p ≤ k * g
    → r * (g * w) + c * span + worst * span ≤ h * (g * w)
slot_leaves h r k g p w span c worst whole sum fits =
    omega (
      arith,
      mul-le-mul_right w fits,
      ap (λ (z : ℕ). c * z) whole,
      ap (λ (z : ℕ). worst * z) whole,
      ap (λ (z : ℕ). z * (g * w)) sum,
    )

-- a job at its deadline: what has room was charged at most g, and what has no slot more than g less W
charged_most : (r g p w span c : ℕ) → w * p ≡ span → 0 < span → r * (g * w) + c * span ≤ (r + p) * (g * w) → c ≤ g
charged_most r g p w span c whole pos room = le_of_mul-le-mul_right {k = span} (omega (arith, ap (λ (z : ℕ). g * z) whole)) pos

charged_least : (g p c worst : ℕ) → p * g < (c + worst) * p → g < c + worst
charged_least g p c worst over = lt_of_mul-lt-mul_right p (omega arith)

-- a clock that is in time while each stream has room is at most the horizon
not_past : (t h span rates useds : ℕ) → 0 < span → t * span + h * rates ≤ h * span + useds → useds ≤ h * rates → t ≤ h
not_past t h span rates useds pos time room = le_of_mul-le-mul_right {k = span} (omega arith) pos

module _ (s : Session) (q : Sound s) where
  span_pos : 0 < s.span
  span_pos = omega (arith, (admits s q).numbers.span_low)

  -- by admission, the rates are at most the span
  pub rates_high : sum_to (rate_at s) s.count ≤ s.span
  unfolding shares_of load_of
  rates_high = omega (arith, (admits s q).fits, sum_agree (share_at (table_of s)) (rate_at s) s.count (share_is s q))

  module _ (i : ℕ) (l : i < s.count) where
    abbrev x : Stream
    x = stream_at s i

    pub whole : s.span / x.period * x.period ≡ s.span
    whole = omega (arith, div-add-mod' s.span x.period, (reservation s q i l).divides)

    -- a stream with a slot has room for W more
    pub slot_has_room : 1 ≤ slots_at s i → used_at s i + s.worst * s.span ≤ horizon s * rate_at s i
    slot_has_room slot =
        let b = bounded s q i l in
        let k : ℕ = horizon s - x.release.0 in
        slot_leaves (horizon s) x.release.0 k x.granted.0 x.period (s.span / x.period) s.span x.charge.0 s.worst
        whole (omega (arith, b.released))
        (let fits = (slot_fits s.worst (horizon s) x b.worst_low (omega (arith, b.period_low)) 1 (omega arith)).0 slot in omega arith)

    -- a job at the horizon was charged at most its budget
    pub due_most : x.deadline.0 ≡ horizon s → Room s → x.charge.0 ≤ x.granted.0
    due_most due room =
        charged_most x.release.0 x.granted.0 x.period (s.span / x.period) s.span x.charge.0 whole span_pos
        (subst (λ (h : ℕ). used_at s i ≤ h * rate_at s i) (sym due ∙ (q.fit.used.each i l).due) (room i l))

    -- and without a slot, more than that less W
    pub due_least : x.deadline.0 ≡ horizon s → slots_at s i ≡ 0 → x.granted.0 < x.charge.0 + s.worst
    due_least due none =
        let b = bounded s q i l in
        let room : ℕ = (horizon s - x.release.0) * x.granted.0 in
        let length : horizon s - x.release.0 ≡ x.period = omega (arith, due, b.due) in
        let fits = (slot_fits s.worst (horizon s) x b.worst_low (omega (arith, b.period_low)) 1 (omega arith)).1 in
        ⊎_elim
        (λ (slot : (x.charge.0 + 1 * s.worst) * x.period ≤ room). absurd (omega (arith, fits slot, none)))
        (λ (over : room < (x.charge.0 + 1 * s.worst) * x.period).
        charged_least x.granted.0 x.period x.charge.0 s.worst
        (omega (arith, over, ap (λ (z : ℕ). z * x.granted.0) length)))
        (le_or_lt ((x.charge.0 + 1 * s.worst) * x.period) room)

  -- the clock is at most the horizon
  pub clock_not_past : (t : ℕ) → Room s → InTime s t → t ≤ horizon s
  clock_not_past t room time =
      not_past t (horizon s) s.span (sum_to (rate_at s) s.count) (sum_to (used_at s) s.count) span_pos time
      (omega (arith, sum_le (used_at s) (λ i. horizon s * rate_at s i) s.count room, sum_scaled (horizon s) (rate_at s) s.count))
