-- The sums over a session's streams, and the sum of all remainders that they come to: they fit 64 bits, and by admission the parts are at most the horizon times the span.
use mathlib.Core.Path.{◌≡◌, refl, ap, ◌∙◌}
use Prim.Native.Nat.{ℕ, ◌+◌, ◌-◌, ◌*◌, ◌/◌, ◌≤◌, ◌<◌}
use native.Mathlib.Numerals.{add-one}
use native.Mathlib.Nat.{mul-le-mul, mul-le-mul_left, mul-le-mul_right, mul_assoc, le_trans}
use native.Mathlib.Omega.{arith}
use lib.IntN.{pos, ◌-ℤ◌}
use lib.ListN.{get_or-map}
use Rattle.time.specs.Time.{session_end, disk_time}
use Rattle.table.specs.Ranges.{span_max, period_max}
use Rattle.table.specs.Fold.{sum_to}
use Rattle.table.specs.Admission.{share_of, share_at, shares_of, load_of}
use Rattle.table.proofs.Folds.{sum_le, sum_scaled, sum_times, sum_high}
use Rattle.table.proofs.Whole.{sum_less, less_above, less_below}
use Rattle.table.specs.Whole.{above_zero, below_zero}
use Rattle.session.specs.Session.{no_stream, stream_at, horizon, scaled_part, remainders_of, table_of}
use Rattle.session.specs.Laws.{remainders_max}
use Rattle.stream.specs.Stream.{part_of}
use Rattle.stream.specs.Bounds.{Bounded}
use Rattle.stream.specs.Search.{nothing_summed, summed, Summable}
use Rattle.stream.specs.declared.sums.Sums.{Sums}
use Rattle.stream.specs.declared.Stream.{Stream}
use Rattle.session.specs.declared.Session.{Session}
use Rattle.stream.proofs.Fits.{part_high}
use Rattle.stream.proofs.Fits as fits
use Rattle.session.proofs.Sound.{Sound, admits, bounded}

part_low : (h r g q : ℕ) → (h - r) * g * q ≤ h * (g * q)
part_low h r g q = rw mul_assoc (mul-le-mul_right (g * q) (omega arith))

-- the sum of all remainders is that of the parts less that of the charges
pub remainders_split : (s : Session) → remainders_of s ≡ pos (sum_to (scaled_part s) s.count) -ℤ pos (sum_to (λ i. (stream_at s i).charge.0) s.count * s.span)
unfolding remainders_of
remainders_split s =
    sum_less (scaled_part s) (λ i. (stream_at s i).charge.0 * s.span) s.count
    ∙ ap (λ (n : ℕ). pos (sum_to (scaled_part s) s.count) -ℤ pos n) (sum_times s.span (λ i. (stream_at s i).charge.0) s.count)

-- the sums of the streams below n up to h: none, one more, and that they are small where h lies in each job
abbrev pub sums_to : Session → ℕ → ℕ → Sums
sums_to s h n =
    record {
      charges = disk_time (sum_to (λ i. (stream_at s i).charge.0) n);
      parts = sum_to (λ i. part_of s.span h (stream_at s i)) n;
    }

pub sums_none : (s : Session) (h : ℕ) → nothing_summed ≡ sums_to s h 0
unfolding sum_to
sums_none s h = refl

pub sums_more : (s : Session) (h n : ℕ) (sums more : Sums) → sums ≡ sums_to s h n → more ≡ summed sums (stream_at s n) s.span h → more ≡ sums_to s h (n + 1)
unfolding sum_to
sums_more s h n sums more e more-is = rw (more-is, e, add-one)

module _ (s : Session) (h : ℕ) (n : ℕ) (each : (i : ℕ) → i < n → Bounded s.worst h (stream_at s i)) where
  pub parts_high : s.span ≤ span_max → (sums_to s h n).parts ≤ n * (span_max * period_max)
  parts_high high = sum_high (span_max * period_max) _ n (λ i l. part_high (each i l) s.span high)

  pub charges_high : (sums_to s h n).charges.0 ≤ n * fits.charge_max
  charges_high = sum_high fits.charge_max (λ i. (stream_at s i).charge.0) n (λ i l. fits.charge_high (each i l))

  pub can_sum : n ≤ 8 → s.span ≤ span_max → Summable (sums_to s h n)
  can_sum few high = record { charges_high = omega (arith, few, charges_high); parts_high = omega (arith, few, parts_high high) }

module _ (s : Session) (q : Sound s) where
  pub share_is : (i : ℕ) → i < s.count → share_at (table_of s) i ≡ (stream_at s i).granted.0 * (s.span / (stream_at s i).period)
  unfolding share_of
  share_is i l =
      rw (
        get_or-map (λ (x : Stream). x.reserved) s.streams i no_stream,
        get_or-map (λ (x : Stream). x.period) s.streams i no_stream,
        (q.fit.used.each i l).budget,
      )

  pub parts_low : sum_to (scaled_part s) s.count ≤ horizon s * s.span
  unfolding shares_of load_of
  parts_low =
      let h = horizon s in
      let each = sum_le (scaled_part s) (λ i. h * share_at (table_of s) i) s.count
      (λ i l. rw (share_is i l) (part_low h (stream_at s i).release.0 (stream_at s i).granted.0 (s.span / (stream_at s i).period))) in
      let load = (admits s q).fits in
      le_trans each (rw (sum_scaled h (share_at (table_of s)) s.count) (mul-le-mul_left h (omega arith)))

  pub horizon_high : horizon s ≤ session_end
  horizon_high =
      let first = bounded s q 0 (admits s q).numbers.count_low in
      omega (arith, first.ahead, first.deadline_high)

  -- the sum of all remainders is at most that of the parts, and at least what the charges come to below 0
  pub remainders_high : (above_zero s.remainders.0 ≤ remainders_max) × (below_zero s.remainders.0 ≤ remainders_max)
  remainders_high =
      let n = (admits s q).numbers in
      let parts = parts_high s (horizon s) s.count (bounded s q) n.span_high in
      let all : sum_to (λ i. (stream_at s i).charge.0) s.count ≤ 8 * fits.charge_max = omega (arith, n.count_high, charges_high s (horizon s) s.count (bounded s q)) in
      let charges = mul-le-mul {n₂ = 8 * fits.charge_max} {m₂ = span_max} all n.span_high in
      rw (q.ahead.remainders_is, remainders_split s) (
        omega (arith, n.count_high, parts, less_above (sum_to (scaled_part s) s.count) (sum_to (λ i. (stream_at s i).charge.0) s.count * s.span)),
        omega (arith, charges, less_below (sum_to (scaled_part s) s.count) (sum_to (λ i. (stream_at s i).charge.0) s.count * s.span)),
      )
