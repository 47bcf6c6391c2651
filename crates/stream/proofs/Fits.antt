-- Bounds on the numbers of a stream of a sound session, by which 64 bits are enough.
use mathlib.Core.Bool.{false}
use mathlib.Core.Path.{◌≡◌}
use Prim.Native.Nat.{ℕ, ◌+◌, ◌-◌, ◌*◌, ◌/◌, ◌%◌, ◌^◌, ◌≤◌}
use native.Mathlib.Nat.{mul-le-mul, mul-le-mul_right, mul_right_comm, mul-div-le, le_trans, lt_of_le_of_lt, mod-lt, div-add-mod', le-mul_of_pos_right}
use native.Mathlib.Omega.{arith}
use lib.Dec.{T, ltb, lit<}
use mir.Syntax.{w64}
use mir.Val.{Fits}
use Rattle.time.specs.Time.{session_end, duration_max, parts_max, disk_time}
use Rattle.time.specs.Exact.{paced, fraction_of, Proper}
use Rattle.table.specs.Ranges.{worst_max, span_max, period_max}
use Rattle.table.specs.Refusal.{outside}
use Rattle.table.proofs.Tests.{within}
use Rattle.stream.specs.Stream.{part_of}
use Rattle.stream.specs.Bounds.{Bounded}
use Rattle.stream.specs.Choice.{expiry_of}
use Rattle.time.specs.declared.Charge.{Charge}
use Rattle.stream.specs.declared.Stream.{Stream}

-- a product of bounded numbers fits where the bounds' product does
pub mul_fits : (A B : ℕ) {a b : ℕ} → a ≤ A → b ≤ B → T (ltb (A * B) (2 ^ 64)) → Fits w64 (a * b)
mul_fits A B ha hb t = record { fits = lt_of_le_of_lt (mul-le-mul ha hb) (lit< t) }

-- the most that a stream is charged: a budget is at most a period
abbrev pub charge_max : ℕ
charge_max = period_max + duration_max

module _ {worst h : ℕ} {x : Stream} (q : Bounded worst h x) where
  pub charge_high : x.charge.0 ≤ charge_max
  charge_high = omega (arith, q.charge_high, q.budget_high, q.period_high)

  pub charge_within : x.charge.0 ≤ session_end
  charge_within = omega (arith, charge_high)

  pub ahead_high : h - x.release.0 ≤ period_max
  ahead_high = omega (arith, q.ahead, q.due, q.period_high)

  pub room_high : x.granted.0 * (h - x.release.0) ≤ parts_max
  room_high =
      let budget : x.granted.0 ≤ period_max = omega (arith, q.budget_high, q.period_high) in
      let most : x.granted.0 * (h - x.release.0) ≤ period_max * period_max = mul-le-mul {n₂ = period_max} {m₂ = period_max} budget ahead_high in
      omega (arith, most)

  pub used_high : x.charge.0 * x.period ≤ parts_max
  used_high =
      let most : x.charge.0 * x.period ≤ charge_max * period_max = mul-le-mul {n₂ = charge_max} {m₂ = period_max} charge_high q.period_high in
      omega (arith, most)

  pub step_fits : Fits w64 (worst * x.period)
  step_fits = mul_fits worst_max period_max q.worst_high q.period_high tt

  -- r + c × p / g leaves less than a microsecond over, and is the fraction of the rules
  pub pace_proper : Proper (paced x.release.0 x.charge.0 x.period x.granted.0)
  pace_proper =
      record {
        rest_low = mod-lt (x.charge.0 * x.period) q.budget_low;
        below_high = omega (arith, q.budget_high, q.period_high);
      }

  pub pace_is : fraction_of (paced x.release.0 x.charge.0 x.period x.granted.0) ≡ expiry_of x
  pace_is =
      let used = x.charge.0 * x.period in
      let above : (x.release.0 + used / x.granted.0) * x.granted.0 + used % x.granted.0 ≡ x.release.0 * x.granted.0 + used =
      omega (arith, div-add-mod' used x.granted.0) in
      λ i. record { above = above i; below = x.granted.0 }

  pub expired_high : x.expired ≤ charge_max
  expired_high = omega (arith, charge_high, q.covered, le-mul_of_pos_right x.expired q.worst_low)

  pub expired_within : x.expired ≤ session_end
  expired_within = omega (arith, expired_high)

-- a duration in its range
pub duration_within : (a : ℕ) (d : Charge) → outside 1 duration_max a ≡ false → d ≡ disk_time a → d.0 ≤ session_end
duration_within a d in-range e = rw e (omega (arith, within 1 duration_max a in-range))

part_most : (a g p span : ℕ) → a ≤ p → g ≤ period_max → span ≤ span_max → a * g * (span / p) ≤ span_max * period_max
part_most a g p span most budget whole =
    rw mul_right_comm
    (mul-le-mul {n₂ = span_max} {m₂ = period_max} (le_trans (mul-le-mul_right (span / p) most) (le_trans (mul-div-le span p) whole)) budget)

-- the horizon is within a stream's period, so its part is at most its budget times the span
pub part_high : {worst h : ℕ} {x : Stream} → Bounded worst h x → (span : ℕ) → span ≤ span_max
    → part_of span h x ≤ span_max * period_max
part_high {x} b span whole =
    part_most _ _ x.period span (omega (arith, b.ahead, b.due)) (omega (arith, b.budget_high, b.period_high)) whole
