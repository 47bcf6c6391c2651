-- The number of slots is the document's count, and the micro-deadlines move as the document says.
use mathlib.Core.Bool.{Bool, true, false}
use mathlib.Core.Path.{◌≡◌, ◌∙◌, ap}
use mathlib.Core.Logic.{⊎_elim, ◌↔◌}
use Prim.Native.Nat.{ℕ, suc, ◌+◌, ◌-◌, ◌*◌, ◌≤◌, ◌<◌}
use native.Mathlib.Nat.{le-div_iff_mul-le, mul-pos, mul-le-mul_right, le_of_mul-le-mul_right}
use native.Mathlib.Omega.{arith}
use lib.Dec.{leb}
use borrow.Author.Tests.{le-leb, lt-leb}
use Rattle.table.proofs.Folds.{count_below}
use Rattle.table.proofs.Tests.{le_or_lt}
use Rattle.stream.specs.Stream.{slots, micro_deadline, shifted, charged}
use Rattle.stream.specs.Bounds.{Bounded}
use Rattle.stream.specs.Laws.{SlotsAreCounted, SlotsByMicroDeadline, MinusSign}
use Rattle.stream.specs.declared.Stream.{Stream}

pub minus_sign : MinusSign
unfolding micro_deadline shifted charged
minus_sign worst a n x le =
    let whole : worst - a + a ≡ worst = omega arith in
    let scaled = ap (λ (z : ℕ). z * x.period) whole in
    let above :
    x.release.0 * x.granted.0 + (x.charge.0 + a + n * worst) * x.period
    ≡ x.release.0 * x.granted.0 + (x.charge.0 + suc n * worst) * x.period - (worst - a) * x.period
    = omega (arith, scaled) in
    ((λ i. record { above = above i; below = x.granted.0 }), omega (arith, scaled))

module _ (worst h : ℕ) (x : Stream) (hw : 0 < worst) (hp : 0 < x.period) where
  abbrev room : ℕ
  room = (h - x.release.0) * x.granted.0

  -- slot n is there exactly if it fits
  pub slot_fits : (n : ℕ) → 0 < n → (n ≤ slots worst h x) ↔ ((x.charge.0 + n * worst) * x.period ≤ room)
  unfolding slots
  slot_fits n hn =
      let pos : 0 < worst * x.period = mul-pos hw hp in
      let one : 0 < n * (worst * x.period) = mul-pos hn pos in
      ((λ le. let fits = (le-div_iff_mul-le pos).0 le in omega arith), (λ le. (le-div_iff_mul-le pos).1 (omega arith)))

  abbrev test : ℕ → Bool
  test i = leb ((x.charge.0 + suc i * worst) * x.period) room

  passes : (i : ℕ) → i < slots worst h x → test i ≡ true
  passes i l = le-leb _ _ ((slot_fits (suc i) (omega arith)).0 l)

  fails : (i : ℕ) → slots worst h x ≤ i → test i ≡ false
  fails i l =
      ⊎_elim
      (λ fits. let n = (slot_fits (suc i) (omega arith)).1 fits in absurd (omega arith))
      (λ over. lt-leb _ _ over)
      (le_or_lt ((x.charge.0 + suc i * worst) * x.period) room)

pub slots_are_counted : SlotsAreCounted
slots_are_counted worst h x m hw hp le =
    count_below
    (test worst h x hw hp)
    (slots worst h x)
    (passes worst h x hw hp)
    (fails worst h x hw hp)
    m
    ∙ omega arith

-- what fits before the horizon has its micro-deadline there
pub slots_by_micro_deadline : SlotsByMicroDeadline
unfolding micro_deadline
slots_by_micro_deadline worst h x n hw hp released one =
    let fits = slot_fits worst h x hw hp n one in
    let whole : h - x.release.0 + x.release.0 ≡ h = omega arith in
    let scaled = ap (λ (z : ℕ). z * x.granted.0) whole in
    ((λ le. let a = fits.0 le in omega (arith, scaled, a)), (λ le. fits.1 (omega (arith, scaled, le))))

-- a stream with a slot has been charged at most its budget less W: the span from release to horizon is at most a period
pub slot_room : (worst h : ℕ) (x : Stream) → Bounded worst h x → 1 ≤ slots worst h x → x.charge.0 + worst ≤ x.granted.0
slot_room worst h x b slot =
    let pos : 0 < x.period = omega (arith, b.period_low) in
    let fits = (slot_fits worst h x b.worst_low pos 1 (omega arith)).0 slot in
    let span : h - x.release.0 ≤ x.period = omega (arith, b.ahead, b.due) in
    le_of_mul-le-mul_right {k = x.period} (omega (arith, mul-le-mul_right x.granted.0 span)) pos
