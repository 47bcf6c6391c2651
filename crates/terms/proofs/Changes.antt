-- How a stream could change alone is what opening will say.
use mathlib.Core.Bool.{false}
use mathlib.Core.Logic.{◌↔◌, ⊎_elim}
use mathlib.Core.Path.{◌≡◌, sym, subst, ◌∙◌, ap}
use Prim.Native.Nat.{ℕ, suc, ◌+◌, ◌-◌, ◌*◌, ◌/◌, ◌≤◌, ◌<◌, min}
use native.Mathlib.Nat.{zero-mul, le-div_iff_mul-le, div-lt_iff_lt-mul}
use native.Mathlib.Omega.{arith}
use lib.Dec.{eqb}
use borrow.Author.Tests.{lt-ltb, le-ltb, ne_eqb}
use Rattle.table.specs.Fold.{if}
use Rattle.table.specs.Admission.{reserved_at, period_at, with_reserved, granted_of, load_of, parts_refusal, admission_of}
use Rattle.table.specs.Whole.{above_zero, below_zero}
use Rattle.table.specs.Margin.{margin_of, over_of}
use Rattle.table.specs.declared.Table.{Table}
use Rattle.table.proofs.Tests.{le_or_lt}
use Rattle.table.proofs.Judged.{FitsIn, numbers_of, streams_of, parts_none, load_is_exact}
use Rattle.table.proofs.Margins.{within, beyond}
use Rattle.table.proofs.Others.{load_raised, load_lowered, other_admitted}
use Rattle.terms.specs.Terms.{room_of, shrink_of, change_of}
use Rattle.terms.specs.Laws.{change_at, ChangeHolds, ChangeIsExact}
use Rattle.terms.specs.declared.Change.TheVariants.{Grow, Shrink, NotAlone}

-- a budget with x more, and with x less
granted_more : (worst k e x : ℕ) → granted_of worst k (e + x) ≡ granted_of worst k e + x
unfolding granted_of
granted_more worst k e x = omega arith

granted_less : (worst k e x : ℕ) → granted_of worst k (e - x) ≤ granted_of worst k e
unfolding granted_of
granted_less worst k e x = omega arith

module _ (t : Table) (i : ℕ) (parts : parts_refusal t ≡ 0) (l : i < t.count) where
  abbrev q : ℕ
  q = t.span / period_at t i

  abbrev e : ℕ
  e = reserved_at t i

  abbrev p : ℕ
  p = period_at t i

  abbrev few : t.count ≤ 8
  few = (numbers_of t (parts_none t parts).0).count_high

  some_times : 0 < q
  some_times =
      let in_order = parts_none t parts in
      ⊎_elim
      (λ (u : q ≤ 0).
      let none : q * p ≡ 0 = let z : q ≡ 0 = omega arith in ap (λ n. n * p) z ∙ zero-mul p in
      absurd (omega (arith, none, (load_is_exact t in_order.0 in_order.1).0 i l, (numbers_of t in_order.0).span_low)))
      (λ (u : 0 < q). u)
      (le_or_lt q 0)

  own : FitsIn t.worst t.span t.padding e p
  own = streams_of t (parts_none t parts).1 i l

  -- where the load fits
  module _ (fits : load_of t ≤ t.span) where
    room : (x : ℕ) → (admission_of (with_reserved t i (e + x)) ≡ 0) ↔ (x ≤ room_of (margin_of t) t.worst t.span t.padding e p)
    unfolding room_of above_zero
    room x =
        let judged = other_admitted t i (e + x) few l parts in
        let budget = granted_more t.worst t.padding e x in
        let by-load = le-div_iff_mul-le {k = q} {x = x} {y = t.span - load_of t} some_times in
        rw (within t parts fits).is (
          λ h.
              let a = judged.0 h in
              let one : x ≤ (t.span - load_of t) / q = by-load.1 (omega (arith, a.load, load_raised t i x few l)) in
              omega (arith, one, a.budget, budget),
          λ (few-more : x ≤ min ((t.span - load_of t) / q) (p - granted_of t.worst t.padding e)).
              let one : x * q ≤ t.span - load_of t = by-load.0 (omega (arith, few-more)) in
              judged.1
              (record {
                some = λ z. own.reserved_low (omega (arith, z));
                budget = omega (arith, few-more, budget, own.budget);
                load = omega (arith, one, load_raised t i x few l, fits);
              }),
        )

  -- where it does not
  module _ (over : t.span < load_of t) where
    shrink : (x : ℕ) → x < e → (admission_of (with_reserved t i (e - x)) ≡ 0) ↔ (shrink_of (margin_of t) t.span p ≤ x)
    unfolding shrink_of below_zero
    shrink x le =
        let judged = other_admitted t i (e - x) few l parts in
        let by-load = div-lt_iff_lt-mul {k = q} {x = load_of t - suc t.span} {y = x} some_times in
        let above : suc (load_of t - suc t.span) - 1 ≡ load_of t - suc t.span = omega arith in
        rw ((beyond t parts over).is, above) (
          λ h.
              let a = judged.0 h in
              let one = by-load.1 (omega (arith, a.load, load_lowered t i x few l (omega arith), over)) in
              omega (arith, one),
          λ (enough : (load_of t - suc t.span) / q + 1 ≤ x).
              let one : load_of t - suc t.span < x * q = by-load.0 (omega (arith, enough)) in
              judged.1
              (record {
                some = λ z. omega (arith, z, le);
                budget = omega (arith, granted_less t.worst t.padding e x, own.budget);
                load = omega (arith, one, load_lowered t i x few l (omega arith), over);
              }),
        )

  -- a choice by the amount over, and by what is left of the reserved time
  grows : load_of t ≤ t.span → change_at t i ≡ Grow (room_of (margin_of t) t.worst t.span t.padding e p)
  unfolding change_of below_zero if
  grows fits = rw (within t parts fits).is

  exceeds : t.span < load_of t → (eqb (over_of (margin_of t)) 0) ≡ false
  unfolding below_zero
  exceeds over = rw (beyond t parts over).is (ne_eqb (suc (load_of t - suc t.span)) 0 (λ z. omega arith))

  shrinks : t.span < load_of t → shrink_of (margin_of t) t.span p < e → change_at t i ≡ Shrink (shrink_of (margin_of t) t.span p)
  unfolding change_of if
  shrinks over less = rw (exceeds over, lt-ltb _ _ less)

  not_alone : t.span < load_of t → e ≤ shrink_of (margin_of t) t.span p → change_at t i ≡ NotAlone
  unfolding change_of if
  not_alone over more = rw (exceeds over, le-ltb _ _ more)

pub change_is_exact : ChangeIsExact
change_is_exact t i parts l =
    let n = shrink_of (margin_of t) t.span (period_at t i) in
    ⊎_elim
    (λ (fits : load_of t ≤ t.span). subst (ChangeHolds t i) (sym (grows t i parts l fits)) (room t i parts l fits))
    (λ (over : t.span < load_of t).
    ⊎_elim
    (λ (more : reserved_at t i ≤ n).
    subst (ChangeHolds t i) (sym (not_alone t i parts l over more))
    (λ x less h. omega (arith, (shrink t i parts l over x less).0 h)))
    (λ (less : n < reserved_at t i). subst (ChangeHolds t i) (sym (shrinks t i parts l over less)) (less, shrink t i parts l over))
    (le_or_lt (reserved_at t i) n))
    (le_or_lt (load_of t) t.span)
