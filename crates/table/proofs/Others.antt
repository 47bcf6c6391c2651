-- A table with another reserved time for one stream: when it is admitted, and how far its load is from that of the first.
use mathlib.Core.Logic.{◌↔◌}
use mathlib.Core.Path.{◌≡◌, refl, sym, ◌∙◌, ap}
use Prim.Native.Nat.{ℕ, ◌+◌, ◌-◌, ◌*◌, ◌/◌, ◌%◌, ◌≤◌, ◌<◌}
use native.Mathlib.Nat.{add-mul}
use native.Mathlib.Decide.{ℕ_discrete}
use native.Mathlib.Omega.{arith}
use lib.Dec.{eqb}
use lib.IntN.{ℤ, pos, neg_ℤ, ◌+ℤ◌, ◌-ℤ◌, +ℤ_assoc, neg_ℤ-+ℤ}
use borrow.Author.Tests.{le-ltb, ne_eqb, eq-eqb}
use Rattle.table.specs.Fold.{if}
use Rattle.table.specs.Refusal.{given, ◌or_next◌, outside}
use Rattle.table.specs.Ranges.{streams_max, period_min, period_max}
use Rattle.table.specs.Admission.{reserved_at, period_at, with_reserved, padding_of, granted_of, share_of, share_at, shares_of, smallest_period, load_of, numbers_refusal, stream_refusal, stream_refusal_at, streams_refusal, parts_refusal, admission_of}
use Rattle.table.specs.Margin.{less_load, margin_of}
use Rattle.table.specs.Laws.{RaisingLowers}
use Rattle.table.specs.declared.Table.{Table}
use Rattle.table.proofs.Folds.{sum_other, first_all}
use Rattle.table.proofs.Lists.{get_d_list_to}
use Rattle.table.proofs.Judged.{FitsIn, streams_of, parts_none, admits_of}
use Rattle.table.proofs.Margins.{load_fits}

-- a stream whose reservation is in order is not refused
pub stream_passes : (worst span k e p : ℕ) → FitsIn worst span k e p → stream_refusal worst span k e p ≡ 0
unfolding stream_refusal outside given ◌or_next◌
stream_passes worst span k e p q =
    rw (
      le-ltb p period_min q.period_low,
      le-ltb period_max p q.period_high,
      eq-eqb (span % p) 0 q.divides,
      ne_eqb e 0 q.reserved_low,
      le-ltb p (granted_of worst k e) q.budget,
    )

module _ (t : Table) (i e : ℕ) (few : t.count ≤ streams_max) (l : i < t.count) where
  abbrev other : Table
  other = with_reserved t i e

  reserved_here : reserved_at other i ≡ e
  unfolding if
  reserved_here = get_d_list_to (λ j. if (eqb j i) e (reserved_at t j)) 0 streams_max i (omega arith) ∙ rw (eq-eqb i i refl)

  reserved_there : (j : ℕ) → j < t.count → (j ≡ i → ⊥) → reserved_at other j ≡ reserved_at t j
  unfolding if
  reserved_there j u ne = get_d_list_to (λ j. if (eqb j i) e (reserved_at t j)) 0 streams_max j (omega arith) ∙ rw (ne_eqb j i ne)

  -- the load differs by what the reserved times make in a span
  pub load_other : load_of other + reserved_at t i * (t.span / period_at t i) ≡ load_of t + e * (t.span / period_at t i)
  unfolding load_of shares_of share_of granted_of smallest_period
  load_other =
      let q = t.span / period_at t i in
      let k = padding_of t.padding * t.worst in
      let sums = sum_other (share_at other) (share_at t) t.count i l (λ j u ne. ap (λ r. share_of t.worst t.span t.padding r (period_at t j)) (reserved_there j u ne)) in
      let here : share_at other i ≡ e * q + k * q = ap (λ r. (r + k) * q) reserved_here ∙ add-mul e k q in
      let there : share_at t i ≡ reserved_at t i * q + k * q = add-mul (reserved_at t i) k q in
      omega (arith, sums, here, there)

  -- where 1 to 6 refuse nothing of the first, the other is admitted exactly if its new reserved time is none of 0, its granted budget fits the period, and the load fits the span
  pub record AdmittedOther : Type 0 where
    pub some : e ≡ 0 → ⊥
    pub budget : granted_of t.worst t.padding e ≤ period_at t i
    pub load : load_of other ≤ t.span

  module _ (parts : parts_refusal t ≡ 0) where
    passes_at : AdmittedOther → (j : ℕ) → j < t.count → stream_refusal_at other j ≡ 0
    passes_at a j u = go (ℕ_discrete j i)
      where
        before : FitsIn t.worst t.span t.padding (reserved_at t j) (period_at t j)
        before = streams_of t (parts_none t parts).1 j u

        go : Dec (j ≡ i) → stream_refusal_at other j ≡ 0
        go (yes same) =
            let there : reserved_at other j ≡ e = ap (reserved_at other) same ∙ reserved_here in
            rw there
            (stream_passes t.worst t.span t.padding e (period_at t j)
            (record {
              period_low = before.period_low;
              period_high = before.period_high;
              divides = before.divides;
              reserved_low = a.some;
              budget = rw same a.budget;
            }))
        go (no differs) = rw (reserved_there j u differs) (stream_passes t.worst t.span t.padding (reserved_at t j) (period_at t j) before)

    parts_pass : AdmittedOther → parts_refusal other ≡ 0
    unfolding parts_refusal numbers_refusal streams_refusal ◌or_next◌
    parts_pass a = rw ((parts_none t parts).0, first_all (stream_refusal_at other) t.count (passes_at a))

    pub other_admitted : (admission_of other ≡ 0) ↔ AdmittedOther
    other_admitted = (
      λ h.
          let q = admits_of other h in
          let own = q.each i l in
          record { some = rw (reserved_here) at own.reserved_low; budget = rw (reserved_here) at own.budget; load = q.fits },
      λ a. load_fits other (parts_pass a) a.load,
    )

-- the load with x more, and with x less
pub load_raised : (t : Table) (i x : ℕ) → t.count ≤ streams_max → i < t.count
    → load_of (with_reserved t i (reserved_at t i + x)) ≡ load_of t + x * (t.span / period_at t i)
load_raised t i x few l =
    omega (arith, load_other t i (reserved_at t i + x) few l, add-mul (reserved_at t i) x (t.span / period_at t i))

pub load_lowered : (t : Table) (i x : ℕ) → t.count ≤ streams_max → i < t.count → x ≤ reserved_at t i
    → load_of (with_reserved t i (reserved_at t i - x)) + x * (t.span / period_at t i) ≡ load_of t
load_lowered t i x few l le =
    let e = reserved_at t i in
    let q = t.span / period_at t i in
    let back : e - x + x ≡ e = omega arith in
    omega (arith, load_other t i (e - x) few l, add-mul (e - x) x q, ap (λ n. n * q) back)

-- what is taken off twice is taken off together
less_more : (a b d : ℕ) → less_load a (b + d) ≡ less_load a b -ℤ pos d
less_more a b d = ap (λ (z : ℤ). pos a +ℤ z) (neg_ℤ-+ℤ (pos b) (pos d)) ∙ sym (+ℤ_assoc (pos a) (neg_ℤ (pos b)) (neg_ℤ (pos d)))

pub raising_lowers : RaisingLowers
unfolding margin_of
raising_lowers t i x few l = ap (less_load t.span) (load_raised t i x few l) ∙ less_more t.span (load_of t) (x * (t.span / period_at t i))
