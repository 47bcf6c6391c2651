-- What is known of a table once 1 to 6 are judged.
use mathlib.Core.Bool.{not}
use mathlib.Core.Path.{◌≡◌}
use mathlib.Core.List.{List}
use Prim.Native.Nat.{ℕ, ◌*◌, ◌/◌, ◌%◌, ◌≤◌, ◌<◌}
use native.Mathlib.Nat.{mul-le-mul, mul-le-mul_right, mul-div-le, div-le_self, le_trans, div-add-mod'}
use native.Mathlib.Omega.{arith}
use lib.ListN.{get_or}
use lib.Dec.{ltb, eqb}
use borrow.Author.Tests.{ltb-false, eqb-true, eqb-false, not-false}
use Rattle.table.specs.Ranges.{streams_max, worst_min, worst_max, span_min, span_max, padding_max, period_min, period_max}
use Rattle.table.specs.Fold.{if}
use Rattle.table.specs.Refusal.{outside, ◌or_next◌}
use Rattle.table.specs.Admission.{reserved_at, period_at, granted_of, share_of, share_at, shares_of, smallest_period, numbers_refusal, stream_refusal, stream_refusal_at, streams_refusal, load_of, admission_of, parts_refusal, judged_shares, judged_load}
use Rattle.table.specs.Margin.{load_max}
use Rattle.table.specs.Laws.{LoadIsExact}
use Rattle.table.specs.declared.Table.{Table}
use Rattle.table.proofs.Tests.{within, neither, given_none, or_next_none}
use Rattle.table.proofs.Folds.{sum_high, first_none, smallest_is, sum_agree, smallest_agree, first_agree}

-- the numbers of the whole table are in their ranges
pub record Numbers (t : Table) : Type 0 where
  pub count_low : 1 ≤ t.count
  pub count_high : t.count ≤ streams_max
  pub worst_low : worst_min ≤ t.worst
  pub worst_high : t.worst ≤ worst_max
  pub span_low : span_min ≤ t.span
  pub span_high : t.span ≤ span_max
  pub padding_high : t.padding ≤ padding_max

pub numbers_of : (t : Table) → numbers_refusal t ≡ 0 → Numbers t
unfolding numbers_refusal
numbers_of t h =
    let a = or_next_none _ _ h in
    let b = or_next_none _ _ a.1 in
    let d = or_next_none _ _ b.1 in
    let count = within 1 streams_max t.count (given_none _ 0 a.0) in
    let worst = within worst_min worst_max t.worst (given_none _ 1 b.0) in
    let span = within span_min span_max t.span (given_none _ 2 d.0) in
    record {
      count_low = count.0;
      count_high = count.1;
      worst_low = worst.0;
      worst_high = worst.1;
      span_low = span.0;
      span_high = span.1;
      padding_high = ltb-false padding_max t.padding (given_none _ 3 d.1);
    }

-- a stream's reservation is in order
pub record FitsIn (worst span k e p : ℕ) : Type 0 where
  pub period_low : period_min ≤ p
  pub period_high : p ≤ period_max
  pub divides : span % p ≡ 0
  pub reserved_low : e ≡ 0 → ⊥
  pub budget : granted_of worst k e ≤ p

pub stream_of : (worst span k e p : ℕ) → stream_refusal worst span k e p ≡ 0 → FitsIn worst span k e p
unfolding stream_refusal
stream_of worst span k e p h =
    let a = or_next_none _ _ h in
    let five = neither (outside period_min period_max p) (not (eqb (span % p) 0)) (given_none _ 4 a.0) in
    let six = neither (eqb e 0) (ltb p (granted_of worst k e)) (given_none _ 5 a.1) in
    let range = within period_min period_max p five.0 in
    record {
      period_low = range.0;
      period_high = range.1;
      divides = eqb-true (span % p) 0 (not-false (eqb (span % p) 0) five.1);
      reserved_low = eqb-false e 0 six.0;
      budget = ltb-false p (granted_of worst k e) six.1;
    }

abbrev pub Reserved : Table → ℕ → Type 0
Reserved t i = FitsIn t.worst t.span t.padding (reserved_at t i) (period_at t i)

pub streams_of : (t : Table) → streams_refusal t ≡ 0 → (i : ℕ) → i < t.count → Reserved t i
unfolding streams_refusal
streams_of t h i l = stream_of t.worst t.span t.padding (reserved_at t i) (period_at t i) (first_none (stream_refusal_at t) t.count h i l)

-- a stream's share of the span is at most the span
pub share_high : (worst span k e p : ℕ) → FitsIn worst span k e p → share_of worst span k e p ≤ span
unfolding share_of
share_high worst span k e p q = le_trans (mul-le-mul_right (span / p) q.budget) (mul-div-le span p)

-- where 1 to 6 refuse nothing, all shares come to eight spans at most, and the load is far from passing 63 bits
pub shares_high : (t : Table) → numbers_refusal t ≡ 0 → streams_refusal t ≡ 0 → shares_of t ≤ streams_max * span_max
unfolding shares_of
shares_high t numbers streams =
    let q = numbers_of t numbers in
    le_trans
    (sum_high t.span (share_at t) t.count (λ j u. share_high _ _ _ _ _ (streams_of t streams j u)))
    (mul-le-mul q.count_high q.span_high)

pub load_high : (t : Table) → numbers_refusal t ≡ 0 → streams_refusal t ≡ 0 → load_of t ≤ load_max
unfolding load_of
load_high t numbers streams =
    let q = numbers_of t numbers in
    let least = t.span / smallest_period t in
    let term : t.worst * least ≤ worst_max * span_max = mul-le-mul q.worst_high (le_trans (div-le_self t.span (smallest_period t)) q.span_high) in
    omega (arith, shares_high t numbers streams, term)

-- where 1 to 6 refuse nothing, neither the numbers nor a stream is refused
pub parts_none : (t : Table) → parts_refusal t ≡ 0 → (numbers_refusal t ≡ 0) × (streams_refusal t ≡ 0)
unfolding parts_refusal
parts_none t = or_next_none (numbers_refusal t) (streams_refusal t)

pub judged_load_lem : (t : Table) → numbers_refusal t ≡ 0 → streams_refusal t ≡ 0 → judged_load t ≡ load_of t
unfolding judged_load parts_refusal ◌or_next◌ if
judged_load_lem t n s = rw (n, s)

pub judged_shares_lem : (t : Table) → parts_refusal t ≡ 0 → judged_shares t ≡ shares_of t
unfolding judged_shares if
judged_shares_lem t none = rw none

-- a table that is admitted passes each judgement
pub record Admits (t : Table) : Type 0 where
  pub numbers : Numbers t
  pub each : (i : ℕ) → i < t.count → Reserved t i
  pub fits : load_of t ≤ t.span

pub admits_of : (t : Table) → admission_of t ≡ 0 → Admits t
unfolding admission_of
admits_of t h =
    let a = or_next_none _ _ h in
    let b = or_next_none _ _ a.1 in
    record {
      numbers = numbers_of t a.0;
      each = streams_of t b.0;
      fits = ltb-false t.span (load_of t) (given_none _ 6 b.1);
    }

-- load and admission read the arrays below the count only: with others that agree there, the load is the same, and a table that is admitted still is
module _ (t : Table) (reserved period : List ℕ) (h : admission_of t ≡ 0)
    (es : (i : ℕ) → i < t.count → get_or reserved i 0 ≡ reserved_at t i)
    (ps : (i : ℕ) → i < t.count → get_or period i 0 ≡ period_at t i) where
  abbrev alike : Table
  alike = record { worst = t.worst; span = t.span; padding = t.padding; count = t.count; reserved = reserved; period = period }

  pub load_alike : load_of alike ≡ load_of t
  unfolding load_of shares_of smallest_period
  load_alike =
      let shares = sum_agree (share_at alike) (share_at t) t.count (λ i l. rw (es i l, ps i l)) in
      let least = smallest_agree (period_at alike) (period_at t) t.count (admits_of t h).numbers.count_low ps in
      rw (shares, least)

  pub admits_alike : admission_of alike ≡ 0
  unfolding admission_of numbers_refusal streams_refusal
  admits_alike =
      let refusals = first_agree (stream_refusal_at alike) (stream_refusal_at t) t.count (λ i l. rw (es i l, ps i l)) in
      rw (refusals, load_alike) h

-- a period divides the span, and so does the smallest
pub load_is_exact : LoadIsExact
unfolding smallest_period
load_is_exact t numbers streams =
    let whole : (p : ℕ) → t.span % p ≡ 0 → t.span / p * p ≡ t.span = λ p e. omega (arith, div-add-mod' t.span p, e) in
    let divides : (i : ℕ) → i < t.count → t.span % period_at t i ≡ 0 = λ i l. (streams_of t streams i l).divides in
    let least = smallest_is (λ p. t.span % p ≡ 0) (period_at t) t.count (numbers_of t numbers).count_low divides in
    (λ i l. whole (period_at t i) (divides i l), whole (smallest_period t) least)
