-- The number of a verdict is opening's, and nothing is cut off where W is taken from a granted budget.
use mathlib.Core.Bool.{Bool, true, false}
use mathlib.Core.Path.{◌≡◌, refl, sym, ◌∙◌}
use mathlib.Core.Logic.{◌⊎◌, inl, inr}
use Prim.Native.Nat.{ℕ, zero, suc, ◌+◌, ◌-◌, ◌≤◌}
use native.Mathlib.Nat.{mul-le-mul_right}
use native.Mathlib.Omega.{arith}
use lib.Dec.{eqb, lit≤}
use borrow.Author.Tests.{ne_eqb}
use Rattle.std.proofs.Common.{Ok, Err, Some, None}
use Rattle.std.specs.Result.{result_err}
use Rattle.table.specs.Fold.{if}
use Rattle.table.specs.Refusal.{◌or_next◌}
use Rattle.table.specs.Admission.{padding_of, granted_of, numbers_refusal, stream_refusal, stream_refusal_at, streams_refusal, admission_of}
use Rattle.table.specs.Margin.{margin_of, margin, refusal_of, answered, answer_of}
use Rattle.table.specs.declared.Table.{Table}
use Rattle.table.specs.declared.margin.Margin.{Margin}
use Rattle.table.specs.declared.refusal.Refusal.{Refusal}
use Rattle.table.proofs.Tests.{or_next_first, or_next_high, given_high}
use Rattle.terms.specs.Terms.{terms_of, refused_stream, stream_verdict, load_verdict, verdict_of, as_said}
use Rattle.terms.specs.Laws.{VerdictIsOpenings, RefusalIsOpenings, NothingCut}
use Rattle.terms.proofs.Found.{Found, NoneFound, search_first}

-- 1 to 4 are at most 4, and 5 and 6 at most 6
pub numbers_high : (t : Table) → numbers_refusal t ≤ 4
unfolding numbers_refusal
numbers_high t = search (or_next_high, given_high, lit≤) depth 12

pub stream_high : (t : Table) (i : ℕ) → stream_refusal_at t i ≤ 6
unfolding stream_refusal
stream_high t i = search (or_next_high, given_high, lit≤)

-- a padding is 1 at least
padding_some : (k : ℕ) → 1 ≤ padding_of k
unfolding padding_of if
padding_some zero = omega arith
padding_some (suc k) = rw (ne_eqb (suc k) 0 (λ z. omega arith)) (omega arith)

pub granted_high : (worst k e : ℕ) → e + worst ≤ granted_of worst k e
unfolding granted_of
granted_high worst k e = omega (arith, mul-le-mul_right worst (padding_some k))

pub nothing_cut : NothingCut
unfolding terms_of
nothing_cut worst k e = let high = granted_high worst k e in (omega (arith, high), omega (arith, high))

-- a stream that refuses is the one that opening speaks of
module _ (t : Table) where
  by_stream : numbers_refusal t ≡ 0 → NoneFound (stream_refusal_at t) t.count ⊎ Found (stream_refusal_at t) t.count → (verdict_of t).number ≡ admission_of t
  unfolding verdict_of admission_of stream_verdict load_verdict refused_stream streams_refusal ◌or_next◌ if
  by_stream z (inl k) = rw (z, k.nowhere, k.none)
  by_stream z (inr k) =
      let back : k.at + 1 - 1 ≡ k.at = omega arith in
      rw (z, k.stands, ne_eqb (k.at + 1) 0 (λ e. omega (arith, e)), back, k.first) (sym (or_next_first (stream_refusal_at t k.at) _ k.some))

  by_numbers : (n : ℕ) → numbers_refusal t ≡ n → (verdict_of t).number ≡ admission_of t
  unfolding verdict_of admission_of ◌or_next◌ if
  by_numbers zero e = by_stream e (search_first (stream_refusal_at t) t.count)
  by_numbers (suc n) e = rw (e, ne_eqb (suc n) 0 (λ z. omega arith))

pub verdict_is_openings : VerdictIsOpenings
verdict_is_openings t = by_numbers t (numbers_refusal t) refl

-- a refusal where the test fails is what an answer tells of itself
told_of : (b : Bool) (m : Margin) (r : Refusal) → if b None (Some r) ≡ result_err (if b (Ok m) (Err r))
unfolding if
told_of true m r = refl
told_of false m r = refl

pub refusal_is_openings : RefusalIsOpenings
unfolding as_said answer_of answered
refusal_is_openings t =
    rw (verdict_is_openings t) (told_of (eqb (admission_of t) 0) (margin (margin_of t)) (refusal_of (admission_of t) (margin_of t)))

-- the stream that refuses is one of the table's, and where none does, opening goes on to the load
pub stream_below : (t : Table) → (refused_stream t ≡ 0 → ⊥) → refused_stream t ≤ t.count
unfolding refused_stream
stream_below t some = go (search_first (stream_refusal_at t) t.count)
  where
    go : NoneFound (stream_refusal_at t) t.count ⊎ Found (stream_refusal_at t) t.count → refused_stream t ≤ t.count
    go (inl k) = absurd (some k.nowhere)
    go (inr k) = omega (arith, k.stands, k.below)

pub streams_none : (t : Table) → refused_stream t ≡ 0 → streams_refusal t ≡ 0
unfolding refused_stream streams_refusal
streams_none t none = go (search_first (stream_refusal_at t) t.count)
  where
    go : NoneFound (stream_refusal_at t) t.count ⊎ Found (stream_refusal_at t) t.count → streams_refusal t ≡ 0
    go (inl k) = k.none
    go (inr k) = absurd (let z : k.at + 1 ≡ 0 = sym k.stands ∙ none in omega arith)
