-- What the test of a trace says.
use mathlib.Core.Bool.{Bool, true, false, false≢true}
use mathlib.Core.Path.{◌≡◌, refl, sym, subst, ◌∙◌}
use mathlib.Core.List.{List}
use Prim.Native.Nat.{ℕ, ◌*◌, ◌%◌, ◌≤◌, ◌<◌}
use native.Mathlib.Omega.{arith}
use borrow.Author.Tests.{eqb-true, leb-true}
use lib.ListN.{length, get_or}
use Rattle.std.specs.Bool.{MatchBool}
use Rattle.std.specs.List.{range_with_len, AllWithin, HoldsAt}
use Rattle.std.proofs.lemmas.List.FromFn.{length-range_with_len, get_or-range_with_len}
use Rattle.table.specs.Fold.{all_to}
use Rattle.table.proofs.Tests.{both}
use Rattle.table.proofs.Folds.{all_at, all_of}
use Rattle.file.specs.File.{event_size, events_max}
use Rattle.file.specs.Reading.{events_in, event_at, formed, is_trace}

pub record Trace (trace : List ℕ) : Type 0 where
  pub whole : length trace ≡ event_size * events_in trace
  pub events_high : events_in trace ≤ events_max
  pub all_formed : (i : ℕ) → i < events_in trace → formed (event_at trace i) ≡ true

pub trace_of_lem : (trace : List ℕ) → is_trace trace ≡ true → Trace trace
unfolding is_trace
trace_of_lem trace h =
    let a = both _ _ h in
    let b = both _ _ a.0 in
    let even : length trace % 16 ≡ 0 = eqb-true _ _ b.0 in
    record {
      whole = omega arith;
      events_high = leb-true _ _ b.1;
      all_formed = all_at (λ i. formed (event_at trace i)) (events_in trace) a.1;
    }

-- it is no longer than 4,000 events
pub trace_short : (trace : List ℕ) → is_trace trace ≡ true → length trace ≤ 64_000
trace_short trace h = let w = trace_of_lem trace h in omega (arith, w.whole, w.events_high)

-- one that fails is enough
pub all_fails : (f : ℕ → Bool) (n i : ℕ) → i < n → f i ≡ false → all_to f n ≡ false
all_fails f n i l h = go (all_to f n) refl
  where
    go : (b : Bool) → all_to f n ≡ b → b ≡ false
    go true e = absurd (false≢true (sym h ∙ all_at f n e i l))
    go false e = refl

-- what is found of all numbers up to one is what `all_to` says
pub all_ranged : (f : ℕ → Bool) (n : ℕ) (r : Bool)
    → MatchBool r (AllWithin (λ i. f i ≡ true) (range_with_len 0 n) 0 (length (range_with_len 0 n))) ((k : ℕ) × (k < length (range_with_len 0 n)) × HoldsAt (λ i. f i ≡ false) (range_with_len 0 n) k)
    → r ≡ all_to f n
all_ranged f n true all =
    sym (all_of f n (λ i l.
    let e : get_or (range_with_len 0 n) i 0 ≡ i = omega (arith, get_or-range_with_len 0 n i 0 l) in
    subst (λ (j : ℕ). f j ≡ true) e (all i 0 (omega arith) (omega (arith, l, length-range_with_len 0 n)))))
all_ranged f n false some =
    let l : some.0 < n = omega (arith, some.1, length-range_with_len 0 n) in
    let e : get_or (range_with_len 0 n) some.0 0 ≡ some.0 = omega (arith, get_or-range_with_len 0 n some.0 0 l) in
    sym (all_fails f n some.0 l (subst (λ (j : ℕ). f j ≡ false) e (some.2 0)))
