-- The first that no other beats goes first: of those that pass none beats it, and it beats each lower one.
use mathlib.Core.Bool.{Bool, true, false, false≢true}
use mathlib.Core.Path.{◌≡◌, refl, sym, ◌∙◌}
use Prim.Native.Nat.{ℕ, zero, suc, ◌≤◌, ◌<◌}
use native.Mathlib.Nat.{not-suc-le-zero}
use native.Mathlib.Omega.{arith}
use lib.Dec.{leb}
use borrow.Author.Tests.{le-leb}
use Rattle.table.specs.Fold.{some_to}
use Rattle.table.proofs.Tests.{by_if}
use Rattle.table.proofs.Folds.{at_or_below, some_none}
use Rattle.stream.specs.Choice.{first_best}
use Rattle.stream.specs.Laws.{GoesFirst}
use Rattle.stream.proofs.Best.{best_skips, best_starts, best_next, best_below, best_positive}
use Rattle.stream.proofs.Ranks.{Ranks}

module _ (passes : ℕ → Bool) (beats : ℕ → ℕ → Bool) (n : ℕ) (o : Ranks beats n) where
  abbrev best : ℕ → ℕ
  best = first_best passes beats

  -- b goes before i, if i passes: i does not beat it, and a lower i is beaten by it
  abbrev Leads : ℕ → ℕ → Type 0
  Leads b i = passes i ≡ true → (beats i b ≡ false) × (i < b → beats b i ≡ true)

  -- nothing beats itself
  alone : (a : ℕ) → a < n → (t : Bool) → beats a a ≡ t → beats a a ≡ false
  alone a l true e = o.one_way l l e
  alone a l false e = e

  -- what beats the best beats whatever does not beat the best
  overtakes : (k b i : ℕ) → k < n → b < n → i < n → beats k b ≡ true → beats i b ≡ false → (t : Bool) → beats k i ≡ t → beats k i ≡ true
  overtakes k b i lk lb li won lost true e = e
  overtakes k b i lk lb li won lost false e = absurd (false≢true (sym (o.onward lk li lb e lost) ∙ won))

  -- one that does not pass changes nothing
  skips : (k b : ℕ) → passes k ≡ false → ((i : ℕ) → i < k → Leads b i) → (i : ℕ) → i < suc k → Leads b i
  skips k b fails old i l = at_or_below (Leads b) i l (λ p. absurd (false≢true (sym fails ∙ p))) (old i)

  -- the first that passes goes before those that do not
  starts : (k : ℕ) → k < n → some_to passes k ≡ false → (i : ℕ) → i < suc k → Leads k i
  starts k lk none i l =
      at_or_below (Leads k) i l (λ p. (alone k lk (beats k k) refl, λ u. absurd (omega arith)))
      (λ u p. absurd (false≢true (sym (some_none passes k none i u) ∙ p)))

  -- one that beats the best goes before all that the best went before
  takes : (k b : ℕ) → k < n → b < k → beats k b ≡ true → ((i : ℕ) → i < k → Leads b i) → (i : ℕ) → i < suc k → Leads k i
  takes k b lk lb won old i l =
      at_or_below (Leads k) i l (λ p. (alone k lk (beats k k) refl, λ u. absurd (omega arith)))
      (λ u p.
      let li : i < n = omega arith in
      let wins = overtakes k b i lk (omega arith) li won (old i u p).0 (beats k i) refl in
      (o.one_way lk li wins, λ v. wins))

  -- the best stays where it is not beaten
  stays : (k b : ℕ) → b < k → beats k b ≡ false → ((i : ℕ) → i < k → Leads b i) → (i : ℕ) → i < suc k → Leads b i
  stays k b lb lost old i l = at_or_below (Leads b) i l (λ p. (lost, λ u. absurd (omega arith))) (old i)

  -- the best of those below k goes before them all
  pub best_leads : (k : ℕ) → k ≤ n → (i : ℕ) → i < k → Leads (best k) i
  best_leads zero le = λ i l. absurd (not-suc-le-zero l)
  best_leads (suc k) le = go (passes k) refl (some_to passes k) refl (best_leads k (omega arith))
    where
      go : (p : Bool) → passes k ≡ p → (q : Bool) → some_to passes k ≡ q → ((i : ℕ) → i < k → Leads (best k) i)
          → (i : ℕ) → i < suc k → Leads (best (suc k)) i
      go true here true some old =
          let below = best_below passes beats k some in
          rw (best_next passes beats k here some)
          (by_if (λ b. (i : ℕ) → i < suc k → Leads b i) (beats k (best k)) k (best k)
          (λ won. takes k (best k) le below won old)
          (λ lost. stays k (best k) below lost old))
      go true here false none old = rw (best_starts passes beats k here none) (starts k le none)
      go false fails q e old = rw (best_skips passes beats k fails) (skips k (best k) fails old)

-- so of those that have one or more, where some one has
pub goes_first : (has : ℕ → ℕ) (before : ℕ → ℕ → Bool) (n : ℕ) → Ranks before n → some_to (λ i. leb 1 (has i)) n ≡ true
    → GoesFirst has before n (first_best (λ i. leb 1 (has i)) before n)
goes_first has before n o some =
    let best = best_positive has before n some in
    (best.0, best.1, λ i l one. best_leads (λ j. leb 1 (has j)) before n o n (omega arith) i l (le-leb 1 (has i) one))
