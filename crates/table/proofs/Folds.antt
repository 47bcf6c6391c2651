-- Laws of the folds, over any count.
use mathlib.Core.Bool.{Bool, true, false, not, ◌&&◌, ◌||◌}
use mathlib.Core.Path.{◌≡◌, refl, sym, ◌∙◌, ap}
use mathlib.Core.Logic.{⊎_elim}
use mathlib.Core.List.{List, [], ◌++◌, append_assoc, append-nil}
use Prim.Native.Nat.{ℕ, zero, suc, ◌+◌, ◌-◌, ◌*◌, min, max, ◌≤◌, ◌<◌}
use native.Mathlib.Nat.{not-suc-le-zero, mul-add, add-zero, add-suc}
use native.Mathlib.Omega.{arith}
use lib.Dec.{leb, ltb, eqb}
use lib.ListN.{length, length-append}
use borrow.Author.Tests.{le-leb, ne_eqb, lt-ltb, le-ltb}
use Rattle.table.specs.Fold.{if, sum_to, smallest_to, largest_to, all_to, some_to, join_to, count_to}
use Rattle.table.specs.Refusal.{◌or_next◌, first_to}
use Rattle.table.proofs.Tests.{le_or_lt, both, neither, or_next_none, or_next_is, or_next_first}

-- a fold's last step, or one before it
pub at_or_below : (P : ℕ → Type 0) {n : ℕ} (i : ℕ) → i < suc n → P n → (i < n → P i) → P i
at_or_below P {n} i l last rest =
    ⊎_elim (λ (u : n ≤ i). let e : i ≡ n = omega arith in rw e last) rest (le_or_lt n i)

-- a sum that is at most another, term by term
pub sum_le : (f g : ℕ → ℕ) (n : ℕ) → ((i : ℕ) → i < n → f i ≤ g i) → sum_to f n ≤ sum_to g n
unfolding sum_to
sum_le f g zero h = omega arith
sum_le f g (suc n) h = omega (arith, sum_le f g n (λ i l. h i (omega arith)), h n (omega arith))

-- a factor of every term is one of the sum
pub sum_scaled : (k : ℕ) (f : ℕ → ℕ) (n : ℕ) → sum_to (λ i. k * f i) n ≡ k * sum_to f n
unfolding sum_to
sum_scaled k f zero = omega arith
sum_scaled k f (suc n) = rw (sum_scaled k f n) (sym (mul-add k (sum_to f n) (f n)))

pub sum_times : (k : ℕ) (f : ℕ → ℕ) (n : ℕ) → sum_to (λ i. f i * k) n ≡ sum_to f n * k
unfolding sum_to
sum_times k f zero = omega arith
sum_times k f (suc n) = omega (arith, sum_times k f n)

-- a sum whose terms are at most b
pub sum_high : (b : ℕ) (f : ℕ → ℕ) (n : ℕ) → ((i : ℕ) → i < n → f i ≤ b) → sum_to f n ≤ n * b
unfolding sum_to
sum_high b f zero h = omega arith
sum_high b f (suc n) h = omega (arith, sum_high b f n (λ i l. h i (omega arith)), h n (omega arith))

-- a sum of nothing
pub sum_none : (f : ℕ → ℕ) (n : ℕ) → ((i : ℕ) → i < n → f i ≡ 0) → sum_to f n ≡ 0
sum_none f n none = omega (arith, sum_high 0 f n (λ i l. omega (arith, none i l)))

-- a part of a sum is at most the sum, and so is a term
pub sum_part : (f : ℕ → ℕ) (n m : ℕ) → n ≤ m → sum_to f n ≤ sum_to f m
unfolding sum_to
sum_part f n zero le = let e : n ≡ 0 = omega arith in rw e (omega arith)
sum_part f n (suc m) le =
    ⊎_elim
    (λ (u : n ≤ m). omega (arith, sum_part f n m u))
    (λ (u : m < n). let e : n ≡ suc m = omega arith in rw e (omega arith))
    (le_or_lt n m)

pub sum_term : (f : ℕ → ℕ) (n i : ℕ) → i < n → f i ≤ sum_to f n
unfolding sum_to
sum_term f n i l = omega (arith, sum_part f (suc i) n l)

-- a sum from its first term on
pub sum_front : (f : ℕ → ℕ) (n : ℕ) → sum_to f (suc n) ≡ f 0 + sum_to (λ i. f (suc i)) n
unfolding sum_to
sum_front f zero = omega arith
sum_front f (suc n) = omega (arith, sum_front f n)

-- a sum of sums, term by term
pub sum_add : (f g : ℕ → ℕ) (n : ℕ) → sum_to (λ i. f i + g i) n ≡ sum_to f n + sum_to g n
unfolding sum_to
sum_add f g zero = refl
sum_add f g (suc n) = omega (arith, sum_add f g n)

pub smallest_le : (f : ℕ → ℕ) (n i : ℕ) → i < n → smallest_to f n ≤ f i
unfolding smallest_to
smallest_le f zero i l = absurd (not-suc-le-zero l)
smallest_le f (suc n) i l =
    at_or_below (λ j. min (smallest_to f n) (f n) ≤ f j) i l (omega arith) (λ u. omega (arith, smallest_le f n i u))

-- where a fold comes to a value only if each part does, so does each function value below its count
each_at : {A : Type 0} (fold : (ℕ → A) → ℕ → A) (value : A)
    → ((f : ℕ → A) (n : ℕ) → fold f (suc n) ≡ value → (fold f n ≡ value) × (f n ≡ value))
    → (f : ℕ → A) (n : ℕ) → fold f n ≡ value → (i : ℕ) → i < n → f i ≡ value
each_at fold value parts f zero h i l = absurd (not-suc-le-zero l)
each_at fold value parts f (suc n) h i l =
    let k = parts f n h in
    at_or_below (λ j. f j ≡ value) i l k.1 (λ u. each_at fold value parts f n k.0 i u)

pub all_at : (f : ℕ → Bool) (n : ℕ) → all_to f n ≡ true → (i : ℕ) → i < n → f i ≡ true
unfolding all_to
all_at = each_at all_to true (λ f n. both (all_to f n) (f n))

-- where not one passes, each fails
pub some_none : (f : ℕ → Bool) (n : ℕ) → some_to f n ≡ false → (i : ℕ) → i < n → f i ≡ false
unfolding some_to
some_none = each_at some_to false (λ f n. neither (some_to f n) (f n))

pub first_none : (f : ℕ → ℕ) (n : ℕ) → first_to f n ≡ 0 → (i : ℕ) → i < n → f i ≡ 0
unfolding first_to
first_none = each_at first_to 0 (λ f n. or_next_none (first_to f n) (f n))

pub first_all : (f : ℕ → ℕ) (n : ℕ) → ((i : ℕ) → i < n → f i ≡ 0) → first_to f n ≡ 0
unfolding first_to ◌or_next◌
first_all f zero h = refl
first_all f (suc n) h = rw (first_all f n (λ i l. h i (omega arith)), h n (omega arith))

-- each is at most the largest, and the largest is at most what each is at most
pub largest_le : (f : ℕ → ℕ) (n i : ℕ) → i < n → f i ≤ largest_to f n
unfolding largest_to
largest_le f zero i l = absurd (not-suc-le-zero l)
largest_le f (suc n) i l =
    at_or_below (λ j. f j ≤ max (largest_to f n) (f n)) i l (omega arith) (λ u. omega (arith, largest_le f n i u))

pub largest_high : (b : ℕ) (f : ℕ → ℕ) (n : ℕ) → ((i : ℕ) → i < n → f i ≤ b) → largest_to f n ≤ b
unfolding largest_to
largest_high b f zero h = omega arith
largest_high b f (suc n) h = omega (arith, largest_high b f n (λ i l. h i (omega arith)), h n (omega arith))

pub all_of : (f : ℕ → Bool) (n : ℕ) → ((i : ℕ) → i < n → f i ≡ true) → all_to f n ≡ true
unfolding all_to
all_of f zero h = refl
all_of f (suc n) h = rw (all_of f n (λ i l. h i (omega arith)), h n (omega arith))

-- some one is 1 or more exactly where not all are 0
pub some_not_all : (f : ℕ → ℕ) (n : ℕ) → some_to (λ i. leb 1 (f i)) n ≡ not (all_to (λ i. eqb (f i) 0) n)
unfolding all_to some_to
some_not_all f zero = refl
some_not_all f (suc n) = rw (some_not_all f n) (go (all_to (λ i. eqb (f i) 0) n) (f n))
  where
    go : (b : Bool) (m : ℕ) → (not b || leb 1 m) ≡ not (b && eqb m 0)
    go true zero = refl
    go true (suc m) = rw (le-leb 1 (suc m) (omega arith), ne_eqb (suc m) 0 (λ e. omega arith))
    go false m = refl

pub some_positive : (f : ℕ → ℕ) (n : ℕ) → all_to (λ i. eqb (f i) 0) n ≡ false → some_to (λ i. leb 1 (f i)) n ≡ true
some_positive f n h = some_not_all f n ∙ ap not h

-- what each number passes, the smallest of them passes
pub smallest_is : (P : ℕ → Type 0) (f : ℕ → ℕ) (n : ℕ) → 1 ≤ n → ((i : ℕ) → i < n → P (f i)) → P (smallest_to f n)
unfolding smallest_to
smallest_is P f n pos h = go n (h 0 pos) h
  where
    pick : (a b : ℕ) → P a → P b → P (min a b)
    pick a b pa pb =
        ⊎_elim (λ (u : a ≤ b). let e : min a b ≡ a = omega arith in rw e pa) (λ (u : b < a). let e : min a b ≡ b = omega arith in rw e pb) (le_or_lt a b)

    go : (n : ℕ) → P (f 0) → ((i : ℕ) → i < n → P (f i)) → P (smallest_to f n)
    go zero first h = first
    go (suc n) first h = pick (smallest_to f n) (f n) (go n first (λ i l. h i (omega arith))) (h n (omega arith))

-- what 0 and each refusal passes, the first of them passes
pub first_is : (P : ℕ → Type 0) → P 0 → (f : ℕ → ℕ) (n : ℕ) → ((i : ℕ) → i < n → P (f i)) → P (first_to f n)
unfolding first_to
first_is P none f zero h = none
first_is P none f (suc n) h = or_next_is P (first_to f n) (f n) (first_is P none f n (λ i l. h i (omega arith))) (h n (omega arith))

-- where nothing is refused before i, and i is refused, that is the first refusal
pub first_at : (f : ℕ → ℕ) (n i : ℕ) → i < n → first_to f i ≡ 0 → (f i ≡ 0 → ⊥) → first_to f n ≡ f i
unfolding first_to ◌or_next◌
first_at f zero i l h k = absurd (not-suc-le-zero l)
first_at f (suc n) i l h k =
    ⊎_elim
    (λ (u : n ≤ i). let e : n ≡ i = omega arith in rw (e, h))
    (λ (u : i < n). let e = first_at f n i u h k in rw e (or_next_first (f i) (f n) k))
    (le_or_lt n i)

-- where exactly the numbers below k pass, k pass
pub count_below : (f : ℕ → Bool) (k : ℕ) → ((i : ℕ) → i < k → f i ≡ true) → ((i : ℕ) → k ≤ i → f i ≡ false) → (m : ℕ) → count_to f m ≡ min k m
unfolding count_to if
count_below f k yeses noes zero = omega arith
count_below f k yeses noes (suc m) =
    ⊎_elim
    (λ (u : k ≤ m). rw (noes m u, count_below f k yeses noes m) (omega arith))
    (λ (u : m < k). rw (yeses m u, count_below f k yeses noes m) (omega arith))
    (le_or_lt k m)

-- a fold reads only what is below its count: where two functions agree there, so do their folds
agree : (fold : (ℕ → ℕ) → ℕ → ℕ) (step : ℕ → ℕ → ℕ) → ((f : ℕ → ℕ) (n : ℕ) → fold f (suc n) ≡ step (fold f n) (f n))
    → (f g : ℕ → ℕ) → fold f 0 ≡ fold g 0 → (n : ℕ) → ((i : ℕ) → i < n → f i ≡ g i) → fold f n ≡ fold g n
agree fold step law f g e zero h = e
agree fold step law f g e (suc n) h =
    rw (law f n, law g n, agree fold step law f g e n (λ i l. h i (omega arith)), h n (omega arith))

pub sum_agree : (f g : ℕ → ℕ) (n : ℕ) → ((i : ℕ) → i < n → f i ≡ g i) → sum_to f n ≡ sum_to g n
unfolding sum_to
sum_agree f g = agree sum_to ◌+◌ (λ f n. refl) f g refl

pub smallest_agree : (f g : ℕ → ℕ) (n : ℕ) → 1 ≤ n → ((i : ℕ) → i < n → f i ≡ g i) → smallest_to f n ≡ smallest_to g n
unfolding smallest_to
smallest_agree f g n some h = agree smallest_to min (λ f n. refl) f g (h 0 some) n h

pub first_agree : (f g : ℕ → ℕ) (n : ℕ) → ((i : ℕ) → i < n → f i ≡ g i) → first_to f n ≡ first_to g n
unfolding first_to
first_agree f g = agree first_to ◌or_next◌ (λ f n. refl) f g refl

-- two sums that differ at one place differ by what stands there
pub sum_other : (f g : ℕ → ℕ) (n i : ℕ) → i < n → ((j : ℕ) → j < n → (j ≡ i → ⊥) → f j ≡ g j) → sum_to f n + g i ≡ sum_to g n + f i
unfolding sum_to
sum_other f g zero i l h = absurd (not-suc-le-zero l)
sum_other f g (suc n) i l h =
    ⊎_elim
    (λ (u : n ≤ i).
    let e : n ≡ i = omega arith in
    let before = sum_agree f g n (λ j v. h j (omega arith) (λ (w : j ≡ i). omega arith)) in
    rw (before, e) (omega arith))
    (λ (u : i < n). omega (arith, sum_other f g n i u (λ j v. h j (omega arith)), h n (omega arith) (λ (w : n ≡ i). omega arith)))
    (le_or_lt n i)

-- ---- how many pass

-- one more, where the next passes, and else as many
pub count_more : (f : ℕ → Bool) (n : ℕ) → f n ≡ true → count_to f (suc n) ≡ suc (count_to f n)
unfolding count_to if
count_more f n h = rw h

pub count_stays : (f : ℕ → Bool) (n : ℕ) → f n ≡ false → count_to f (suc n) ≡ count_to f n
unfolding count_to if
count_stays f n h = rw h

pub count_le : (f : ℕ → Bool) (n : ℕ) → count_to f n ≤ n
unfolding count_to if
count_le f zero = omega arith
count_le f (suc n) = go (f n) (count_le f n)
  where
    go : (b : Bool) → count_to f n ≤ n → if b (suc (count_to f n)) (count_to f n) ≤ suc n
    go true h = omega arith
    go false h = omega arith

-- where each passes, all do
pub count_all : (f : ℕ → Bool) (n : ℕ) → ((i : ℕ) → i < n → f i ≡ true) → count_to f n ≡ n
unfolding count_to if
count_all f zero h = refl
count_all f (suc n) h = rw (h n (omega arith), count_all f n (λ i l. h i (omega arith)))

pub count_agree : (f g : ℕ → Bool) (n : ℕ) → ((i : ℕ) → i < n → f i ≡ g i) → count_to f n ≡ count_to g n
unfolding count_to
count_agree f g zero h = refl
count_agree f g (suc n) h = rw (h n (omega arith), count_agree f g n (λ i l. h i (omega arith)))

-- of the first n, and of the next m
pub count_split : (f : ℕ → Bool) (n m : ℕ) → count_to f (n + m) ≡ count_to f n + count_to (λ i. f (n + i)) m
unfolding count_to if
count_split f n zero = rw (add-zero n) (omega arith)
count_split f n (suc m) = rw (add-suc n m, count_split f n m) (go (f (n + m)))
  where
    go : (b : Bool) → let a = count_to f n in let c = count_to (λ i. f (n + i)) m in if b (suc (a + c)) (a + c) ≡ a + if b (suc c) c
    go true = omega arith
    go false = refl

-- a test that agrees with one on the first n, and with another behind them
pub count_parts : (h f g : ℕ → Bool) (n m : ℕ) → ((i : ℕ) → i < n → h i ≡ f i) → ((i : ℕ) → i < m → h (n + i) ≡ g i)
    → count_to h (n + m) ≡ count_to f n + count_to g m
count_parts h f g n m front behind =
    count_split h n m ∙ omega (arith, count_agree h f n front, count_agree (λ i. h (n + i)) g m behind)

-- Of those that pass only the first k: they are as many as pass, but no more than k.
pub count_first : (f : ℕ → Bool) (k n : ℕ) → count_to (λ i. f i && ltb (count_to f i) k) n ≡ min k (count_to f n)
unfolding count_to if
count_first f k zero = omega arith
count_first f k (suc n) = rw (count_first f k n) (go (f n))
  where
    go : (b : Bool) → let c = count_to f n in if (b && ltb c k) (suc (min k c)) (min k c) ≡ min k (if b (suc c) c)
    go true =
        ⊎_elim
        (λ (u : k ≤ count_to f n). rw (le-ltb (count_to f n) k u) (omega arith))
        (λ (u : count_to f n < k). rw (lt-ltb (count_to f n) k u) (omega arith))
        (le_or_lt k (count_to f n))
    go false = refl

-- ---- lists, one behind the other

module _ {A : Type 0} where
  pub join_agree : (f g : ℕ → List A) (n : ℕ) → ((i : ℕ) → i < n → f i ≡ g i) → join_to f n ≡ join_to g n
  unfolding join_to
  join_agree f g zero h = refl
  join_agree f g (suc n) h = rw (h n (omega arith), join_agree f g n (λ i l. h i (omega arith)))

  -- the first n, and the next m
  pub join_split : (f : ℕ → List A) (n m : ℕ) → join_to f (n + m) ≡ join_to f n ++ join_to (λ i. f (n + i)) m
  unfolding join_to
  join_split f n zero = rw (add-zero n) (sym (append-nil (join_to f n)))
  join_split f n (suc m) = rw (add-suc n m, join_split f n m) (append_assoc (join_to f n) (join_to (λ i. f (n + i)) m) (f (n + m)))

  -- lists that agree with some on the first n, and with others behind them
  pub join_parts : (h f g : ℕ → List A) (n m : ℕ) → ((i : ℕ) → i < n → h i ≡ f i) → ((i : ℕ) → i < m → h (n + i) ≡ g i)
      → join_to h (n + m) ≡ join_to f n ++ join_to g m
  join_parts h f g n m front behind =
      join_split h n m ∙ rw (join_agree h f n front, join_agree (λ i. h (n + i)) g m behind)

  -- where each is empty
  pub join_none : (f : ℕ → List A) (n : ℕ) → ((i : ℕ) → i < n → f i ≡ []) → join_to f n ≡ []
  unfolding join_to
  join_none f zero h = refl
  join_none f (suc n) h = rw (h n (omega arith), join_none f n (λ i l. h i (omega arith)))

  -- where each that passes has k elements, and each other m
  pub join_length : (test : ℕ → Bool) (f g : ℕ → List A) (k m n : ℕ) → ((i : ℕ) → i < n → length (f i) ≡ k)
      → ((i : ℕ) → i < n → length (g i) ≡ m)
      → length (join_to (λ i. if (test i) (f i) (g i)) n) ≡ k * count_to test n + m * (n - count_to test n)
  unfolding join_to count_to if
  join_length test f g k m zero hf hg = omega arith
  join_length test f g k m (suc n) hf hg =
      length-append (join_to (λ i. if (test i) (f i) (g i)) n) (if (test n) (f n) (g n))
      ∙ rw (join_length test f g k m n (λ i l. hf i (omega arith)) (λ i l. hg i (omega arith))) (go (test n))
    where
      go : (b : Bool) → let c = count_to test n in let d = if b (suc c) c in
          k * c + m * (n - c) + length (if b (f n) (g n)) ≡ k * d + m * (suc n - d)
      go true =
          let e : suc n - suc (count_to test n) ≡ n - count_to test n = omega arith in
          rw (e, hf n (omega arith)) (omega arith)
      go false =
          let e : suc n - count_to test n ≡ suc (n - count_to test n) = omega (arith, count_le test n) in
          rw (e, hg n (omega arith)) (omega arith)
