-- Counts are put together in any order.
use mathlib.Core.Bool.{Bool, true, false, ◌&&◌, false≢true}
use mathlib.Core.Path.{◌≡◌, refl, sym, ◌∙◌, ap}
use Prim.Native.Nat.{ℕ, zero, suc, ◌+◌, ◌^◌, max, ◌<◌}
use native.Mathlib.Omega.{arith}
use borrow.Author.Tests.{ltb-true, lt-ltb}
use Rattle.std.specs.Prelude.{List, Some, None}
use Rattle.table.proofs.Tests.{both as both_true}
use Rattle.table.specs.Fold.{if, all_to, list_to}
use Rattle.table.specs.Ranges.{streams_max}
use Rattle.table.proofs.Folds.{all_at, all_of}
use Rattle.table.proofs.Lists.{get_d_list_to}
use Rattle.counts.specs.Tally.{nothing, together}
use Rattle.counts.specs.Counts.{row_at, small, fits, sum_of, known, passed, has_passed, rows_in, counts, both_rows, both}
use Rattle.counts.specs.Laws.{BothCommutes, BothAssociates}
use Rattle.counts.specs.declared.Tally.{Tally}
use Rattle.counts.specs.declared.Counts.{Counts}

-- two tallies
pub together_commutes : (a b : Tally) → together a b ≡ together b a
unfolding together
together_commutes a b =
    let jobs : a.jobs + b.jobs ≡ b.jobs + a.jobs = omega arith in
    let late : a.late + b.late ≡ b.late + a.late = omega arith in
    let expired : a.expired + b.expired ≡ b.expired + a.expired = omega arith in
    let time : a.time + b.time ≡ b.time + a.time = omega arith in
    let largest : max a.largest b.largest ≡ max b.largest a.largest = omega arith in
    rw (jobs, late, expired, time, largest)

together_associates : (a b c : Tally) → together (together a b) c ≡ together a (together b c)
unfolding together
together_associates a b c =
    let jobs : a.jobs + b.jobs + c.jobs ≡ a.jobs + (b.jobs + c.jobs) = omega arith in
    let late : a.late + b.late + c.late ≡ a.late + (b.late + c.late) = omega arith in
    let expired : a.expired + b.expired + c.expired ≡ a.expired + (b.expired + c.expired) = omega arith in
    let time : a.time + b.time + c.time ≡ a.time + (b.time + c.time) = omega arith in
    let largest : max (max a.largest b.largest) c.largest ≡ max a.largest (max b.largest c.largest) = omega arith in
    rw (jobs, late, expired, time, largest)

pub nothing_together : (a : Tally) → together nothing a ≡ a
unfolding together
nothing_together a =
    let jobs : 0 + a.jobs ≡ a.jobs = omega arith in
    let late : 0 + a.late ≡ a.late = omega arith in
    let expired : 0 + a.expired ≡ a.expired = omega arith in
    let time : 0 + a.time ≡ a.time = omega arith in
    let largest : max 0 a.largest ≡ a.largest = omega arith in
    rw (jobs, late, expired, time, largest)

-- what fits together fits apart
pub record Fits (a : Tally) : Type 0 where
  pub jobs_small : a.jobs < 2 ^ 64
  pub late_small : a.late < 2 ^ 64
  pub expired_small : a.expired < 2 ^ 64
  pub time_small : a.time < 2 ^ 64

pub fits_of : (a : Tally) → fits a ≡ true → Fits a
unfolding fits
fits_of a h =
    let three = both_true (small a.jobs && small a.late && small a.expired) (small a.time) h in
    let two = both_true (small a.jobs && small a.late) (small a.expired) three.0 in
    let one = both_true (small a.jobs) (small a.late) two.0 in
    record {
      jobs_small = ltb-true _ _ one.0;
      late_small = ltb-true _ _ one.1;
      expired_small = ltb-true _ _ two.1;
      time_small = ltb-true _ _ three.1;
    }

pub of_fits : (a : Tally) → Fits a → fits a ≡ true
unfolding fits
of_fits a f = rw (lt-ltb _ _ f.jobs_small, lt-ltb _ _ f.late_small, lt-ltb _ _ f.expired_small, lt-ltb _ _ f.time_small)

fits_apart : (a b : Tally) → fits (together a b) ≡ true → fits a ≡ true
unfolding together
fits_apart a b h =
    let f = fits_of (together a b) h in
    of_fits a
    (record {
      jobs_small = omega (arith, f.jobs_small);
      late_small = omega (arith, f.late_small);
      expired_small = omega (arith, f.expired_small);
      time_small = omega (arith, f.time_small);
    })

-- counts are those of what they list
module _ {A : Type 0} where
  list_agree : (f g : ℕ → A) (n : ℕ) → ((i : ℕ) → i < n → f i ≡ g i) → list_to f n ≡ list_to g n
  unfolding list_to
  list_agree f g zero h = refl
  list_agree f g (suc n) h = rw (list_agree f g n (λ i l. h i (omega arith)), h n (omega arith))

all_agree : (f g : ℕ → Bool) (n : ℕ) → ((i : ℕ) → i < n → f i ≡ g i) → all_to f n ≡ all_to g n
unfolding all_to
all_agree f g zero h = refl
all_agree f g (suc n) h = rw (all_agree f g n (λ i l. h i (omega arith)), h n (omega arith))

pub counts_agree : (f g : ℕ → Tally) → ((i : ℕ) → i < streams_max → f i ≡ g i) → counts f ≡ counts g
unfolding counts
counts_agree f g h =
    rw (all_agree (λ i. fits (f i)) (λ i. fits (g i)) streams_max (λ i l. ap fits (h i l)), list_agree f g streams_max h)

pub counts_known : (f : ℕ → Tally) → ((i : ℕ) → i < streams_max → fits (f i) ≡ true) → counts f ≡ known (list_to f streams_max)
unfolding counts if
counts_known f h = rw (all_of (λ i. fits (f i)) streams_max h)

-- where one does not fit, none stands
pub counts_passed : (f : ℕ → Tally) (i : ℕ) → i < streams_max → fits (f i) ≡ false → counts f ≡ passed
unfolding counts if
counts_passed f i l large = go (all_to (λ j. fits (f j)) streams_max) refl
  where
    go : (b : Bool) → all_to (λ j. fits (f j)) streams_max ≡ b → counts f ≡ passed
    go true e = absurd (false≢true (sym large ∙ all_at (λ j. fits (f j)) streams_max e i l))
    go false e = rw e

-- whatever is put to counts: it is put to what they list
pub both_counts : (f : ℕ → Tally) (c : Counts) → has_passed c.rows ≡ false
    → both (counts f) c ≡ counts (λ i. together (f i) (row_at (rows_in c.rows) i))
unfolding both counts if
both_counts f c whole = go (all_to (λ i. fits (f i)) streams_max) refl
  where
    sum : ℕ → Tally
    sum i = together (f i) (row_at (rows_in c.rows) i)

    go : (b : Bool) → all_to (λ i. fits (f i)) streams_max ≡ b → both (counts f) c ≡ counts sum
    go true e =
        rw (e, whole)
        (counts_agree (λ i. together (row_at (list_to f streams_max) i) (row_at (rows_in c.rows) i)) sum
        (λ i l. ap (λ (a : Tally). together a (row_at (rows_in c.rows) i)) (get_d_list_to f nothing streams_max i l)))
    go false e = rw e (sym (none_fits (all_to (λ i. fits (sum i)) streams_max) refl))
      where
        none_fits : (b : Bool) → all_to (λ i. fits (sum i)) streams_max ≡ b → counts sum ≡ passed
        none_fits true all =
            absurd (false≢true (sym e ∙ all_of (λ i. fits (f i)) streams_max
            (λ i l. fits_apart (f i) (row_at (rows_in c.rows) i) (all_at (λ j. fits (sum j)) streams_max all i l))))
        none_fits false all = rw all

pub both_commutes : BothCommutes
unfolding both if
both_commutes a b = go (has_passed a.rows) (has_passed b.rows) refl refl
  where
    go : (p q : Bool) → has_passed a.rows ≡ p → has_passed b.rows ≡ q → both a b ≡ both b a
    go true true e f = rw (e, f)
    go true false e f = rw (e, f)
    go false true e f = rw (e, f)
    go false false e f =
        rw (e, f) (counts_agree (both_rows a b) (both_rows b a) (λ i l. together_commutes (row_at (rows_in a.rows) i) (row_at (rows_in b.rows) i)))

-- where one of two has passed, both have
passed_left : (a b : Counts) → has_passed a.rows ≡ true → both a b ≡ passed
unfolding both if
passed_left a b e = rw e

passed_right : (a b : Counts) → has_passed b.rows ≡ true → both a b ≡ passed
passed_right a b e = both_commutes a b ∙ passed_left b a e

neither_passed : (a b : Counts) → has_passed a.rows ≡ false → has_passed b.rows ≡ false → both a b ≡ counts (both_rows a b)
unfolding both if
neither_passed a b e f = rw (e, f)

pub both_associates : BothAssociates
both_associates a b c = go (has_passed a.rows) (has_passed b.rows) (has_passed c.rows) refl refl refl
  where
    go : (p q r : Bool) → has_passed a.rows ≡ p → has_passed b.rows ≡ q → has_passed c.rows ≡ r → both (both a b) c ≡ both a (both b c)
    go true q r e f g = rw (passed_left a b e, passed_left a (both b c) e) (passed_left passed c refl)
    go false true r e f g = rw (passed_right a b f, passed_left b c f, passed_right a passed refl) (passed_left passed c refl)
    go false false true e f g = rw (passed_right b c g, passed_right a passed refl) (passed_right (both a b) c g)
    go false false false e f g =
        rw (neither_passed a b e f, neither_passed b c f g, both_counts (both_rows a b) c g)
        (counts_agree _ _ (λ i l. together_associates (row_at (rows_in a.rows) i) (row_at (rows_in b.rows) i) (row_at (rows_in c.rows) i) ∙ together_commutes _ _)
        ∙ sym (both_counts (both_rows b c) a e)
        ∙ both_commutes (counts (both_rows b c)) a)

-- a sum of two tallies that passes in one of its numbers is none
module _ (a b : Tally) where
  known_none : (fits (together a b) ≡ true → ⊥) → sum_of a b ≡ None
  unfolding sum_of if
  known_none other = go (fits (together a b)) refl
    where
      go : (t : Bool) → fits (together a b) ≡ t → sum_of a b ≡ None
      go true e = absurd (other e)
      go false e = rw e

  pub jobs_pass : (a.jobs + b.jobs < 2 ^ 64 → ⊥) → sum_of a b ≡ None
  unfolding together
  jobs_pass past = known_none (λ e. past (fits_of _ e).jobs_small)

  pub late_pass : (a.late + b.late < 2 ^ 64 → ⊥) → sum_of a b ≡ None
  unfolding together
  late_pass past = known_none (λ e. past (fits_of _ e).late_small)

  pub expired_pass : (a.expired + b.expired < 2 ^ 64 → ⊥) → sum_of a b ≡ None
  unfolding together
  expired_pass past = known_none (λ e. past (fits_of _ e).expired_small)

  pub time_pass : (a.time + b.time < 2 ^ 64 → ⊥) → sum_of a b ≡ None
  unfolding together
  time_pass past = known_none (λ e. past (fits_of _ e).time_small)

  -- and one that fits is known
  pub sum_known : Fits (together a b) → sum_of a b ≡ Some (together a b)
  unfolding sum_of if
  sum_known f = rw (of_fits (together a b) f)

  pub sum_none : None ≡ sum_of a b → fits (together a b) ≡ false
  unfolding sum_of if
  sum_none e = go (fits (together a b)) refl
    where
      go : (t : Bool) → fits (together a b) ≡ t → t ≡ false
      go true fit = let never : None ≡ Some (together a b) = rw fit at e in cc
      go false other = refl

  pub sum_some : (x : Tally) → Some x ≡ sum_of a b → (fits (together a b) ≡ true) × (x ≡ together a b)
  unfolding sum_of if
  sum_some x e = go (fits (together a b)) refl
    where
      go : (t : Bool) → fits (together a b) ≡ t → (fits (together a b) ≡ true) × (x ≡ together a b)
      go true fit = let same : Some x ≡ Some (together a b) = rw fit at e in (fit, cc)
      go false other = let never : Some x ≡ None = rw other at e in cc

-- counts of which one has passed, and of which neither has
pub both_left : (a b : Counts) → a.rows ≡ None → both a b ≡ passed
unfolding both if
both_left a b e = rw e

pub both_right : (a b : Counts) → b.rows ≡ None → both a b ≡ passed
both_right a b e = both_commutes a b ∙ both_left b a e

pub both_listed : (a b : Counts) (xs ys : List Tally) → a.rows ≡ Some xs → b.rows ≡ Some ys
    → both a b ≡ counts (λ i. together (row_at xs i) (row_at ys i))
unfolding both if
both_listed a b xs ys e f = rw (e, f)
