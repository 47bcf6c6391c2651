-- The eight numbers of a table's column: those below the count as a rule gives them, the others 0.
use mathlib.Core.Path.{◌≡◌, refl, sym, ◌∙◌}
use mathlib.Core.Logic.{⊎_elim}
use Prim.Native.Nat.{ℕ, zero, suc, ◌≤◌, ◌<◌}
use native.Mathlib.Omega.{arith}
use lib.Dec.{ltb}
use native.Mathlib.Numerals.{add-one}
use mathlib.Core.List.{List, map}
use lib.ListN.{length, get_or, get_or-eq_default}
use Rattle.std.specs.List.{range_with_len}
use Rattle.std.proofs.lemmas.List.FromFn.{map-range_with_len_more, fill_by_all}
use borrow.Author.Tests.{lt-ltb, le-ltb}
use Rattle.table.specs.Fold.{if, list_to}
use Rattle.table.proofs.Tests.{le_or_lt}
use Rattle.table.proofs.Lists.{length_list_to, get_d_list_to}
use Rattle.file.specs.Reading.{column}

pub list_agree : {A : Type 0} (f g : ℕ → A) (n : ℕ) → ((i : ℕ) → i < n → f i ≡ g i) → list_to f n ≡ list_to g n
unfolding list_to
list_agree f g zero h = refl
list_agree f g (suc n) h = rw (list_agree f g n (λ i l. h i (omega arith)), h n (omega arith))

-- below the count, and past it
below : (f : ℕ → ℕ) (n i : ℕ) → i < n → if (ltb i n) (f i) 0 ≡ f i
unfolding if
below f n i l = rw (lt-ltb i n l)

past : (f : ℕ → ℕ) (n i : ℕ) → n ≤ i → if (ltb i n) (f i) 0 ≡ 0
unfolding if
past f n i l = rw (le-ltb i n l)

-- a column reads only what is below its count
pub column_agree : (f g : ℕ → ℕ) (n : ℕ) → ((i : ℕ) → i < n → f i ≡ g i) → column f n ≡ column g n
unfolding column
column_agree f g n h =
    list_agree _ _ 8
    (λ i _.
    ⊎_elim
    (λ (u : n ≤ i). past f n i u ∙ sym (past g n i u))
    (λ (u : i < n). below f n i u ∙ h i u ∙ sym (below g n i u))
    (le_or_lt n i))

pub column_at : (f : ℕ → ℕ) (n i : ℕ) → i < n → n ≤ 8 → get_or (column f n) i 0 ≡ f i
unfolding column
column_at f n i l m = get_d_list_to (λ i. if (ltb i n) (f i) 0) 0 8 i (omega arith) ∙ below f n i l

-- what holds of each number and of 0 holds of each number of a column
column_each : (P : ℕ → Type 0) (f : ℕ → ℕ) (n i : ℕ) → ((i : ℕ) → P (f i)) → P 0 → P (get_or (column f n) i 0)
unfolding column
column_each P f n i each none =
    ⊎_elim
    (λ (u : 8 ≤ i). rw (get_or-eq_default (column f n) 0 {n = i} (rw (length_list_to (λ i. if (ltb i n) (f i) 0) 8) u)) none)
    (λ (u : i < 8).
    rw (get_d_list_to (λ i. if (ltb i n) (f i) 0) 0 8 i u)
    (⊎_elim (λ (v : n ≤ i). rw (past f n i v) none) (λ (v : i < n). rw (below f n i v) (each i)) (le_or_lt n i)))
    (le_or_lt 8 i)

pub column_lt : (top : ℕ) (f : ℕ → ℕ) (n i : ℕ) → ((i : ℕ) → f i < top) → 0 < top → get_or (column f n) i 0 < top
column_lt top f n i each pos = column_each (λ (x : ℕ). x < top) f n i each pos

-- the column of a column's numbers is that column
pub column_again : (f : ℕ → ℕ) (n : ℕ) → column (λ i. get_or (column f n) i 0) n ≡ column f n
unfolding column
column_again f n =
    list_agree _ _ 8
    (λ i l.
    ⊎_elim
    (λ (u : n ≤ i). past (λ i. get_or (column f n) i 0) n i u ∙ sym (past f n i u))
    (λ (u : i < n). below (λ i. get_or (column f n) i 0) n i u ∙ get_d_list_to (λ i. if (ltb i n) (f i) 0) 0 8 i l)
    (le_or_lt n i))

-- a list whose numbers are those of a rule is that list, and so is a column
list_range : {A : Type 0} (f : ℕ → A) (n : ℕ) → list_to f n ≡ map f (range_with_len 0 n)
unfolding list_to
list_range f zero = refl
list_range f (suc n) = rw (list_range f n) (sym (rw add-one at (map-range_with_len_more f 0 n n (omega arith))))

pub column_is : (f : ℕ → ℕ) (n : ℕ) (cells : List ℕ) → length cells ≡ 8 → ((k : ℕ) → k < 8 → get_or cells k 0 ≡ if (ltb k n) (f k) 0) → cells ≡ column f n
unfolding column
column_is f n cells long each = fill_by_all (λ k. if (ltb k n) (f k) 0) cells 8 0 long each ∙ sym (list_range (λ k. if (ltb k n) (f k) 0) 8)
