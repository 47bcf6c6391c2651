-- Cells and the numbers in them: one law each over the width.
use mathlib.Core.Path.{◌≡◌, refl, ap, ◌∙◌}
use mathlib.Core.List.{List, [], ◌∷◌, ◌++◌}
use Prim.Native.Nat.{ℕ, zero, suc, ◌+◌, ◌-◌, ◌*◌, ◌/◌, ◌%◌, ◌^◌, min, ◌≤◌, ◌<◌}
use native.Mathlib.Omega.{arith}
use native.Mathlib.Numerals.{add-one}
use native.Mathlib.Nat.{pow-suc, pow-le-pow_right, div-lt_iff_lt-mul, zero-lt-suc, lt_of_lt_of_le, add-zero, mod-lt}
use lib.Arith.{digits_lt, digits_div, digits_mod}
use lib.ListN.{length, get_or, take, drop, get_or-eq_default, get_or-append}
use lib.Seq.{drop-cons, get_or-drop, get_or-append-add}
use Rattle.cells.specs.Cells.{cell, number_at, Bytes}
use Rattle.cells.specs.Laws.{CellReadsBack, NumberWritesBack, NumberFits, CellIsBytes}

pub length_cell : (w n : ℕ) → length (cell w n) ≡ w
unfolding cell
length_cell zero n = refl
length_cell (suc w) n = ap suc (length_cell w (n / 256))

-- ---- where a number is read

-- in the first of two runs of bytes
pub number_before : (w : ℕ) (a b : List ℕ) (at : ℕ) → at + w ≤ length a → number_at w (a ++ b) at ≡ number_at w a at
unfolding number_at
number_before zero a b at h = refl
number_before (suc w) a b at h = rw (get_or-append a b 0 at (omega arith), number_before w a b (suc at) (omega arith))

-- past a run of bytes
pub number_past : (w : ℕ) (a b : List ℕ) (at : ℕ) → number_at w (a ++ b) (length a + at) ≡ number_at w b at
unfolding number_at
number_past zero a b at = refl
number_past (suc w) a b at =
    let e : suc (length a + at) ≡ length a + suc at = omega arith in
    rw (get_or-append-add a b at 0, e, number_past w a b (suc at))

-- past the end
number_out : (w : ℕ) (l : List ℕ) (at : ℕ) → length l ≤ at → number_at w l at ≡ 0
unfolding number_at
number_out zero l at h = refl
number_out (suc w) l at h = rw (get_or-eq_default l 0 {n = at} h, number_out w l (suc at) (omega arith))

-- bytes past the end add nothing
pub number_cut : (w m : ℕ) (l : List ℕ) (at : ℕ) → length l ≤ at + m → number_at (min w m) l at ≡ number_at w l at
unfolding number_at
number_cut zero m l at h = let e : min 0 m ≡ 0 = omega arith in rw e
number_cut (suc w) zero l at h =
    let e : min (suc w) 0 ≡ 0 = omega arith in
    rw (e, number_out (suc w) l at (omega arith))
number_cut (suc w) (suc m) l at h =
    let e : min (suc w) (suc m) ≡ suc (min w m) = omega arith in
    rw (e, number_cut w m l (suc at) (omega arith))

-- ---- there and back

number_cons : (w x : ℕ) (l : List ℕ) (at : ℕ) → number_at w (x ∷ l) (suc at) ≡ number_at w l at
unfolding number_at
number_cons zero x l at = refl
number_cons (suc w) x l at = rw (number_cons w x l (suc at))

-- the number in a cell, whatever stands after it
pub number_cell : (w n : ℕ) (after : List ℕ) → n < 256 ^ w → number_at w (cell w n ++ after) 0 ≡ n
unfolding cell number_at
number_cell zero n after h = omega arith
number_cell (suc w) n after h =
    let q : n / 256 < 256 ^ w = (div-lt_iff_lt-mul (zero-lt-suc 255)).1 (rw pow-suc at h) in
    rw (number_cons w (n % 256) (cell w (n / 256) ++ after) 0, number_cell w (n / 256) after q) (omega arith)

-- the cell of the number that stands there is what stands there
pub cell_number : (w : ℕ) (l : List ℕ) (at : ℕ) → Bytes l → at + w ≤ length l → cell w (number_at w l at) ≡ take w (drop at l)
unfolding cell number_at
cell_number zero l at b h = refl
cell_number (suc w) l at b h =
    let i : at < length l = omega arith in
    rw (digits_mod (number_at w l (suc at)) (b at), digits_div (number_at w l (suc at)) (b at), cell_number w l (suc at) b (omega arith), drop-cons l at 0 i)

pub number_lt : (w : ℕ) (l : List ℕ) (at : ℕ) → Bytes l → number_at w l at < 256 ^ w
unfolding number_at
number_lt zero l at b = omega arith
number_lt (suc w) l at b = rw pow-suc (digits_lt (number_lt w l (suc at) b) (b at))

bytes_take : (n : ℕ) (l : List ℕ) → Bytes l → Bytes (take n l)
bytes_take zero l b i = omega arith
bytes_take (suc n) [] b i = omega arith
bytes_take (suc n) (x ∷ l) b zero = b 0
bytes_take (suc n) (x ∷ l) b (suc i) = bytes_take n l (λ j. b (suc j)) i

-- a part of some bytes is bytes
pub bytes_part : (n k : ℕ) (l : List ℕ) → Bytes l → Bytes (take n (drop k l))
bytes_part n k l b = bytes_take n (drop k l) (λ i. rw (get_or-drop k l i 0) (b (k + i)))

bytes_cell : (w n : ℕ) → Bytes (cell w n)
unfolding cell
bytes_cell zero n i = omega arith
bytes_cell (suc w) n zero = mod-lt n (zero-lt-suc 255)
bytes_cell (suc w) n (suc i) = bytes_cell w (n / 256) i

pub cell_reads_back : CellReadsBack
cell_reads_back w n before after h =
    rw (← add-zero (length before)) (number_past w before (cell w n ++ after) 0 ∙ number_cell w n after h)

pub number_writes_back : NumberWritesBack
number_writes_back = cell_number

pub number_fits : NumberFits
number_fits = number_lt

pub cell_is_bytes : CellIsBytes
cell_is_bytes w n = (length_cell w n, bytes_cell w n)

-- ---- as the code reads

-- one byte more in front
pub number_more : (l : List ℕ) (at run i : ℕ) → i < run
    → number_at i l (at + (run - i)) * 256 + get_or l (at + (run - (i + 1))) 0 ≡ number_at (i + 1) l (at + (run - (i + 1)))
unfolding number_at
number_more l at run i h =
    let e : at + (run - i) ≡ suc (at + (run - (i + 1))) = omega arith in
    rw (e, add-one)

-- one byte more than at most seven fits 64 bits
pub eight_fit : (w n b : ℕ) → w < 8 → n < 256 ^ w → b < 256 → n * 256 + b < 2 ^ 64
eight_fit w n b h l m =
    lt_of_lt_of_le (digits_lt l m) (rw (← pow-suc 256 w) (pow-le-pow_right (zero-lt-suc 255) h))
