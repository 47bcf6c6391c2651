-- Decimal numbers: one digit, or those of the tenth and one more; what holds of all of them is shown by that step.
use mathlib.Core.Path.{◌≡◌, refl, sym, ap, ◌∙◌}
use mathlib.Core.Logic.{⊎_elim}
use mathlib.Core.List.{List, [], ◌∷◌, ◌++◌, append-nil}
use Prim.Native.Nat.{ℕ, zero, suc, ◌+◌, ◌-◌, ◌*◌, ◌/◌, ◌%◌, ◌^◌, ◌≤◌, ◌<◌}
use native.Mathlib.Omega.{arith}
use native.Mathlib.Decide.{dec_le}
use native.Mathlib.Nat.{not-suc-le-zero, pow-suc, div-lt_iff_lt-mul, zero-lt-suc, eq-zero-or-pos}
use lib.ListN.{length, get_or, length-append, get_or-append}
use lib.Seq.{append_snoc}
use Rattle.listing.specs.Line.{zero_digit, last_digit, digits, decimal}
use Rattle.listing.specs.Laws.{Each, Digit, spelt_after, DecimalReadsBack, DecimalIsDigits, NoLeadingZero, OneDecimal, DecimalIsShort}
use Rattle.listing.proofs.Each.{each_append}

-- ---- the two equations

digits_none : (divisions : ℕ) → digits divisions 0 ≡ []
unfolding digits
digits_none zero = refl
digits_none (suc divisions) = refl

-- enough divisions are enough
digits_same : (f g n : ℕ) → n ≤ f → n ≤ g → digits f n ≡ digits g n
unfolding digits
digits_same zero g zero hf hg = sym (digits_none g)
digits_same zero g (suc m) hf hg = absurd (not-suc-le-zero hf)
digits_same (suc f) g zero hf hg = sym (digits_none g)
digits_same (suc f) zero (suc m) hf hg = absurd (not-suc-le-zero hg)
digits_same (suc f) (suc g) (suc m) hf hg = rw (digits_same f g (suc m / 10) (omega arith) (omega arith))

pub decimal_small : (n : ℕ) → n < 10 → decimal n ≡ last_digit n
unfolding decimal digits
decimal_small zero h = refl
decimal_small (suc m) h =
    let tenth : suc m / 10 ≡ 0 = omega arith in
    rw (tenth, digits_none m)

digits_decimal : (divisions n : ℕ) → 1 ≤ n → n ≤ divisions → digits divisions n ≡ decimal n
unfolding decimal
digits_decimal divisions zero l h = absurd (not-suc-le-zero l)
digits_decimal divisions (suc m) l h = digits_same divisions (suc m) (suc m) h (omega arith)

pub decimal_more : (n : ℕ) → 10 ≤ n → decimal n ≡ decimal (n / 10) ++ last_digit n
unfolding decimal digits
decimal_more zero h = absurd (not-suc-le-zero h)
decimal_more (suc m) h = rw (digits_decimal m (suc m / 10) (omega arith) (omega arith))

pub decimal_small_length : (n : ℕ) → n < 10 → length (decimal n) ≡ 1
decimal_small_length n h = rw (decimal_small n h)

pub decimal_more_length : (n : ℕ) → 10 ≤ n → length (decimal n) ≡ length (decimal (n / 10)) + 1
decimal_more_length n h = rw (decimal_more n h) (length-append (decimal (n / 10)) (last_digit n))

-- ---- the step

-- a number of one digit, or of more
one_or_more : {P : Type 0} (n : ℕ) → (n < 10 → P) → (10 ≤ n → P) → P
one_or_more {P} n one more = go (dec_le 10 n)
  where
    go : Dec (10 ≤ n) → P
    go (yes l) = more l
    go (no l) = one (omega arith)

pub by_digits : (P : ℕ → Type 0) → ((n : ℕ) → n < 10 → P n) → ((n : ℕ) → 10 ≤ n → P (n / 10) → P n) → (n : ℕ) → P n
by_digits P one more n = below (suc n) n (omega arith)
  where
    below : (bound m : ℕ) → m < bound → P m
    below zero m h = absurd (not-suc-le-zero h)
    below (suc bound) m h = one_or_more m (one m) (λ l. more m l (below bound (m / 10) (omega arith)))

-- ---- what holds of each

pub decimal_length : (n k : ℕ) → n < 10 ^ suc k → length (decimal n) ≤ suc k
decimal_length =
    by_digits (λ n. (k : ℕ) → n < 10 ^ suc k → length (decimal n) ≤ suc k)
    (λ n l k h. rw (decimal_small n l) (omega arith))
    more
  where
    more : (n : ℕ) → 10 ≤ n → ((k : ℕ) → n / 10 < 10 ^ suc k → length (decimal (n / 10)) ≤ suc k) → (k : ℕ) → n < 10 ^ suc k → length (decimal n) ≤ suc k
    more n l tenth zero h = absurd (omega arith)
    more n l tenth (suc k) h =
        let q : n / 10 < 10 ^ suc k = (div-lt_iff_lt-mul (zero-lt-suc 9)).1 (rw pow-suc at h) in
        rw (decimal_more n l, length-append (decimal (n / 10)) (last_digit n)) (omega (arith, tenth k q))

-- a number of 64 bits has at most 20 digits
pub decimal_is_short : DecimalIsShort
decimal_is_short n h = decimal_length n 19 (omega arith)

-- digits in two runs, and a number never less than what was read before
pub spelt_append : (n : ℕ) (a b : List ℕ) → spelt_after n (a ++ b) ≡ spelt_after (spelt_after n a) b
unfolding spelt_after
spelt_append n [] b = refl
spelt_append n (x ∷ a) b = spelt_append (n * 10 + (x - zero_digit)) a b

pub spelt_grows : (n : ℕ) (a : List ℕ) → n ≤ spelt_after n a
unfolding spelt_after
spelt_grows n [] = omega arith
spelt_grows n (x ∷ a) = omega (arith, spelt_grows (n * 10 + (x - zero_digit)) a)

pub decimal_reads_back : DecimalReadsBack
unfolding spelt_after
decimal_reads_back =
    by_digits (λ n. spelt_after 0 (decimal n) ≡ n)
    (λ n l. rw (decimal_small n l) (omega arith))
    (λ n l tenth. rw (decimal_more n l, spelt_append 0 (decimal (n / 10)) (last_digit n), tenth) (omega arith))

pub decimal_is_digits : DecimalIsDigits
unfolding Each
decimal_is_digits =
    by_digits (λ n. Each Digit (decimal n))
    (λ n l. rw (decimal_small n l) ((omega arith, omega arith), tt))
    (λ n l tenth. rw (decimal_more n l) (each_append Digit (decimal (n / 10)) (last_digit n) tenth ((omega arith, omega arith), tt)))

-- it has a digit, and the first of a number other than 0 is above 0
decimal_front : (n : ℕ) → (1 ≤ length (decimal n)) × (1 ≤ n → zero_digit < get_or (decimal n) 0 0)
decimal_front =
    by_digits (λ n. (1 ≤ length (decimal n)) × (1 ≤ n → zero_digit < get_or (decimal n) 0 0))
    (λ n l. rw (decimal_small n l) (omega arith, λ (pos : 1 ≤ n). omega arith))
    (λ n l tenth.
    rw (decimal_more n l, length-append (decimal (n / 10)) (last_digit n), get_or-append (decimal (n / 10)) (last_digit n) 0 0 tenth.0)
    (omega (arith, tenth.0), λ (pos : 1 ≤ n). tenth.1 (omega arith)))

pub decimal_some : (n : ℕ) → 1 ≤ length (decimal n)
decimal_some n = (decimal_front n).0

pub no_leading_zero : NoLeadingZero
unfolding decimal
no_leading_zero zero rest h = cc
no_leading_zero (suc m) rest h =
    let e : get_or (decimal (suc m)) 0 0 ≡ zero_digit = ap (λ l. get_or l 0 0) h in
    absurd (omega (arith, (decimal_front (suc m)).1 (omega arith), e))

-- digits behind a number other than 0 are digits behind its decimal
spelt_behind : (n : ℕ) (text : List ℕ) → 1 ≤ n → Each Digit text → decimal (spelt_after n text) ≡ decimal n ++ text
unfolding Each spelt_after
spelt_behind n [] l p = sym (append-nil (decimal n))
spelt_behind n (digit ∷ rest) l p =
    let m = n * 10 + (digit - zero_digit) in
    let tenth : m / 10 ≡ n = omega (arith, p.0) in
    let last : zero_digit + m % 10 ≡ digit = omega (arith, p.0) in
    spelt_behind m rest (omega arith) p.1
    ∙ rw (decimal_more m (omega arith), tenth, last) (append_snoc (decimal n) digit rest)

pub one_decimal : OneDecimal
unfolding Each spelt_after
one_decimal [] some p plain = absurd (not-suc-le-zero some)
one_decimal (digit ∷ rest) some p plain =
    let value = 0 * 10 + (digit - zero_digit) in
    ⊎_elim
    (λ (none : value ≡ 0).
    let first : digit ≡ zero_digit = omega (arith, p.0, none) in
    let alone : rest ≡ [] = plain rest (ap (λ d. d ∷ rest) first) in
    rw (alone, first) (decimal_small 0 (omega arith)))
    (λ (pos : 0 < value).
    let last : zero_digit + value % 10 ≡ digit = omega (arith, p.0) in
    spelt_behind value rest pos p.1 ∙ rw (decimal_small value (omega (arith, p.0)), last))
    (eq-zero-or-pos value)

pub decimal_tells : (m n : ℕ) → decimal m ≡ decimal n → m ≡ n
decimal_tells m n h = sym (decimal_reads_back m) ∙ ap (spelt_after 0) h ∙ decimal_reads_back n
