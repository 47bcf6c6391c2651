-- Storing a line: the digits of a number from the last one on, and numbers one after the other.
use mathlib.Core.Path.{◌≡◌, sym, ◌∙◌}
use mathlib.Core.List.{List, [], ◌∷◌, ◌++◌, map, append_assoc}
use Prim.Native.Nat.{ℕ, ◌+◌, ◌-◌, ◌/◌, ◌%◌, ◌≤◌, ◌<◌}
use native.Mathlib.Omega.{arith}
use native.Mathlib.Numerals.{add-one}
use lib.ListN.{length, get_or, take, drop, set, length-append, length-set, drop_of_length-le}
use lib.Seq.{append_snoc, drop-cons}
use Rattle.std.proofs.lemmas.List.{drop-set}
use Rattle.std.proofs.lemmas.Slice.{between_to_end}
use Rattle.listing.specs.Line.{space, newline, zero_digit, decimal, onward}
use Rattle.listing.proofs.Decimal.{decimal_small, decimal_more}

-- ---- digits

-- a turn of the loop: the last digit of the rest joins those found behind it
pub digit_found : (digits : List ℕ) (start rest : ℕ) → 10 ≤ rest → 1 ≤ start → start ≤ length digits
    → decimal (rest / 10) ++ drop (start - 1) (set digits (start - 1) (zero_digit + rest % 10)) ≡ decimal rest ++ drop start digits
digit_found digits start rest l some within =
    let place : start - 1 + 1 ≡ start = omega arith in
    rw (drop-set digits (start - 1) (zero_digit + rest % 10) (omega arith), place, decimal_more rest l)
    (sym (append_snoc (decimal (rest / 10)) (zero_digit + rest % 10) (drop start digits)))

-- and the last of them, which is the first digit: from there on stands the number
pub digits_found : (digits : List ℕ) (start rest n : ℕ) → rest < 10 → 1 ≤ start → start ≤ 20 → length digits ≡ 20
    → decimal rest ++ drop start digits ≡ decimal n
    → take (20 - (start - 1)) (drop (start - 1) (set digits (start - 1) (zero_digit + rest))) ≡ decimal n
digits_found digits start rest n l some within size h =
    let place : start - 1 + 1 ≡ start = omega arith in
    let small : rest % 10 ≡ rest = omega arith in
    let stored = set digits (start - 1) (zero_digit + rest) in
    let all : length stored ≤ 20 = omega (arith, length-set digits (start - 1) (zero_digit + rest)) in
    let first : drop (start - 1) stored ≡ decimal rest ++ drop start digits = rw (drop-set digits (start - 1) (zero_digit + rest) (omega arith), place, decimal_small rest l, small) in
    between_to_end stored (start - 1) 20 all ∙ first ∙ h

-- ---- numbers

pub onward_some : (fields : List (List ℕ)) → 1 ≤ length (onward fields)
unfolding onward
onward_some [] = omega arith
onward_some (field ∷ rest) = omega arith

-- nothing but the newline stands behind the last one
pub onward_none : (numbers : List ℕ) (i : ℕ) → length numbers ≤ i → onward (map decimal (drop i numbers)) ≡ newline ∷ []
unfolding onward
onward_none numbers i h = rw (drop_of_length-le numbers {i = i} h)

-- what stands behind the first i numbers: a space, the next one, and what stands behind that
module _ (numbers : List ℕ) (i : ℕ) (l : i < length numbers) where
  abbrev next : List ℕ
  next = decimal (get_or numbers i 0)

  onward_next : onward (map decimal (drop i numbers)) ≡ space ∷ (next ++ onward (map decimal (drop (i + 1) numbers)))
  unfolding onward
  onward_next = rw (drop-cons numbers i 0 l, add-one)

  pub onward_length : length (onward (map decimal (drop i numbers))) ≡ length next + 1 + length (onward (map decimal (drop (i + 1) numbers)))
  onward_length =
      rw (onward_next, length-append next (onward (map decimal (drop (i + 1) numbers)))) (omega arith)

  -- a turn of the loop: the space and the next number join the line
  pub onward_more : (line : List ℕ) → ((line ++ (space ∷ [])) ++ next) ++ onward (map decimal (drop (i + 1) numbers)) ≡ line ++ onward (map decimal (drop i numbers))
  onward_more line =
      rw onward_next (simp append_assoc)
