-- Where a line ends, and that a file's lines are those between the ends.
use mathlib.Core.Bool.{Bool, true, false, not, cond}
use mathlib.Core.List.{List, [], ◌∷◌, ◌++◌, append_assoc, append-nil}
use mathlib.Core.Logic.{◌⊎◌, inl, inr}
use mathlib.Core.Path.{◌≡◌, refl, sym, ap, ◌∙◌}
use Prim.Native.Nat.{ℕ, suc, ◌+◌, ◌-◌, ◌≤◌, ◌<◌, min}
use native.Mathlib.Omega.{arith}
use lib.Dec.{eqb, ltb}
use lib.ListN.{length, take, drop, length-drop}
use lib.Seq.{drop-drop}
use borrow.Author.Tests.{ltb-true, ltb-false, lt-ltb}
use Rattle.std.specs.List.{position, position_or_len}
use Rattle.std.specs.Option.{unwrap_or}
use Rattle.std.proofs.lemmas.List.Sums.{prefix_len-le-length}
use Rattle.std.proofs.lemmas.List.Recursion.{is_position_or_len}
use Rattle.table.specs.Fold.{if}
use Rattle.file.proofs.Choices.{if_is_cond}
use Rattle.table.proofs.Tests.{by_if, same_test}
use Rattle.notes.proofs.Grammar.{test}
use Rattle.listing.specs.Line.{newline}
use Rattle.ledger.specs.Ledger.{lines_after, lines_of, line_length, line_end}
use Rattle.ledger.specs.Laws.{LinesByEnds}

-- a line goes on to the end at most
length_least : (l : List ℕ) → line_length l ≤ length l
unfolding line_length
length_least [] = omega arith
length_least (byte ∷ rest) =
    by_if (λ (n : ℕ). n ≤ suc (length rest)) (eqb byte newline) 0 (suc (line_length rest)) (λ here. omega arith) (λ later. omega (arith, length_least rest))

pub end_within : (file : List ℕ) (start : ℕ) → line_end file start ≤ length file
unfolding line_end
end_within file start = omega (arith, length_least (drop start file), length-drop start file)

pub end_after : (file : List ℕ) (start : ℕ) → start ≤ length file → start ≤ line_end file start
unfolding line_end
end_after file start l = omega arith

-- a line is as long as the bytes before the first newline
more_length : (byte : ℕ) (rest : List ℕ) → line_length (byte ∷ rest) ≡ cond (eqb byte newline) 0 (1 + line_length rest)
unfolding line_length
more_length byte rest =
    let one : suc (line_length rest) ≡ 1 + line_length rest = omega arith in
    if_is_cond (eqb byte newline) 0 (suc (line_length rest)) ∙ ap (λ (n : ℕ). cond (eqb byte newline) 0 n) one

no_length : line_length [] ≡ 0
unfolding line_length
no_length = refl

pub length_is : (l : List ℕ) → line_length l ≡ position_or_len (λ b. eqb b newline) l
length_is = is_position_or_len line_length (λ b. eqb b newline) no_length more_length

-- where the first of some bytes is, or how long they are
pub place_or_all : (p : ℕ → Bool) (text : List ℕ) → unwrap_or (position p text) (length text) ≡ position_or_len p text
place_or_all p text = go (test (ltb (position_or_len p text) (length text)))
  where
    go : (ltb (position_or_len p text) (length text) ≡ true) ⊎ (ltb (position_or_len p text) (length text) ≡ false)
        → unwrap_or (position p text) (length text) ≡ position_or_len p text
    go (inl there) = rw there
    go (inr none) =
        let past = ltb-false (position_or_len p text) (length text) none in
        rw none (omega (arith, past, prefix_len-le-length (λ b. not (p b)) text))

-- ---- the lines of a file, by their ends

-- two comparisons are one where each holds if the other does
same_less : (a b c d : ℕ) → (a < b → c < d) → (c < d → a < b) → ltb a b ≡ ltb c d
same_less a b c d f g =
    same_test (ltb a b) (ltb c d) (λ h. lt-ltb c d (f (ltb-true a b h))) (λ h. lt-ltb a b (g (ltb-true c d h)))

-- what is behind the line that goes on here
abbrev behind : List ℕ → List (List ℕ)
behind l = if (ltb (line_length l) (length l)) (lines_of (drop (suc (line_length l)) l)) []

first_line : (line l : List ℕ) → lines_after line l ≡ (line ++ take (line_length l) l) ∷ behind l
unfolding lines_after line_length if
first_line line [] = rw (append-nil line)
first_line line (byte ∷ rest) = go (test (eqb byte newline)) (first_line (line ++ (byte ∷ [])) rest)
  where
    go : (eqb byte newline ≡ true) ⊎ (eqb byte newline ≡ false) → lines_after (line ++ (byte ∷ [])) rest ≡ ((line ++ (byte ∷ [])) ++ take (line_length rest) rest) ∷ behind rest
        → lines_after line (byte ∷ rest) ≡ (line ++ take (line_length (byte ∷ rest)) (byte ∷ rest)) ∷ behind (byte ∷ rest)
    go (inl here) later = rw (here, append-nil line, lt-ltb 0 (suc (length rest)) (omega arith))
    go (inr other) later =
        let same : ltb (suc (line_length rest)) (suc (length rest)) ≡ ltb (line_length rest) (length rest) = same_less (suc (line_length rest)) (suc (length rest)) (line_length rest) (length rest) (λ h. omega arith) (λ h. omega arith) in
        rw (other, same) (later ∙ ap (λ (l : List ℕ). l ∷ behind rest) (append_assoc line (byte ∷ []) (take (line_length rest) rest)))

pub lines_by_ends : LinesByEnds
unfolding line_end
lines_by_ends file start fits =
    let l = drop start file in
    let end : min start (length file) + line_length l ≡ start + line_length l = omega arith in
    let wide : start + line_length l - start ≡ line_length l = omega arith in
    let more : ltb (start + line_length l) (length file) ≡ ltb (line_length l) (length l) =
    same_less (start + line_length l) (length file) (line_length l) (length l) (λ h. omega (arith, length-drop start file)) (λ h. omega (arith, length-drop start file)) in
    let place : start + suc (line_length l) ≡ suc (start + line_length l) = omega arith in
    let next-is : drop (suc (start + line_length l)) file ≡ drop (suc (line_length l)) l = sym (drop-drop (suc (line_length l)) start file ∙ rw place) in
    first_line [] l ∙ rw (end, wide, more, next-is)
