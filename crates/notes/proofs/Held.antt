-- A word that is read byte by byte: it is right so far, and held as a number, until a byte spoils it or it ends.
use Rattle.std.specs.Prelude.{None, Some}
use mathlib.Core.Bool.{Bool, true, false}
use mathlib.Core.List.{List, [], ◌∷◌, ◌++◌}
use mathlib.Core.Path.{◌≡◌, sym, ap, ◌∙◌}
use Prim.Native.Nat.{ℕ, ◌+◌, ◌≤◌, ◌<◌}
use native.Mathlib.Numerals.{add-one}
use native.Mathlib.Omega.{arith}
use lib.ListN.{length, take, drop, get_or, take-append-drop}
use lib.Seq.{take-suc, take-length}
use Rattle.table.specs.Fold.{if}
use Rattle.notes.specs.Draft.{longer, lengthens, longer_if}
use Rattle.notes.specs.Words.{is_value, value_of, read_as}
use Rattle.notes.proofs.Digits.{longer_some, longer_none}
use Rattle.notes.proofs.Grammar.{value_more, value_longer, value_spoilt, no_value, none_held}

-- what has come of it by byte i: it is right so far, and held as n
pub record Held (names : Bool) (word : List ℕ) (n i : ℕ) : Type 0 where
  pub right : is_value names (take i word) ≡ true
  pub is : n ≡ value_of names (take i word)

pub held_none : (names : Bool) (word : List ℕ) → Held names word 0 0
held_none names word = record { right = no_value names; is = sym (none_held names) }

module _ (names : Bool) (word : List ℕ) (n i : ℕ) (h : Held names word n i) (more : i < length word) where
  byte_longer : take (i + 1) word ≡ take i word ++ (get_or word i 0 ∷ [])
  byte_longer = rw add-one (take-suc word i 0 more)

  -- whether it is right with the next byte
  right_longer : is_value names (take (i + 1) word) ≡ lengthens names n (get_or word i 0)
  right_longer = ap (is_value names) byte_longer ∙ value_more names (take i word) (get_or word i 0) h.right ∙ ap (λ (k : ℕ). lengthens names k (get_or word i 0)) (sym h.is)

  held_on : lengthens names n (get_or word i 0) ≡ true → Held names word (longer names n (get_or word i 0)) (i + 1)
  held_on fine =
      record {
        right = right_longer ∙ fine;
        is = sym (ap (value_of names) byte_longer ∙ value_longer names (take i word) (get_or word i 0) ∙ ap (λ (k : ℕ). longer names k (get_or word i 0)) (sym h.is));
      }

  -- one that starts wrong is wrong
  held_off : lengthens names n (get_or word i 0) ≡ false → None ≡ read_as names word
  unfolding read_as if
  held_off bad =
      let whole = value_spoilt names (take (i + 1) word) (drop (i + 1) word) (right_longer ∙ bad) in
      let off : is_value names word ≡ false = ap (is_value names) (sym (take-append-drop (i + 1) word)) ∙ whole in
      rw off

  -- with the next byte it is held as this, or it is none
  pub held_more : (m : ℕ) → Some m ≡ longer_if names n (get_or word i 0) → Held names word m (i + 1)
  held_more m is =
      let h = longer_some names n (get_or word i 0) m is in
      rw h.1 (held_on h.0)

  pub held_wrong : None ≡ longer_if names n (get_or word i 0) → None ≡ read_as names word
  held_wrong is = held_off (longer_none names n (get_or word i 0) is)

pub held_all : (names : Bool) (word : List ℕ) (n i : ℕ) → Held names word n i → i ≤ length word → length word ≤ i → Some n ≡ read_as names word
unfolding read_as if
held_all names word n i h within past =
    let whole : i ≡ length word = omega arith in
    let all : take i word ≡ word = ap (λ (k : ℕ). take k word) whole ∙ take-length word in
    let right : is_value names word ≡ true = ap (is_value names) (sym all) ∙ h.right in
    rw right (ap Some (h.is ∙ ap (value_of names) all))
