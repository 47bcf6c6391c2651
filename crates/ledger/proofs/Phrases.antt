-- The words of a line, held one by one, make the line that all of them make.
use mathlib.Core.Bool.{Bool, true, false}
use mathlib.Core.List.{List, [], ◌∷◌, map}
use mathlib.Core.Logic.{◌⊎◌, inl, inr, ⊎_elim}
use mathlib.Core.Path.{◌≡◌, refl, sym, ap, ◌∙◌}
use Prim.Native.Nat.{ℕ, suc, ◌+◌, ◌≤◌, ◌<◌}
use native.Mathlib.Numerals.{add-one}
use native.Mathlib.Omega.{arith}
use lib.ListN.{length, drop, get_or, set, replicate, length-map}
use lib.Seq.{sets, drop-length}
use borrow.Author.Tests.{lt-ltb, le-ltb, ne_eqb}
use Rattle.std.specs.Prelude.{Option, None, Some}
use Rattle.table.specs.Fold.{if}
use Rattle.table.proofs.Tests.{le_or_lt}
use Rattle.file.specs.Reading.{part}
use Rattle.listing.specs.Laws.{spelt_after}
use Rattle.notes.specs.Draft.{held_after, is_gap}
use Rattle.notes.specs.Words.{ended_word, words_after, all_of, is_name, is_number, is_value, value_of, read_as}
use Rattle.notes.proofs.Grammar.{test, word_ends, word_goes_on}
use Rattle.ledger.specs.declared.Entry.{Entry}
use Rattle.ledger.specs.declared.Entry.TheVariants.{Wrong}
use Rattle.ledger.specs.declared.phrase.Phrase.{Phrase}
use Rattle.ledger.specs.Entry.{numbers_entry, entry_of_words}
use Rattle.ledger.specs.Phrase.{words_most, no_words, with_word, with_part, with_words, fields_entry, phrase_entry}
use Rattle.file.proofs.Parts.{next, part_longer, part_none}

-- ---- words that are parted by gaps

-- what is empty is no word
pub no_part : (p : Phrase) (part : List ℕ) → length part ≡ 0 → Some p ≡ with_part p part
no_part p [] none = refl
no_part p (byte ∷ word) none = absurd (omega arith)

pub some_part : (p : Phrase) (part : List ℕ) → (length part ≡ 0 → ⊥) → with_word p part ≡ with_part p part
some_part p [] some = absurd (some refl)
some_part p (byte ∷ word) some = refl

none_left : (p : Option Phrase) → with_words p [] ≡ p
unfolding with_words
none_left None = refl
none_left (Some p) = refl

part_held : (p : Phrase) (word : List ℕ) (words : List (List ℕ)) → with_words (Some p) (ended_word word words) ≡ with_words (with_part p word) words
unfolding with_words
part_held p [] words = refl
part_held p (byte ∷ word) words = refl

-- what has come of a text by byte i, where the word that is not ended began at `start`
pub record Parted (text : List ℕ) (phrase : Phrase) (start i : ℕ) : Type 0 where
  pub begun : start ≤ i
  pub within : i ≤ length text
  pub words : with_words (Some no_words) (words_after [] text) ≡ with_words (Some phrase) (words_after (part start i text) (drop i text))

pub parted_none : (text : List ℕ) → Parted text no_words 0 0
parted_none text = record { begun = omega arith; within = omega arith; words = refl }

module _ {text : List ℕ} {phrase : Phrase} {start i : ℕ} (t : Parted text phrase start i) (more : i < length text) where
  gap_ends : is_gap (get_or text i 0) ≡ true
      → with_words (Some no_words) (words_after [] text) ≡ with_words (with_part phrase (part start i text)) (words_after [] (drop (i + 1) text))
  gap_ends gap =
      t.words
      ∙ rw (next text i more, word_ends (get_or text i 0) (drop (i + 1) text) (part start i text) gap) (part_held phrase (part start i text) (words_after [] (drop (i + 1) text)))

  pub parted_gap : (q : Phrase) → is_gap (get_or text i 0) ≡ true → Some q ≡ with_part phrase (part start i text) → Parted text q (i + 1) (i + 1)
  parted_gap q gap taken =
      record {
        begun = omega arith;
        within = omega arith;
        words =
            gap_ends gap
            ∙ rw (part_none text (i + 1)) (ap (λ (o : Option Phrase). with_words o (words_after [] (drop (i + 1) text))) (sym taken));
      }

  pub parted_amiss : is_gap (get_or text i 0) ≡ true → None ≡ with_part phrase (part start i text) → None ≡ with_words (Some no_words) (words_after [] text)
  unfolding with_words
  parted_amiss gap none = ap (λ (o : Option Phrase). with_words o (words_after [] (drop (i + 1) text))) none ∙ sym (gap_ends gap)

  pub parted_byte : is_gap (get_or text i 0) ≡ false → Parted text phrase start (i + 1)
  parted_byte other =
      record {
        begun = omega (arith, t.begun);
        within = omega arith;
        words = t.words ∙ rw (next text i more, word_goes_on (get_or text i 0) (drop (i + 1) text) (part start i text) other, part_longer text i more start t.begun);
      }

pub parted_all : (text : List ℕ) (phrase : Phrase) (start i : ℕ) → Parted text phrase start i → length text ≤ i
    → with_part phrase (part start (length text) text) ≡ with_words (Some no_words) (words_after [] text)
unfolding words_after with_words
parted_all text phrase start i t past =
    let whole : i ≡ length text = omega (arith, t.within) in
    let end : drop (length text) text ≡ [] = drop-length text in
    sym (t.words ∙ rw (whole, end) (part_held phrase (part start (length text) text) [] ∙ none_left (with_part phrase (part start (length text) text))))

-- ---- the line that they make

-- a phrase that is right so far
abbrev holding : ℕ → List ℕ → Phrase
holding words held = record { words = words; held = held }

wrong_stays : (words : List (List ℕ)) → with_words None words ≡ None
unfolding with_words
wrong_stays words = refl

abbrev spelt : List (List ℕ) → List ℕ
spelt values = map (spelt_after 0) values

-- a number more behind a name, where there is room for it
module _ (k : ℕ) (held : List ℕ) (w : List ℕ) where
  number_held : suc k < words_most → is_number w ≡ true → with_word (holding (suc k) held) w ≡ Some (holding (suc (suc k)) (set held (suc k) (spelt_after 0 w)))
  unfolding with_word read_as is_value value_of if
  number_held few is = rw (lt-ltb (suc k) words_most few, ne_eqb (suc k) 0 (λ e. omega arith), is, add-one)

  no_number : is_number w ≡ false → with_word (holding (suc k) held) w ≡ None
  unfolding with_word read_as is_value value_of if
  no_number is = ⊎_elim (λ full. rw (le-ltb (suc k) words_most full)) (λ few. rw (lt-ltb (suc k) words_most few, ne_eqb (suc k) 0 (λ e. omega arith), is)) (le_or_lt words_most (suc k))

  too_many : words_most ≤ suc k → with_word (holding (suc k) held) w ≡ None
  unfolding with_word if
  too_many full = rw (le-ltb (suc k) words_most full)

-- so many numbers as there is room for are held, if each is one
abbrev numbers_behind : List (List ℕ) → ℕ → List ℕ → Option Phrase
numbers_behind values k held = if (all_of is_number values) (Some (holding (suc k + length values) (sets held (suc k) (spelt values)))) None

numbers_held : (values : List (List ℕ)) (k : ℕ) (held : List ℕ) → suc k + length values ≤ words_most
    → with_words (Some (holding (suc k) held)) values ≡ numbers_behind values k held
unfolding with_words all_of if
numbers_held [] k held few = let same : suc k + 0 ≡ suc k = omega arith in rw same
numbers_held (w ∷ rest) k held few = go (numbers_held rest (suc k) (set held (suc k) (spelt_after 0 w)) (omega arith)) (test (is_number w))
  where
    go : with_words (Some (holding (suc (suc k)) (set held (suc k) (spelt_after 0 w)))) rest ≡ numbers_behind rest (suc k) (set held (suc k) (spelt_after 0 w))
        → (is_number w ≡ true) ⊎ (is_number w ≡ false) → with_words (Some (holding (suc k) held)) (w ∷ rest) ≡ numbers_behind (w ∷ rest) k held
    go later (inl is) =
        let same : suc (suc k) + length rest ≡ suc k + suc (length rest) = omega arith in
        ap (λ (p : Option Phrase). with_words p rest) (number_held k held w (omega arith) is) ∙ later ∙ rw (same, is)
    go later (inr is) = ap (λ (p : Option Phrase). with_words p rest) (no_number k held w is) ∙ wrong_stays rest ∙ rw is

-- and more are wrong
more_wrong : (values : List (List ℕ)) (k : ℕ) (held : List ℕ) → words_most < suc k + length values → suc k ≤ words_most → with_words (Some (holding (suc k) held)) values ≡ None
unfolding with_words
more_wrong [] k held many low = absurd (omega arith)
more_wrong (w ∷ rest) k held many low =
    ⊎_elim
    (λ full. ap (λ (p : Option Phrase). with_words p rest) (too_many k held w full) ∙ wrong_stays rest)
    (λ few.
    ⊎_elim
    (λ is.
    ap (λ (p : Option Phrase). with_words p rest) (number_held k held w few is)
    ∙ more_wrong rest (suc k) (set held (suc k) (spelt_after 0 w)) (omega arith) (omega arith))
    (λ is. ap (λ (p : Option Phrase). with_words p rest) (no_number k held w is) ∙ wrong_stays rest)
    (test (is_number w)))
    (le_or_lt words_most (suc k))

-- the name, and the numbers behind it
abbrev named : ℕ → List ℕ
named h = set (replicate words_most 0) 0 h

-- of up to five
few_make : (h : ℕ) (numbers : List ℕ) → length numbers < words_most
    → fields_entry (holding (1 + length numbers) (sets (named h) 1 numbers)) ≡ numbers_entry h numbers
unfolding fields_entry if
few_make h [] few = refl
few_make h (a ∷ []) few = refl
few_make h (a ∷ b ∷ []) few = refl
few_make h (a ∷ b ∷ c ∷ []) few = refl
few_make h (a ∷ b ∷ c ∷ d ∷ []) few = refl
few_make h (a ∷ b ∷ c ∷ d ∷ e ∷ []) few = refl
few_make h (a ∷ b ∷ c ∷ d ∷ e ∷ f ∷ more) few = absurd (omega arith)

-- of more
many_make : (h : ℕ) (numbers : List ℕ) → words_most ≤ length numbers → numbers_entry h numbers ≡ Wrong
many_make h [] many = absurd (omega arith)
many_make h (a ∷ []) many = absurd (omega arith)
many_make h (a ∷ b ∷ []) many = absurd (omega arith)
many_make h (a ∷ b ∷ c ∷ []) many = absurd (omega arith)
many_make h (a ∷ b ∷ c ∷ d ∷ []) many = absurd (omega arith)
many_make h (a ∷ b ∷ c ∷ d ∷ e ∷ []) many = absurd (omega arith)
many_make h (a ∷ b ∷ c ∷ d ∷ e ∷ f ∷ more) many = refl

-- so the words make what they are held to make
held_or_wrong : (b : Bool) (p : Phrase) → phrase_entry (if b (Some p) None) ≡ if b (fields_entry p) Wrong
unfolding if
held_or_wrong true p = refl
held_or_wrong false p = refl

either_wrong : (b : Bool) → if b Wrong Wrong ≡ Wrong
unfolding if
either_wrong true = refl
either_wrong false = refl

module _ (name : List ℕ) (values : List (List ℕ)) where
  abbrev h : ℕ
  h = held_after 0 name

  long : length (spelt values) ≡ length values
  long = length-map values (spelt_after 0)

  behind_name : phrase_entry (with_words (Some (holding 1 (named h))) values) ≡ if (all_of is_number values) (numbers_entry h (spelt values)) Wrong
  unfolding if
  behind_name = ⊎_elim few many (le_or_lt (1 + length values) words_most)
    where
      few : 1 + length values ≤ words_most → phrase_entry (with_words (Some (holding 1 (named h))) values) ≡ if (all_of is_number values) (numbers_entry h (spelt values)) Wrong
      few l =
          let make = ap (λ (n : ℕ). fields_entry (holding (1 + n) (sets (named h) 1 (spelt values)))) (sym long) ∙ few_make h (spelt values) (omega (arith, long)) in
          ap phrase_entry (numbers_held values 0 (named h) l)
          ∙ held_or_wrong (all_of is_number values) (holding (1 + length values) (sets (named h) 1 (spelt values)))
          ∙ ap (λ (e : Entry). if (all_of is_number values) e Wrong) make

      many : words_most < 1 + length values → phrase_entry (with_words (Some (holding 1 (named h))) values) ≡ if (all_of is_number values) (numbers_entry h (spelt values)) Wrong
      many l =
          ap phrase_entry (more_wrong values 0 (named h) l (omega arith))
          ∙ sym (ap (λ (e : Entry). if (all_of is_number values) e Wrong) (many_make h (spelt values) (omega (arith, long))) ∙ either_wrong (all_of is_number values))

  name_held : is_name name ≡ true → with_word no_words name ≡ Some (holding 1 (named h))
  unfolding with_word read_as is_value value_of if
  name_held is = rw is

  no_name : is_name name ≡ false → with_word no_words name ≡ None
  unfolding with_word read_as is_value value_of if
  no_name is = rw is

pub phrase_makes : (words : List (List ℕ)) → phrase_entry (with_words (Some no_words) words) ≡ entry_of_words words
unfolding with_words fields_entry if
phrase_makes [] = refl
phrase_makes (name ∷ values) = go (test (is_name name))
  where
    go : (is_name name ≡ true) ⊎ (is_name name ≡ false) → phrase_entry (with_words (Some no_words) (name ∷ values)) ≡ entry_of_words (name ∷ values)
    go (inl is) = ap (λ (p : Option Phrase). phrase_entry (with_words p values)) (name_held name values is) ∙ behind_name name values ∙ rw is
    go (inr is) = ap (λ (p : Option Phrase). phrase_entry (with_words p values)) (no_name name values is) ∙ ap phrase_entry (wrong_stays values) ∙ rw is
