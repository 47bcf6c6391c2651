-- A file is judged line by line: its lines are the parts between its newlines.
use mathlib.Core.Bool.{Bool, true, false}
use mathlib.Core.List.{List, [], ◌∷◌, ◌++◌, append-nil}
use mathlib.Core.Logic.{◌⊎◌, inl, inr}
use mathlib.Core.Path.{◌≡◌, sym, ap, ◌∙◌}
use Prim.Native.Nat.{ℕ, suc, ◌+◌, ◌≤◌, ◌<◌}
use native.Mathlib.Numerals.{add-one}
use native.Mathlib.Omega.{arith}
use lib.Dec.{eqb}
use lib.ListN.{length, drop, get_or, drop_of_length-le}
use lib.Seq.{drop-cons}
use Rattle.std.specs.Prelude.{Ok, Err}
use Rattle.std.specs.List.{slice_split, enumerate_from}
use Rattle.std.proofs.lemmas.List.FromFn.{length-enumerate_from, get_or-enumerate_from}
use Rattle.table.specs.Fold.{if}
use Rattle.listing.specs.Line.{newline}
use Rattle.notes.proofs.Grammar.{test}
use Rattle.ledger.specs.declared.Fault.TheVariants.{Unbegun, Amiss}
use Rattle.ledger.specs.Entry.{entry_of}
use Rattle.ledger.specs.Ledger.{lines_after, stands, begins, judged_from, judged_of}
use Rattle.ledger.proofs.Splits.{behind_start, behind_none, behind_next, behind_longer}

abbrev pub is_newline : ℕ → Bool
is_newline byte = eqb byte newline

abbrev pub parts_of : List ℕ → List (List ℕ)
parts_of file = slice_split is_newline file

module _ (line : List ℕ) (byte : ℕ) (file : List ℕ) where
  lines_next : is_newline byte ≡ true → lines_after line (byte ∷ file) ≡ line ∷ lines_after [] file
  unfolding lines_after if
  lines_next h = rw h

  lines_longer : is_newline byte ≡ false → lines_after line (byte ∷ file) ≡ lines_after (line ++ (byte ∷ [])) file
  unfolding lines_after if
  lines_longer h = rw h

lines_behind : (file line : List ℕ) → lines_after line file ≡ behind_start line (parts_of file)
unfolding lines_after
lines_behind [] line = ap (λ (l : List ℕ). l ∷ []) (sym (append-nil line))
lines_behind (byte ∷ file) line = go (test (is_newline byte)) (lines_behind file)
  where
    go : (is_newline byte ≡ true) ⊎ (is_newline byte ≡ false) → ((start : List ℕ) → lines_after start file ≡ behind_start start (parts_of file))
        → lines_after line (byte ∷ file) ≡ behind_start line (parts_of (byte ∷ file))
    go (inl here) later =
        lines_next line byte file here
        ∙ ap (λ (l : List (List ℕ)). line ∷ l) (later [] ∙ behind_none is_newline file)
        ∙ sym (behind_next is_newline line byte file here)
    go (inr other) later =
        lines_longer line byte file other
        ∙ later (line ++ (byte ∷ []))
        ∙ sym (behind_longer is_newline line byte file other)

pub lines_are : (file : List ℕ) → judged_from 1 false (parts_of file) ≡ judged_of file
lines_are file =
    ap (λ (l : List (List ℕ)). judged_from 1 false l) (sym (lines_behind file [] ∙ behind_none is_newline file))

-- a line and its index, as they are counted
pub counted : (lines : List (List ℕ)) (n i : ℕ) (line : List ℕ) → n < length (enumerate_from 0 lines) → ◌≡◌ {A = ℕ × List ℕ} (i, line) (get_or (enumerate_from 0 lines) n (i, line))
    → (n < length lines) × (i ≡ n) × (line ≡ get_or lines n line)
counted lines n i line more is =
    let within : n < length lines = omega (arith, length-enumerate_from 0 lines) in
    let both : ◌≡◌ {A = ℕ × List ℕ} (i, line) (0 + n, get_or lines n line) = is ∙ get_or-enumerate_from 0 lines n (i, line) within in
    (within, ap (λ (p : ℕ × List ℕ). p.0) both ∙ omega arith, ap (λ (p : ℕ × List ℕ). p.1) both)

-- what a line comes to, where it may stand and where it may not
module _ (number : ℕ) (begun : Bool) (lines : List (List ℕ)) (i : ℕ) (line : List ℕ) (more : i < length lines) (is : line ≡ get_or lines i line) where
  line_there : drop i lines ≡ line ∷ drop (i + 1) lines
  line_there = rw (add-one, drop-cons lines i line more) (ap (λ (l : List ℕ). l ∷ drop (suc i) lines) (sym is))

  pub line_stands : stands begun (entry_of line) ≡ true
      → judged_from (number + 1) (begins begun (entry_of line)) (drop (i + 1) lines) ≡ judged_from number begun (drop i lines)
  unfolding judged_from if
  line_stands h =
      let next : number + 1 ≡ suc number = omega arith in
      rw (line_there, h, next)

  pub line_amiss : stands begun (entry_of line) ≡ false → Err (Amiss number begun) ≡ judged_from number begun (drop i lines)
  unfolding judged_from if
  line_amiss h = rw (line_there, h)

pub lines_end : (number : ℕ) (begun : Bool) (lines : List (List ℕ)) (i : ℕ) → length lines ≤ i
    → if begun (Ok tt) (Err Unbegun) ≡ judged_from number begun (drop i lines)
unfolding judged_from
lines_end number begun lines i past = rw (drop_of_length-le lines {i = i} past)
