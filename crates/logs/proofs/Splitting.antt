-- A text and its lines: the lines and what is left come to the text, and lines that stand at its front are its lines.
use mathlib.Core.Bool.{Bool, true, false}
use mathlib.Core.List.{List, [], ◌∷◌, ◌++◌, flatten, append_assoc, append-nil}
use mathlib.Core.Logic.{◌⊎◌, inl, inr, ◌↔◌}
use mathlib.Core.Path.{◌≡◌, refl, sym, ap, subst, ◌∙◌}
use Prim.Native.Nat.{ℕ, ◌-◌}
use native.Mathlib.Omega.{arith}
use lib.Pointwise.{pointwise, bytes_decides}
use lib.Dec.{eqb}
use lib.ListN.{length, get_or, drop, length-append}
use lib.Seq.{append_snoc, drop_at, ext_get_or}
use borrow.Author.Tests.{eqb-true, eq-eqb, eqb-false, ne_eqb}
use Rattle.table.specs.Fold.{if, all_to}
use Rattle.table.proofs.Tests.{both, same_test}
use Rattle.table.proofs.Folds.{all_at, all_of}
use Rattle.listing.specs.Line.{newline}
use Rattle.listing.specs.Laws.{Each}
use Rattle.listing.proofs.Lines.{NoNewline, OneNewline}
use Rattle.logs.specs.Lines.{lines_after, lines_of, left_after, left_of, same_bytes}
use Rattle.logs.specs.Following.{with_line, with_lines, fed_by}
use Rattle.logs.specs.Laws.{PiecesJoin}
use Rattle.logs.specs.declared.Follower.{Follower}

-- ---- the same bytes

pub same_bytes_lem : (a b : List ℕ) → (same_bytes a b ≡ true) ↔ (a ≡ b)
unfolding same_bytes
same_bytes_lem a b = (
  λ h.
      let tests = both (eqb (length a) (length b)) (all_to (λ i. eqb (get_or a i 0) (get_or b i 0)) (length a)) h in
      let long = eqb-true (length a) (length b) tests.0 in
      ext_get_or 0 a b long (λ i l. eqb-true (get_or a i 0) (get_or b i 0) (all_at (λ i. eqb (get_or a i 0) (get_or b i 0)) (length a) tests.1 i l)),
  λ e.
      rw (
        eq-eqb (length a) (length b) (ap length e),
        all_of (λ i. eqb (get_or a i 0) (get_or b i 0)) (length a) (λ i l. eq-eqb (get_or a i 0) (get_or b i 0) (ap (λ x. get_or x i 0) e)),
      ),
)

-- so it is as texts are compared
pub compared : (a b : List ℕ) → pointwise eqb a b ≡ same_bytes a b
compared a b =
    same_test _ _ (λ h. (same_bytes_lem a b).1 ((bytes_decides a b).0 h)) (λ h. (bytes_decides a b).1 ((same_bytes_lem a b).0 h))

-- ---- lines

-- bytes that are no newline come before those of the first line
past : (before front rest : List ℕ) → Each NoNewline front
    → (lines_after before (front ++ rest) ≡ lines_after (before ++ front) rest) × (left_after before (front ++ rest) ≡ left_after (before ++ front) rest)
unfolding lines_after left_after Each if
past before [] rest p = rw append-nil (refl, refl)
past before (byte ∷ front) rest p =
    let later = past (before ++ (byte ∷ [])) front rest p.1 in
    rw (ne_eqb byte newline p.0, ← append_snoc before byte front) later

-- a text that begins with a line
pub line_first : (line rest : List ℕ) → OneNewline line → (lines_of (line ++ rest) ≡ line ∷ lines_of rest) × (left_of (line ++ rest) ≡ left_of rest)
unfolding lines_after left_after if
line_first line rest (front, same, p) =
    let there : line ++ rest ≡ front ++ (newline ∷ rest) = rw same (append_snoc front newline rest) in
    let here = past [] front (newline ∷ rest) p in
    rw there (rw same here.0, here.1)

-- a text without a newline has no line
pub no_line : (text : List ℕ) → Each NoNewline text → (lines_of text ≡ []) × (left_of text ≡ text)
unfolding lines_after left_after
no_line text p = rw append-nil at (past [] text [] p)

-- ---- all lines of a text

-- a byte ends a line, or it does not
newline_or_not : (byte : ℕ) → (byte ≡ newline) ⊎ NoNewline byte
newline_or_not byte = go (eqb byte newline) refl
  where
    go : (b : Bool) → eqb byte newline ≡ b → (byte ≡ newline) ⊎ NoNewline byte
    go true e = inl (eqb-true byte newline e)
    go false e = inr (eqb-false byte newline e)

-- lines, and then bytes that are no newline
record Parts (text : List ℕ) : Type 0 where
  lines : List (List ℕ)
  left : List ℕ
  each_line : Each OneNewline lines
  no_newline : Each NoNewline left
  whole : flatten lines ++ left ≡ text

-- one byte more
parts_more : (byte : ℕ) (rest : List ℕ) → Parts rest → Parts (byte ∷ rest)
unfolding Each flatten
parts_more byte rest p = go p.lines p.each_line p.whole (newline_or_not byte)
  where
    go : (lines : List (List ℕ)) → Each OneNewline lines → flatten lines ++ p.left ≡ rest → (byte ≡ newline) ⊎ NoNewline byte → Parts (byte ∷ rest)
    go lines each whole (inl e) =
        record {
          lines = (byte ∷ []) ∷ lines;
          left = p.left;
          each_line = (([], ap (λ (b : ℕ). b ∷ []) e, tt), each);
          no_newline = p.no_newline;
          whole = ap (λ (text : List ℕ). byte ∷ text) whole;
        }
    go [] each whole (inr other) =
        record {
          lines = [];
          left = byte ∷ p.left;
          each_line = tt;
          no_newline = (other, p.no_newline);
          whole = ap (λ (text : List ℕ). byte ∷ text) whole;
        }
    go (line ∷ lines) each whole (inr other) =
        let first = each.0 in
        record {
          lines = (byte ∷ line) ∷ lines;
          left = p.left;
          each_line = ((byte ∷ first.0, ap (λ (text : List ℕ). byte ∷ text) first.1, (other, first.2)), each.1);
          no_newline = p.no_newline;
          whole = ap (λ (text : List ℕ). byte ∷ text) whole;
        }

parts : (text : List ℕ) → Parts text
unfolding Each flatten
parts [] = record { lines = []; left = []; each_line = tt; no_newline = tt; whole = refl }
parts (byte ∷ rest) = parts_more byte rest (parts rest)

-- lines at the front of a text
pub lines_first : (lines : List (List ℕ)) (rest : List ℕ) → Each OneNewline lines
    → (lines_of (flatten lines ++ rest) ≡ lines ++ lines_of rest) × (left_of (flatten lines ++ rest) ≡ left_of rest)
unfolding Each flatten
lines_first [] rest p = (refl, refl)
lines_first (line ∷ lines) rest p =
    let first = line_first line (flatten lines ++ rest) p.0 in
    let others = lines_first lines rest p.1 in
    rw append_assoc
    (first.0 ∙ ap (λ (later : List (List ℕ)). line ∷ later) others.0, first.1 ∙ others.1)

pub flatten_append : (a b : List (List ℕ)) → flatten (a ++ b) ≡ flatten a ++ flatten b
unfolding flatten
flatten_append [] b = refl
flatten_append (line ∷ a) b = ap (λ (text : List ℕ). line ++ text) (flatten_append a b) ∙ sym (append_assoc line (flatten a) (flatten b))

-- they are all its lines where no newline is behind them
pub lines_only : (lines : List (List ℕ)) (left : List ℕ) → Each OneNewline lines → Each NoNewline left
    → (lines_of (flatten lines ++ left) ≡ lines) × (left_of (flatten lines ++ left) ≡ left)
lines_only lines left p q =
    let first = lines_first lines left p in
    let none = no_line left q in
    (first.0 ∙ ap (λ (later : List (List ℕ)). lines ++ later) none.0 ∙ append-nil lines, first.1 ∙ none.1)

-- each line has one newline, its last byte; what is left has none; and they come to the text again
pub text_parts : (text : List ℕ) → Each OneNewline (lines_of text) × Each NoNewline (left_of text) × (flatten (lines_of text) ++ left_of text ≡ text)
text_parts text =
    let p = parts text in
    let only : (lines_of text ≡ p.lines) × (left_of text ≡ p.left) = rw p.whole at (lines_only p.lines p.left p.each_line p.no_newline) in
    rw (only.0, only.1) (p.each_line, p.no_newline, p.whole)

-- a text has no newline, or it begins with a line
pub line_or_none : (text : List ℕ) → Each NoNewline text ⊎ ((line : List ℕ) × (rest : List ℕ) × OneNewline line × (text ≡ line ++ rest))
unfolding Each flatten
line_or_none text = let p = parts text in go p.lines p.each_line p.whole
  where
    go : (lines : List (List ℕ)) → Each OneNewline lines → flatten lines ++ (parts text).left ≡ text
        → Each NoNewline text ⊎ ((line : List ℕ) × (rest : List ℕ) × OneNewline line × (text ≡ line ++ rest))
    go [] each whole = inl (subst (Each NoNewline) whole (parts text).no_newline)
    go (line ∷ lines) each whole =
        inr (line, flatten lines ++ (parts text).left, each.0, sym whole ∙ append_assoc line (flatten lines) (parts text).left)

-- ---- pieces

-- lines, and then other lines
pub with_more : (f : Follower) (trace : List ℕ) (a b : List (List ℕ)) → with_lines f trace (a ++ b) ≡ with_lines (with_lines f trace a) trace b
unfolding with_lines
with_more f trace [] b = refl
with_more f trace (line ∷ a) b = with_more (with_line f trace line) trace a b

pub pieces_join : PiecesJoin
unfolding fed_by
pieces_join f trace piece next =
    let p = text_parts piece in
    let lines = lines_of piece in
    let left = left_of piece in
    let again : piece ++ next ≡ flatten lines ++ (left ++ next) = ap (λ (text : List ℕ). text ++ next) (sym p.2) ∙ append_assoc (flatten lines) left next in
    let first = lines_first lines (left ++ next) p.0 in
    let before : length (flatten lines) ≡ length piece - length left = omega (arith, ap length p.2, length-append (flatten lines) left) in (
      ap (λ (text : List ℕ). with_lines f trace (lines_of text)) again ∙ ap (with_lines f trace) first.0 ∙ with_more f trace lines (lines_of (left ++ next)),
      ap left_of again ∙ first.1,
      sym (drop_at (flatten lines) left (length piece - length left) before) ∙ ap (drop (length piece - length left)) p.2,
    )
