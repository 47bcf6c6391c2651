-- A piece of a listing is taken byte by byte: a newline ends a line, and any other byte goes on with it.
use mathlib.Core.List.{List, [], ◌∷◌, ◌++◌}
use mathlib.Core.Path.{◌≡◌, refl, ap, ◌∙◌}
use Prim.Native.Nat.{ℕ, ◌+◌, ◌-◌, ◌≤◌, ◌<◌}
use native.Mathlib.Omega.{arith}
use lib.ListN.{length, drop, get_or, length-take, length-drop}
use lib.Seq.{drop-length}
use borrow.Author.Tests.{eq-eqb, ne_eqb}
use Rattle.table.specs.Fold.{if}
use Rattle.file.specs.Reading.{part}
use Rattle.file.proofs.Parts.{next, part_longer}
use Rattle.listing.specs.Line.{newline}
use Rattle.logs.specs.Lines.{lines_after, lines_of, left_after, left_of}
use Rattle.logs.specs.Following.{with_line, with_lines, fed_by}
use Rattle.logs.specs.declared.Follower.{Follower}

-- what has come of a piece by byte i, where the line that is not ended began at `start`: the follower has taken the lines before it
pub record Taken (f : Follower) (trace piece : List ℕ) (now : Follower) (start i : ℕ) : Type 0 where
  pub begun : start ≤ i
  pub within : i ≤ length piece
  pub lines : with_lines f trace (lines_of piece) ≡ with_lines now trace (lines_after (part start i piece) (drop i piece))
  pub left : left_of piece ≡ left_after (part start i piece) (drop i piece)

pub taken_none : (f : Follower) (trace piece : List ℕ) → Taken f trace piece f 0 0
taken_none f trace piece = record { begun = omega arith; within = omega arith; lines = refl; left = refl }

module _ {f : Follower} {trace piece : List ℕ} {now : Follower} {start i : ℕ} (t : Taken f trace piece now start i) (more : i < length piece) where
  byte : ℕ
  byte = get_or piece i 0

  -- the line so far, and with that byte
  longer : part start i piece ++ (get_or piece i 0 ∷ []) ≡ part start (i + 1) piece
  longer = part_longer piece i more start t.begun

  pub taken_line : get_or piece i 0 ≡ newline → Taken f trace piece (with_line now trace (part start (i + 1) piece)) (i + 1) (i + 1)
  unfolding lines_after left_after with_lines if
  taken_line e =
      let none : i + 1 - (i + 1) ≡ 0 = omega arith in
      record {
        begun = omega arith;
        within = omega arith;
        lines = t.lines ∙ rw (next piece i more, eq-eqb _ newline e, longer, none);
        left = t.left ∙ rw (next piece i more, eq-eqb _ newline e, none);
      }

  pub taken_byte : (get_or piece i 0 ≡ newline → ⊥) → Taken f trace piece now start (i + 1)
  unfolding lines_after left_after if
  taken_byte e =
      record {
        begun = omega (arith, t.begun);
        within = omega arith;
        lines = t.lines ∙ rw (next piece i more, ne_eqb _ newline e, longer);
        left = t.left ∙ rw (next piece i more, ne_eqb _ newline e, longer);
      }

-- at the end of a piece all its lines were taken, and what is left began there
pub taken_all : (f : Follower) (trace piece : List ℕ) (now : Follower) (start i : ℕ) → Taken f trace piece now start i → length piece ≤ i
    → record { follower = now; left = length piece - start } ≡ fed_by f trace piece
unfolding fed_by lines_after left_after with_lines
taken_all f trace piece now start i t past =
    let whole : i ≡ length piece = omega (arith, t.within) in
    let end : drop i piece ≡ [] = ap (λ (k : ℕ). drop k piece) whole ∙ drop-length piece in
    let long : length (part start i piece) ≡ length piece - start = simp (length-take, length-drop) (omega (arith, t.within)) in
    rw (t.lines, t.left, end, long)
