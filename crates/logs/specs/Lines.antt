-- The lines of a text: those that a newline ends, and what is left behind the last of them.
use Rattle.std.specs.Prelude.{Bool, ◌&&◌, List, [], ◌∷◌, ◌++◌, ℕ, length, get_or, eqb}
use Rattle.table.specs.Fold.{if, all_to}
use Rattle.listing.specs.Line.{newline}

-- the lines of a text, each with its newline, where some bytes of the first have come before
unfoldable pub lines_after : List ℕ → List ℕ → List (List ℕ)
lines_after before [] = []
lines_after before (byte ∷ rest) =
    let line = before ++ (byte ∷ []) in
    if (eqb byte newline) (line ∷ lines_after [] rest) (lines_after line rest)

abbrev pub lines_of : List ℕ → List (List ℕ)
lines_of text = lines_after [] text

-- and what no newline ends: "an unended line", or nothing
unfoldable pub left_after : List ℕ → List ℕ → List ℕ
left_after before [] = before
left_after before (byte ∷ rest) = if (eqb byte newline) (left_after [] rest) (left_after (before ++ (byte ∷ [])) rest)

abbrev pub left_of : List ℕ → List ℕ
left_of text = left_after [] text

-- two texts have the same bytes
unfoldable pub same_bytes : List ℕ → List ℕ → Bool
same_bytes a b = eqb (length a) (length b) && all_to (λ i. eqb (get_or a i 0) (get_or b i 0)) (length a)
