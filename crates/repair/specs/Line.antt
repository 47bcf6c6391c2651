-- How a change is printed: its word, and its position.
use Rattle.std.specs.Prelude.{List, [], ◌∷◌, ℕ, eqb}
use Rattle.table.specs.Fold.{if}
use Rattle.listing.specs.Line.{ascii, worded_fields}
use Rattle.repair.specs.declared.change.Change.{Change}

-- "whether the contents were rewritten [..], an event dropped or a tail cut": there is no other kind
abbrev pub change_word : ℕ → List ℕ
change_word kind = if (eqb kind 1) (ascii "contents") (if (eqb kind 2) (ascii "dropped") (ascii "cut"))

unfoldable pub change_fields : Change → List (List ℕ)
change_fields change = worded_fields (change_word change.kind) (change.position ∷ [])
