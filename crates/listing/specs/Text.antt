-- How a text keeps its line: at the start of a fixed number of bytes, zeros after it.
use Rattle.std.specs.Prelude.{◌≡◌, List, ℕ, ◌-◌, ◌≤◌, ◌++◌, length, take, drop, replicate}
use Rattle.listing.specs.declared.Text.TheInside.{Inside}
use Rattle.listing.specs.Line.{text_size}

-- the part that is used, which is the line
abbrev pub used : Inside → List ℕ
used text = take text.len text.bytes

-- the text that keeps a line
abbrev pub text_keeping : List ℕ → Inside
text_keeping line = record { bytes = line ++ replicate (text_size - length line) 0; len = length line }

-- that part lies within the bytes, of which there are as many as there is room for, and those after it are 0
pub record IsText (text : Inside) : Type 0 where
  pub size : length text.bytes ≡ text_size
  pub within : text.len ≤ text_size
  pub unused : drop text.len text.bytes ≡ replicate (text_size - text.len) 0
