-- What is proved of cells: reading and writing are inverse, at any width and any place.
use Rattle.std.specs.Prelude.{◌≡◌, List, ◌++◌, ℕ, ◌+◌, ◌^◌, ◌≤◌, ◌<◌, length, take, drop}
use Rattle.cells.specs.Cells.{cell, number_at, Bytes}

-- a number that its cell has room for is read back from it, whatever stands before and after
abbrev pub CellReadsBack : Type 0
CellReadsBack = (w n : ℕ) (before after : List ℕ) → n < 256 ^ w → number_at w (before ++ (cell w n ++ after)) (length before) ≡ n

-- the cell of a number that was read is what it was read from
abbrev pub NumberWritesBack : Type 0
NumberWritesBack = (w : ℕ) (bytes : List ℕ) (at : ℕ) → Bytes bytes → at + w ≤ length bytes → cell w (number_at w bytes at) ≡ take w (drop at bytes)

-- a number that was read fits its cell
abbrev pub NumberFits : Type 0
NumberFits = (w : ℕ) (bytes : List ℕ) (at : ℕ) → Bytes bytes → number_at w bytes at < 256 ^ w

-- a cell has its width in bytes, and bytes they are
abbrev pub CellIsBytes : Type 0
CellIsBytes = (w n : ℕ) → (length (cell w n) ≡ w) × Bytes (cell w n)
