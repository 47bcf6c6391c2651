-- Numbers in bytes, "numbers little-endian", at any width. A run of bytes that is stored from an index on is `sets` of the library, which leaves out what would stand past the end.
use Rattle.std.specs.Prelude.{List, [], ◌∷◌, ℕ, zero, suc, ◌*◌, ◌+◌, ◌/◌, ◌%◌, ◌<◌, get_or}

-- the cell of a number: its w low bytes, the lowest first
unfoldable pub cell : ℕ → ℕ → List ℕ
cell zero n = []
cell (suc w) n = n % 256 ∷ cell w (n / 256)

-- the number that w bytes spell from an index on, the lowest first; a byte past the end counts as 0
unfoldable pub number_at : ℕ → List ℕ → ℕ → ℕ
number_at zero bytes at = 0
number_at (suc w) bytes at = number_at w bytes (suc at) * 256 + get_or bytes at 0

-- a list of bytes, as every slice of them is
abbrev pub Bytes : List ℕ → Type 0
Bytes bytes = (i : ℕ) → get_or bytes i 0 < 256
