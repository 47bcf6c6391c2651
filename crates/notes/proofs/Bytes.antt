-- Bytes read one after the other.
use mathlib.Core.Path.{◌≡◌, refl}
use mathlib.Core.List.{List, [], ◌∷◌}
use Prim.Native.Nat.{ℕ, ◌+◌, ◌≤◌, ◌<◌}
use native.Mathlib.Numerals.{add-one}
use lib.ListN.{length, get_or, drop, drop_of_length-le}
use lib.Seq.{drop-cons}
use Rattle.notes.specs.Notes.{Read, byte_read, bytes_read}
use Rattle.notes.specs.Laws.{PiecesJoin}

-- the byte at i, and then those after it, are those from i on
pub read_more : (r : Read) (bytes : List ℕ) (i : ℕ) → i < length bytes
    → bytes_read (byte_read r (get_or bytes i 0)) (drop (i + 1) bytes) ≡ bytes_read r (drop i bytes)
unfolding bytes_read
read_more r bytes i h = rw (add-one, drop-cons bytes i 0 h)

-- nothing is left to read
pub read_all : (r : Read) (bytes : List ℕ) (i : ℕ) → length bytes ≤ i → bytes_read r (drop i bytes) ≡ r
unfolding bytes_read
read_all r bytes i h = rw (drop_of_length-le bytes {i = i} h)

pub pieces_join : PiecesJoin
unfolding bytes_read
pieces_join r [] b = refl
pieces_join r (byte ∷ a) b = pieces_join (byte_read r byte) a b
