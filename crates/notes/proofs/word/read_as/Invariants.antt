-- `read_as` reads a word byte by byte: it is right so far, and held as n (`Held`).
use Rattle.notes.specs.Draft.{is_name_kind}
use Rattle.notes.proofs.Held.{Held}
use Rattle.notes.proofs.word.read_as.Given as goal

abbrev pub invariant-loop-byte : goal.invariant-loop-byte
invariant-loop-byte l = Held (is_name_kind l.kind) l.word l.n l.byte-index
