-- `feed` reads byte after byte: what is left to read does the rest.
use mathlib.Core.Path.{◌≡◌}
use lib.ListN.{drop}
use Rattle.notes.specs.Notes.{read, bytes_read}
use Rattle.notes.proofs.feed.Given as goal

abbrev pub invariant-loop-byte : goal.invariant-loop-byte
invariant-loop-byte l =
    bytes_read (read l.so_far l.trace) (drop l.byte-index l.bytes) ≡ bytes_read (read l.initial.so_far l.initial.trace) l.bytes
