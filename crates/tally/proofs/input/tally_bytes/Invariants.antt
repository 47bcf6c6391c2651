-- `tally_bytes` goes over the bytes; the name so far lies within its buffer.
use Rattle.std.proofs.Common.{◌≤◌, length}
use Rattle.tally.proofs.input.tally_bytes.Given as goal

abbrev pub invariant-loop-byte : goal.invariant-loop-byte
invariant-loop-byte g l = l.names.len ≤ length l.name
