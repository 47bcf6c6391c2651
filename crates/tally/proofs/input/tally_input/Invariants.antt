-- `tally_input` reads piece by piece; the name so far lies within its buffer.
use Rattle.std.proofs.Common.{◌≤◌, length}
use Rattle.tally.proofs.input.tally_input.Given as goal

abbrev pub invariant-loop : goal.invariant-loop
invariant-loop g l = l.names.len ≤ length l.name
