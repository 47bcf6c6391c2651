-- `follow_input` reads piece by piece; what is held lies within the buffer.
use Rattle.std.proofs.Common.{◌≤◌, length}
use Rattle.follow.proofs.input.follow_input.Given as goal

abbrev pub invariant-loop : goal.invariant-loop
invariant-loop g l = l.listing.held ≤ length l.buffer
