-- `gather` counts its turns; it never keeps more than there is room for.
use Rattle.std.proofs.Common.{◌≤◌}
use Rattle.file.specs.File.{events_max}
use Rattle.salvage.proofs.pieces.gather.Given as goal

abbrev pub invariant-loop : goal.invariant-loop
invariant-loop g l = l.kept ≤ events_max
