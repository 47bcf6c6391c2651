-- `put_streams` stores two cells a turn, after those of the streams before.
use mathlib.Core.Path.{◌≡◌}
use lib.Seq.{sets}
use Rattle.file.specs.File.{stream_cells}
use Rattle.file.proofs.body.put_streams.Given as goal

abbrev pub invariant-loop-i : goal.invariant-loop-i
invariant-loop-i l = l.out ≡ sets l.initial.out l.at (stream_cells l.table l.i)
