-- `streams_refusal` gives the first stream's refusal: the loop goes on only while no stream was refused.
use Rattle.table.specs.Refusal.{first_to}
use Rattle.table.specs.Admission.{stream_refusal_at}
use mathlib.Core.Path.{◌≡◌}
use Rattle.table.proofs.parts.streams_refusal.Given as goal

abbrev pub invariant-loop-i : goal.invariant-loop-i
invariant-loop-i l = first_to (stream_refusal_at l.t) l.i ≡ 0
