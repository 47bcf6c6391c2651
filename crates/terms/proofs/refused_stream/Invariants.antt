-- `refused_stream` goes on only while no stream was refused.
use Rattle.terms.specs.Terms.{numbered}
use Rattle.table.specs.Admission.{stream_refusal_at}
use Rattle.table.specs.Refusal.{first_to}
use mathlib.Core.Path.{◌≡◌}
use Rattle.terms.proofs.refused_stream.Given as goal

abbrev pub invariant-loop-i : goal.invariant-loop-i
invariant-loop-i l = first_to (numbered (stream_refusal_at l.t)) l.i ≡ 0
