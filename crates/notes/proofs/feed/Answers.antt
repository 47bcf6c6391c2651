use native.Mathlib.Omega.{arith}
use mathlib.Core.Path.{sym, ap, ◌∙◌}
use Rattle.notes.specs.Notes.{Read, read}
use Rattle.notes.proofs.Bytes.{read_more, read_all}
use Rattle.notes.proofs.feed.Goals as goal

pub loop-byte-preserved : goal.loop-byte-preserved
loop-byte-preserved c =
    let loop = c.loop-byte in
    let byte = c.with_byte-so_far in
    rw (byte.ensures.value, byte.ensures.trace_after) (read_more (read loop.so_far loop.trace) c.args.bytes.now loop.byte-index (omega arith) ∙ loop.invariant)

pub returns : goal.returns
returns c =
    let loop = c.loop-byte in
    let last = sym (read_all (read loop.so_far loop.trace) c.args.bytes.now loop.byte-index (omega arith)) ∙ loop.invariant in
    record { value = ap (λ (r : Read). r.notes) last; trace_after = ap (λ (r : Read). r.trace) last }
