-- `with_byte` reads on until a line is wrong.
use mathlib.Core.Path.{refl}
use Rattle.notes.proofs.Choices.{byte_stopped, byte_ends, byte_lengthens}
use Rattle.notes.proofs.with_byte.Goals as goal

pub returns-then-notes : goal.returns-then-notes
returns-then-notes c = rw (byte_stopped c.args.notes c.args.trace.now c.args.byte c.if-notes.true) (record { value = refl; trace_after = refl })

pub returns-then-byte-eq10 : goal.returns-then-byte-eq10
returns-then-byte-eq10 c = rw (byte_ends c.args.notes c.args.trace.now c.args.byte c.if-notes.false c.if-byte-eq10.true) c.end_line.ensures

pub returns : goal.returns
returns c = rw (byte_lengthens c.args.notes c.args.trace.now c.args.byte c.if-notes.false c.if-byte-eq10.false) (record { value = c.lengthened.ensures; trace_after = refl })
