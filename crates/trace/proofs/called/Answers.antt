-- `called` makes the call and renders its answer: each number of the line is what the definitions say of the reply.
use Rattle.session.specs.Calls.{line_of}
use Rattle.trace.specs.Trace.{called, handed}
use Rattle.trace.proofs.called.Goals as goal

pub returns : goal.returns
unfolding called handed line_of
returns c =
    rw (
      c.line-text.ensures,
      c.tag.ensures,
      c.micros.ensures,
      c.value.ensures,
      c.stream.ensures,
      c.number.ensures,
      c.call-answer.ensures,
    )
