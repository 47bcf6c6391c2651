-- `step` makes the call that an event asks for.
use mathlib.Core.Path.{sym, ◌∙◌}
use Rattle.trace.specs.Trace.{applied, handed}
use Rattle.trace.proofs.step.Goals as goal

pub returns-in-Some : goal.returns-in-Some
unfolding applied handed
returns-in-Some c = rw (sym c.call_of.ensures ∙ c.in-Some.is) c.called.ensures

pub returns : goal.returns
unfolding applied handed
returns c = rw (c.line-text.ensures, c.number-malformed.ensures, c.micros.ensures, sym c.call_of.ensures ∙ c.in_default.is)
