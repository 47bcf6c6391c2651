-- `Step::with_event` makes the call of an event; one that is malformed is none.
use mathlib.Core.Path.{sym, ◌∙◌}
use Rattle.counts.proofs.Runs.{asked}
use Rattle.counts.proofs.run.Step.with_event.Goals as goal

pub returns-in-Some : goal.returns-in-Some
returns-in-Some c = c.with_call.ensures ∙ asked c.args.self c.args.event (sym c.call_of.ensures ∙ c.in-Some.is)

pub returns-in-None : goal.returns-in-None
returns-in-None c = asked c.args.self c.args.event (sym c.call_of.ensures ∙ c.in-None.is)
