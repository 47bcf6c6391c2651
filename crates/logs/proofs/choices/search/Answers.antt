-- `search` looks among the choices of a turn that sends, and else at the event alone.
use mathlib.Core.Path.{sym, ◌∙◌}
use Rattle.table.specs.Fold.{if}
use Rattle.logs.specs.Choices.{may_be}
use Rattle.logs.proofs.choices.search.Goals as goal

pub returns-then-is_send : goal.returns-then-is_send
unfolding may_be if
returns-then-is_send c = rw (sym c.is_send.ensures ∙ c.if-is_send.true) c.search_choices.ensures

pub returns : goal.returns
unfolding may_be if
returns c = rw (sym c.is_send.ensures ∙ c.if-is_send.false) c.search_event.ensures
