-- `line_at` has the lines of the choices of a turn that sends, and else that of the event alone.
use mathlib.Core.Path.{sym, ap, ◌∙◌}
use Rattle.table.specs.Fold.{if}
use Rattle.listing.specs.Line.{rendered, text_of}
use Rattle.trace.specs.Trace.{applied, fields_of, handed}
use Rattle.trace.specs.declared.Stepped.{Stepped}
use Rattle.logs.specs.Choices.{may_be}
use Rattle.logs.specs.Inner.{only_at}
use Rattle.logs.proofs.Looking.{only_line}
use Rattle.logs.proofs.choices.line_at.Goals as goal

pub returns-then-is_send : goal.returns-then-is_send
unfolding may_be if
returns-then-is_send c = rw (sym c.is_send.ensures ∙ c.if-is_send.true) c.line_of_choice.ensures

pub returns : goal.returns
unfolding may_be if handed text_of
returns c =
    let a = c.args in
    rw (sym c.is_send.ensures ∙ c.if-is_send.false)
    (c.only.ensures
    ∙ ap (λ (x : Stepped). only_at x.text a.k) c.step-stepped.ensures
    ∙ only_line (rendered (fields_of (applied a.session a.number a.event).line)) a.k)
