-- `search_text` compares the line with the text.
use mathlib.Core.Path.{sym, ap, ◌∙◌}
use Rattle.table.specs.Fold.{if}
use Rattle.logs.specs.Inner.{found_if}
use Rattle.logs.specs.Lines.{same_bytes}
use Rattle.logs.proofs.Splitting.{compared}
use Rattle.logs.proofs.choices.search_text.Goals as goal

pub returns-then-eq : goal.returns-then-eq
unfolding found_if if
returns-then-eq c =
    let a = c.args in
    rw (sym (c.if-eq.ensures ∙ compared _ _ ∙ ap (same_bytes a.line.now) c.as_bytes.ensures.value))

pub returns : goal.returns
unfolding found_if if
returns c =
    let a = c.args in
    rw (sym (c.if-eq.ensures ∙ compared _ _ ∙ ap (same_bytes a.line.now) c.as_bytes.ensures.value))
