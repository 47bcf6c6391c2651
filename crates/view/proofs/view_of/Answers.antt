-- `view_of` shows the clock and what lies ahead of a sound session, or 31.
use mathlib.Core.Path.{sym, ◌∙◌}
use Rattle.table.specs.Fold.{if}
use Rattle.session.specs.Session.{sound}
use Rattle.view.specs.View.{view_of}
use Rattle.session.proofs.Options.{some_if, none_if}
use Rattle.view.proofs.view_of.Goals as goal

pub returns-in_default : goal.returns-in_default
unfolding view_of if
returns-in_default c =
    let unsound = none_if _ _ (sym c.outlook.ensures ∙ c.in_default.is) in
    rw (unsound, c.number.ensures, c.default.ensures, c.at-start.ensures)

pub returns : goal.returns
unfolding view_of if
returns c =
    let seen = some_if (sound c.args.session.now) (sym c.outlook.ensures ∙ c.in-Some.is) in
    rw (seen.0, ← seen.1)
