-- `Session::set_clock` stores the time, and tells whether it was late.
use mathlib.Core.Path.{◌≡◌, sym, ◌∙◌}
use lib.Dec.{ltb}
use borrow.Author.Rules.{rules}
use Rattle.session.proofs.Outcomes.{late_is, reports_late, reports}
use Rattle.session.proofs.Session.set_clock.Goals as goal

pub returns-then-late : goal.returns-then-late
returns-then-late c =
    let past : c.lt.result ≡ ltb c.args.until.0 c.args.now.0 = search rules in
    let on : c.lt-2.result ≡ ltb c.args.self.clock.0 c.args.now.0 = search rules in
    reports_late _ _ (sym (late_is _ _ _ _ _ c.requires past on) ∙ c.if-late.true)

pub returns-else-late : goal.returns-else-late
returns-else-late c =
    let past : c.lt.result ≡ ltb c.args.until.0 c.args.now.0 = search rules in
    let on : c.lt-2.result ≡ ltb c.args.self.clock.0 c.args.now.0 = search rules in
    reports _ _ (sym (late_is _ _ _ _ _ c.requires past on) ∙ c.if-late.false)
