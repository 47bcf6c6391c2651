-- `Tally::and` is None from the first sum that has no room on, and else has all four.
use mathlib.Core.Path.{sym, ◌∙◌}
use Rattle.counts.specs.Tally.{together}
use Rattle.counts.proofs.Monoid.{sum_known, jobs_pass, late_pass, expired_pass, time_pass}
use Rattle.counts.proofs.Tally.and.Goals as goal

pub returns-in_err-checked_add : goal.returns-in_err-checked_add
returns-in_err-checked_add c =
    c.from_residual.ensures ∙ sym (jobs_pass _ _ (c.in_err-checked_add.ensures))

pub returns-in_err-checked_add-2 : goal.returns-in_err-checked_add-2
returns-in_err-checked_add-2 c =
    c.from_residual-in_err-checked_add-2.ensures ∙ sym (late_pass _ _ (c.in_err-checked_add-2.ensures))

pub returns-in_err-checked_add-3 : goal.returns-in_err-checked_add-3
returns-in_err-checked_add-3 c =
    c.from_residual-in_err-checked_add-3.ensures ∙ sym (expired_pass _ _ (c.in_err-checked_add-3.ensures))

pub returns-in_err-checked_add-4 : goal.returns-in_err-checked_add-4
returns-in_err-checked_add-4 c =
    c.from_residual-in_err-checked_add-4.ensures ∙ sym (time_pass _ _ (c.in_err-checked_add-4.ensures))

pub returns : goal.returns
unfolding together
returns c =
    let (jobs, jobs_is) = c.in_ok-checked_add.ensures in
    let (late, late_is) = c.in_ok-checked_add-2.ensures in
    let (expired, expired_is) = c.in_ok-checked_add-3.ensures in
    let (time, time_is) = c.in_ok-checked_add-4.ensures in
    rw (jobs_is, late_is, expired_is, time_is, c.max.ensures)
    (sym (sum_known _ _ (record { jobs_small = jobs; late_small = late; expired_small = expired; time_small = time })))
