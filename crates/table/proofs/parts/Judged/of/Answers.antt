-- `Judged::of` gives the numbers' refusal, or where there is none the streams'; where there is none either, the table is in order.
use mathlib.Core.Path.{sym, ◌∙◌}
use Rattle.std.proofs.lemmas.Result.{err_from_is_err_and}
use Rattle.table.specs.Refusal.{◌or_next◌}
use Rattle.table.specs.Admission.{parts_refusal}
use Rattle.table.proofs.Tests.{or_next_first}
use Rattle.table.proofs.Margins.{refusal_some, numbers_told}
use Rattle.table.proofs.parts.Judged.of.Goals as goal

pub returns-in_err-numbers_refusal-clause-number : goal.returns-in_err-numbers_refusal-clause-number
unfolding parts_refusal
returns-in_err-numbers_refusal-clause-number c =
    let p = err_from_is_err_and c.from_residual.result c.from_residual.ensures.1 in
    let h = numbers_told c.args.table _ c.in_err-numbers_refusal.ensures in
    rw (p.1, p.2) (h ∙ sym (or_next_first _ _ (λ z. refusal_some _ (h ∙ z))))

pub returns-in_err-streams_refusal-clause-number : goal.returns-in_err-streams_refusal-clause-number
unfolding parts_refusal ◌or_next◌
returns-in_err-streams_refusal-clause-number c =
    let p = err_from_is_err_and c.from_residual-in_err-streams_refusal.result c.from_residual-in_err-streams_refusal.ensures.1 in
    rw (p.1, p.2, ← numbers_told c.args.table _ c.in_ok-numbers_refusal.ensures) c.in_err-streams_refusal.ensures

pub invariant_of-result : goal.invariant_of-result
unfolding parts_refusal ◌or_next◌
invariant_of-result c =
    record { in_order = rw (← numbers_told c.args.table _ c.in_ok-numbers_refusal.ensures) (sym c.in_ok-streams_refusal.ensures) }
