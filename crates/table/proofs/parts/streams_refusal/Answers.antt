use mathlib.Core.Path.{◌≡◌, refl, sym, ap, ◌∙◌}
use native.Mathlib.Omega.{arith}
use native.Mathlib.Numerals.{add-one}
use Rattle.std.proofs.lemmas.Result.{err_from_is_err_and}
use Rattle.table.specs.Refusal.{first_to, ◌or_next◌}
use Rattle.table.specs.Admission.{stream_refusal_at, streams_refusal}
use Rattle.table.proofs.Folds.{first_at}
use Rattle.table.proofs.Margins.{refusal_some, stream_told}
use Rattle.table.proofs.parts.streams_refusal.Goals as goal

pub loop-i-init : goal.loop-i-init
unfolding first_to
loop-i-init c = refl

pub returns-in_err-stream_refusal : goal.returns-in_err-stream_refusal
unfolding streams_refusal
returns-in_err-stream_refusal c =
    let p = err_from_is_err_and c.from_residual.result c.from_residual.ensures.1 in
    let t = c.args.t in
    let e = stream_told _ _ _ _ _ _ (rw (c.numbers-numbers.ensures, c.reservation.ensures) at c.in_err-stream_refusal.ensures) in
    rw (p.1, p.2) (e ∙ sym (first_at (stream_refusal_at t) t.count c.loop-i.i (omega arith) c.loop-i.invariant (λ z. refusal_some _ (e ∙ z))))

pub loop-i-preserved : goal.loop-i-preserved
unfolding first_to ◌or_next◌
loop-i-preserved c =
    let e = stream_told _ _ _ _ _ _ (rw (c.numbers-numbers.ensures, c.reservation.ensures) at c.in_ok-stream_refusal.ensures) in
    rw (add-one, c.loop-i.invariant) (sym e)

pub returns : goal.returns
unfolding streams_refusal
returns c =
    let e : c.loop-i.i ≡ c.args.t.count = omega arith in
    sym c.loop-i.invariant ∙ ap (first_to _) e
