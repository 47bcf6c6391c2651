use Rattle.terms.proofs.Found.{numbered_none, numbered_some}
use Rattle.terms.specs.Terms.{numbered, refused_stream}
use Rattle.table.proofs.Folds.{first_at}
use Rattle.table.proofs.Margins.{refusal_some, stream_told}
use Rattle.table.specs.Admission.{stream_refusal_at}
use Rattle.table.specs.Refusal.{first_to, ◌or_next◌}
use native.Mathlib.Omega.{arith}
use mathlib.Core.Path.{◌≡◌, refl, sym, ap, ◌∙◌}
use native.Mathlib.Numerals.{add-one}
use Rattle.terms.proofs.refused_stream.Goals as goal

pub loop-i-init : goal.loop-i-init
unfolding first_to
loop-i-init c = refl

pub returns-in-Err : goal.returns-in-Err
unfolding refused_stream
returns-in-Err c =
    let t = c.args.t in
    let i = c.loop-i.i in
    let told = stream_told _ _ _ _ _ _ (rw (c.numbers-numbers.ensures, c.reservation.ensures) at c.in-Err.ensures) in
    let here = numbered_some (stream_refusal_at t) i (λ none. refusal_some c.in-Err.refusal (told ∙ none)) in
    (first_at (numbered (stream_refusal_at t)) t.count i (omega arith) c.loop-i.invariant (λ z. omega (arith, z, here)) ∙ here, told)

pub loop-i-preserved : goal.loop-i-preserved
unfolding first_to ◌or_next◌
loop-i-preserved c =
    let told = stream_told _ _ _ _ _ _ (rw (c.numbers-numbers.ensures, c.reservation.ensures) at c.in_default.ensures) in
    rw (add-one, c.loop-i.invariant) (numbered_none (stream_refusal_at c.args.t) c.loop-i.i (sym told))

pub returns : goal.returns
unfolding refused_stream
returns c =
    let e : c.loop-i.i ≡ c.args.t.count = omega arith in
    sym (ap (first_to _) e) ∙ c.loop-i.invariant
