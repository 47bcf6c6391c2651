-- `Verdict::on` asks the numbers, the streams and the load in opening's order.
use mathlib.Core.Path.{◌≡◌, sym}
use Prim.Native.Nat.{◌+◌, ◌-◌}
use native.Mathlib.Omega.{arith}
use borrow.Author.Tests.{ne_eqb}
use Rattle.table.specs.Fold.{if}
use Rattle.table.specs.Margin.{margin_of}
use Rattle.table.proofs.Judged.{numbers_of}
use Rattle.table.proofs.Margins.{refusal_some, refusal_is, numbers_told}
use Rattle.terms.specs.Terms.{refused_stream, stream_verdict, verdict_of, as_said}
use Rattle.terms.proofs.Laws.{numbers_high, stream_high, stream_below, streams_none}
use Rattle.terms.proofs.Verdict.on.Goals as goal

pub returns-in-Err : goal.returns-in-Err
unfolding verdict_of as_said if
returns-in-Err c =
    let t = c.args.t in
    let r = c.in-Err.refusal in
    let e = numbers_told t _ c.in-Err.ensures in
    rw (← e, ne_eqb _ 0 (refusal_some r), ne_eqb _ 0 (refusal_some r), refusal_is r (margin_of t) (omega (arith, e, numbers_high t)), c.numbers_finding.ensures)

pub overflow_add-result : goal.overflow_add-result
overflow_add-result c =
    let t = c.args.t in
    let high = (numbers_of t (sym (numbers_told t _ c.in_default.ensures))).count_high in
    let e = c.in-Some.ensures.0 in
    omega (arith, e, high, stream_below t (λ z. omega (arith, z, e)))

pub returns-in-Some : goal.returns-in-Some
unfolding verdict_of stream_verdict as_said if
returns-in-Some c =
    let t = c.args.t in
    let i = c.in-Some.i in
    let r = c.in-Some.refusal in
    let told = c.in-Some.ensures in
    let some : refused_stream t ≡ 0 → ⊥ = λ z. omega (arith, z, told.0) in
    let back : i + 1 - 1 ≡ i = omega arith in
    let finding = rw (c.numbers.ensures, c.reservation.ensures) at c.stream_finding.ensures in
    let one = ne_eqb (i + 1) 0 (λ z. omega (arith, z)) in
    rw (← numbers_told t _ c.in_default.ensures, told.0, one, back, ← told.1, ne_eqb _ 0 (refusal_some r), refusal_is r (margin_of t) (omega (arith, told.1, stream_high t i)), one, finding)

pub load_verdict-requires : goal.load_verdict-requires
load_verdict-requires c = (sym (numbers_told c.args.t _ c.in_default.ensures), streams_none _ c.in-None.ensures)

pub returns-in-None : goal.returns-in-None
unfolding verdict_of if
returns-in-None c = rw (← numbers_told c.args.t _ c.in_default.ensures, c.in-None.ensures) c.load_verdict.ensures
