-- `filed` writes notes that are right and whole.
use mathlib.Core.Path.{refl}
use Rattle.std.proofs.lemmas.Result.{err_from_is_err_and}
use Rattle.notes.proofs.Choices.{filed_wrong, filed_unfinished, filed_refused, filed_short, filed_whole}
use Rattle.notes.proofs.Notes.filed.Goals as goal

pub returns-then-self : goal.returns-then-self
returns-then-self c = rw (filed_wrong c.args.self c.args.trace.now c.args.out.now c.if-self.true, c.fault.ensures, c.expected.ensures) (record { value = refl; out_after = refl })

pub returns-then-self-lt-TABLE_NUMBERS : goal.returns-then-self-lt-TABLE_NUMBERS
returns-then-self-lt-TABLE_NUMBERS c = rw (filed_unfinished c.args.self c.args.trace.now c.args.out.now c.if-self.false c.if-self-lt-TABLE_NUMBERS.true, c.expected-then-self-lt-TABLE_NUMBERS.ensures) (record { value = refl; out_after = refl })

pub returns-in-Some : goal.returns-in-Some
returns-in-Some c = rw (filed_refused c.args.self c.args.trace.now c.args.out.now c.if-self.false c.if-self-lt-TABLE_NUMBERS.false c.in-Some.refusal c.in-Some.is) (record { value = refl; out_after = refl })

pub returns-then-trace-self : goal.returns-then-trace-self
returns-then-trace-self c = rw (filed_short c.args.self c.args.trace.now c.args.out.now c.if-self.false c.if-self-lt-TABLE_NUMBERS.false c.in_default.is c.if-trace-self.true) (record { value = refl; out_after = refl })

pub returns-in_err-len : goal.returns-in_err-len
returns-in_err-len c =
    let whole = filed_whole c.args.self c.args.trace.now c.args.out.now c.if-self.false c.if-self-lt-TABLE_NUMBERS.false c.in_default.is c.if-trace-self.false in
    let p = err_from_is_err_and c.from_residual.result c.from_residual.ensures.1 in
    rw (whole, p.1, p.2, ← c.in_err-len.ensures.value) (record { value = refl; out_after = c.in_err-len.ensures.out_after })

pub returns : goal.returns
returns c =
    let whole = filed_whole c.args.self c.args.trace.now c.args.out.now c.if-self.false c.if-self-lt-TABLE_NUMBERS.false c.in_default.is c.if-trace-self.false in
    rw (whole, c.written_by.ensures, ← c.in_ok-len.ensures.value) (record { value = refl; out_after = c.in_ok-len.ensures.out_after })
