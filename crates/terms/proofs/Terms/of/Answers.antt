-- `Terms::of` takes W from the granted budget, which is not below it.
use Rattle.terms.proofs.Laws.{granted_high}
use Rattle.terms.specs.Terms.{terms_of}
use native.Mathlib.Omega.{arith}
use Rattle.terms.proofs.Terms.of.Goals as goal

pub overflow_sub-result : goal.overflow_sub-result
overflow_sub-result c =
    let a = c.args in
    omega (arith, granted_high a.numbers.worst a.numbers.padding a.reserved, c.granted-granted.ensures)

pub returns : goal.returns
unfolding terms_of
returns c = rw (c.quotient.ensures, c.granted-granted.ensures, c.of.ensures)
