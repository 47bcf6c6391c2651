-- `Padding::of` gives the padding that k stands for, by the two cases of its test.
use mathlib.Core.Path.{refl}
use borrow.Author.Tests.{eq-eqb, ne_eqb}
use Rattle.table.specs.Fold.{if}
use Rattle.table.specs.Admission.{padding_of}
use Rattle.table.proofs.numbers.Padding.of.Goals as goal

pub returns-then-k-eq0 : goal.returns-then-k-eq0
unfolding padding_of if
returns-then-k-eq0 c = rw (eq-eqb _ _ c.if-k-eq0.true) refl

pub returns-else-k-eq0 : goal.returns-else-k-eq0
unfolding padding_of if
returns-else-k-eq0 c = rw (ne_eqb _ _ c.if-k-eq0.false)
