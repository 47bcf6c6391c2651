-- `granted` gives the granted budget.
use Rattle.table.specs.Admission.{granted_of}
use Rattle.table.proofs.numbers.Numbers.granted.Goals as goal

pub returns : goal.returns
unfolding granted_of
returns c = rw c.of-padding.ensures
