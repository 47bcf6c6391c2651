-- `Table::load` gives the load where 1 to 6 refuse nothing.
use borrow.Author.Tests.{ne_eqb}
use Rattle.table.specs.Fold.{if}
use Rattle.table.specs.Admission.{judged_load}
use Rattle.table.proofs.Margins.{refusal_some}
use Rattle.table.proofs.Table.load.Goals as goal

pub returns-in-Ok : goal.returns-in-Ok
unfolding judged_load if
returns-in-Ok c = let told = rw c.in-Ok.ensures.value at c.load.ensures in rw (← c.in-Ok.ensures.number) told

pub returns-in-Err : goal.returns-in-Err
unfolding judged_load if
returns-in-Err c = rw (← c.in-Err.ensures.number, ne_eqb _ 0 (refusal_some c.in-Err.field-0))
