-- `yerbagunt_open` opens with the table of the slice: what is taken in makes the same table.
use mathlib.Core.Path.{ap}
use Rattle.table.proofs.LentTables.{taken_table}
use Rattle.table.specs.declared.Table.{Table}
use Rattle.shelf.specs.Image.{opened_as}
use Rattle.shelf.proofs.yerbagunt_open.Goals as goal

pub returns : goal.returns
returns c =
    rw (c.open.ensures, c.take_in.ensures)
    (ap (λ (t : Table). opened_as t c.args.order) (taken_table c.args.worst c.args.span c.args.padding c.args.table.now))
