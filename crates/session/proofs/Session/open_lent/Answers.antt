-- `Session::open_lent` opens with the table of the slice: what is taken in makes the same table.
use mathlib.Core.Path.{ap}
use Rattle.table.proofs.LentTables.{taken_table}
use Rattle.table.specs.declared.Table.{Table}
use Rattle.session.specs.Opening.{opening_of}
use Rattle.session.proofs.Session.open_lent.Goals as goal

pub returns : goal.returns
returns c =
    rw (c.open_taken.ensures, c.take_in.ensures)
    (ap (λ (t : Table). opening_of t c.args.order) (taken_table c.args.numbers.worst c.args.numbers.span c.args.numbers.padding c.args.table.now))
