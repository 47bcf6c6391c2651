-- `Book::shares` gives the shares of the table of a desk's streams.
use mathlib.Core.Path.{◌∙◌, ap}
use Rattle.table.specs.Admission.{judged_shares}
use Rattle.table.specs.Reservations.{table_of_records}
use Rattle.table.specs.declared.reservations.Records.{Records}
use Rattle.table.proofs.LentTables.{taken_table}
use Rattle.booking.proofs.Book.shares.Goals as goal

pub returns : goal.returns
returns c =
    let b = c.args.self in
    let table =
    (rw c.numbers.ensures at c.of.ensures)
    ∙ ap (λ (r : Records). table_of_records b.worst b.span b.padding r.rows r.count) c.records.ensures
    ∙ taken_table b.worst b.span b.padding _ in
    c.shares.ensures ∙ ap judged_shares table
