-- `Table::of` maps the rows to both columns.
use mathlib.Core.Path.{◌≡◌}
use Prim.Native.Nat.{ℕ, ◌<◌}
use lib.ListN.{get_or}
use borrow.Author.Rules.{rules}
use Rattle.table.specs.Reservations.{no_record, table_of_records}
use Rattle.table.proofs.Lists.{listed}
use Rattle.table.proofs.Table.of.Goals as goal
use Rattle.table.proofs.Table.of.Goals.{After-map-2}

reserved : (c : After-map-2) (i : ℕ) → i < 8 → get_or c.map.result i 0 ≡ (get_or c.args.records.rows i no_record).reserved
reserved c i l = let h = (c.map.ensures.items.at i no_record 0 l).2 in search (rules, h)

period : (c : After-map-2) (i : ℕ) → i < 8 → get_or c.map-2.result i 0 ≡ (get_or c.args.records.rows i no_record).period
period c i l = let h = (c.map-2.ensures.items.at i no_record 0 l).2 in search (rules, h)

pub returns : goal.returns
unfolding table_of_records
returns c =
    let rows = c.args.records.rows in
    rw (
      listed (λ i. (get_or rows i no_record).reserved) c.map.result 0 8 c.map.ensures.items.long (reserved c),
      listed (λ i. (get_or rows i no_record).period) c.map-2.result 0 8 c.map-2.ensures.items.long (period c),
    )
