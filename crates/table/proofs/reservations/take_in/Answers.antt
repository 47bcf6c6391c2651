-- `take_in` reads the eight records.
use mathlib.Core.Path.{◌≡◌}
use Prim.Native.Nat.{ℕ, ◌<◌}
use lib.ListN.{get_or}
use borrow.Author.Rules.{rules}
use Rattle.table.specs.Reservations.{no_record, record_at, records_of}
use Rattle.table.proofs.Lists.{listed}
use Rattle.table.proofs.reservations.take_in.Goals as goal
use Rattle.table.proofs.reservations.take_in.Goals.{After-from_fn}

read : (c : After-from_fn) (i : ℕ) → i < 8 → get_or c.from_fn.result i no_record ≡ record_at c.args.table.now i
read c i l = let h = (c.from_fn.ensures.items.at i no_record l).2 in search (rules, h)

pub returns : goal.returns
unfolding records_of
returns c =
    rw (listed (record_at c.args.table.now) c.from_fn.result no_record 8 c.from_fn.ensures.items.long (read c))
