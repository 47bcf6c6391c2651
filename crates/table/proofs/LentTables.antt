-- Tables of lent slices: what is taken in makes the same table as the slice, and its length is judged first.
use mathlib.Core.Path.{◌≡◌, refl}
use mathlib.Core.List.{List}
use Prim.Native.Nat.{ℕ}
use Rattle.table.specs.Fold.{list_to}
use Rattle.table.specs.Refusal.{given, ◌or_next◌}
use Rattle.table.specs.Admission.{numbers_refusal, admission_of}
use Rattle.table.specs.Reservations.{records_of, table_of_records, lent_table}
use Rattle.table.specs.Laws.{LengthRefused}
use Rattle.table.specs.declared.reservations.Reservation.{Reservation}

pub taken_table : (worst span k : ℕ) (records : List Reservation)
    → table_of_records worst span k (records_of records).rows (records_of records).count ≡ lent_table worst span k records
unfolding records_of table_of_records list_to
taken_table worst span k records = refl

pub length_refused : LengthRefused
unfolding admission_of numbers_refusal table_of_records given ◌or_next◌
length_refused worst span k records long = rw long refl
