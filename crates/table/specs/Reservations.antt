-- The table as a lent slice of reservation records.
use Rattle.std.specs.Prelude.{List, ℕ, length, get_or}
use Rattle.table.specs.Fold.{list_to}
use Rattle.table.specs.Ranges.{streams_max}
use Rattle.table.specs.declared.Table.{Table}
use Rattle.table.specs.declared.reservations.Reservation.{Reservation}
use Rattle.table.specs.declared.reservations.Records.{Records}

-- what stands past a slice's end
abbrev pub no_record : Reservation
no_record = record { reserved = 0; period = 0 }

-- "The table comes as a lent slice of reservation records, one per stream": the record of a stream, counted from 0
abbrev pub record_at : List Reservation → ℕ → Reservation
record_at records i = get_or records i no_record

-- what is taken of a slice: its first eight records, and how many there are
unfoldable pub records_of : List Reservation → Records
records_of records = record { rows = list_to (record_at records) streams_max; count = length records }

-- "with three numbers for the whole table": the table of W, H, k, records and a count
unfoldable pub table_of_records : ℕ → ℕ → ℕ → List Reservation → ℕ → Table
table_of_records worst span k records count =
    record {
      worst = worst;
      span = span;
      padding = k;
      count = count;
      reserved = list_to (λ i. (record_at records i).reserved) streams_max;
      period = list_to (λ i. (record_at records i).period) streams_max;
    }

-- the table of W, H, k and a lent slice: its count is the slice's length, which admission judges
abbrev pub lent_table : ℕ → ℕ → ℕ → List Reservation → Table
lent_table worst span k records = table_of_records worst span k records (length records)
