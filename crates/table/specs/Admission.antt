-- The reservation table of document 01: granted budgets, load and admission.
use Rattle.std.specs.Prelude.{not, ◌||◌, ℕ, ◌+◌, ◌*◌, ◌/◌, ◌%◌, get_or, ltb, eqb}
use Rattle.table.specs.Fold.{if, sum_to, smallest_to, list_to}
use Rattle.table.specs.Refusal.{given, ◌or_next◌, first_to, outside}
use Rattle.table.specs.Ranges.{streams_max, worst_min, worst_max, span_min, span_max, padding_max, padding_default, period_min, period_max}
use Rattle.table.specs.declared.Table.{Table}
use Rattle.table.specs.declared.numbers.Numbers.{Numbers}
use Rattle.table.specs.declared.reservations.Reservation.{Reservation}

-- the reserved time e and the period p of a stream, counted from 0
abbrev pub reserved_at : Table → ℕ → ℕ
reserved_at t i = get_or t.reserved i 0

abbrev pub period_at : Table → ℕ → ℕ
period_at t i = get_or t.period i 0

-- both, and the three numbers of the whole table
abbrev pub reservation_at : Table → ℕ → Reservation
reservation_at t i = record { reserved = reserved_at t i; period = period_at t i }

abbrev pub numbers_in : Table → Numbers
numbers_in t = record { worst = t.worst; span = t.span; padding = t.padding }

-- the same table with another padding
abbrev pub with_padding : Table → ℕ → Table
with_padding t k =
    record { worst = t.worst; span = t.span; padding = k; count = t.count; reserved = t.reserved; period = t.period }

-- and with another reserved time for stream i
abbrev pub with_reserved : Table → ℕ → ℕ → Table
with_reserved t i e =
    record {
      worst = t.worst;
      span = t.span;
      padding = t.padding;
      count = t.count;
      reserved = list_to (λ j. if (eqb j i) e (reserved_at t j)) streams_max;
      period = t.period;
    }

-- "Zero stands for the default"
unfoldable pub padding_of : ℕ → ℕ
padding_of k = if (eqb k 0) padding_default k

-- "Granted budget g = e + k × W"
unfoldable pub granted_of : ℕ → ℕ → ℕ → ℕ
granted_of worst k reserved = reserved + padding_of k * worst

-- "g × (H / p)"
unfoldable pub share_of : ℕ → ℕ → ℕ → ℕ → ℕ → ℕ
share_of worst span k e p = granted_of worst k e * (span / p)

abbrev pub share_at : Table → ℕ → ℕ
share_at t i = share_of t.worst t.span t.padding (reserved_at t i) (period_at t i)

-- "sum of g × (H / p) over the streams"
unfoldable pub shares_of : Table → ℕ
shares_of t = sum_to (share_at t) t.count

-- "smallest p"
unfoldable pub smallest_period : Table → ℕ
smallest_period t = smallest_to (period_at t) t.count

-- "Load = sum of g × (H / p) over the streams, plus W × (H / smallest p)."
unfoldable pub load_of : Table → ℕ
load_of t = shares_of t + t.worst * (t.span / smallest_period t)

-- 2 "W outside its range", 3 "H outside its range", 4 "k above 3"
abbrev pub ranges_refusal : ℕ → ℕ → ℕ → ℕ
ranges_refusal worst span k =
    given (outside worst_min worst_max worst) 2
    or_next given (outside span_min span_max span) 3
    or_next given (ltb padding_max k) 4

-- and before them 1 "no stream, or more than 8"
unfoldable pub numbers_refusal : Table → ℕ
numbers_refusal t = given (outside 1 streams_max t.count) 1 or_next ranges_refusal t.worst t.span t.padding

-- of a stream with reserved time e and period p: 5 "p outside its range or not dividing H", 6 "e = 0 or g > p"
unfoldable pub stream_refusal : ℕ → ℕ → ℕ → ℕ → ℕ → ℕ
stream_refusal worst span k e p =
    given (outside period_min period_max p || not (eqb (span % p) 0)) 5
    or_next given (eqb e 0 || ltb p (granted_of worst k e)) 6

-- "then 5 and 6 stream by stream"
abbrev pub stream_refusal_at : Table → ℕ → ℕ
stream_refusal_at t i = stream_refusal t.worst t.span t.padding (reserved_at t i) (period_at t i)

unfoldable pub streams_refusal : Table → ℕ
streams_refusal t = first_to (stream_refusal_at t) t.count

-- "Opening: 1, 2, 3, 4, then 5 and 6 stream by stream, then 7", where 7 is "load > H": 0 for a table that is admitted, else its refusal
unfoldable pub admission_of : Table → ℕ
admission_of t = numbers_refusal t or_next streams_refusal t or_next given (ltb t.span (load_of t)) 7

-- 1 to 6 of these, and the shares and the load where they are judged: 0 where one of them applies
unfoldable pub parts_refusal : Table → ℕ
parts_refusal t = numbers_refusal t or_next streams_refusal t

unfoldable pub judged_shares : Table → ℕ
judged_shares t = if (eqb (parts_refusal t) 0) (shares_of t) 0

unfoldable pub judged_load : Table → ℕ
judged_load t = if (eqb (parts_refusal t) 0) (load_of t) 0
