-- Refusals of a booking by number: 0 refuses nothing.
use Rattle.std.specs.Prelude.{ℕ, Result, Ok, Err}
use Rattle.table.specs.Refusal.{refusal_number as table_number}
use Rattle.booking.specs.declared.refusal.Refusal.{Refusal}
use Rattle.booking.specs.declared.refusal.Refusal.TheVariants.{Table, Limit, Stream, Desk, Unsound}

-- the numbers of a table's refusals, 18 "the desk's sum would pass its limit", 19 "the desk has no stream of that number", 30 "desk not 1 or 2", and 31, of a table that is not sound
abbrev pub refusal_number : Refusal → ℕ
refusal_number (Table r) = table_number r
refusal_number Limit = 18
refusal_number Stream = 19
refusal_number Desk = 30
refusal_number Unsound = 31

-- and of what is answered: 0 where nothing is refused
abbrev pub refused_by : {A : Type 0} → Result A Refusal → ℕ
refused_by (Ok x) = 0
refused_by (Err r) = refusal_number r
