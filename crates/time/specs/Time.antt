-- "Clock time and disk time are counted apart: the clock says when, a charge says how much disk a stream has had. Both are whole microseconds."
use Rattle.std.specs.Prelude.{ℕ}
use Rattle.time.specs.declared.Clock.{Clock}
use Rattle.time.specs.declared.Charge.{Charge}

-- a moment of clock time, and an amount of disk time
abbrev pub moment : ℕ → Clock
moment n = record { 0 = n }

abbrev pub disk_time : ℕ → Charge
disk_time n = record { 0 = n }

-- "the clock and all deadlines are at most 1,000,000,000,000"
abbrev pub session_end : ℕ
session_end = 1_000_000_000_000

-- "duration outside 1 to 10,000,000"; "each charge is at most g + 10,000,000"
abbrev pub duration_max : ℕ
duration_max = 10_000_000

-- what the streams may use up to the horizon, times the span, stays below
abbrev pub parts_max : ℕ
parts_max = 1_000_000_000_000_000_000
