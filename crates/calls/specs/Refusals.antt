-- Why a call of a session is refused, and the number by which document 01 tells it.
use Rattle.std.specs.Prelude.{ℕ}
use Rattle.calls.specs.declared.refusal.Refusal.{Refusal}
use Rattle.calls.specs.declared.refusal.Refusal.TheVariants.{NoStream, QueueFull, Busy, Idle, Duration, Backwards, PastEnd, NotInSet, Unsound}

-- 8 "stream number 0 or above the count", 9 "queue holds 16", 10 "a request is at the disk", 11 "no request is at the disk", 12 "duration outside 1 to 10,000,000", 13 "time below the clock", 14 "a clock, or a deadline in a move, would pass 1,000,000,000,000", 15 "index not in the set", 31 "the session handed to a call is not sound"
abbrev pub refusal_number : Refusal → ℕ
refusal_number NoStream = 8
refusal_number QueueFull = 9
refusal_number Busy = 10
refusal_number Idle = 11
refusal_number Duration = 12
refusal_number Backwards = 13
refusal_number PastEnd = 14
refusal_number NotInSet = 15
refusal_number Unsound = 31
