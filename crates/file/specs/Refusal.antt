-- Why a session file is refused, by number.
use Rattle.std.specs.Prelude.{ℕ, eqb}
use Rattle.std.specs.declared.result.Result.{Result}
use Rattle.std.specs.declared.result.Result.TheVariants.{Ok, Err}
use Rattle.table.specs.Fold.{if}
use Rattle.file.specs.declared.refusal.Refusal.{Refusal}
use Rattle.file.specs.declared.refusal.Refusal.TheVariants.{Layout as NotLaidOut, Room as NoRoom}

-- 16 "file or event not as laid out", 17 "output buffer shorter than the file"
abbrev pub refusal_number : Refusal → ℕ
refusal_number NotLaidOut = 16
refusal_number NoRoom = 17

-- the refusal of a number: there are these two
abbrev pub refusal_of : ℕ → Refusal
refusal_of n = if (eqb n 16) NotLaidOut NoRoom

-- the answer by a number: a value where it is 0, or else the refusal
abbrev pub answer_by : {A : Type 0} → ℕ → A → Result A Refusal
answer_by n value = if (eqb n 0) (Ok value) (Err (refusal_of n))
