-- Why a session file is refused, by number, and the amount over the span.
use Rattle.std.specs.Prelude.{ℕ}
use Rattle.table.specs.Refusal.{refusal_number as table_number}
use Rattle.table.specs.Margin.{over_of, refusal_margin}
use Rattle.file.specs.Refusal.{refusal_number as file_number}
use Rattle.trace.specs.declared.refusal.Refusal.{Refusal}
use Rattle.trace.specs.declared.refusal.Refusal.TheVariants.{File, Table}

-- "If reading or opening refuses it prints `refused N`": reading by 16, and opening by 1 to 7
abbrev pub refusal_number : Refusal → ℕ
refusal_number (File r) = file_number r
refusal_number (Table r) = table_number r

-- and "`refused 7 N` with N the amount over the span"
abbrev pub refusal_over : Refusal → ℕ
refusal_over (File r) = 0
refusal_over (Table r) = over_of (refusal_margin r).0
