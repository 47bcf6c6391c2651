-- Refusals by number, in the order of document 01: 0 refuses nothing.
use Rattle.std.specs.Prelude.{Bool, true, false, ◌||◌, ℕ, zero, suc, ltb, Result, Ok, Err}
use Rattle.table.specs.declared.refusal.Refusal.{Refusal}
use Rattle.table.specs.declared.refusal.Refusal.TheVariants.{Streams, Worst, Span, Padding, Period, Budget, Load}

infixr 20 ◌or_next◌
-- "given exactly when" the test holds
unfoldable pub given : Bool → ℕ → ℕ
given true n = n
given false n = 0

-- the first of two refusals that is one
unfoldable pub ◌or_next◌ : ℕ → ℕ → ℕ
zero or_next m = m
suc n or_next m = suc n

-- the first refusal among f 0, .., f (n - 1)
unfoldable pub first_to : (ℕ → ℕ) → ℕ → ℕ
first_to f zero = 0
first_to f (suc n) = first_to f n or_next f n

-- a number outside its range
unfoldable pub outside : ℕ → ℕ → ℕ → Bool
outside low high n = ltb n low || ltb high n

-- the number of each: 1 "no stream, or more than 8", 2 "W outside its range", 3 "H outside its range", 4 "k above 3", 5 "p outside its range or not dividing H", 6 "e = 0 or g > p", 7 "load > H"
abbrev pub refusal_number : Refusal → ℕ
refusal_number Streams = 1
refusal_number Worst = 2
refusal_number Span = 3
refusal_number Padding = 4
refusal_number Period = 5
refusal_number Budget = 6
refusal_number (Load m) = 7

-- and of what is answered: 0 where nothing is refused
abbrev pub refused_by : {A : Type 0} → Result A Refusal → ℕ
refused_by (Ok x) = 0
refused_by (Err r) = refusal_number r
