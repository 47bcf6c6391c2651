-- The latest safe moment from three numbers. Document 02, Req 06: "Asking reads only that sum, the horizon and the span", and 31 "is given exactly if the span is 0, or if the horizon less the sum divided by the span, rounded down, is below 0 or does not fit 64 unsigned bits; otherwise that number is the answer."
use Rattle.std.specs.Prelude.{ℕ, ◌*◌, ◌/◌, ◌^◌, ltb, eqb, ℤ, pos, negsuc, ◌-ℤ◌, Option, Some, None}
use Rattle.table.specs.Fold.{if}
use Rattle.time.specs.Time.{moment}
use Rattle.time.specs.declared.remainders.Remainders.{Remainders}
use Rattle.time.specs.declared.Clock.{Clock}

-- "the sum of remainders, scaled by the span so that it is whole", as the code holds it, in 64 bits with the sign
abbrev pub remainders : ℤ → Remainders
remainders sum = record { 0 = sum }

-- a whole number divided by a span above 0, "rounded down". One below 0 stays below 0.
unfoldable pub rounded_down : ℤ → ℕ → Option Clock
rounded_down (pos n) span = if (ltb (n / span) (2 ^ 64)) (Some (moment (n / span))) None
rounded_down (negsuc n) span = None

-- "the horizon less the sum divided by the span" is (h × H − S) / H, which is rounded once
unfoldable pub latest_of : ℕ → ℤ → ℕ → Option Clock
latest_of h sum span = if (eqb span 0) None (rounded_down (pos (h * span) -ℤ sum) span)

-- what the ask answers, in numbers: 0 and the moment, or 31 and 0
abbrev pub asked_number : Option Clock → ℕ
asked_number (Some until) = 0
asked_number None = 31

abbrev pub asked_moment : Option Clock → ℕ
asked_moment (Some until) = until.0
asked_moment None = 0
