-- The margin of a table, and what admission answers. Document 02, Req 05: "The load test should say the exact margin, span less load, negative when refused, and not a yes or no. Opening passes it on with 7, the session keeps it when admitted, and the program prints `refused 7 N` with N the amount over the span. Other refusals carry margin 0 and print as before."
use Rattle.std.specs.Prelude.{ℕ, eqb, ℤ, pos, ◌-ℤ◌, Result, Ok, Err}
use Rattle.table.specs.Fold.{if}
use Rattle.table.specs.Refusal.{refused_by}
use Rattle.table.specs.Whole.{above_zero, below_zero}
use Rattle.table.specs.Admission.{load_of, admission_of}
use Rattle.table.specs.declared.Table.{Table}
use Rattle.table.specs.declared.margin.Margin.{Margin}
use Rattle.table.specs.declared.refusal.Refusal.{Refusal}
use Rattle.table.specs.declared.refusal.Refusal.TheVariants.{Streams, Worst, Span, Padding, Period, Budget, Load}

-- "span less load": a difference of whole numbers, of either sign, so that nothing is cut off.
abbrev pub less_load : ℕ → ℕ → ℤ
less_load span load = pos span -ℤ pos load

unfoldable pub margin_of : Table → ℤ
margin_of t = less_load t.span (load_of t)

-- as the code holds it, in 64 bits with the sign
abbrev pub margin : ℤ → Margin
margin m = record { 0 = m }

-- for a load of up to this they are enough, and where it is judged none is more
abbrev pub load_max : ℕ
load_max = 1_000_000_000_000_000_000

-- what is left of the span: how far a margin is above 0; and "N the amount over the span": how far it is below 0
abbrev pub left_of : ℤ → ℕ
left_of m = above_zero m

abbrev pub over_of : ℤ → ℕ
over_of m = below_zero m

-- the refusal of a number: 7 with the margin
unfoldable pub refusal_of : ℕ → ℤ → Refusal
refusal_of n m =
    if (eqb n 1) Streams
    (if (eqb n 2) Worst (if (eqb n 3) Span (if (eqb n 4) Padding (if (eqb n 5) Period (if (eqb n 6) Budget (Load (margin m)))))))

-- the answer for a number of admission: the margin stands beside 0 and beside 7
unfoldable pub answered : ℕ → ℤ → Result Margin Refusal
answered n m = if (eqb n 0) (Ok (margin m)) (Err (refusal_of n m))

-- and for one of 1 to 6 alone: nothing beside 0, and no margin beside the others
unfoldable pub answer_by : ℕ → Result Unit Refusal
answer_by n = if (eqb n 0) (Ok tt) (Err (refusal_of n (pos 0)))

unfoldable pub answer_of : Table → Result Margin Refusal
answer_of t = answered (admission_of t) (margin_of t)

-- the margin that a refusal carries: "Other refusals carry margin 0"
abbrev pub refusal_margin : Refusal → Margin
refusal_margin Streams = margin (pos 0)
refusal_margin Worst = margin (pos 0)
refusal_margin Span = margin (pos 0)
refusal_margin Padding = margin (pos 0)
refusal_margin Period = margin (pos 0)
refusal_margin Budget = margin (pos 0)
refusal_margin (Load m) = m

-- the number of an answer, and its margin
abbrev pub number_in : Result Margin Refusal → ℕ
number_in a = refused_by a

abbrev pub margin_in : Result Margin Refusal → Margin
margin_in (Ok m) = m
margin_in (Err r) = refusal_margin r

-- "the amount over the span" that an answer tells; 0 where it tells none
abbrev pub over_in : Result Margin Refusal → ℕ
over_in a = over_of (margin_in a).0
