-- What is proved of tables.
use Rattle.std.specs.Prelude.{true, List, ◌⊎◌, ◌↔◌, ◌≡◌, ℕ, ◌+◌, ◌*◌, ◌/◌, ◌≤◌, ◌<◌, length, pos, ◌+ℤ◌, ◌-ℤ◌, ◌≤ℤ◌, ◌<ℤ◌}
use Rattle.table.specs.Ranges.{streams_max}
use Rattle.table.specs.Refusal.{outside}
use Rattle.table.specs.Fold.{sum_to, largest_to}
use Rattle.table.specs.Admission.{reserved_at, period_at, with_padding, with_reserved, granted_of, smallest_period, load_of, numbers_refusal, streams_refusal, parts_refusal, admission_of}
use Rattle.table.specs.Margin.{margin, margin_of, over_of, answer_of, number_in, margin_in}
use Rattle.table.specs.Groups.{quotient_at, first_with, group_to, grouped_load}
use Rattle.table.specs.Reservations.{lent_table}
use Rattle.table.specs.declared.Table.{Table}
use Rattle.table.specs.declared.reservations.Reservation.{Reservation}

-- "Load = sum of g × (H / p) over the streams, plus W × (H / smallest p). [...] All exact.": where the load is judged, these divisions leave nothing over.
abbrev pub LoadIsExact : Type 0
LoadIsExact =
    (t : Table) → numbers_refusal t ≡ 0 → streams_refusal t ≡ 0
    → ((i : ℕ) → i < t.count → t.span / period_at t i * period_at t i ≡ t.span)
    × (t.span / smallest_period t * smallest_period t ≡ t.span)

-- Document 02, Req 04: sums over groups of equal periods are the sum over all streams, of any count and in any order, whatever quotient a period has.
abbrev pub GroupsAddUp : Type 0
GroupsAddUp =
    (budget period quotient : ℕ → ℕ) (n : ℕ)
    → sum_to (λ j. group_to budget period n j * quotient (period j)) n ≡ sum_to (λ i. budget i * quotient (period i)) n

-- "The load is the same number": of any table, whatever its count.
abbrev pub LoadByGroups : Type 0
LoadByGroups = (t : Table) → grouped_load t ≡ load_of t

-- "W × (H / smallest p)" takes no division of its own: where the load is judged, the quotient of the smallest period is the largest of all.
abbrev pub SmallestHasLargestQuotient : Type 0
SmallestHasLargestQuotient =
    (t : Table) → numbers_refusal t ≡ 0 → streams_refusal t ≡ 0 → largest_to (quotient_at t) t.count ≡ t.span / smallest_period t

-- "divide once for each distinct period": streams are of one group exactly if they have one period, and at a place that is not the first with its period there is nothing to divide for.
abbrev pub OneGroupForEachPeriod : Type 0
OneGroupForEachPeriod =
    (budget period : ℕ → ℕ) (n i j : ℕ)
    → (period i ≡ period j → first_with period i ≡ first_with period j)
    × (first_with period i ≡ first_with period j → period i ≡ period j)
    × ((first_with period j ≡ j → ⊥) → group_to budget period n j ≡ 0)

-- Document 02, Req 05: "the exact margin, span less load": the load and the margin come to the span, as whole numbers.
abbrev pub MarginIsExact : Type 0
MarginIsExact = (t : Table) → pos (load_of t) +ℤ margin_of t ≡ pos t.span

-- "negative when refused": where the load is judged, 7 is given exactly if the margin is below 0, and nothing exactly if it is not.
abbrev pub MarginDecides : Type 0
MarginDecides =
    (t : Table) → parts_refusal t ≡ 0
    → ((admission_of t ≡ 7) ↔ (margin_of t <ℤ pos 0)) × ((admission_of t ≡ 0) ↔ (pos 0 ≤ℤ margin_of t))

-- "`refused 7 N` with N the amount over the span": it is what the load has above the span, and never 0; nothing is cut off.
abbrev pub OverIsExact : Type 0
OverIsExact = (t : Table) → admission_of t ≡ 7 → (t.span + over_of (margin_of t) ≡ load_of t) × (1 ≤ over_of (margin_of t))

-- What admission answers has the number of the first refusal, or 0, and the margin where the load is judged. "Other refusals carry margin 0".
abbrev pub AnswerCarriesMargin : Type 0
AnswerCarriesMargin =
    (t : Table)
    → (number_in (answer_of t) ≡ admission_of t)
    × (parts_refusal t ≡ 0 → margin_in (answer_of t) ≡ margin (margin_of t))
    × ((parts_refusal t ≡ 0 → ⊥) → margin_in (answer_of t) ≡ margin (pos 0))

-- What the clerks use it for: a reserved time that is raised by x lowers the margin by x × (H / p).
abbrev pub RaisingLowers : Type 0
RaisingLowers =
    (t : Table) (i x : ℕ) → t.count ≤ streams_max → i < t.count
    → margin_of (with_reserved t i (reserved_at t i + x)) ≡ margin_of t -ℤ pos (x * (t.span / period_at t i))

-- "Granted budget g = e + k × W", and by document 02, Req 02, "Padding of three unless told otherwise": with 3 where k is 0, and with any other k as it is told.
abbrev pub GrantedAsTold : Type 0
GrantedAsTold =
    ((worst e : ℕ) → granted_of worst 0 e ≡ e + 3 * worst)
    × ((worst k e : ℕ) → (k ≡ 0 → ⊥) → granted_of worst k e ≡ e + k * worst)

-- "A padding of 0 in a table now stands for 3.": the table is admitted, or refused by the same number, as with 3.
abbrev pub ZeroStandsForThree : Type 0
ZeroStandsForThree = (t : Table) → admission_of (with_padding t 0) ≡ admission_of (with_padding t 3)

-- "Tables that relied on the old meaning must say 1. [...] Admission with 0 gets stricter, so files once opened may now give 7 or 6.": what is admitted with 0 is admitted with 1, and what is admitted with 1 is with 0 admitted, or refused by 7 or by 6.
abbrev pub ZeroIsStricter : Type 0
ZeroIsStricter =
    (t : Table)
    → let by_zero = admission_of (with_padding t 0) in
    let by_one = admission_of (with_padding t 1) in
    (by_zero ≡ 0 → by_one ≡ 0) × (by_one ≡ 0 → (by_zero ≡ 0) ⊎ (by_zero ≡ 7) ⊎ (by_zero ≡ 6))

-- 1 "no stream, or more than 8": a slice with no record, and one with more than eight, are refused by 1, whatever else there is.
abbrev pub LengthRefused : Type 0
LengthRefused =
    (worst span k : ℕ) (records : List Reservation) → outside 1 streams_max (length records) ≡ true
    → admission_of (lent_table worst span k records) ≡ 1
