-- What the code's searches keep of the streams passed so far. No rule stands here: a reader of the rules may pass this file over.
use Rattle.std.specs.Prelude.{Bool, true, ◌&&◌, ◌||◌, List, ℕ, ◌+◌, ◌*◌, ◌/◌, ◌≤◌, ◌<◌, min, get_or, leb, ltb, eqb, ℤ, pos, ◌-ℤ◌, Option, None, Some}
use Rattle.table.specs.Fold.{if}
use Rattle.table.specs.Ranges.{streams_max, worst_max, span_max}
use Rattle.table.specs.Refusal.{given, ◌or_next◌, outside}
use Rattle.table.specs.Admission.{ranges_refusal, stream_refusal}
use Rattle.table.specs.declared.numbers.Numbers.{Numbers}
use Rattle.table.specs.Whole.{eq_z}
use Rattle.table.specs.Margin.{less_load}
use Rattle.time.specs.Time.{moment, disk_time, parts_max}
use Rattle.time.specs.declared.Clock.{Clock}
use Rattle.stream.specs.Stream.{slots, filled, part_of, sound_stream, stream_in}
use Rattle.stream.specs.Choice.{leading, expires_first}
use Rattle.stream.specs.declared.census.Census.{Census}
use Rattle.stream.specs.declared.sums.Sums.{Sums}
use Rattle.stream.specs.declared.choice.Lead.{Lead}
use Rattle.stream.specs.declared.choice.Pick.{Pick}
use Rattle.stream.specs.declared.Stream.{Stream}

-- what a used stream passes by the horizon that a session keeps: nothing refuses its reservation, its cells are sound, and its job is open then
unfoldable pub in_order : ℕ → ℕ → ℕ → ℕ → Stream → Bool
in_order worst span k h x =
    eqb (stream_refusal worst span k x.reserved x.period) 0 && sound_stream worst k h x && leb h x.deadline.0

-- the sums of charges and parts: of no stream, with one more, and what remains
abbrev pub nothing_summed : Sums
nothing_summed = record { charges = disk_time 0; parts = 0 }

abbrev pub summed : Sums → Stream → ℕ → ℕ → Sums
summed sums x span h =
    record {
      charges = disk_time (sums.charges.0 + x.charge.0);
      parts = sums.parts + part_of span h x;
    }

abbrev pub remainders_so : Sums → ℕ → ℤ
remainders_so sums span = pos sums.parts -ℤ pos (sums.charges.0 * span)

-- with these numbers one more stream can be taken in, and no sum wraps: eight streams come to less
abbrev pub sums_max : ℕ
sums_max = 1_000_000_000

pub record Summable (sums : Sums) : Type 0 where
  pub charges_high : sums.charges.0 ≤ sums_max
  pub parts_high : sums.parts ≤ parts_max

-- what is kept of a session's streams as it is judged: before the first used stream, and with one more
abbrev pub first_census : Numbers → Clock → Stream → Census
first_census numbers h first =
    record {
      numbers = numbers;
      horizon = h;
      soonest = first.deadline;
      sums = nothing_summed;
      shares = 0;
      least = first.period;
    }

abbrev pub next_census : Census → Stream → Census
next_census c x =
    record {
      numbers = c.numbers;
      horizon = c.horizon;
      soonest = moment (min c.soonest.0 x.deadline.0);
      sums = summed c.sums x c.numbers.span c.horizon.0;
      shares = c.shares + x.granted.0 * (c.numbers.span / x.period);
      least = min c.least x.period;
    }

-- nothing is kept where the numbers are refused, and where a stream is not in order
unfoldable pub begun : Numbers → ℕ → Clock → Stream → Option Census
begun numbers count h first =
    if (eqb (given (outside 1 streams_max count) 1 or_next ranges_refusal numbers.worst numbers.span numbers.padding) 0)
    (Some (first_census numbers h first))
    None

unfoldable pub counted : Census → Stream → Option Census
counted c x = if (in_order c.numbers.worst c.numbers.span c.numbers.padding c.horizon.0 x) (Some (next_census c x)) None

-- and neither does a sum of shares: eight of the span are far less
abbrev pub shares_max : ℕ
shares_max = 1_000_000_000_000

pub record Countable (c : Census) : Type 0 where
  pub worst_low : 0 < c.numbers.worst
  pub worst_high : c.numbers.worst ≤ worst_max
  pub span_high : c.numbers.span ≤ span_max
  pub shares_high : c.shares ≤ shares_max
  pub summable : Summable c.sums

-- what it says of the streams, and of the margin and the sum that a session keeps, once all are passed
abbrev pub load_so : Census → ℕ
load_so c = c.shares + c.numbers.worst * (c.numbers.span / c.least)

unfoldable pub says : Census → ℤ → ℤ → Bool
says c margin sum =
    leb (load_so c) c.numbers.span
    && eq_z margin (less_load c.numbers.span (load_so c))
    && eqb c.horizon.0 c.soonest.0
    && eq_z sum (remainders_so c.sums c.numbers.span)

-- and with these it can say it
pub record Judgeable (c : Census) : Type 0 where
  pub countable : Countable c
  pub least_low : 0 < c.least

-- the request that goes first of the first m of a queue, and one step of the search for it: of equals the first stays
abbrev pub lead : (ℕ → ℕ → Bool) → List ℕ → ℕ → Lead
lead before places m = record { index = leading before places m; place = get_or places (leading before places m) 0 }

unfoldable pub foremost : (ℕ → ℕ → Bool) → Lead → ℕ → ℕ → Lead
foremost before best j place = if (before place best.place) (record { index = j; place = place }) best

-- of the best so far and another request the better: where there is none so far the other, and of equals the first
unfoldable pub preferred : (ℕ → ℕ → Bool) → Option Pick → Pick → Option Pick
preferred before None pick = Some pick
preferred before (Some best) pick =
    let sooner = ltb pick.deadline.0 best.deadline.0 in
    let alike = eqb pick.deadline.0 best.deadline.0 in
    if (sooner || (alike && before pick.place best.place)) (Some pick) (Some best)

-- one step of the search for the request to send: a stream with no filled slot changes nothing, and of equals the first stays
unfoldable pub considered : ℕ → ℕ → (ℕ → ℕ → Bool) → Option Pick → Stream → ℕ → Option Pick
considered worst h before best x i =
    let request = lead before x.places (filled worst h x) in
    if (eqb (filled worst h x) 0) best
    (preferred before best (record { stream = i; index = request.index; deadline = x.deadline; place = request.place }))

-- whether an index goes before the best so far: it does where there is none
abbrev pub goes_first : (ℕ → ℕ → Bool) → Option ℕ → ℕ → Bool
goes_first beats None i = true
goes_first beats (Some best) i = beats i best

-- one step of the search for the stream that loses a slot: one with no slot changes nothing, and of equals the first stays
unfoldable pub lapsing : ℕ → ℕ → List Stream → Option ℕ → ℕ → Option ℕ
lapsing worst h streams best i =
    let first = goes_first (λ a b. expires_first (stream_in streams a) (stream_in streams b)) best i in
    if (leb 1 (slots worst h (stream_in streams i)) && first) (Some i) best
