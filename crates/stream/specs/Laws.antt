-- What is proved of one stream, and of a choice among any.
use Rattle.std.specs.Prelude.{◌≡◌, Bool, true, false, List, ◌↔◌, ℕ, suc, ◌+◌, ◌-◌, ◌*◌, ◌≤◌, ◌<◌, get_or, leb}
use Rattle.table.specs.Fold.{count_to}
use Rattle.order.specs.Order.{goes_before}
use Rattle.order.specs.declared.Order.{Order}
use Rattle.time.specs.declared.Clock.{Clock}
use Rattle.stream.specs.Stream.{slots, micro_deadline, shifted, charged, closed, fresh_stream, unused_stream}
use Rattle.stream.specs.Choice.{leading}
use Rattle.stream.specs.declared.Stream.{Stream}

-- "Slots of a stream: the number s of whole n ≥ 1 with (c + n × W) × p ≤ (h − r) × g": counted among 1, .., m, for any m that is large enough.
abbrev pub SlotsAreCounted : Type 0
SlotsAreCounted =
    (worst h : ℕ) (x : Stream) (m : ℕ) → 0 < worst → 0 < x.period → slots worst h x ≤ m
    → count_to (λ i. leb ((x.charge.0 + suc i * worst) * x.period) ((h - x.release.0) * x.granted.0)) m ≡ slots worst h x

-- A slot is there exactly if its micro-deadline is no later than the horizon: the fraction is compared over its g.
abbrev pub SlotsByMicroDeadline : Type 0
SlotsByMicroDeadline =
    (worst h : ℕ) (x : Stream) (n : ℕ) → 0 < worst → 0 < x.period → x.release.0 ≤ h → 1 ≤ n
    → (n ≤ slots worst h x) ↔ ((micro_deadline worst x n).above ≤ h * (micro_deadline worst x n).below)

-- Whose minus sign it is: after a completion of a ≤ W the micro-deadline of the next slot n is the one that slot n + 1 had before, less (W − a) × p / g. Nothing is cut off in that subtraction.
abbrev pub MinusSign : Type 0
MinusSign =
    (worst a n : ℕ) (x : Stream) → a ≤ worst
    → (micro_deadline worst (charged a x) n ≡ shifted worst a x (micro_deadline worst x (suc n)))
    × ((worst - a) * x.period ≤ (micro_deadline worst x (suc n)).above)

-- How one job of a stream follows another (document 02, Req 03): "the new job starts with the old charge less the granted budget, or zero if that is negative. The last-job record also keeps what the job started with." Nothing is subtracted here.
pub record CarriedOn (budget : ℕ) (old new : Stream) : Type 0 where
  pub overrun : budget ≤ old.charge.0 → new.start.0 + budget ≡ old.charge.0
  pub no_credit : old.charge.0 ≤ budget → new.start.0 ≡ 0
  pub charged : new.charge ≡ new.start
  pub recorded : new.last.start ≡ old.start

-- A stream that closes its job carries on what is above its granted budget.
abbrev pub ClosedIsCarriedOn : Type 0
ClosedIsCarriedOn = (now : Clock) (x : Stream) → CarriedOn x.granted.0 x (closed now x)

-- "every unused cell is 0 (.. streams past the count ..)": an unused stream is the one of zeros, and no other.
abbrev pub UnusedIsZero : Type 0
UnusedIsZero = (x : Stream) → (unused_stream x ≡ true) ↔ (x ≡ fresh_stream 0 0 0)

-- Of the indices below n that have one or more, `first` goes first: none goes before it, and it goes before each lower one, so that of equals the lowest is taken.
abbrev pub GoesFirst : (ℕ → ℕ) → (ℕ → ℕ → Bool) → ℕ → ℕ → Type 0
GoesFirst has before n first =
    (first < n)
    × (1 ≤ has first)
    × ((i : ℕ) → i < n → 1 ≤ has i → (before i first ≡ false) × (i < first → before first i ≡ true))

-- Of the first m places of a queue the leading one goes first, in either order and wherever the head is: none of them goes before it, and it goes before each earlier one, so that of equals the earliest is taken.
abbrev pub LeadingIsFirst : Type 0
LeadingIsFirst =
    (order : Order) (head : ℕ) (places : List ℕ) (m j : ℕ) → j < m
    → let before = goes_before order head in
    let first = leading before places m in
    (first < m)
    × (before (get_or places j 0) (get_or places first 0) ≡ false)
    × (j < first → before (get_or places first 0) (get_or places j 0) ≡ true)
