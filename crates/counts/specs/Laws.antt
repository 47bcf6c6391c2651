-- What is proved of counts.
use Rattle.std.specs.Prelude.{true, List, [], ◌∷◌, ◌++◌, ◌⊎◌, ◌≡◌, ℕ, ◌+◌, ◌-◌, ◌*◌, ◌^◌, ◌≤◌, ◌<◌}
use Rattle.table.specs.Fold.{if, list_to}
use Rattle.table.specs.Ranges.{streams_max}
use Rattle.table.specs.declared.Table.{Table}
use Rattle.calls.specs.declared.Call.{Call}
use Rattle.stream.specs.declared.Stream.{Stream}
use Rattle.session.specs.Session.{stream_at}
use Rattle.session.specs.declared.Session.{Session}
use Rattle.session.specs.Calls.{after}
use Rattle.session.specs.Opening.{NewlyOpened}
use Rattle.session.specs.History.{Moment, history_of, within_bounds, closes, closings, reported}
use Rattle.file.specs.declared.event.Event.{Event}
use Rattle.listing.specs.Line.{rendered, refused_fields}
use Rattle.trace.specs.Trace.{applied, listing_of}
use Rattle.counts.specs.Tally.{tally, tally_of}
use Rattle.counts.specs.Counts.{known, passed, none, both, calls_of, filed_of, number_in, over_in, counts_in, totals_of}
use Rattle.counts.specs.declared.Counts.{Counts}

-- Which of two comes first, and how three are put together, makes no difference; and nothing is added by no files.
abbrev pub BothCommutes : Type 0
BothCommutes = (a b : Counts) → both a b ≡ both b a

abbrev pub BothAssociates : Type 0
BothAssociates = (a b c : Counts) → both (both a b) c ≡ both a (both b c)

abbrev pub NoneAddsNothing : Type 0
NoneAddsNothing = (files : List (List ℕ)) → both none (totals_of files) ≡ totals_of files

-- "The totals of two lists, combined by the same rule, are the totals of the joined list": refused files among them or not.
abbrev pub TotalsJoin : Type 0
TotalsJoin = (one two : List (List ℕ)) → totals_of (one ++ two) ≡ both (totals_of one) (totals_of two)

-- The totals of one file are its own counts.
abbrev pub OneFile : Type 0
OneFile = (file : List ℕ) → totals_of (file ∷ []) ≡ counts_in (filed_of file)

-- So the totals may be kept while files are read, one after the other.
abbrev pub OneFileMore : Type 0
OneFileMore =
    (files : List (List ℕ)) (file : List ℕ) → totals_of (files ++ (file ∷ [])) ≡ both (totals_of files) (counts_in (filed_of file))

-- "A refused file gets its number and adds nothing", and the number, with the amount over the span, is in the line that `replay` prints of it.
abbrev pub RefusedAddsNothing : Type 0
RefusedAddsNothing =
    (file : List ℕ) → (number_in (filed_of file) ≡ 0 → ⊥)
    → (counts_in (filed_of file) ≡ none) × (listing_of file ≡ rendered (refused_fields (number_in (filed_of file)) (over_in (filed_of file))))

-- The call of an event is the one that `replay` makes of it.
abbrev pub CallsAgree : Type 0
CallsAgree = (s : Session) (n : ℕ) (event : Event) → (applied s n event).session ≡ after s (calls_of event)

-- A time of 2^64 - 1 stands, and one more passes.
abbrev pub timed : ℕ → Counts
timed n = known (list_to (λ i. tally 0 0 0 n 0) streams_max)

abbrev pub SumsEnd : Type 0
SumsEnd =
    (both (timed (2 ^ 64 - 1)) (timed 0) ≡ timed (2 ^ 64 - 1)) × (both (timed (2 ^ 64 - 1)) (timed 1) ≡ passed)

-- The jobs of a tally are those that the promise speaks of: as many as it says were closed.
abbrev pub JobsAreClosings : Type 0
JobsAreClosings = (i : ℕ) (past : List Moment) → (tally_of i past).jobs ≡ closings i past

-- The largest completion is one that was reported, or 0 where none was, and none is larger.
pub record Reported (i n : ℕ) (past : List Moment) : Type 0 where
  pub later : List Moment
  pub m : Moment
  pub earlier : List Moment
  pub stands : later ++ (m ∷ earlier) ≡ past
  pub is : reported i m ≡ n

abbrev pub LargestIsReported : Type 0
LargestIsReported =
    (i : ℕ) (past : List Moment) → (((tally_of i past).largest ≡ 0) ⊎ Reported i (tally_of i past).largest past)
    × ((later : List Moment) (m : Moment) (earlier : List Moment) → later ++ (m ∷ earlier) ≡ past → reported i m ≤ (tally_of i past).largest)

-- Within the bounds of the promise no job is late.
abbrev pub NoneIsLate : Type 0
NoneIsLate =
    (t : Table) (s : Session) (calls : List Call) → NewlyOpened t s → within_bounds (history_of s calls) ≡ true
    → (i : ℕ) → i < t.count → (tally_of i (history_of s calls)).late ≡ 0

-- a number of each job of stream i that was closed, added up: each as it was when the job was closed
unfoldable pub closed_sum : (Stream → ℕ) → ℕ → List Moment → ℕ
closed_sum number i [] = 0
closed_sum number i (m ∷ earlier) = if (closes i m) (number (stream_at m.before i)) 0 + closed_sum number i earlier

-- their charges, and what they started with
abbrev pub closed_charges : ℕ → List Moment → ℕ
closed_charges = closed_sum (λ x. x.charge.0)

abbrev pub closed_starts : ℕ → List Moment → ℕ
closed_starts = closed_sum (λ x. x.start.0)

-- Disk time, W for each expired slot, and what the jobs started with come to the charges, of the closed jobs and of the open one. What was carried over is in two charges, and in the time of one.
abbrev pub ChargesAddUp : Type 0
ChargesAddUp =
    (t : Table) (s : Session) (calls : List Call) → NewlyOpened t s → (i : ℕ) → i < t.count
    → let past = history_of s calls in
    let now = stream_at (after s calls) i in
    (tally_of i past).time + t.worst * (tally_of i past).expired + (closed_starts i past + now.start.0)
    ≡ closed_charges i past + now.charge.0
