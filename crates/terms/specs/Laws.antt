-- What is proved of the terms.
use Rattle.std.specs.Prelude.{true, List, ◌↔◌, ◌≡◌, ℕ, ◌+◌, ◌-◌, ◌≤◌, ◌<◌}
use Rattle.table.specs.Admission.{reserved_at, period_at, with_reserved, granted_of, parts_refusal, admission_of}
use Rattle.std.specs.Result.{result_err}
use Rattle.table.specs.Margin.{margin_of, answer_of}
use Rattle.table.specs.declared.Table.{Table}
use Rattle.session.specs.declared.Session.{Session}
use Rattle.calls.specs.declared.Call.{Call}
use Rattle.session.specs.Opening.{NewlyOpened}
use Rattle.session.specs.History.{Moment, history_of, within_bounds, due_of, added_of, since_closing, expiry}
use Rattle.session.specs.Promise.{completion, EachClosed}
use Rattle.terms.specs.declared.Terms.{Terms}
use Rattle.terms.specs.declared.Change.{Change}
use Rattle.terms.specs.declared.Change.TheVariants.{Grow, Shrink, NotAlone}
use Rattle.terms.specs.Terms.{terms_of, change_of, verdict_of, as_said}

-- The number of a verdict is the one that opening answers.
abbrev pub VerdictIsOpenings : Type 0
VerdictIsOpenings = (t : Table) → (verdict_of t).number ≡ admission_of t

-- And the refusal that is said with it is the one that opening answers, 7 with its margin, or none where the table is admitted.
abbrev pub RefusalIsOpenings : Type 0
RefusalIsOpenings = (t : Table) → (as_said (margin_of t) (verdict_of t)).refusal ≡ result_err (answer_of t)

-- The disk time that a card may print is not below the reserved time, and W below the granted budget: nothing is cut off where W is taken away.
abbrev pub NothingCut : Type 0
NothingCut =
    (worst k e : ℕ) → (e ≤ (terms_of worst k e).above) × ((terms_of worst k e).above + worst ≡ granted_of worst k e)

-- how a stream of a table could change alone, by the margin of the table
abbrev pub change_at : Table → ℕ → Change
change_at t i = change_of (margin_of t) t.worst t.span t.padding (reserved_at t i) (period_at t i)

-- what a change says of a stream. Grow n: with x more the table is admitted exactly if x ≤ n. Shrink n: with x less it is exactly if n ≤ x, and n leaves a reserved time. Not alone: with no smaller reserved time it is.
abbrev pub ChangeHolds : Table → ℕ → Change → Type 0
ChangeHolds t i (Grow n) = (x : ℕ) → (admission_of (with_reserved t i (reserved_at t i + x)) ≡ 0) ↔ (x ≤ n)
ChangeHolds t i (Shrink n) =
    (n < reserved_at t i)
    × ((x : ℕ) → x < reserved_at t i → (admission_of (with_reserved t i (reserved_at t i - x)) ≡ 0) ↔ (n ≤ x))
ChangeHolds t i NotAlone = (x : ℕ) → x < reserved_at t i → admission_of (with_reserved t i (reserved_at t i - x)) ≡ 0 → ⊥

-- It is so of each stream, where the load is judged: what a clerk reads off the card is what opening will say.
abbrev pub ChangeIsExact : Type 0
ChangeIsExact = (t : Table) (i : ℕ) → parts_refusal t ≡ 0 → i < t.count → ChangeHolds t i (change_at t i)

abbrev pub terms_at : Table → ℕ → Terms
terms_at t i = terms_of t.worst t.padding (reserved_at t i)

-- The terms of a stream are kept by a job that was closed: in time, with more than the disk time in what was added to its charge, and its completions and expired slots come to at least the requests.
pub record Kept (t : Table) (i : ℕ) (m : Moment) (earlier : List Moment) : Type 0 where
  pub in_time : m.before.clock.0 ≤ due_of t i earlier
  pub more : (terms_at t i).above < added_of t i earlier
  pub served : (terms_at t i).requests ≤ since_closing completion i earlier + since_closing expiry i earlier

-- Of any session that is newly opened with a table, and any calls within the bounds, every job that was closed keeps them.
abbrev pub TermsAreKept : Type 0
TermsAreKept =
    (t : Table) (s : Session) (calls : List Call) → NewlyOpened t s → within_bounds (history_of s calls) ≡ true
    → EachClosed t (history_of s calls) (Kept t)
