-- The tally of one stream: what is counted off the calls of a session and their answers. The quotes are document 02's Req 01.
use Rattle.std.specs.Prelude.{Bool, ◌&&◌, List, [], ◌∷◌, ℕ, ◌+◌, max, ltb}
use Rattle.table.specs.Fold.{if}
use Rattle.session.specs.Session.{stream_at}
use Rattle.session.specs.History.{Moment, closes, reported, expiry}
use Rattle.counts.specs.declared.Tally.{Tally}

-- "jobs closed, jobs closed after their deadline, slots expired, total disk time, and the largest single completion"
abbrev pub tally : ℕ → ℕ → ℕ → ℕ → ℕ → Tally
tally jobs late expired time largest =
    record { jobs = jobs; late = late; expired = expired; time = time; largest = largest }

abbrev pub nothing : Tally
nothing = tally 0 0 0 0 0

-- "counts and times added up, of the largest the largest"
unfoldable pub together : Tally → Tally → Tally
together a b =
    tally (a.jobs + b.jobs) (a.late + b.late) (a.expired + b.expired) (a.time + b.time) (max a.largest b.largest)

-- "closed after their deadline": the clock was above the deadline
abbrev pub closes_late : ℕ → Moment → Bool
closes_late i m = closes i m && ltb (stream_at m.before i).deadline.0 m.before.clock.0

-- what one call adds to the tally of stream i, by its answer. "Disk time is what done reported, without expired slots."
unfoldable pub added : ℕ → Moment → Tally
added i m =
    tally (if (closes i m) 1 0) (if (closes_late i m) 1 0) (expiry i m) (reported i m) (reported i m)

-- the tally of stream i, over a history of calls
unfoldable pub tally_of : ℕ → List Moment → Tally
tally_of i [] = nothing
tally_of i (m ∷ earlier) = together (tally_of i earlier) (added i m)
