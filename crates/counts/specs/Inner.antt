-- What inner functions answer. No rule stands here that does not stand in Tally or Counts.
use Rattle.std.specs.Prelude.{◌&&◌, ◌||◌, List, [], ◌∷◌, ℕ, ◌+◌, ltb, eqb}
use Rattle.table.specs.Fold.{if, list_to}
use Rattle.table.specs.Ranges.{streams_max}
use Rattle.calls.specs.Replies.{number_of, stream_of}
use Rattle.calls.specs.declared.Call.{Call}
use Rattle.calls.specs.declared.Reply.{Reply}
use Rattle.session.specs.Session.{stream_at}
use Rattle.session.specs.Calls.{answer_to}
use Rattle.session.specs.History.{duration_of}
use Rattle.session.specs.declared.Session.{Session}
use Rattle.counts.specs.Tally.{tally}
use Rattle.counts.specs.Counts.{known, both}
use Rattle.counts.specs.declared.Tally.{Tally}
use Rattle.counts.specs.declared.Counts.{Counts}
use Rattle.counts.specs.declared.run.Told.{Told}
use Rattle.counts.specs.declared.run.Step.{Step}

-- what a call and its answer tell of every stream
unfoldable pub told_by : Session → Call → Reply → Told
told_by s k r =
    record {
      number = number_of r;
      stream = stream_of k r;
      duration = duration_of k;
      horizon = s.horizon;
      clock = s.clock;
    }

-- what that adds to the tally of stream i, whose deadline this is
unfoldable pub added_by : Told → ℕ → ℕ → Tally
added_by told deadline i =
    let closing = eqb told.number 23 && eqb deadline told.horizon.0 in
    let concerned = eqb told.stream (i + 1) in
    let lasted = if ((eqb told.number 25 || eqb told.number 26) && concerned) told.duration 0 in
    tally
    (if closing 1 0)
    (if (closing && ltb deadline told.clock.0) 1 0)
    (if (eqb told.number 22 && concerned) 1 0)
    lasted
    lasted

unfoldable pub counts_by : Session → Call → Reply → Counts
counts_by s k r = known (list_to (λ i. added_by (told_by s k r) (stream_at s i).deadline.0 i) streams_max)

-- a session and the counts of the calls so far, after one call more, and after some
unfoldable pub stepped_by : Step → Call → Step
stepped_by x k =
    let a = answer_to x.session k in
    record { session = a.session; counts = both x.counts (counts_by x.session k a.reply) }

unfoldable pub steps_by : Step → List Call → Step
steps_by x [] = x
steps_by x (k ∷ ks) = steps_by (stepped_by x k) ks
