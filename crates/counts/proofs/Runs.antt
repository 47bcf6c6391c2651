-- What the steps of a run come to: the counts of its history.
use mathlib.Core.Bool.{Bool, true, false}
use mathlib.Core.List.{List, [], ◌∷◌, ◌++◌}
use mathlib.Core.Path.{◌≡◌, refl, sym, ◌∙◌, ap}
use Prim.Native.Nat.{ℕ}
use Rattle.table.specs.Fold.{if}
use Rattle.table.specs.Ranges.{streams_max}
use Rattle.table.specs.Refusal.{given, ◌or_next◌}
use Rattle.table.proofs.Lists.{get_d_list_to}
use Rattle.time.specs.declared.Clock.{Clock}
use Rattle.calls.specs.Replies.{number_of, stream_of}
use Rattle.calls.specs.declared.Call.{Call}
use Rattle.session.specs.Session.{stream_at, sound}
use Rattle.session.specs.Calls.{refusal, ruled, verdict, reply_to, answer_to, after}
use Rattle.session.specs.History.{duration_of, Moment, history_from}
use Rattle.session.specs.declared.Session.{Session}
use Rattle.session.proofs.Sound.{sound_of}
use Rattle.file.specs.declared.event.Event.{Event}
use Rattle.trace.specs.Trace.{call_of}
use Rattle.std.specs.Prelude.{Option, None, Some}
use Rattle.counts.specs.Tally.{nothing, together, added, tally_of}
use Rattle.counts.specs.Counts.{none, both, calls_of, counts_of}
use Rattle.counts.specs.Inner.{told_by, added_by, counts_by, stepped_by, steps_by}
use Rattle.counts.specs.declared.Counts.{Counts}
use Rattle.counts.specs.declared.run.Step.{Step}
use Rattle.counts.proofs.Monoid.{counts_agree, both_counts}
use Rattle.counts.proofs.Totals.{none_is}

abbrev pub at : Session → Counts → Step
at s c = record { session = s; counts = c }

abbrev moment_of : Session → Call → Moment
moment_of s k = record { before = s; call = k; answer = answer_to s k }

-- a session that is not sound is answered by 31
unsound_answer : (s : Session) (k : Call) → sound s ≡ false → number_of (answer_to s k).reply ≡ 31
unfolding answer_to verdict refusal given ◌or_next◌ ruled reply_to
unsound_answer s k e = rw e

-- so what is told of a call is what its moment says: the horizon that a sound session keeps is its own
added_is : (s : Session) (k : Call) (i : ℕ)
    → added_by (told_by s k (answer_to s k).reply) (stream_at s i).deadline.0 i ≡ added i (moment_of s k)
unfolding added_by told_by added if
added_is s k i = go (sound s) refl
  where
    go : (b : Bool) → sound s ≡ b → added_by (told_by s k (answer_to s k).reply) (stream_at s i).deadline.0 i ≡ added i (moment_of s k)
    go true e =
        let r = (answer_to s k).reply in
        ap
        (λ (h : Clock). added_by (record { number = number_of r; stream = stream_of k r; duration = duration_of k; horizon = h; clock = s.clock }) (stream_at s i).deadline.0 i)
        (sound_of s e).ahead.horizon_is
    go false e = rw (unsound_answer s k e)

-- one call more
counts_on : (past : List Moment) (s : Session) (k : Call)
    → both (counts_of past) (counts_by s k (answer_to s k).reply) ≡ counts_of (moment_of s k ∷ past)
unfolding counts_by tally_of
counts_on past s k =
    both_counts (λ i. tally_of i past) (counts_by s k (answer_to s k).reply) refl
    ∙ counts_agree _ (λ i. tally_of i (moment_of s k ∷ past))
    (λ i l. ap (together (tally_of i past)) (get_d_list_to _ nothing streams_max i l ∙ added_is s k i))

-- some calls more
pub runs : (past : List Moment) (s : Session) (ks : List Call)
    → steps_by (at s (counts_of past)) ks ≡ at (after s ks) (counts_of (history_from past s ks))
unfolding steps_by stepped_by after history_from
runs past s [] = refl
runs past s (k ∷ ks) =
    rw (counts_on past s k) (runs (moment_of s k ∷ past) (answer_to s k).session ks)

-- from the start
pub runs_from : (s : Session) (ks : List Call) → (steps_by (at s none) ks).counts ≡ counts_of (history_from [] s ks)
unfolding tally_of
runs_from s ks = rw (← none_is) (ap (λ (x : Step). x.counts) (runs [] s ks))

-- the steps of two lists are those of one after the other
pub steps_join : (x : Step) (one two : List Call) → steps_by x (one ++ two) ≡ steps_by (steps_by x one) two
unfolding steps_by
steps_join x [] two = refl
steps_join x (k ∷ one) two = steps_join (stepped_by x k) one two

-- the steps of an event: one for the call that it asks for, or none
abbrev pub step_by : Step → Option Call → Step
step_by x (Some k) = stepped_by x k
step_by x None = x

pub steps_are : (x : Step) (event : Event) → steps_by x (calls_of event) ≡ step_by x (call_of event)
unfolding steps_by
steps_are x (Event.Arrival stream place tag) = refl
steps_are x Event.Turn = refl
steps_are x (Event.OwnTurn stream index) = refl
steps_are x (Event.Done duration) = refl
steps_are x (Event.Clock time) = refl
steps_are x Event.Malformed = refl

pub asked : (x : Step) (event : Event) {k : Option Call} → call_of event ≡ k → step_by x k ≡ steps_by x (calls_of event)
asked x event e = sym (steps_are x event ∙ ap (step_by x) e)
