-- What a call hands back is its answer, where that is the outcome of a verdict: for each verdict, from the stream, the clock and the place that were stored.
use mathlib.Core.Bool.{Bool, true, false, ◌&&◌}
use mathlib.Core.Path.{◌≡◌, refl, ◌∙◌, ap, ap₂}
use Prim.Native.Nat.{ℕ, ◌+◌, ◌*◌, ◌<◌}
use lib.Dec.{ltb}
use lib.IntN.{pos, ◌-ℤ◌}
use Rattle.table.specs.Fold.{if}
use Rattle.time.specs.Time.{moment, disk_time}
use Rattle.time.specs.Latest.{remainders}
use Rattle.stream.specs.Stream.{arrived, without, charged, lapsed}
use Rattle.session.specs.Session.{stream_at, place_at, tag_at, horizon, latest, remainders_of, with_stream, with_disk, with_ahead}
use Rattle.session.specs.Calls.{refuse, append, send, wait, expire, finish, set_clock, overlong, late, apply, reply_to, outcome}
use Rattle.time.specs.declared.Charge.{Charge}
use Rattle.time.specs.declared.Clock.{Clock}
use Rattle.time.specs.declared.remainders.Remainders.{Remainders}
use Rattle.stream.specs.declared.Stream.{Stream}
use Rattle.session.specs.declared.Answer.{Answer}
use Rattle.calls.specs.declared.Reply.{Reply}
use Rattle.session.specs.declared.Session.{Session}
use Rattle.session.proofs.Sound.{Sound}
use Rattle.session.proofs.Changes.{ahead_charged}

abbrev with_reply : Session → Reply → Answer
with_reply s r = record { session = s; reply = r }

-- a time is late by the moments that are compared
pub late_is : (s : Session) (now until : Clock) (a b : Bool) → until ≡ moment (latest s) → a ≡ ltb until.0 now.0 → b ≡ ltb s.clock.0 now.0 → (a && b) ≡ late s now.0
unfolding late
late_is s now until a b until-is a-is b-is = rw (a-is, b-is, until-is)

module _ (s : Session) where
  pub refuses : (n : ℕ) → with_reply s (Reply.Refused n) ≡ outcome s (refuse n)
  unfolding apply reply_to
  refuses n = refl

  pub appends : (i place tag : ℕ) (y : Stream) → y ≡ arrived place tag (stream_at s i) → with_reply (with_stream s i y) (Reply.Arrived (i + 1) y.queued) ≡ outcome s (append i place tag)
  unfolding apply reply_to arrived
  appends i place tag y e = rw e

  pub sends : (i j : ℕ) (y : Stream) → y ≡ without j (stream_at s i) → let place = place_at s i j in
      let tag = tag_at s i j in
      with_reply (with_disk (with_stream s i y) s.clock place (i + 1) place tag) (Reply.Sent (i + 1) place tag) ≡ outcome s (send i j)
  unfolding apply reply_to
  sends i j y e = rw e

  pub waits : (until : Clock) → until ≡ moment (latest s) → with_reply s (Reply.Wait until) ≡ outcome s wait
  unfolding apply reply_to
  waits until e = rw e

  -- of a stream that was charged more, as the sum has it too
  module _ (q : Sound s) (i : ℕ) (l : i < s.count) (y : Stream) (sum : Remainders) where
    abbrev charging : Stream → Session
    charging x = with_ahead (with_stream s i x) s.horizon sum

    pub expires : y ≡ lapsed s.worst (stream_at s i) → sum ≡ remainders (s.remainders.0 -ℤ pos (s.worst * s.span))
        → with_reply (charging y) (Reply.Expired (i + 1) y.charge) ≡ outcome s (expire i)
    unfolding apply reply_to lapsed
    expires e sum_is_lem =
        let x = stream_at s i in
        ap (λ (z : Stream). with_reply (charging z) (Reply.Expired (i + 1) z.charge)) e
        ∙ ap (λ (z : Session). with_reply z (Reply.Expired (i + 1) (disk_time (x.charge.0 + s.worst))))
        (ahead_charged s q i l (x.charge.0 + s.worst) (x.expired + 1) x.queued x.places x.tags s.worst refl sum sum_is_lem)

    -- a completion, overlong or not
    module _ (taken : Charge) (now : Clock) (stored : y ≡ charged taken.0 (stream_at s i)) (sum_is_lem : sum ≡ remainders (s.remainders.0 -ℤ pos (taken.0 * s.span))) (grown : now ≡ moment (s.clock.0 + taken.0)) where
      finished : with_disk (charging y) now s.head 0 0 0 ≡ apply s (finish i taken.0)
      unfolding apply charged horizon remainders_of
      finished =
          let x = stream_at s i in
          ap₂ (λ (z : Stream) (c : Clock). with_disk (charging z) c s.head 0 0 0) stored grown
          ∙ ap (λ (z : Session). with_disk z (moment (s.clock.0 + taken.0)) s.head 0 0 0)
          (ahead_charged s q i l (x.charge.0 + taken.0) x.expired x.queued x.places x.tags taken.0 refl sum sum_is_lem)

      pub finishes_overlong : ltb s.worst taken.0 ≡ true → with_reply (with_disk (charging y) now s.head 0 0 0) (Reply.Overlong (i + 1) y.charge s.tag) ≡ outcome s (finish i taken.0)
      unfolding reply_to charged overlong if
      finishes_overlong long = rw (finished, stored, long)

      pub finishes : ltb s.worst taken.0 ≡ false → with_reply (with_disk (charging y) now s.head 0 0 0) (Reply.Done (i + 1) y.charge s.tag) ≡ outcome s (finish i taken.0)
      unfolding reply_to charged overlong if
      finishes short = rw (finished, stored, short)

  -- a report of the time, late or not
  module _ (now : Clock) where
    pub reports_late : late s now.0 ≡ true → with_reply (with_disk s now s.head s.served s.place s.tag) (Reply.Late now) ≡ outcome s (set_clock now.0)
    unfolding apply reply_to if
    reports_late l = rw l

    pub reports : late s now.0 ≡ false → with_reply (with_disk s now s.head s.served s.place s.tag) (Reply.Clock now) ≡ outcome s (set_clock now.0)
    unfolding apply reply_to if
    reports l = rw l
