-- A move, stream by stream: what a loop has done that closes the due jobs in place.
use mathlib.Core.Path.{◌≡◌, refl, sym, ◌∙◌, ap, subst}
use Prim.Native.Nat.{ℕ, ◌+◌, ◌≤◌, ◌<◌}
use native.Mathlib.Omega.{arith}
use lib.ListN.{length, get_or, set}
use lib.Seq.{get_or-set_other}
use mathlib.Core.List.{List, map}
use Rattle.table.specs.Fold.{list_to}
use Rattle.table.proofs.Lists.{Filled, filled_more, filled_all, mapped}
use Rattle.time.specs.Time.{moment}
use Rattle.time.specs.Latest.{remainders}
use Rattle.stream.specs.Stream.{moved}
use Rattle.session.specs.Session.{no_stream, stream_at, horizon, remainders_of, with_streams, with_ahead}
use Rattle.session.specs.Calls.{move, apply, reply_to, outcome}
use Rattle.session.specs.Inner.{Bookkept}
use Rattle.time.specs.declared.Clock.{Clock}
use Rattle.time.specs.declared.remainders.Remainders.{Remainders}
use Rattle.stream.specs.declared.Stream.{Stream}
use Rattle.session.specs.declared.Session.{Session}
use Rattle.calls.specs.declared.Reply.{Reply}
use Rattle.session.proofs.Sound.{Sound, bookkept}
use Rattle.session.proofs.Grounds.{Grounds}
use Rattle.session.proofs.MoveKept.{next, move_kept}

module _ (s : Session) where
  -- the streams below i are moved, and the others as they were
  pub record Moving (now h : Clock) (items : List Stream) (i : ℕ) : Type 0 where
    pub front : Filled (λ j. moved now h.0 (stream_at s j)) items i 8
    pub rest : (j : ℕ) → i ≤ j → get_or items j no_stream ≡ stream_at s j

  module _ (now h : Clock) where
    pub moving_none : length s.streams ≡ 8 → Moving now h s.streams 0
    unfolding list_to
    moving_none eight = record { front = record { cells = eight; front = refl }; rest = λ j le. refl }

    pub moving_more : (items : List Stream) (i : ℕ) (y : Stream) → i < 8 → Moving now h items i → y ≡ moved now h.0 (get_or items i no_stream) → Moving now h (set items i y) (i + 1)
    moving_more items i y l m y-is =
        let here = y-is ∙ ap (moved now h.0) (m.rest i (omega arith)) in
        record {
          front = rw here (filled_more (λ j. moved now h.0 (stream_at s j)) items i 8 l m.front);
          rest = λ j le. get_or-set_other items i j y no_stream (λ e. omega arith) ∙ m.rest j (omega arith);
        }

  -- what has moved looks ahead
  looked_on : (q : Sound s) (after : Session) → after ≡ next s q → (h : Clock) (sum : Remainders) → h ≡ moment (horizon after) → sum ≡ remainders (remainders_of after)
      → record { session = with_ahead after h sum; reply = Reply.Moved h } ≡ outcome s move
  unfolding apply reply_to horizon
  looked_on q after e h sum h-is sum-is = rw (h-is, sum-is, e)

  -- past all eight the session has moved
  module _ (q : Sound s) (items : List Stream) (m : Moving s.clock s.horizon items 8) where
    pub moving_all : with_streams s items ≡ next s q
    moving_all =
        let streams = filled_all (λ j. moved s.clock s.horizon.0 (stream_at s j)) items 8 m.front ∙ mapped (moved s.clock s.horizon.0) s.streams no_stream 8 q.fit.eight in
        ap (with_streams s) (streams ∙ ap (λ (h : Clock). map (moved s.clock h.0) s.streams) q.ahead.horizon_is)

    pub can_look : Grounds s move → Bookkept (with_streams s items)
    can_look g = subst Bookkept (sym moving_all) (bookkept (next s q) (move_kept s q g).used)

    pub moves : (h : Clock) (sum : Remainders) → h ≡ moment (horizon (with_streams s items)) → sum ≡ remainders (remainders_of (with_streams s items))
        → record { session = with_ahead (with_streams s items) h sum; reply = Reply.Moved h } ≡ outcome s move
    moves h sum h-is sum-is = looked_on q (with_streams s items) moving_all h sum h-is sum-is
