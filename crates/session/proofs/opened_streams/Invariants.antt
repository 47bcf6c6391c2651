-- `opened_streams` gives the eight streams: those that the loop has passed are as they should be, and the others are all zeros still.
use mathlib.Core.Path.{◌≡◌}
use Prim.Native.Nat.{ℕ, ◌≤◌, ◌<◌, ◌-◌}
use lib.ListN.{get_or}
use Rattle.table.proofs.Lists.{Filled}
use Rattle.stream.specs.Stream.{fresh_stream}
use Rattle.session.specs.Session.{no_stream}
use Rattle.session.specs.Opening.{opened_stream}
use Rattle.session.proofs.opened_streams.Given as goal

abbrev pub invariant-loop-i : goal.invariant-loop-i
invariant-loop-i l =
    (l.i ≤ l.t.count)
    × Filled (opened_stream l.t) l.streams l.i 8
    × ((j : ℕ) → l.i ≤ j → j < 8 → get_or l.streams j no_stream ≡ fresh_stream 0 0 0)

abbrev pub decreases-loop-i : goal.decreases-loop-i
decreases-loop-i l = l.t.count - l.i
