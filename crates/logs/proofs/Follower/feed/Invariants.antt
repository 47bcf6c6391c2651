-- `feed` takes a piece byte by byte (`Taken`): a newline hands on the line that it ends.
use Rattle.logs.proofs.Feeding.{Taken}
use Rattle.logs.proofs.Follower.feed.Given as goal

abbrev pub invariant-loop-i : goal.invariant-loop-i
invariant-loop-i l = Taken l.initial.follower l.trace l.piece l.follower l.start l.i
