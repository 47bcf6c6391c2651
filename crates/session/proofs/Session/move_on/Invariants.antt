-- `Session::move_on` moves stream by stream, in place, and then looks ahead: what it has done of the streams passed.
use Rattle.session.proofs.Closings.{Moving}
use Rattle.session.proofs.Session.move_on.Given as goal

abbrev pub invariant-loop-x : goal.invariant-loop-x
invariant-loop-x l = Moving l.fn.self l.now l.h l.x-items l.x-index
