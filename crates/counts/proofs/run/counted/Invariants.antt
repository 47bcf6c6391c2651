-- `counted` fills a row for each stream.
use lib.ListN.{get_or}
use Rattle.table.proofs.Lists.{Filled}
use Rattle.session.specs.Session.{no_stream}
use Rattle.counts.specs.Inner.{added_by}
use Rattle.counts.proofs.run.counted.Given as goal

abbrev pub invariant-loop-i : goal.invariant-loop-i
invariant-loop-i l = Filled (λ j. added_by l.told (get_or l.streams j no_stream).deadline.0 j) l.row-items l.i 8
