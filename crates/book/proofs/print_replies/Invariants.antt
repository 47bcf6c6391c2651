-- `print_replies` goes from line to line, each of which ends within the file.
use Rattle.std.proofs.Common.{◌-◌, ◌≤◌, length}
use Rattle.book.proofs.print_replies.Given as goal

abbrev pub invariant-loop-start : goal.invariant-loop-start
invariant-loop-start g l = l.start ≤ length l.file

abbrev pub decreases-loop-start : goal.decreases-loop-start
decreases-loop-start g l = length l.file - l.start
