-- `line_start` goes from line to line, and stays within the file.
use Rattle.std.proofs.Common.{◌≤◌, length}
use Rattle.book.proofs.line_start.Given as goal

abbrev pub invariant-loop : goal.invariant-loop
invariant-loop l = l.start ≤ length l.file
