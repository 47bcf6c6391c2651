-- `phrase_of` takes a text byte by byte (`Parted`): a gap ends a word.
use Rattle.ledger.proofs.Phrases.{Parted}
use Rattle.ledger.proofs.line.phrase_of.Given as goal

abbrev pub invariant-loop-i : goal.invariant-loop-i
invariant-loop-i l = Parted l.text l.phrase l.start l.i
