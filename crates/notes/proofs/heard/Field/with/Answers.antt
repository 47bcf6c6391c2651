-- `with` keeps the first bytes.
use borrow.Author.Tests.{lt-ltb, le-ltb}
use Rattle.table.specs.Fold.{if}
use Rattle.notes.specs.Heard.{kept, field_with}
use Rattle.notes.proofs.heard.Field.with.Goals as goal

pub returns-then-self-ge-KEPT : goal.returns-then-self-ge-KEPT
unfolding field_with if
returns-then-self-ge-KEPT c = rw (le-ltb _ kept c.if-self-ge-KEPT.true, c.is_ascii_digit.ensures.value)

pub returns : goal.returns
unfolding field_with if
returns c = rw (lt-ltb _ kept c.if-self-ge-KEPT.false, c.is_ascii_digit.ensures.value)
