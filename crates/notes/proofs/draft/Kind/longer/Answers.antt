-- `longer` asks for the byte, and for the room.
use native.Mathlib.Omega.{arith}
use mathlib.Core.Bool.{true, false}
use mathlib.Core.Path.{sym, ◌∙◌}
use Rattle.table.specs.Fold.{if}
use Rattle.notes.proofs.Digits.{wrong_kind, checked}
use Rattle.notes.proofs.draft.Kind.longer.Goals as goal

pub returns-in-Name : goal.returns-in-Name
unfolding if
returns-in-Name c =
    rw c.in-Name.is
    (checked true c.args.n c.args.byte (sym c.is_ascii_lowercase.ensures.value ∙ c.if-is_ascii_lowercase.true) c.behind.result _ (omega (arith, c.from.ensures)) c.behind.ensures)

pub returns-in-Number : goal.returns-in-Number
unfolding if
returns-in-Number c =
    rw c.in-Number.is
    (checked false c.args.n c.args.byte (sym c.is_ascii_digit.ensures.value ∙ c.if-is_ascii_digit.true) c.behind-in-Number.result _ (omega (arith, c.from-in-Number.ensures)) c.behind-in-Number.ensures)

pub returns-in_default : goal.returns-in_default
unfolding if
returns-in_default c =
    rw c.in-Name.is
    (wrong_kind true c.args.n c.args.byte (sym c.is_ascii_lowercase.ensures.value ∙ c.if-is_ascii_lowercase.false))

pub returns-in_default-2 : goal.returns-in_default-2
unfolding if
returns-in_default-2 c =
    rw c.in-Number.is
    (wrong_kind false c.args.n c.args.byte (sym c.is_ascii_digit.ensures.value ∙ c.if-is_ascii_digit.false))
