use mathlib.Core.Path.{sym, ◌∙◌}
use native.Mathlib.Omega.{arith}
use Rattle.ledger.proofs.Phrases.{parted_gap, parted_amiss, parted_byte, parted_all}
use Rattle.ledger.proofs.line.phrase_of.Goals as goal
use Rattle.ledger.proofs.line.phrase_of.Goals.{then-is_gap+in_ok-phrase, else-is_gap}

pub returns-in_err-phrase : goal.returns-in_err-phrase
returns-in_err-phrase c =
    c.from_residual.ensures
    ∙ parted_amiss c.loop-i.invariant c.loop-i-test.true (sym c.is_gap.ensures ∙ c.if-is_gap.true) c.in_err-phrase.ensures

pub loop-i-preserved : goal.loop-i-preserved
loop-i-preserved c =
    let at = c.loop-i in
    elim c.if-is_gap.branch [
      | then-is_gap+in_ok-phrase w ↦ rw (w.phrase-is, w.start-is) (parted_gap at.invariant c.loop-i-test.true w.in_ok-phrase.phrase (sym c.is_gap.ensures ∙ w.if-is_gap.true) w.in_ok-phrase.ensures)
      | else-is_gap w ↦ rw (w.phrase-is, w.start-is) (parted_byte at.invariant c.loop-i-test.true (sym c.is_gap.ensures ∙ w.if-is_gap.false))
    ]

pub returns : goal.returns
returns c = c.with-2.ensures ∙ parted_all _ _ _ _ c.loop-i.invariant (omega (arith, c.loop-i-test.false))
