-- The worked cases, by computation.
use mathlib.Core.Path.{refl}
use Rattle.session.specs.Cases.{padded, completed, parts, micro_deadlines, row, sent_rows, recorded, marked_cases, other_cases}
use Rattle.session.specs.Laws.{MarkedCasesHold, OtherCasesHold}
use Rattle.session.proofs.Rules.{rules}

pub marked_cases_hold : MarkedCasesHold
unfolding rules padded completed parts micro_deadlines row recorded marked_cases
marked_cases_hold = refl

pub other_cases_hold : OtherCasesHold
unfolding rules padded completed row sent_rows recorded other_cases
other_cases_hold = refl
