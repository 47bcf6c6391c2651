-- `stream_finding` goes by the refusal.
use mathlib.Core.Path.{◌≡◌, refl}
use native.Mathlib.Omega.{arith}
use borrow.Author.Tests.{ne_eqb}
use Rattle.table.specs.Fold.{if}
use Rattle.table.specs.Refusal.{refusal_number}
use Rattle.table.specs.declared.refusal.Refusal.{Refusal}
use Rattle.table.specs.declared.refusal.Refusal.TheVariants.{Streams, Worst, Span, Padding, Period, Budget, Load}
use Rattle.terms.specs.Terms.{stream_finding}
use Rattle.terms.proofs.stream_finding.Goals as goal

-- 5 is that of a period alone
other : (r : Refusal) → (r ≡ Period → ⊥) → refusal_number r ≡ 5 → ⊥
other Streams not e = omega arith
other Worst not e = omega arith
other Span not e = omega arith
other Padding not e = omega arith
other Period not e = not refl
other Budget not e = omega arith
other (Load m) not e = omega arith

pub returns-in-Period : goal.returns-in-Period
unfolding stream_finding if
returns-in-Period c = rw c.in-Period.is c.period_finding.ensures

pub returns-in_default : goal.returns-in_default
unfolding stream_finding if
returns-in_default c = rw (ne_eqb _ 5 (other c.args.refusal c.in_default.not-Period)) c.budget_finding.ensures
