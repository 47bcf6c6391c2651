-- `numbers_finding` goes by the refusal.
use mathlib.Core.Path.{◌≡◌, refl, ◌∙◌}
use Rattle.table.specs.Fold.{if}
use Rattle.table.specs.Ranges.{padding_max}
use Rattle.table.specs.Refusal.{refusal_number}
use Rattle.table.specs.declared.Table.{Table}
use Rattle.table.specs.declared.refusal.Refusal.{Refusal}
use Rattle.table.specs.declared.refusal.Refusal.TheVariants.{Streams, Worst, Span, Padding, Period, Budget, Load}
use Rattle.terms.specs.Terms.{beyond, numbers_finding}
use Rattle.terms.proofs.numbers_finding.Goals as goal

pub returns-in-Streams : goal.returns-in-Streams
unfolding numbers_finding if
returns-in-Streams c = rw c.in-Streams.is c.beyond.ensures

pub returns-in-Worst : goal.returns-in-Worst
unfolding numbers_finding if
returns-in-Worst c = rw c.in-Worst.is c.beyond-in-Worst.ensures

pub returns-in-Span : goal.returns-in-Span
unfolding numbers_finding if
returns-in-Span c = rw c.in-Span.is c.beyond-in-Span.ensures

-- any other speaks of the padding
others : (t : Table) (r : Refusal) → (r ≡ Streams → ⊥) → (r ≡ Worst → ⊥) → (r ≡ Span → ⊥) → beyond 0 padding_max t.padding ≡ numbers_finding t (refusal_number r)
unfolding numbers_finding if
others t Streams a b d = absurd (a refl)
others t Worst a b d = absurd (b refl)
others t Span a b d = absurd (d refl)
others t Padding a b d = refl
others t Period a b d = refl
others t Budget a b d = refl
others t (Load m) a b d = refl

pub returns-in_default : goal.returns-in_default
returns-in_default c =
    let h = c.in_default in
    c.beyond-in_default.ensures ∙ others c.args.t c.args.refusal h.not-Streams h.not-Worst h.not-Span
