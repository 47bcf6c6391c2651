-- `all_formed` looks at the events up to the first that is not formed.
use mathlib.Core.Bool.{true, false}
use mathlib.Core.Path.{◌≡◌, refl}
use native.Mathlib.Omega.{arith}
use borrow.Author.Rules.{rules}
use borrow.Author.Tests.{tests as facts}
use Rattle.std.proofs.lemmas.Iterator.{YieldsList-from_range}
use Rattle.std.proofs.lemmas.Iterator.{cases_from_all}
use Rattle.file.specs.Reading.{event_at, formed}
use Rattle.file.proofs.Trace.{all_ranged}
use Rattle.file.proofs.event.all_formed.Goals as goal

pub returns : goal.returns
returns c =
    let a = c.args in
    all_ranged (λ i. formed (event_at a.trace.now i)) a.events _
    (cases_from_all _ _ _ (λ i. formed (event_at a.trace.now i) ≡ true) (λ i. formed (event_at a.trace.now i) ≡ false) c.all.ensures.ran (YieldsList-from_range 0 a.events a.events refl (omega arith))
    (λ x q k. search (rules, facts))
    (λ x q k. search (rules, facts)))
