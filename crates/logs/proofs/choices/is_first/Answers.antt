-- `is_first` looks at the earlier requests up to the first that is like it.
use mathlib.Core.Bool.{true, false, not}
use mathlib.Core.Path.{◌≡◌, refl}
use native.Mathlib.Omega.{arith}
use borrow.Author.Rules.{rules}
use borrow.Author.Tests.{tests as facts}
use Rattle.std.proofs.lemmas.Iterator.{YieldsList-from_range}
use Rattle.std.proofs.lemmas.Iterator.{cases_from_all}
use Rattle.file.proofs.Trace.{all_ranged}
use Rattle.logs.specs.Choices.{alike, is_first}
use Rattle.logs.proofs.choices.is_first.Goals as goal

pub returns : goal.returns
unfolding is_first
returns c =
    let a = c.args in
    all_ranged (λ i. not (alike a.x i a.j)) a.j _
    (cases_from_all _ _ _ (λ i. not (alike a.x i a.j) ≡ true) (λ i. not (alike a.x i a.j) ≡ false) c.all.ensures.ran (YieldsList-from_range 0 a.j a.j refl (omega arith))
    (λ x q k. search (rules, facts))
    (λ x q k. search (rules, facts)))
