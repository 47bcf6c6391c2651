-- `first_of` is the place, or the length where there is none.
use mathlib.Core.Path.{ap, ◌∙◌}
use lib.Dec.{eqb}
use lib.ListN.{length}
use Rattle.std.specs.Option.{unwrap_or}
use Rattle.ledger.proofs.Ends.{place_or_all}
use Rattle.ledger.proofs.lines.first_of.Goals as goal

pub returns-clause-value : goal.returns-clause-value
returns-clause-value c =
    let text = c.args.text.now in
    c.unwrap_or.ensures
    ∙ ap (λ o. unwrap_or o (length text)) c.place_of.ensures
    ∙ place_or_all (λ b. eqb b c.args.byte) text
