-- `Judged::shares` gives the shares by groups, which are the shares.
use mathlib.Core.Path.{◌∙◌}
use Rattle.table.proofs.Grouped.{grouped_shares_lem}
use Rattle.table.proofs.parts.Judged.shares.Goals as goal

pub returns : goal.returns
returns c = c.add_up.ensures.0 ∙ grouped_shares_lem _
