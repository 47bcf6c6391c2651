-- `Margin::is_left` compares a number that is not below 0 with what is left.
use borrow.Author.Rules.{rules}
use Rattle.table.proofs.Whole.{left_is}
use Rattle.table.proofs.margin.Margin.is_left.Goals as goal

pub returns : goal.returns
returns c = left_is c.args.self.0 c.left.result c.args.left (record { sfits = search rules }) c.left.ensures
