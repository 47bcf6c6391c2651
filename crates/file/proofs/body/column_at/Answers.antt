-- `column_at` makes each number by the rule.
use borrow.Author.Rules.{rules}
use Rattle.file.proofs.Columns.{column_is}
use Rattle.file.proofs.body.column_at.Goals as goal

pub returns : goal.returns
returns c = column_is _ c.args.count c.from_fn.result (search rules) (search rules)
