-- `begin` opens the file's table, where it was read.
use mathlib.Core.Path.{sym, ◌∙◌}
use Rattle.logs.proofs.Files.{begun_refused, begun_opened}
use Rattle.logs.proofs.Follower.begin.Goals as goal

pub returns-in-Ok : goal.returns-in-Ok
returns-in-Ok c =
    (rw c.table_of.ensures at c.opened.ensures) ∙ sym (begun_opened c.args.file.now c.in-Ok.layout (sym c.in-Ok.ensures))

pub returns-in-Err : goal.returns-in-Err
returns-in-Err c =
    rw (c.starting.ensures, c.zero.ensures) (sym (begun_refused c.args.file.now c.in-Err.refusal (sym c.in-Err.ensures)))
