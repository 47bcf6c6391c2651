-- `take` is what the outline of an old file says, where that is of two entries.
use mathlib.Core.Path.{sym}
use Rattle.std.proofs.lemmas.Result.{err_from_is_err_and}
use Rattle.repair.proofs.Taking.{two_taken, three_untaken, unfit_untaken}
use Rattle.repair.proofs.take.Goals as goal

pub returns-in_err-outline : goal.returns-in_err-outline
returns-in_err-outline c =
    let p = err_from_is_err_and c.from_residual.result c.from_residual.ensures.1 in
    rw (p.1, p.2) (unfit_untaken c.args.old.now _ (sym c.in_err-outline.ensures))

pub returns-in-Two : goal.returns-in-Two
returns-in-Two c = two_taken c.args.old.now _ (sym c.in_ok-outline.ensures) c.in-Two.is

pub returns-in-Three : goal.returns-in-Three
returns-in-Three c = three_untaken c.args.old.now _ (sym c.in_ok-outline.ensures) c.in-Three.is
