-- `read` has the outline; what is left decides (`judged`).
use mathlib.Core.Path.{sym}
use native.Mathlib.Omega.{arith}
use borrow.Author.Rules.{rules}
use Rattle.std.proofs.lemmas.Grind.{common_steps}
use Rattle.std.proofs.lemmas.Result.{err_from_is_err_and}
use Rattle.file.proofs.Outlines.{outline_inside, judged}
use Rattle.file.proofs.read.Goals as goal

pub slice_bounds-trace-count : goal.slice_bounds-trace-count
slice_bounds-trace-count c = (outline_inside _ _ (sym c.in_ok-outline.ensures)).in_order

pub slice_bounds-trace-start : goal.slice_bounds-trace-start
slice_bounds-trace-start c = let q = outline_inside _ _ (sym c.in_ok-outline.ensures) in search (rules, q.in_order)

pub slice_bounds-trace-end : goal.slice_bounds-trace-end
slice_bounds-trace-end c = let q = outline_inside _ _ (sym c.in_ok-outline.ensures) in search (rules, q.in_file)

pub is_contents-requires : goal.is_contents-requires
is_contents-requires c = let q = outline_inside _ _ (sym c.in_ok-outline.ensures) in (q.after_table, q.in_order)

pub returns-in_err-order : goal.returns-in_err-order
returns-in_err-order c =
    let p = err_from_is_err_and c.from_residual-in_err-order.result c.from_residual-in_err-order.ensures.1 in
    let j = judged _ _ (sym c.in_ok-outline.ensures) in
    rw (p.1, p.2) (grind (arith, common_steps, j, c.in_err-order.ensures))

pub returns-then-not-is_contents : goal.returns-then-not-is_contents
returns-then-not-is_contents c =
    let j = judged _ _ (sym c.in_ok-outline.ensures) in
    grind (arith, common_steps, j)

pub returns : goal.returns
returns c =
    let j = judged _ _ (sym c.in_ok-outline.ensures) in
    grind (arith, common_steps, j)
