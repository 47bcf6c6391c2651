-- `put_file` puts what stands before the trace, and then the events that are kept.
use native.Mathlib.Omega.{arith}
use borrow.Author.Rules.{rules}
use Rattle.repair.proofs.Kept.{outlined, salvaged_length}
use Rattle.repair.proofs.Salvaging.{the_trace, file_put}
use Rattle.repair.proofs.put_file.Goals as goal

pub slice_bounds-keep-count : goal.slice_bounds-keep-count
slice_bounds-keep-count c =
    rw c.requires.value.1 (outlined c.args.old.now c.requires.value.0).long

pub slice_bounds-keep-count-2 : goal.slice_bounds-keep-count-2
slice_bounds-keep-count-2 c =
    omega (arith, c.put_head.auto.out, c.requires.in_bounds, c.requires.value.1, salvaged_length c.args.old.now c.requires.value.0)

pub slice_bounds-keep-start : goal.slice_bounds-keep-start
slice_bounds-keep-start c = let l = slice_bounds-keep-count c in search rules

pub slice_bounds-keep-start-2 : goal.slice_bounds-keep-start-2
slice_bounds-keep-start-2 c = let l = slice_bounds-keep-count-2 c in search rules

pub returns : goal.returns
returns c =
    let old = c.args.old.now in
    let fine = c.requires.value.0 in
    rw (c.keep.ensures.out_after, c.put_head.ensures, c.table_of.ensures, c.requires.value.2, c.requires.value.1, the_trace old fine)
    (file_put old fine c.args.out.now c.requires.in_bounds)
