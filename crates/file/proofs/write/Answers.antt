-- `write` stores nothing before it has judged everything; what it then stores is the file, part by part (`file_stored`).
use mathlib.Core.Path.{sym, ◌∙◌}
use Prim.Native.Nat.{◌≤◌}
use native.Mathlib.Omega.{arith}
use Rattle.std.proofs.lemmas.Result.{err_from_is_err_and}
use Rattle.file.specs.File.{third_body}
use Rattle.file.specs.Reading.{events_in}
use Rattle.file.proofs.Forms.{start_low}
use Rattle.file.proofs.Stores.{file_stored}
use Rattle.file.proofs.Heads.{head_there}
use Rattle.file.proofs.Writes.{Checked, write_refused, write_done, checked}
use Rattle.file.proofs.write.Goals as goal
use Rattle.file.proofs.write.Goals.{In_ok-length, After-table_length}

pub returns-in_err-length : goal.returns-in_err-length
returns-in_err-length c =
    let a = c.args in
    let p = err_from_is_err_and c.from_residual.result c.from_residual.ensures.1 in
    let both = write_refused a.form a.order a.table a.trace.now a.out.now _ c.in_err-length.ensures in
    record { value = rw (p.1, p.2) both.0; out_after = both.1 }

ready : (c : In_ok-length) → let a = c.args in Checked a.form a.order a.table a.trace.now a.out.now c.in_ok-length.length
ready c = let a = c.args in checked a.form a.order a.table a.trace.now a.out.now _ c.in_ok-length.ensures

pub table_length-requires : goal.table_length-requires
table_length-requires c = (ready (goal.at.table_length-requires c).In_ok-length).count_high

low : (c : After-table_length) → c.table_start.result ≤ 38
low c = rw c.table_start.ensures (start_low c.args.form)

pub overflow_add-start : goal.overflow_add-start
overflow_add-start c =
    let r = ready (goal.at.overflow_add-start c).In_ok-length in
    omega (arith, low (goal.at.overflow_add-start c).After-table_length, c.table_length.ensures, r.count_high)

pub overflow_add-end : goal.overflow_add-end
overflow_add-end c =
    let r = ready (goal.at.overflow_add-end c).In_ok-length in
    omega (arith, low (goal.at.overflow_add-end c).After-table_length, c.table_length.ensures, r.count_high, r.whole, r.events_high)

pub returns : goal.returns
unfolding third_body
returns c =
    let a = c.args in
    let t = a.table in
    let r = ready (goal.at.returns c).In_ok-length in
    let done = write_done a.form a.order t a.trace.now a.out.now r.unrefused in record {
      value = rw (← r.length_is) (sym done.0);
      out_after = rw (
        c.put_number.ensures,
        c.number.ensures,
        c.put_bytes.ensures,
        c.put_head.ensures,
        head_there a.form t (events_in a.trace.now) a.out.now r.count_high r.events_high,
        c.third.ensures,
        c.table_start.ensures,
        c.table_length.ensures,
        ← r.whole,
      )
          (file_stored a.form a.order t a.trace.now a.out.now r.fits ∙ sym done.1);
    }
