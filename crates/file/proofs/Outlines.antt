-- Outlines: what their tests say, and what reading makes of them.
use mathlib.Core.Bool.{true, false, cond, ◌&&◌}
use mathlib.Core.Path.{◌≡◌, refl, ap}
use mathlib.Core.List.{List}
use Prim.Native.Nat.{ℕ, ◌+◌, ◌≤◌, min}
use native.Mathlib.Omega.{arith}
use borrow.Author.Tests.{leb-true}
use lib.ListN.{length}
use Rattle.std.specs.declared.result.Result.TheVariants.{Ok, Err}
use Rattle.table.proofs.Tests.{both}
use Rattle.order.specs.Order.{is_order, order_of}
use Rattle.cells.specs.Cells.{number_at}
use Rattle.file.specs.File.{table_start, third_length}
use Rattle.file.specs.Reading.{form_in, start_in, count_at, trace_start, trace_end, is_outlined, outline_of, part, events_in, is_trace, is_contents, is_laid_out, laid_out, read_of}
use Rattle.file.specs.declared.outline.Outline.{Outline}
use Rattle.file.specs.declared.refusal.Refusal.{Refusal}
use Rattle.file.specs.declared.refusal.Refusal.TheVariants.{Layout as NotLaidOut}
use Rattle.file.proofs.Choices.{if_is_cond}
use Rattle.file.proofs.Forms.{third_width}
use Rattle.file.proofs.Accepted.{chosen, unchosen, read_refused}

-- what an outline says
pub record Outlined (file : List ℕ) (outline : Outline) : Type 0 where
  pub form_is : form_in file ≡ outline.form
  pub count_is : count_at file (start_in file) ≡ outline.count
  pub start_is : trace_start file ≡ outline.start
  pub end_is : trace_end file ≡ outline.end
  pub count_high : count_at file (start_in file) ≤ 8
  pub long : trace_start file + third_length (form_in file) ≤ length file
  pub holds : is_outlined file ≡ true

pub outline_is : (file : List ℕ) (outline : Outline) → outline_of file ≡ Ok outline → Outlined file outline
unfolding outline_of
outline_is file outline h =
    let q = chosen (is_outlined file) NotLaidOut h in
    let b = both _ _ q.0 in
    record {
      form_is = ap (λ (o : Outline). o.form) q.1;
      count_is = ap (λ (o : Outline). o.count) q.1;
      start_is = ap (λ (o : Outline). o.start) q.1;
      end_is = ap (λ (o : Outline). o.end) q.1;
      count_high = leb-true _ _ b.0;
      long = leb-true _ _ b.1;
      holds = q.0;
    }

-- and what says that there is none
pub no_outline : (file : List ℕ) (refusal : Refusal) → outline_of file ≡ Err refusal → (is_outlined file ≡ false) × (refusal ≡ NotLaidOut)
unfolding outline_of
no_outline file refusal h = unchosen (is_outlined file) _ h

-- what has no outline is not laid out, and is refused as such
not_laid : (file : List ℕ) → is_outlined file ≡ false → is_laid_out file ≡ false
unfolding is_laid_out
not_laid file e = rw e

pub unfit_is_refused : (file : List ℕ) (refusal : Refusal) → outline_of file ≡ Err refusal → Err refusal ≡ read_of file
unfit_is_refused file refusal h = let q = no_outline file refusal h in rw (q.1, read_refused file (not_laid file q.0))

-- Where the outline has the trace.
pub record Inside (file : List ℕ) (outline : Outline) : Type 0 where
  pub after_table : table_start outline.form ≤ outline.start
  pub in_order : outline.start ≤ outline.end
  pub in_file : outline.end ≤ length file

pub outline_inside : (file : List ℕ) (outline : Outline) → outline_of file ≡ Ok outline → Inside file outline
outline_inside file outline h =
    let q = outline_is file outline h in
    let long = q.long in
    record {
      after_table = rw (← q.start_is, ← q.form_is) (omega arith);
      in_order = rw (← q.start_is, ← q.end_is) (omega arith);
      in_file = rw (← q.end_is) (omega arith);
    }

-- of a file that has an outline, what is left decides
pub judged : (file : List ℕ) (outline : Outline) → outline_of file ≡ Ok outline
    → let number = number_at (min (third_length outline.form) 8) file outline.end in
    let trace = part outline.start outline.end file in
    read_of file
    ≡ cond (is_contents outline.form file outline.start outline.end && is_order number && is_trace trace)
    (Ok (laid_out outline.form (order_of number) outline.count outline.start outline.end (events_in trace)))
    (Err NotLaidOut)
unfolding read_of is_laid_out
judged file outline h =
    let q = outline_is file outline h in
    rw (← q.form_is, ← q.count_is, ← q.start_is, ← q.end_is, third_width (form_in file), if_is_cond, q.holds) refl
