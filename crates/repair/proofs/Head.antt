-- The first 106 bytes of a file say as much as the whole: they hold the contents, and the table body of eight streams.
use mathlib.Core.Bool.{true}
use mathlib.Core.Path.{◌≡◌, sym, ap, ◌∙◌}
use mathlib.Core.List.{List, ◌++◌}
use Prim.Native.Nat.{ℕ, ◌+◌, ◌*◌, ◌≤◌}
use native.Mathlib.Omega.{arith}
use lib.ListN.{length, length-append}
use Rattle.table.proofs.Tests.{same_test}
use Rattle.cells.specs.Cells.{number_at}
use Rattle.cells.proofs.Numbers.{number_before}
use Rattle.file.specs.File.{table_start}
use Rattle.file.specs.Reading.{form_in, start_in, count_at, trace_start, table_at, table_in, is_entry, is_contents, has_contents}
use Rattle.file.specs.declared.form.Form.{Form}
use Rattle.file.specs.declared.form.Form.TheVariants.{Two}
use Rattle.file.proofs.Forms.{start_low}
use Rattle.file.proofs.Columns.{column_agree}
use Rattle.repair.specs.Salvage.{is_salvageable, count_in}
use Rattle.repair.specs.Pieces.{taken_of}
use Rattle.repair.specs.Laws.{TraceStartsEarly, HeadIsEnough}
use Rattle.repair.proofs.Kept.{start_two, outlined}
use Rattle.repair.proofs.Refused.{refused_as_said}
use Rattle.repair.proofs.Taking.{found_is}

module _ (head more : List ℕ) (long : 106 ≤ length head) where
  abbrev whole : List ℕ
  whole = head ++ more

  same : (w at : ℕ) → at + w ≤ 106 → number_at w whole at ≡ number_at w head at
  same w at l = number_before w head more at (omega arith)

  -- ---- what is taken

  same_salvageable : is_salvageable whole ≡ is_salvageable head
  same_salvageable =
      let count = same 4 38 (omega arith) in
      let first = same 2 0 (omega arith) in
      let longer = length-append head more in
      same_test (is_salvageable whole) (is_salvageable head)
      (λ h.
      let q = (refused_as_said whole).0 h in
      (refused_as_said head).1
      (record {
        not_three = λ three. q.not_three (first ∙ three);
        count_high = omega (arith, count, q.count_high);
        table_whole = omega (arith, count, q.count_high);
      }))
      (λ h.
      let q = (refused_as_said head).0 h in
      (refused_as_said whole).1
      (record {
        not_three = λ three. q.not_three (sym first ∙ three);
        count_high = omega (arith, count, q.count_high);
        table_whole = omega (arith, count, longer, q.table_whole);
      }))

  same_form : form_in whole ≡ form_in head
  unfolding form_in
  same_form = rw (same 2 0 (omega arith))

  same_count : count_in whole ≡ count_in head
  same_count =
      ap (λ (f : Form). count_at whole (table_start f)) same_form ∙ same 4 (start_in head + 12) (omega (arith, start_low (form_in head)))

  same_start : trace_start whole ≡ trace_start head
  same_start = omega (arith, ap table_start same_form, same_count)

  same_taken : taken_of whole ≡ taken_of head
  unfolding taken_of
  same_taken = rw (same_salvageable, same_start, same_count)

  -- ---- which table

  same_table_at : (at : ℕ) → at ≤ 26 → count_at head at ≤ 8 → table_at whole at ≡ table_at head at
  unfolding table_at
  same_table_at at low few =
      let count = count_at head at in
      rw (
        same 4 at (omega arith),
        same 4 (at + 4) (omega arith),
        same 4 (at + 8) (omega arith),
        same 4 (at + 12) (omega arith),
        column_agree (λ i. number_at 4 whole (at + 16 + 8 * i)) (λ i. number_at 4 head (at + 16 + 8 * i)) count (λ i l. same 4 (at + 16 + 8 * i) (omega arith)),
        column_agree (λ i. number_at 4 whole (at + 20 + 8 * i)) (λ i. number_at 4 head (at + 20 + 8 * i)) count (λ i l. same 4 (at + 20 + 8 * i) (omega arith)),
      )

  same_table : is_salvageable head ≡ true → table_in whole ≡ table_in head
  same_table fine =
      let q = outlined head fine in
      ap (λ (f : Form). table_at whole (table_start f)) same_form
      ∙ same_table_at (start_in head) (omega (arith, ap table_start q.two)) q.count_high

  -- ---- whether the contents stay

  same_contents : (count events : ℕ) → has_contents Two whole count events ≡ has_contents Two head count events
  unfolding has_contents is_contents is_entry
  same_contents count events =
      rw (
        same 2 0 (omega arith),
        same 4 2 (omega arith),
        same 4 6 (omega arith),
        same 4 10 (omega arith),
        same 4 14 (omega arith),
        same 4 18 (omega arith),
        same 4 22 (omega arith),
      )

pub head_is_enough : HeadIsEnough
head_is_enough head more long = (same_taken head more long, same_table head more long, same_contents head more long)

pub trace_starts_early : TraceStartsEarly
trace_starts_early old taken h =
    let f = found_is old taken (sym h) in
    let q = outlined old f.fine in
    omega (arith, f.start_is, start_two old f.fine, q.count_high)
