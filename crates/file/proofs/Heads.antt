-- What stands before a trace of so many events: its tests, and what is stored.
use mathlib.Core.Path.{◌≡◌, sym, ◌∙◌}
use mathlib.Core.List.{List, ◌++◌}
use Prim.Native.Nat.{ℕ, ◌+◌, ◌*◌, ◌≤◌}
use native.Mathlib.Omega.{arith}
use borrow.Author.Tests.{le-leb}
use lib.ListN.{length}
use lib.Seq.{sets}
use Rattle.table.specs.Fold.{if}
use Rattle.table.specs.declared.Table.{Table}
use Rattle.cells.proofs.Runs.{sets_next}
use Rattle.file.specs.File.{table_start, contents, table_body, event_size}
use Rattle.file.specs.Reading.{table_length}
use Rattle.file.specs.Writing.{headed_on}
use Rattle.file.specs.declared.form.Form.{Form}
use Rattle.file.proofs.Lengths.{length_contents, length_table}

module _ (form : Form) (t : Table) (events : ℕ) (out : List ℕ) where
  pub head_there : t.count ≤ 8 → events ≤ 4_000
      → headed_on form t events out ≡ sets out 0 (contents form (length (table_body t)) (event_size * events) ++ table_body t)
  unfolding headed_on if
  head_there c e = rw (le-leb _ _ c, le-leb _ _ e)

  -- the contents table, and then the table body
  pub head_stored : t.count ≤ 8 → events ≤ 4_000
      → sets (sets out 0 (contents form (table_length t.count) (event_size * events))) (table_start form) (table_body t) ≡ headed_on form t events out
  head_stored c e =
      let front = contents form (table_length t.count) (event_size * events) in
      let none : 0 + table_start form ≡ table_start form = omega arith in
      rw none at (sets_next front (table_body t) out 0 (table_start form) (length_contents form (table_length t.count) (event_size * events)))
      ∙ rw (← length_table t) (sym (head_there c e))
