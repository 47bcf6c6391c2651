-- A file is followed as it was read.
use mathlib.Core.List.{List, []}
use mathlib.Core.Path.{◌≡◌}
use Prim.Native.Nat.{ℕ}
use Rattle.std.specs.Prelude.{Ok, Err}
use Rattle.table.specs.Fold.{if}
use Rattle.file.specs.Reading.{part, table_in, is_laid_out, read_of}
use Rattle.file.specs.declared.Layout.{Layout}
use Rattle.file.specs.declared.refusal.Refusal.{Refusal as Unread}
use Rattle.file.proofs.Accepted as accepted
use Rattle.trace.specs.declared.refusal.Refusal.{Refusal}
use Rattle.logs.specs.Following.{refused_at, opened_at, begun, trace_of}

-- one that reading refuses
module _ (file : List ℕ) (r : Unread) (h : read_of file ≡ Err r) where
  pub begun_refused : begun file ≡ refused_at (Refusal.File r)
  unfolding begun read_of if
  begun_refused = let (other, is) = accepted.unchosen (is_laid_out file) _ h in rw (other, is)

  pub no_trace : trace_of file ≡ []
  unfolding trace_of if
  no_trace = rw (accepted.unread file r h)

-- and one that it accepts
module _ (file : List ℕ) (layout : Layout) (h : read_of file ≡ Ok layout) where
  pub begun_opened : begun file ≡ opened_at (table_in file) layout.order
  unfolding begun if
  begun_opened = let a = accepted.answered file layout h in rw (a.accepted, a.order_is)

  pub trace_read : trace_of file ≡ part layout.start layout.end file
  unfolding trace_of if
  trace_read = let a = accepted.answered file layout h in rw (a.accepted, a.start_is, a.end_is)
