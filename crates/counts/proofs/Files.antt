-- A file is counted as it was read and opened.
use mathlib.Core.List.{List}
use mathlib.Core.Path.{◌≡◌, sym, ap}
use Prim.Native.Nat.{ℕ}
use Rattle.std.specs.Prelude.{Result, Ok, Err}
use Rattle.table.specs.Fold.{if}
use Rattle.table.specs.declared.Table.{Table}
use Rattle.table.specs.declared.margin.Margin.{Margin}
use Rattle.table.specs.declared.refusal.Refusal.{Refusal as Unadmitted}
use Rattle.order.specs.declared.Order.{Order}
use Rattle.session.specs.Opening.{opening_of}
use Rattle.session.specs.History.{history_of}
use Rattle.file.specs.Reading.{part, events_in, table_in, is_laid_out, read_of}
use Rattle.file.specs.declared.Layout.{Layout}
use Rattle.file.specs.declared.refusal.Refusal.{Refusal as Unread}
use Rattle.file.proofs.Accepted as accepted
use Rattle.trace.specs.declared.refusal.Refusal.{Refusal}
use Rattle.counts.specs.declared.Filed.{Filed}
use Rattle.counts.specs.Counts.{calls_to, counts_of, admitted_by, opened_file, filed_of}

-- one that reading refuses
pub filed_refused : (file : List ℕ) (r : Unread) → read_of file ≡ Err r → filed_of file ≡ Err (Refusal.File r)
unfolding filed_of read_of if
filed_refused file r h = let (other, is) = accepted.unchosen (is_laid_out file) _ h in rw (other, is)

-- and one that it accepts
module _ (file : List ℕ) (layout : Layout) (h : read_of file ≡ Ok layout) where
  pub filed_opened : filed_of file ≡ opened_file (table_in file) layout.order (part layout.start layout.end file)
  unfolding filed_of if
  filed_opened = let a = accepted.answered file layout h in rw (a.accepted, a.order_is, a.start_is, a.end_is)

  pub events_of : layout.events ≡ events_in (part layout.start layout.end file)
  events_of = let a = accepted.answered file layout h in rw (← a.start_is, ← a.end_is) (sym a.events_are)

-- a table that opening refuses, and one that it admits
module _ (t : Table) (order : Order) (trace : List ℕ) where
  abbrev counted : Filed
  counted = record { count = t.count; counts = counts_of (history_of (opening_of t order).session (calls_to trace (events_in trace))) }

  pub opened_refused : (r : Unadmitted) → (opening_of t order).admission ≡ Err r → opened_file t order trace ≡ Err (Refusal.Table r)
  unfolding opened_file
  opened_refused r e = ap (λ (a : Result Margin Unadmitted). admitted_by a counted) e

  pub opened_counts : (m : Margin) → (opening_of t order).admission ≡ Ok m
      → opened_file t order trace
      ≡ Ok (record { count = t.count; counts = counts_of (history_of (opening_of t order).session (calls_to trace (events_in trace))) })
  unfolding opened_file
  opened_counts m e = ap (λ (a : Result Margin Unadmitted). admitted_by a counted) e
