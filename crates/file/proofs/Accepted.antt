-- Which bytes reading accepts: what its tests say, test by test, and what follows from all of them.
use mathlib.Core.Bool.{Bool, true, false, ◌&&◌}
use mathlib.Core.Path.{◌≡◌, refl, ap}
use mathlib.Core.List.{List}
use Prim.Native.Nat.{ℕ, ◌+◌, ◌-◌, ◌≤◌}
use borrow.Author.Tests.{le-leb, eqb-true, eq-eqb, leb-true}
use lib.ListN.{length}
use Rattle.std.specs.declared.result.Result.TheVariants.{Ok, Err}
use Rattle.table.specs.Fold.{if}
use Rattle.table.proofs.Tests.{both}
use Rattle.cells.specs.Cells.{number_at}
use Rattle.order.specs.Order.{is_order}
use Rattle.file.specs.File.{entries_of, table_start, third_length}
use Rattle.file.specs.Reading.{events_in, is_trace, form_in, start_in, count_at, trace_start, trace_end, third_in, order_in, trace_in, is_entry, is_third_entry, is_contents, is_laid_out, laid_out, read_of}
use Rattle.file.specs.declared.form.Form.{Form}
use Rattle.file.specs.declared.Layout.{Layout}
use Rattle.file.specs.declared.refusal.Refusal.{Refusal}
use Rattle.file.specs.declared.refusal.Refusal.TheVariants.{Layout as NotLaidOut}

-- ---- entries

pub record Entry (file : List ℕ) (at kind offset len : ℕ) : Type 0 where
  pub kind_is : number_at 4 file at ≡ kind
  pub offset_is : number_at 4 file (at + 4) ≡ offset
  pub length_is : number_at 4 file (at + 8) ≡ len

pub entry_of : (file : List ℕ) (at kind offset len : ℕ) → is_entry file at kind offset len ≡ true → Entry file at kind offset len
unfolding is_entry
entry_of file at kind offset len h =
    let a = both _ _ h in
    let b = both _ _ a.0 in
    record { kind_is = eqb-true _ _ b.0; offset_is = eqb-true _ _ b.1; length_is = eqb-true _ _ a.1 }

pub is_entry_lem : (file : List ℕ) (at kind offset len : ℕ) → Entry file at kind offset len → is_entry file at kind offset len ≡ true
unfolding is_entry
is_entry_lem file at kind offset len q = rw (eq-eqb _ _ q.kind_is, eq-eqb _ _ q.offset_is, eq-eqb _ _ q.length_is)

-- ---- the contents table

pub record Contents (form : Form) (file : List ℕ) (start end : ℕ) : Type 0 where
  pub entries : number_at 2 file 0 ≡ entries_of form
  pub table_entry : Entry file 2 1 (table_start form) (start - table_start form)
  pub trace_entry : Entry file 14 2 start (end - start)
  pub third_entry : is_third_entry form file end ≡ true

pub contents_of : (form : Form) (file : List ℕ) (start end : ℕ) → is_contents form file start end ≡ true → Contents form file start end
unfolding is_contents
contents_of form file start end h =
    let a = both _ _ h in
    let b = both _ _ a.0 in
    let c = both _ _ b.0 in
    record {
      entries = eqb-true _ _ c.0;
      table_entry = entry_of file _ _ _ _ c.1;
      trace_entry = entry_of file _ _ _ _ b.1;
      third_entry = a.1;
    }

pub is_contents_lem : (form : Form) (file : List ℕ) (start end : ℕ) → Contents form file start end → is_contents form file start end ≡ true
unfolding is_contents
is_contents_lem form file start end q =
    rw (
      eq-eqb _ _ q.entries,
      is_entry_lem _ _ _ _ _ q.table_entry,
      is_entry_lem _ _ _ _ _ q.trace_entry,
    )
    q.third_entry

-- ---- the whole file

pub record Accepted (file : List ℕ) : Type 0 where
  pub count_high : count_at file (start_in file) ≤ 8
  pub long : trace_start file + third_length (form_in file) ≤ length file
  pub contents_right : Contents (form_in file) file (trace_start file) (trace_end file)
  pub order_right : is_order (third_in file) ≡ true
  pub trace_right : is_trace (trace_in file) ≡ true

pub accepted_of : (file : List ℕ) → is_laid_out file ≡ true → Accepted file
unfolding is_laid_out
accepted_of file h =
    let a = both _ _ h in
    let b = both _ _ a.0 in
    let c = both _ _ b.0 in
    let d = both _ _ c.0 in
    record {
      count_high = leb-true _ _ d.0;
      long = leb-true _ _ d.1;
      contents_right = contents_of (form_in file) file _ _ c.1;
      order_right = b.1;
      trace_right = a.1;
    }

module _ (file : List ℕ) where
  -- where nothing before the trace refuses it, the trace decides
  pub trace_decides : count_at file (start_in file) ≤ 8 → trace_start file + third_length (form_in file) ≤ length file
      → (is_contents (form_in file) file (trace_start file) (trace_end file) && is_order (third_in file)) ≡ true
      → is_laid_out file ≡ is_trace (trace_in file)
  unfolding is_laid_out
  trace_decides count long h = rw (le-leb _ _ count, le-leb _ _ long, h)

  -- the answer
  pub read_refused : is_laid_out file ≡ false → read_of file ≡ Err NotLaidOut
  unfolding read_of if
  read_refused h = rw h

  pub read_accepted : is_laid_out file ≡ true
      → read_of file ≡ Ok (laid_out (form_in file) (order_in file) (count_at file (start_in file)) (trace_start file) (trace_end file) (events_in (trace_in file)))
  unfolding read_of if
  read_accepted h = rw h

-- an answer that says where things are comes from a file that is accepted, and they are there
pub record Answered (file : List ℕ) (layout : Layout) : Type 0 where
  pub accepted : is_laid_out file ≡ true
  pub form_is : form_in file ≡ layout.form
  pub order_is : order_in file ≡ layout.order
  pub count_is : count_at file (start_in file) ≡ layout.count
  pub start_is : trace_start file ≡ layout.start
  pub end_is : trace_end file ≡ layout.end
  pub events_are : events_in (trace_in file) ≡ layout.events

-- an answer that gives a value comes from the first of two
pub chosen : {A E : Type 0} (b : Bool) {x y : A} (e : E) → if b (Ok x) (Err e) ≡ Ok y → (b ≡ true) × (x ≡ y)
unfolding if
chosen true e h = (refl, cc)
chosen false e h = cc

-- and one that refuses, the other
pub unchosen : {A E : Type 0} (b : Bool) (x : A) {d e : E} → if b (Ok x) (Err d) ≡ Err e → (b ≡ false) × (e ≡ d)
unfolding if
unchosen true x h = cc
unchosen false x h = (refl, cc)

pub answered : (file : List ℕ) (layout : Layout) → read_of file ≡ Ok layout → Answered file layout
unfolding read_of
answered file layout h =
    let q = chosen (is_laid_out file) NotLaidOut h in
    record {
      accepted = q.0;
      form_is = ap (λ (l : Layout). l.form) q.1;
      order_is = ap (λ (l : Layout). l.order) q.1;
      count_is = ap (λ (l : Layout). l.count) q.1;
      start_is = ap (λ (l : Layout). l.start) q.1;
      end_is = ap (λ (l : Layout). l.end) q.1;
      events_are = ap (λ (l : Layout). l.events) q.1;
    }

-- and one that refuses from a file that is not
pub unread : (file : List ℕ) (refusal : Refusal) → read_of file ≡ Err refusal → is_laid_out file ≡ false
unfolding read_of
unread file refusal h = (unchosen (is_laid_out file) _ h).0
