-- A file that is salvaged is accepted; what is accepted comes out as it was, and so does what was salvaged before.
use mathlib.Core.Bool.{true}
use mathlib.Core.Path.{◌≡◌, refl, sym, ap, ◌∙◌}
use mathlib.Core.List.{List, [], ◌∷◌}
use Prim.Native.Nat.{ℕ, zero, suc, ◌+◌, ◌-◌, ◌*◌, ◌%◌, ◌<◌}
use native.Mathlib.Omega.{arith}
use borrow.Author.Tests.{lt-ltb, le-leb}
use lib.ListN.{length, take}
use lib.Seq.{take-add, take_all}
use Rattle.table.specs.Fold.{if, list_to, join_to}
use Rattle.table.proofs.Folds.{count_le, count_all, join_none}
use Rattle.order.specs.declared.Order.TheVariants.{Nearest}
use Rattle.cells.specs.Cells.{Bytes}
use Rattle.cells.proofs.Numbers.{bytes_part}
use Rattle.file.specs.File.{table_start, events_max, event_size}
use Rattle.file.specs.Reading.{events_in, event_at, formed, is_trace, form_in, table_length, trace_start, trace_end, order_in, trace_in, table_at, table_in, is_contents, has_contents, is_laid_out}
use Rattle.file.specs.Writing.{is_writable}
use Rattle.file.specs.declared.form.Form.{Form}
use Rattle.file.specs.declared.form.Form.TheVariants.{Two}
use Rattle.file.proofs.Trace.{Trace, trace_of_lem}
use Rattle.file.proofs.Traces.{trace_reads_back}
use Rattle.file.proofs.Accepted.{is_contents_lem, Accepted, accepted_of, answered}
use Rattle.file.proofs.Writes.{is_writable_lem}
use Rattle.file.proofs.WriteBack.{length_trace, write_back}
use Rattle.file.proofs.ReadBack.{table_back, trace_back}
use Rattle.file.proofs.Round.{table_read_is_trimmed, reads_back, two_means_nearest}
use Rattle.repair.specs.Salvage.{is_two, is_salvageable, count_in, sound_to, is_kept, kept_to, kept_of, kept_count, salvaged_file, contents_stay, dropped_at, trace_changes, changes_of}
use Rattle.repair.specs.Laws.{sound_ones, SalvagedIsAccepted, SoundComesOutEqual, TwiceChangesNothing}
use Rattle.repair.proofs.Kept.{outlined, no_cuts, start_two, kept_size, kept_few}
use Rattle.repair.proofs.First.{coded_take, sound_coded, kept_are_the_first}

-- ---- what is kept is a trace

pub kept_is_trace : (trace : List ℕ) → Bytes trace → is_trace (kept_of events_max trace) ≡ true
kept_is_trace trace bytes =
    let first = kept_are_the_first events_max trace bytes in
    let sound = sound_ones (list_to (event_at trace) (events_in trace)) in
    rw first.0
    (trace_reads_back (take events_max sound) (coded_take events_max sound (sound_coded trace bytes (events_in trace))) (omega (arith, first.1, (kept_few events_max trace).0))).0

pub kept_events : (room : ℕ) (trace : List ℕ) → events_in (kept_of room trace) ≡ kept_count room trace
kept_events room trace = omega (arith, kept_size room trace)

-- ---- a file that is salvaged

pub bytes_trace : (old : List ℕ) → Bytes old → Bytes (trace_in old)
bytes_trace old = bytes_part (trace_end old - trace_start old) (trace_start old) old

writable : (old : List ℕ) → Bytes old → is_salvageable old ≡ true → is_writable Two Nearest (table_in old) (kept_of events_max (trace_in old)) ≡ true
unfolding table_at
writable old bytes fine =
    is_writable_lem Two Nearest (table_in old) (kept_of events_max (trace_in old))
    (record { count_high = (outlined old fine).count_high; placed = refl; trace_right = kept_is_trace (trace_in old) (bytes_trace old bytes) })

pub salvaged_is_accepted : SalvagedIsAccepted
unfolding salvaged_file table_at
salvaged_is_accepted old bytes fine =
    let t = table_in old in
    let kept = kept_of events_max (trace_in old) in
    let read = table_read_is_trimmed old bytes in
    let can = writable old bytes fine in (
      reads_back Two Nearest t kept read.0 can
          ∙ rw (kept_events events_max (trace_in old), kept_size events_max (trace_in old), start_two old fine),
      table_back Two Nearest t kept read.0 can ∙ read.1,
      trace_back Two Nearest t kept read.0 can,
    )

-- ---- a file that is accepted

-- of a trace that is one, each event is kept
all_kept : (trace : List ℕ) → Trace trace → (i : ℕ) → i < events_in trace → is_kept events_max trace i ≡ true
unfolding is_kept
all_kept trace q i l =
    rw (q.all_formed i l, lt-ltb (sound_to trace i) events_max (omega (arith, count_le (λ j. formed (event_at trace j)) i, q.events_high)))

-- and what is kept is what stands there
kept_there : (room : ℕ) (trace : List ℕ) (n : ℕ) → ((i : ℕ) → i < n → is_kept room trace i ≡ true) → kept_to room trace n ≡ take (event_size * n) trace
unfolding join_to if
kept_there room trace zero h = refl
kept_there room trace (suc n) h =
    let k : event_size * suc n ≡ event_size * n + event_size = omega arith in
    rw (h n (omega arith), kept_there room trace n (λ i l. h i (omega arith)), k) (sym (take-add (event_size * n) event_size trace))

module _ (trace : List ℕ) (q : Trace trace) where
  pub kept_whole : kept_of events_max trace ≡ trace
  kept_whole =
      kept_there events_max trace (events_in trace) (all_kept trace q)
      ∙ take_all (event_size * events_in trace) trace (omega (arith, q.whole))

  -- and nothing is listed
  pub none_listed : (at : ℕ) → trace_changes events_max at trace ≡ []
  unfolding trace_changes if
  none_listed at =
      let even : length trace % event_size ≡ 0 = omega (arith, q.whole) in
      rw (
        join_none (λ i. if (is_kept events_max trace i) [] (dropped_at (at + event_size * i) ∷ [])) (events_in trace) (λ i l. rw (all_kept trace q i l)),
        no_cuts at trace even,
      )

  pub count_whole : kept_count events_max trace ≡ events_in trace
  count_whole = count_all (is_kept events_max trace) (events_in trace) (all_kept trace q)

-- nothing is changed of a file of two entries that is accepted
module _ (file : List ℕ) (two : form_in file ≡ Two) (h : is_laid_out file ≡ true) where
  parts : Accepted file
  parts = accepted_of file h

  trace_right : Trace (trace_in file)
  trace_right = trace_of_lem (trace_in file) parts.trace_right

  salvageable : is_salvageable file ≡ true
  unfolding is_salvageable
  salvageable = rw (ap is_two two, le-leb _ _ parts.count_high, le-leb _ _ parts.long)

  contents_stay_lem : contents_stay file ≡ true
  unfolding contents_stay has_contents
  contents_stay_lem =
      let start = table_start Two + table_length (count_in file) in
      let start_is : trace_start file ≡ start = start_two file salvageable in
      let end_is : trace_end file ≡ start + event_size * events_in (trace_in file)
      = omega (arith, parts.long, trace_right.whole, length_trace file parts, start_is) in
      let right : is_contents Two file (trace_start file) (trace_end file) ≡ true
      = ap (λ (f : Form). is_contents f file (trace_start file) (trace_end file)) (sym two)
      ∙ is_contents_lem (form_in file) file (trace_start file) (trace_end file) parts.contents_right in
      rw (count_whole (trace_in file) trace_right, le-leb _ _ parts.count_high, le-leb _ _ trace_right.events_high) (rw (start_is, end_is) at right)

  nothing_changed : (is_salvageable file ≡ true) × (kept_of events_max (trace_in file) ≡ trace_in file) × (changes_of file ≡ [])
  unfolding changes_of if
  nothing_changed = (salvageable, kept_whole (trace_in file) trace_right, rw contents_stay_lem (none_listed (trace_in file) trace_right (trace_start file)))

pub sound_comes_out_equal : SoundComesOutEqual
unfolding salvaged_file
sound_comes_out_equal file layout bytes read two =
    let a = answered file layout read in
    let form : form_in file ≡ Two = a.form_is ∙ two in
    let q = nothing_changed file form a.accepted in
    let nearest : order_in file ≡ Nearest = a.order_is ∙ two_means_nearest.0 file layout read two in
    (q.0, rw (q.1, ← form, ← nearest) (write_back file bytes a.accepted), q.2)

pub twice_changes_nothing : TwiceChangesNothing
unfolding salvaged_file
twice_changes_nothing old bytes fine =
    let s = salvaged_is_accepted old bytes fine in
    let a = answered (salvaged_file old) _ s.0 in
    let q = nothing_changed (salvaged_file old) a.form_is a.accepted in
    (q.0, rw (q.1, s.1, s.2), q.2)
