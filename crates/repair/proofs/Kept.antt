-- What is kept of a trace and what is listed of it, counted; and how long a file is that is salvaged.
use mathlib.Core.Bool.{Bool, true, false, ◌&&◌, false≢true}
use mathlib.Core.Path.{◌≡◌, refl, ap, ◌∙◌}
use mathlib.Core.List.{List, [], ◌∷◌, ◌++◌, append-nil}
use Prim.Native.Nat.{ℕ, suc, ◌+◌, ◌-◌, ◌*◌, ◌%◌, min, ◌≤◌, ◌<◌}
use native.Mathlib.Omega.{arith}
use borrow.Author.Tests.{leb-true, ltb-true, lt-ltb, eqb-false, eq-eqb, ne_eqb}
use lib.Dec.{leb, ltb, eqb}
use lib.ListN.{length, drop, length-append, length-drop}
use lib.Seq.{take_all, length-take-le}
use Rattle.table.specs.Fold.{if, join_to, count_to}
use Rattle.table.proofs.Tests.{both, same_test, by_if}
use Rattle.table.proofs.Folds.{count_le, count_first, join_length}
use Rattle.order.specs.declared.Order.TheVariants.{Nearest}
use Rattle.file.specs.File.{table_start, third_length, events_max, event_size}
use Rattle.file.specs.Reading.{events_in, event_at, formed, form_in, table_length, trace_start, trace_end, trace_in, table_at, table_in, is_outlined}
use Rattle.file.specs.declared.form.Form.{Form}
use Rattle.file.specs.declared.form.Form.TheVariants.{Two, Three}
use Rattle.file.proofs.Lengths.{length_file}
use Rattle.repair.specs.Salvage.{is_two, is_salvageable, count_in, sound_to, is_kept, event_bytes, kept_to, kept_of, kept_count, salvaged_file, dropped_at, cut_at, drops_to, cuts_of, trace_changes}
use Rattle.repair.specs.declared.change.Change.{Change}

-- ---- which events are kept

module _ (room : ℕ) (trace : List ℕ) where
  pub count_kept : (n : ℕ) → count_to (is_kept room trace) n ≡ min room (sound_to trace n)
  unfolding is_kept
  count_kept n = count_first (λ i. formed (event_at trace i)) room n

  -- an event is kept that is sound, as long as fewer are kept than there is room for
  pub kept_test : (n : ℕ) → (formed (event_at trace n) && ltb (count_to (is_kept room trace) n) room) ≡ is_kept room trace n
  unfolding is_kept
  kept_test n =
      let kept = count_to (is_kept room trace) n in
      let sound = sound_to trace n in
      ap (λ (b : Bool). formed (event_at trace n) && b)
      (same_test (ltb kept room) (ltb sound room)
      (λ h. lt-ltb sound room (omega (arith, count_kept n, ltb-true kept room h)))
      (λ h. lt-ltb kept room (omega (arith, count_kept n, ltb-true sound room h))))

  pub kept_few : (kept_count room trace ≤ room) × (kept_count room trace ≤ events_in trace)
  kept_few = (omega (arith, count_kept (events_in trace)), count_le (is_kept room trace) (events_in trace))

-- a whole event has its 16 bytes
pub event_length : (trace : List ℕ) (i : ℕ) → i < events_in trace → length (event_bytes trace i) ≡ event_size
event_length trace i l =
    length-take-le event_size (drop (event_size * i) trace) (omega (arith, length-drop (event_size * i) trace))

pub kept_length : (room : ℕ) (trace : List ℕ) (n : ℕ) → n ≤ events_in trace
    → length (kept_to room trace n) ≡ event_size * count_to (is_kept room trace) n
kept_length room trace n le =
    join_length (is_kept room trace) (event_bytes trace) (λ i. []) event_size 0 n (λ i l. event_length trace i (omega arith)) (λ i l. refl)
    ∙ omega arith

pub kept_size : (room : ℕ) (trace : List ℕ) → length (kept_of room trace) ≡ event_size * kept_count room trace
kept_size room trace = kept_length room trace (events_in trace) (omega arith)

-- with the next event: its bytes, where it is kept, and else nothing
pub kept_more : (room : ℕ) (trace : List ℕ) (n : ℕ) → is_kept room trace n ≡ true → kept_to room trace (suc n) ≡ kept_to room trace n ++ event_bytes trace n
unfolding join_to if
kept_more room trace n h = rw h

pub kept_stays : (room : ℕ) (trace : List ℕ) (n : ℕ) → is_kept room trace n ≡ false → kept_to room trace (suc n) ≡ kept_to room trace n
unfolding join_to if
kept_stays room trace n h = rw h (append-nil (kept_to room trace n))

-- ---- what is listed

-- with the next event: its place, where it is not kept, and else nothing
pub drops_more : (room at : ℕ) (trace : List ℕ) (n : ℕ) → is_kept room trace n ≡ false
    → drops_to room at trace (suc n) ≡ drops_to room at trace n ++ (dropped_at (at + event_size * n) ∷ [])
unfolding join_to if
drops_more room at trace n h = rw h

pub drops_stay : (room at : ℕ) (trace : List ℕ) (n : ℕ) → is_kept room trace n ≡ true → drops_to room at trace (suc n) ≡ drops_to room at trace n
unfolding join_to if
drops_stay room at trace n h = rw h (append-nil (drops_to room at trace n))

pub drops_length : (room at : ℕ) (trace : List ℕ) (n : ℕ) → length (drops_to room at trace n) ≡ n - count_to (is_kept room trace) n
drops_length room at trace n =
    join_length (is_kept room trace) (λ i. []) (λ i. dropped_at (at + event_size * i) ∷ []) 0 1 n (λ i l. refl) (λ i l. refl)
    ∙ omega arith

-- a rest is listed where there is one
module _ (at : ℕ) (trace : List ℕ) where
  pub no_cuts : length trace % event_size ≡ 0 → cuts_of at trace ≡ []
  unfolding if
  no_cuts whole = rw (eq-eqb _ _ whole)

  pub one_cut : (length trace % event_size ≡ 0 → ⊥) → cuts_of at trace ≡ cut_at (at + event_size * events_in trace) ∷ []
  unfolding if
  one_cut torn = rw (ne_eqb _ _ torn)

-- as many are, wherever the trace starts
cuts_length : (at : ℕ) (trace : List ℕ) → length (cuts_of at trace) ≡ length (cuts_of 0 trace)
unfolding if
cuts_length at trace = go (eqb (length trace % event_size) 0)
  where
    go : (b : Bool) → length (if b [] (cut_at (at + event_size * events_in trace) ∷ [])) ≡ length (if b [] (cut_at (0 + event_size * events_in trace) ∷ []))
    go true = refl
    go false = refl

pub changes_length : (room at : ℕ) (trace : List ℕ)
    → length (trace_changes room at trace) ≡ events_in trace - kept_count room trace + length (cuts_of 0 trace)
unfolding trace_changes
changes_length room at trace =
    length-append (drops_to room at trace (events_in trace)) (cuts_of at trace)
    ∙ omega (arith, drops_length room at trace (events_in trace), cuts_length at trace)

-- each change stands for 16 bytes of the trace, but that of a rest, which has one at least
pub changes_few : (room at : ℕ) (trace : List ℕ) → event_size * length (trace_changes room at trace) ≤ length trace + 15
changes_few room at trace =
    let rest = length trace % event_size in
    let cut : event_size * (events_in trace + length (cuts_of 0 trace)) ≤ length trace + 15
    = by_if (λ (l : List Change). event_size * (events_in trace + length l) ≤ length trace + 15)
    (eqb rest 0) [] (cut_at (0 + event_size * events_in trace) ∷ [])
    (λ h. omega arith)
    (λ h. let some : rest ≡ 0 → ⊥ = eqb-false rest 0 h in omega arith) in
    omega (arith, changes_length room at trace, cut)

-- ---- a file that is salvaged

-- the parts of a file of two entries are there
pub record Outlined (old : List ℕ) : Type 0 where
  pub two : form_in old ≡ Two
  pub count_high : count_in old ≤ 8
  pub long : trace_start old ≤ length old

pub outlined : (old : List ℕ) → is_salvageable old ≡ true → Outlined old
unfolding is_salvageable
outlined old fine =
    let q = both (is_two (form_in old)) (is_outlined old) fine in
    let a = both (leb (count_in old) 8) (leb (trace_start old + third_length (form_in old)) (length old)) q.1 in
    record {
      two = go (form_in old) q.0;
      count_high = leb-true _ _ a.0;
      long = omega (arith, leb-true (trace_start old + third_length (form_in old)) (length old) a.1);
    }
  where
    go : (form : Form) → is_two form ≡ true → form ≡ Two
    go Two h = refl
    go Three h = absurd (false≢true h)

module _ (old : List ℕ) (fine : is_salvageable old ≡ true) where
  pub start_two : trace_start old ≡ table_start Two + table_length (count_in old)
  start_two = ap (λ (f : Form). table_start f + table_length (count_in old)) (outlined old fine).two

  pub trace_rest : trace_in old ≡ drop (trace_start old) old
  trace_rest =
      take_all (trace_end old - trace_start old) (drop (trace_start old) old)
      (omega (arith, length-drop (trace_start old) old, ap third_length (outlined old fine).two))

  pub trace_length : length (trace_in old) ≡ length old - trace_start old
  trace_length = ap length trace_rest ∙ length-drop (trace_start old) old

  pub salvaged_length : length (salvaged_file old) ≡ trace_start old + event_size * kept_count events_max (trace_in old)
  unfolding salvaged_file table_at
  salvaged_length =
      length_file Two Nearest (table_in old) (kept_of events_max (trace_in old))
      ∙ omega (arith, kept_size events_max (trace_in old), ap table_start (outlined old fine).two)
