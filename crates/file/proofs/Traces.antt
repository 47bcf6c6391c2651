-- A trace and its events determine each other.
use mathlib.Core.Bool.{true}
use mathlib.Core.Path.{◌≡◌, refl, sym, ap, ◌∙◌}
use mathlib.Core.List.{List, [], ◌∷◌, ◌++◌, append_assoc, append-nil}
use Prim.Native.Nat.{ℕ, zero, suc, ◌+◌, ◌*◌, ◌%◌, ◌≤◌, ◌<◌}
use native.Mathlib.Omega.{arith}
use native.Mathlib.Nat.{not-suc-le-zero, add-zero}
use borrow.Author.Tests.{eq-eqb, le-leb, lt-ltb}
use lib.ListN.{length, get_or, take, drop, length-append}
use lib.Seq.{take-add, take_all, length-take-le, sets-eq, length-sets}
use Rattle.table.specs.Fold.{if, list_to}
use Rattle.table.proofs.Folds.{all_of}
use Rattle.table.proofs.Lists.{relisted}
use Rattle.cells.specs.Cells.{cell, Bytes}
use Rattle.file.specs.File.{event_size, event_cells, bytes_of, trace_of}
use Rattle.file.specs.Reading.{events_in, event_at, formed, is_trace}
use Rattle.file.specs.Writing.{is_storable}
use Rattle.file.specs.Laws.{Coded, StoredReadsBack, AllCoded, TraceReadsBack, TraceWritesBack, read_before, OldTraceReads}
use Rattle.file.specs.declared.event.Event.{Event}
use Rattle.file.specs.declared.event.Event.TheVariants.{Arrival, Turn, OwnTurn, Done, Clock, Malformed}
use Rattle.file.proofs.Columns.{list_agree}
use Rattle.file.proofs.Trace.{trace_of_lem}
use Rattle.file.proofs.Events.{event_reads_back, event_writes_back, six_zeros_read_as_before}
use Rattle.file.proofs.Stores.{stored_there}

-- ---- from events to a trace and back

pub length_event : (e : Event) → Coded e → length (bytes_of e) ≡ event_size
unfolding bytes_of event_cells cell
length_event (Arrival stream place tag) c = refl
length_event Turn c = refl
length_event (OwnTurn stream index) c = refl
length_event (Done duration) c = refl
length_event (Clock time) c = refl
length_event Malformed c = absurd c

-- what has room in its cells has bytes
pub coded_storable : (e : Event) → Coded e → is_storable e ≡ true
unfolding is_storable
coded_storable (Arrival stream place tag) c = le-leb stream 255 (omega (arith, c.0))
coded_storable Turn c = refl
coded_storable (OwnTurn stream index) c = le-leb stream 255 (omega (arith, c.0))
coded_storable (Done duration) c = refl
coded_storable (Clock time) c = refl
coded_storable Malformed c = absurd c

pub stored_reads_back : StoredReadsBack
stored_reads_back trace i e c h =
    let at = event_size * i in
    let size = length_event e c in
    let front : length (take at trace) ≡ at = length-take-le at trace (omega arith) in
    let parts = sets-eq (bytes_of e) trace at (omega (arith, size)) ∙ append_assoc (take at trace) (bytes_of e) (drop (at + length (bytes_of e)) trace) in
    let stored = stored_there trace i e (coded_storable e c) h in
    rw (← stored.1)
    (sym stored.0, ap (λ l. event_at l i) parts ∙ event_reads_back e (take at trace) (drop (at + length (bytes_of e)) trace) i c front, length-sets trace at (bytes_of e))

coded_formed : (e : Event) → Coded e → formed e ≡ true
coded_formed (Arrival stream place tag) c = refl
coded_formed Turn c = refl
coded_formed (OwnTurn stream index) c = refl
coded_formed (Done duration) c = refl
coded_formed (Clock time) c = refl
coded_formed Malformed c = absurd c

length_trace : (es : List Event) → AllCoded es → length (trace_of es) ≡ event_size * length es
unfolding trace_of
length_trace [] c = refl
length_trace (e ∷ es) c =
    length-append (bytes_of e) (trace_of es) ∙ omega (arith, length_event e c.0, length_trace es c.1)

-- each event stands where its index says, also after a run of k others
event_back : (es : List Event) (before : List ℕ) (k : ℕ) → AllCoded es → length before ≡ event_size * k
    → (i : ℕ) → i < length es → (event_at (before ++ trace_of es) (k + i) ≡ get_or es i Malformed) × Coded (get_or es i Malformed)
unfolding trace_of
event_back [] before k c h i l = absurd (not-suc-le-zero l)
event_back (e ∷ es) before k c h zero l = (rw (add-zero k) (event_reads_back e before (trace_of es) k c.0 h), c.0)
event_back (e ∷ es) before k c h (suc i) l =
    let n : length (before ++ bytes_of e) ≡ event_size * suc k = length-append before (bytes_of e) ∙ omega (arith, h, length_event e c.0) in
    let j : k + suc i ≡ suc k + i = omega arith in
    rw (← append_assoc before (bytes_of e) (trace_of es), j) (event_back es (before ++ bytes_of e) (suc k) c.1 n i (omega arith))

pub trace_reads_back : TraceReadsBack
unfolding is_trace
trace_reads_back es c h =
    let n = length_trace es c in
    let count : events_in (trace_of es) ≡ length es = rw n (omega arith) in
    let even : length (trace_of es) % event_size ≡ 0 = rw n (omega arith) in
    let each = event_back es [] 0 c refl in
    let at : (i : ℕ) → i < length es → event_at (trace_of es) i ≡ get_or es i Malformed
    = λ i l. let z : 0 + i ≡ i = omega arith in ap (event_at (trace_of es)) (sym z) ∙ (each i l).0 in
    let all = all_of (λ i. formed (event_at (trace_of es) i)) (length es) (λ i l. ap formed (at i l) ∙ coded_formed (get_or es i Malformed) (each i l).1) in (
      rw (eq-eqb _ _ even, count, le-leb _ _ h, all),
      rw count (list_agree (event_at (trace_of es)) (λ i. get_or es i Malformed) (length es) at ∙ relisted es Malformed (length es) refl),
    )

-- ---- from a trace to events and back

pub trace_append : (a b : List Event) → trace_of (a ++ b) ≡ trace_of a ++ trace_of b
unfolding trace_of
trace_append [] b = refl
trace_append (e ∷ a) b = rw (trace_append a b) (sym (append_assoc (bytes_of e) (trace_of a) (trace_of b)))

pub coded_append : (a : List Event) (e : Event) → AllCoded a → Coded e → AllCoded (a ++ (e ∷ []))
coded_append [] e c d = (d, tt)
coded_append (x ∷ a) e c d = (c.0, coded_append a e c.1 d)

-- the first n events of a trace
front : (trace : List ℕ) → Bytes trace → is_trace trace ≡ true → (n : ℕ) → n ≤ events_in trace
    → AllCoded (list_to (event_at trace) n) × (trace_of (list_to (event_at trace) n) ≡ take (event_size * n) trace)
unfolding list_to trace_of
front trace b h zero l = (tt, refl)
front trace b h (suc n) l =
    let before = front trace b h n (omega arith) in
    let last = event_writes_back trace n b ((trace_of_lem trace h).all_formed n l) in
    let k : event_size * suc n ≡ event_size * n + event_size = omega arith in (
      coded_append (list_to (event_at trace) n) (event_at trace n) before.0 last.0,
      trace_append (list_to (event_at trace) n) (event_at trace n ∷ [])
          ∙ rw (before.1, append-nil (bytes_of (event_at trace n)), last.1, k) (sym (take-add (event_size * n) event_size trace)),
    )

pub trace_writes_back : TraceWritesBack
trace_writes_back trace b h =
    let whole = (trace_of_lem trace h).whole in
    let f = front trace b h (events_in trace) (omega arith) in
    (f.0, f.1 ∙ take_all (event_size * events_in trace) trace (omega (arith, whole)))

-- ---- traces of before there were tags

pub old_trace_reads : OldTraceReads
unfolding is_trace event_at if
old_trace_reads trace old =
    let at : (i : ℕ) → i < events_in trace → event_at trace i ≡ read_before trace (event_size * i)
    = λ i l. rw (lt-ltb i (events_in trace) l) (six_zeros_read_as_before trace (event_size * i) (old.six_zeros i l)) in
    let all = all_of (λ i. formed (event_at trace i)) (events_in trace) (λ i l. ap formed (at i l) ∙ old.of_a_kind i l) in
    (rw (eq-eqb _ _ old.whole_events, le-leb _ _ old.events_high, all), at)
