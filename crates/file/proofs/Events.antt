-- Events and their bytes determine each other.
use mathlib.Core.Bool.{true, not, ◌&&◌, false≢true}
use mathlib.Core.Path.{◌≡◌, refl, sym, ap, ◌∙◌}
use mathlib.Core.List.{List, [], ◌++◌}
use Prim.Native.Nat.{ℕ, suc, ◌+◌, ◌*◌, ◌/◌, ◌^◌, ◌≤◌, ◌<◌}
use native.Mathlib.Omega.{arith}
use native.Mathlib.Nat.{add-zero}
use borrow.Author.Tests.{lt-ltb, eqb-true, eq-eqb, ltb-true, not-false}
use lib.Dec.{ltb, eqb}
use lib.ListN.{length, take, drop, length-append}
use Rattle.table.specs.Fold.{if}
use Rattle.table.proofs.Tests.{both, by_if}
use Rattle.cells.specs.Cells.{cell, number_at, Bytes}
use Rattle.cells.proofs.Numbers.{number_cell, number_past, number_lt, cell_number}
use Rattle.file.specs.File.{event_size, event_cells, bytes_of}
use Rattle.file.specs.Reading.{event_of, event_from, events_in, event_at, formed}
use Rattle.file.specs.Laws.{Coded, EventReadsBack, EventWritesBack, SixZerosReadAsBefore, OthersKeepZeros}
use Rattle.file.specs.declared.event.Event.{Event}
use Rattle.file.specs.declared.event.Event.TheVariants.{Arrival, Turn, OwnTurn, Done, Clock, Malformed}
use Rattle.file.proofs.WriteBack.{glue, piece}

-- ---- from an event to its bytes and back

-- the numbers in an event's cells
cells_read : (kind stream tag value : ℕ) (after : List ℕ) → kind < 256 → stream < 256 → tag < 2 ^ 32 → value < 2 ^ 64
    → let bytes = event_cells kind stream tag value ++ after in
    (number_at 1 bytes 0 ≡ kind)
    × (number_at 1 bytes 1 ≡ stream)
    × (number_at 4 bytes 2 ≡ tag)
    × (number_at 2 bytes 6 ≡ 0)
    × (number_at 8 bytes 8 ≡ value)
unfolding event_cells cell number_at
cells_read kind stream tag value after hk hs ht hv =
    (number_cell 1 kind [] hk, number_cell 1 stream [] hs, number_cell 4 tag [] ht, refl, number_cell 8 value [] hv)

length_cells : (kind stream tag value : ℕ) (after : List ℕ) → length (event_cells kind stream tag value ++ after) ≡ event_size + length after
unfolding event_cells cell
length_cells kind stream tag value after = omega arith

read_back : (kind stream tag value : ℕ) (before after : List ℕ) (i : ℕ)
    → kind < 256 → stream < 256 → tag < 2 ^ 32 → value < 2 ^ 64 → length before ≡ event_size * i
    → event_at (before ++ (event_cells kind stream tag value ++ after)) i ≡ event_of kind stream tag value
unfolding event_at event_from if
read_back kind stream tag value before after i hk hs ht hv e =
    let x = event_cells kind stream tag value ++ after in
    let q = cells_read kind stream tag value after hk hs ht hv in
    let past : (w k : ℕ) → number_at w (before ++ x) (event_size * i + k) ≡ number_at w x k = λ w k. rw (← e) (number_past w before x k) in
    let n : length (before ++ x) ≡ event_size * i + (event_size + length after)
    = length-append before x ∙ omega (arith, e, length_cells kind stream tag value after) in
    rw (
      lt-ltb i (length (before ++ x) / 16) (rw n (omega arith)),
      past 2 6 ∙ q.3,
      sym (ap (number_at 1 (before ++ x)) (add-zero (event_size * i))) ∙ past 1 0 ∙ q.0,
      past 1 1 ∙ q.1,
      past 4 2 ∙ q.2,
      past 8 8 ∙ q.4,
    )

pub event_reads_back : EventReadsBack
unfolding bytes_of event_of if
event_reads_back (Arrival stream place tag) before after i c e = read_back 1 stream tag place before after i (omega arith) c.0 c.2 c.1 e
event_reads_back Turn before after i c e = read_back 2 0 0 0 before after i (omega arith) (omega arith) (omega arith) (omega arith) e
event_reads_back (OwnTurn stream index) before after i c e = read_back 3 stream 0 index before after i (omega arith) c.0 (omega arith) c.1 e
event_reads_back (Done duration) before after i c e = read_back 4 0 0 duration before after i (omega arith) (omega arith) (omega arith) c e
event_reads_back (Clock time) before after i c e = read_back 5 0 0 time before after i (omega arith) (omega arith) (omega arith) c e
event_reads_back Malformed before after i c e = absurd c

-- ---- from bytes to an event and back

-- an event of a kind, a stream, a tag and a value that is not malformed has these in its cells
unfoldable OfCells : ℕ → ℕ → ℕ → ℕ → Event → Type 0
OfCells kind stream tag value e = formed e ≡ true → Coded e × (bytes_of e ≡ event_cells kind stream tag value)

no_event : (kind stream tag value : ℕ) → OfCells kind stream tag value Malformed
unfolding OfCells
no_event kind stream tag value f = absurd (false≢true f)

of_cells : (kind stream tag value : ℕ) → stream < 256 → tag < 2 ^ 32 → value < 2 ^ 64
    → OfCells kind stream tag value (event_of kind stream tag value)
unfolding event_of bytes_of OfCells
of_cells kind stream tag value hs ht hv =
    let P = OfCells kind stream tag value in
    by_if P (eqb kind 1) (Arrival stream value tag) _ (λ h _. ((hs, hv, ht), rw (eqb-true kind 1 h)))
    (λ _.
    by_if P (not (eqb tag 0)) Malformed _ (λ _. no_event kind stream tag value)
    (λ t.
    let none = eqb-true tag 0 (not-false _ t) in
    by_if P (eqb kind 2 && eqb stream 0 && eqb value 0) Turn _
    (λ h _.
    let a = both (eqb kind 2 && eqb stream 0) (eqb value 0) h in
    let b = both (eqb kind 2) (eqb stream 0) a.0 in
    (tt, rw (none, eqb-true kind 2 b.0, eqb-true stream 0 b.1, eqb-true value 0 a.1)))
    (λ _.
    by_if P (eqb kind 3) (OwnTurn stream value) _ (λ h _. ((hs, hv), rw (none, eqb-true kind 3 h)))
    (λ _.
    by_if P (eqb kind 4 && eqb stream 0) (Done value) _
    (λ h _. let a = both (eqb kind 4) (eqb stream 0) h in (hv, rw (none, eqb-true kind 4 a.0, eqb-true stream 0 a.1)))
    (λ _.
    by_if P (eqb kind 5 && eqb stream 0) (Clock value) Malformed
    (λ h _. let a = both (eqb kind 5) (eqb stream 0) h in (hv, rw (none, eqb-true kind 5 a.0, eqb-true stream 0 a.1)))
    (λ _. no_event kind stream tag value))))))

-- the cells of the numbers that were read are the bytes that they were read from
cells_there : (trace : List ℕ) (at : ℕ) → Bytes trace → at + event_size ≤ length trace → number_at 2 trace (at + 6) ≡ 0
    → event_cells (number_at 1 trace at) (number_at 1 trace (at + 1)) (number_at 4 trace (at + 2)) (number_at 8 trace (at + 8))
    ≡ take event_size (drop at trace)
unfolding event_cells
cells_there trace at b h z =
    rw (
      cell_number 1 trace at b (omega arith),
      cell_number 1 trace (at + 1) b (omega arith),
      cell_number 4 trace (at + 2) b (omega arith),
      piece trace b 2 (at + 6) 0 z (omega arith),
      cell_number 8 trace (at + 8) b (omega arith),
      glue at 1 1 trace,
      glue at 2 4 trace,
      glue at 6 2 trace,
      glue at 8 8 trace,
    )

pub event_writes_back : EventWritesBack
unfolding event_at event_from OfCells
event_writes_back trace i b =
    let at = event_size * i in
    let kind = number_at 1 trace at in
    let stream = number_at 1 trace (at + 1) in
    let tag = number_at 4 trace (at + 2) in
    let value = number_at 8 trace (at + 8) in
    let P : Event → Type 0 = λ e. formed e ≡ true → Coded e × (bytes_of e ≡ take event_size (drop at trace)) in
    let none : P Malformed = λ f. absurd (false≢true f) in
    by_if P (ltb i (events_in trace)) (event_from trace at) Malformed
    (λ l.
    by_if P (eqb (number_at 2 trace (at + 6)) 0) (event_of kind stream tag value) Malformed
    (λ z f.
    let q = of_cells kind stream tag value (number_lt 1 trace (at + 1) b) (number_lt 4 trace (at + 2) b) (number_lt 8 trace (at + 8) b) f in
    (q.0, q.1 ∙ cells_there trace at b (omega (arith, ltb-true i (events_in trace) l)) (eqb-true _ _ z)))
    (λ _. none))
    (λ _. none)

-- ---- the six bytes after the stream

-- they are a tag and two bytes more
six_bytes : (trace : List ℕ) (at : ℕ) → number_at 6 trace (at + 2) ≡ number_at 2 trace (at + 6) * 256 ^ 4 + number_at 4 trace (at + 2)
unfolding number_at
six_bytes trace at =
    let e : at + 6 ≡ suc (suc (suc (suc (at + 2)))) = omega arith in
    rw e (omega arith)

pub six_zeros_read_as_before : SixZerosReadAsBefore
unfolding event_from if
six_zeros_read_as_before trace at z =
    let six = six_bytes trace at in
    let tag : number_at 4 trace (at + 2) ≡ 0 = omega (arith, six, z) in
    let rest : number_at 2 trace (at + 6) ≡ 0 = omega (arith, six, z) in
    rw (eq-eqb _ _ rest, tag)

-- what is no arrival has no tag
no_tag : (kind stream tag value : ℕ) → formed (event_of kind stream tag value) ≡ true → (kind ≡ 1 → ⊥) → tag ≡ 0
unfolding event_of
no_tag kind stream tag value f one =
    let P : Event → Type 0 = λ e. formed e ≡ true → tag ≡ 0 in
    by_if P (eqb kind 1) (Arrival stream value tag) _ (λ h _. absurd (one (eqb-true kind 1 h)))
    (λ _. by_if P (not (eqb tag 0)) Malformed _ (λ _ m. absurd (false≢true m)) (λ t _. eqb-true tag 0 (not-false _ t)))
    f

pub others_keep_zeros : OthersKeepZeros
unfolding event_from
others_keep_zeros trace at f one =
    let kind = number_at 1 trace at in
    let stream = number_at 1 trace (at + 1) in
    let tag = number_at 4 trace (at + 2) in
    let value = number_at 8 trace (at + 8) in
    by_if (λ (e : Event). formed e ≡ true → number_at 6 trace (at + 2) ≡ 0)
    (eqb (number_at 2 trace (at + 6)) 0) (event_of kind stream tag value) Malformed
    (λ z g. omega (arith, six_bytes trace at, eqb-true (number_at 2 trace (at + 6)) 0 z, no_tag kind stream tag value g one))
    (λ _ m. absurd (false≢true m))
    f
