-- A stream whose cells are sound, test by test: what each test says, and that these facts make them sound.
use mathlib.Core.Bool.{Bool, true, false, ◌&&◌, ◌||◌}
use mathlib.Core.List.{List}
use mathlib.Core.Path.{◌≡◌, refl, sym, ap, ◌∙◌}
use mathlib.Core.Logic.{⊎_elim}
use Prim.Native.Nat.{ℕ, ◌+◌, ◌-◌, ◌*◌, ◌/◌, ◌≤◌, ◌<◌}
use native.Mathlib.Numerals.{add-one}
use native.Mathlib.Omega.{arith}
use lib.ListN.{length, get_or, take, drop, replicate, get_or-replicate}
use Rattle.std.proofs.lemmas.List.{get_or-take, get_or-drop, length-take, length-drop}
use lib.Dec.{leb, ltb, eqb}
use borrow.Author.Tests.{leb-true, eqb-true, le-leb, lt-ltb, le-ltb, eq-eqb}
use Rattle.table.specs.Ranges.{worst_max}
use Rattle.table.specs.Admission.{granted_of, share_of, stream_refusal}
use Rattle.table.specs.Fold.{all_to}
use Rattle.table.proofs.Tests.{both, used_or_zero, le_or_lt, same_test}
use Rattle.table.proofs.Folds.{all_at, all_of}
use Rattle.table.proofs.Judged.{FitsIn, stream_of as fits_of}
use Rattle.time.specs.Time.{session_end, duration_max}
use Rattle.stream.specs.Stream.{queue_max, fresh_stream, worked, closed, sound_row, sound_queue, sound_cells, sound_stream}
use Rattle.stream.specs.Bounds.{Bounded}
use Rattle.stream.specs.Search.{in_order}
use Rattle.time.specs.declared.Clock.{Clock}
use Rattle.stream.specs.declared.Stream.{Stream}

-- a row of a queue: its places, or its tags
pub record Row (queued : ℕ) (cells : List ℕ) : Type 0 where
  pub queued_high : queued ≤ queue_max
  pub sixteen : length cells ≡ queue_max
  pub unused : (j : ℕ) → queued ≤ j → j < queue_max → get_or cells j 0 ≡ 0

pub row_of : (queued : ℕ) (cells : List ℕ) → sound_row cells queued ≡ true → Row queued cells
unfolding sound_row
row_of queued cells h =
    let a = both _ _ h in
    let b = both _ _ a.0 in
    record {
      queued_high = leb-true _ _ b.1;
      sixteen = eqb-true _ _ b.0;
      unused = λ j past l. eqb-true _ _ (used_or_zero _ _ (all_at _ queue_max a.1 j l) (le-ltb j queued past));
    }

pub or_right : (a b : Bool) → b ≡ true → (a || b) ≡ true
or_right true b h = refl
or_right false b h = h

pub of_row : (queued : ℕ) (cells : List ℕ) → Row queued cells → sound_row cells queued ≡ true
unfolding sound_row
of_row queued cells q =
    rw (eq-eqb _ _ q.sixteen, le-leb _ _ q.queued_high)
    (all_of (λ j. ltb j queued || eqb (get_or cells j 0) 0) queue_max
    (λ j l.
    ⊎_elim
    (λ (past : queued ≤ j). or_right (ltb j queued) _ (eq-eqb _ _ (q.unused j past l)))
    (λ (here : j < queued). rw (lt-ltb j queued here))
    (le_or_lt queued j)))

-- the first n cells of some are 0
abbrev pub clear_to : List ℕ → ℕ → Bool
clear_to cells n = all_to (λ j. eqb (get_or cells j 0) 0) n

pub clear_more : (cells : List ℕ) (i : ℕ) (clear : Bool) → clear ≡ clear_to cells i → (clear && eqb (get_or cells i 0) 0) ≡ clear_to cells (i + 1)
unfolding all_to
clear_more cells i clear e = rw (e, add-one)

-- a row of sixteen is sound exactly if the cells past its requests are 0
module _ (queued : ℕ) (cells : List ℕ) (sixteen : length cells ≡ queue_max) (few : queued ≤ queue_max) where
  abbrev pub past_queued : List ℕ
  past_queued = take (queue_max - queued) (drop queued cells)

  pub long : length past_queued ≡ queue_max - queued
  long = omega (arith, sixteen, length-take (queue_max - queued) (drop queued cells), length-drop queued cells)

  cell : (j : ℕ) → j < queue_max - queued → get_or past_queued j 0 ≡ get_or cells (queued + j) 0
  cell j l = get_or-take (queue_max - queued) (drop queued cells) j 0 l ∙ get_or-drop queued cells j 0

  pub row_is : clear_to past_queued (length past_queued) ≡ sound_row cells queued
  row_is =
      same_test _ _
      (λ clear.
      let unused : (j : ℕ) → queued ≤ j → j < queue_max → get_or cells j 0 ≡ 0 = λ j past l.
      let behind : queued + (j - queued) ≡ j = omega arith in
      let here : j - queued < queue_max - queued = omega arith in
      ap (λ n. get_or cells n 0) (sym behind) ∙ sym (cell (j - queued) here) ∙ eqb-true _ _ (all_at (λ k. eqb (get_or past_queued k 0) 0) (length past_queued) clear (j - queued) (omega (arith, long))) in
      of_row queued cells (record { queued_high = few; sixteen = sixteen; unused = unused }))
      (λ sound.
      let row = row_of queued cells sound in
      all_of (λ k. eqb (get_or past_queued k 0) 0) (length past_queued)
      (λ k l.
      let here : k < queue_max - queued = omega (arith, l, long) in
      eq-eqb _ _ (cell k here ∙ row.unused (queued + k) (omega arith) (omega arith))))

-- both of them
pub record Queue (queued : ℕ) (at aside : List ℕ) : Type 0 where
  pub places : Row queued at
  pub tags : Row queued aside

pub queue_of : (queued : ℕ) (places tags : List ℕ) → sound_queue places tags queued ≡ true → Queue queued places tags
unfolding sound_queue
queue_of queued places tags h =
    let rows = both _ _ h in
    record { places = row_of queued places rows.0; tags = row_of queued tags rows.1 }

of_queue : (queued : ℕ) (places tags : List ℕ) → Queue queued places tags → sound_queue places tags queued ≡ true
unfolding sound_queue
of_queue queued places tags q = rw (of_row queued places q.places, of_row queued tags q.tags)

pub record InOrder (worst k h : ℕ) (x : Stream) : Type 0 where
  pub budget : x.granted.0 ≡ granted_of worst k x.reserved
  pub due : x.deadline.0 ≡ x.release.0 + x.period
  pub released : x.release.0 ≤ h
  pub deadline_high : x.deadline.0 ≤ session_end
  pub charge_high : x.charge.0 ≤ x.granted.0 + duration_max
  pub covered : x.start.0 + worst * x.expired ≤ x.charge.0
  pub queue : Queue x.queued x.places x.tags

pub stream_of : (worst k h : ℕ) (x : Stream) → sound_stream worst k h x ≡ true → InOrder worst k h x
unfolding sound_stream sound_cells
stream_of worst k h x t =
    let release = both _ _ t in
    let queue = both _ _ release.0 in
    let covered = both _ _ queue.0 in
    let charge = both _ _ covered.0 in
    let deadline = both _ _ charge.0 in
    let due = both _ _ deadline.0 in
    record {
      budget = eqb-true _ _ due.0;
      due = eqb-true _ _ due.1;
      released = leb-true _ _ release.1;
      deadline_high = leb-true _ _ deadline.1;
      charge_high = leb-true _ _ charge.1;
      covered = leb-true _ _ covered.1;
      queue = queue_of _ _ _ queue.1;
    }

pub of_stream : (worst k h : ℕ) (x : Stream) → InOrder worst k h x → sound_stream worst k h x ≡ true
unfolding sound_stream sound_cells
of_stream worst k h x q =
    rw (
      eq-eqb _ _ q.budget,
      eq-eqb _ _ q.due,
      le-leb _ _ q.deadline_high,
      le-leb _ _ q.charge_high,
      le-leb _ _ q.covered,
      of_queue _ _ _ q.queue,
      le-leb _ _ q.released,
    )

-- A stream in order stays so: at a later horizon, with another charge and queue, and with its job closed. A fresh one is in order.
module _ (worst k h : ℕ) (x : Stream) (q : InOrder worst k h x) where
  pub later_order : (later : ℕ) → h ≤ later → InOrder worst k later x
  later_order later le =
      record {
        budget = q.budget;
        due = q.due;
        released = omega (arith, q.released, le);
        deadline_high = q.deadline_high;
        charge_high = q.charge_high;
        covered = q.covered;
        queue = q.queue;
      }

  pub worked_order : (charge expired queued : ℕ) (places tags : List ℕ) → charge ≤ x.granted.0 + duration_max → x.start.0 + worst * expired ≤ charge
      → Queue queued places tags → InOrder worst k h (worked x charge expired queued places tags)
  worked_order charge expired queued places tags high low queue =
      record {
        budget = q.budget;
        due = q.due;
        released = q.released;
        deadline_high = q.deadline_high;
        charge_high = high;
        covered = low;
        queue = queue;
      }

  pub closed_order : (now : Clock) (later : ℕ) → x.deadline.0 ≤ later → x.deadline.0 + x.period ≤ session_end → InOrder worst k later (closed now x)
  unfolding closed
  closed_order now later le in_time =
      record {
        budget = q.budget;
        due = refl;
        released = le;
        deadline_high = in_time;
        charge_high = omega (arith, q.charge_high);
        covered = omega arith;
        queue = q.queue;
      }

no_request : Row 0 (replicate queue_max 0)
no_request = record { queued_high = omega arith; sixteen = refl; unused = λ j past m. get_or-replicate queue_max j 0 0 m }

pub fresh_order : (worst k h e p : ℕ) → p ≤ session_end → InOrder worst k h (fresh_stream e p (granted_of worst k e))
unfolding fresh_stream
fresh_order worst k h e p high =
    record {
      budget = refl;
      due = omega arith;
      released = omega arith;
      deadline_high = high;
      charge_high = omega arith;
      covered = omega arith;
      queue = record { places = no_request; tags = no_request };
    }

-- A used stream, by its reservation and its cells: what the inner functions ask, and what is tested of it.
granted_low : (worst k e : ℕ) → (e ≡ 0 → ⊥) → 1 ≤ granted_of worst k e
unfolding granted_of
granted_low worst k e ne = omega arith

module _ (worst span k h : ℕ) (x : Stream) where
  pub bounded_of : 1 ≤ worst → worst ≤ worst_max → FitsIn worst span k x.reserved x.period → InOrder worst k h x → h ≤ x.deadline.0 → Bounded worst h x
  bounded_of low high fits q ahead =
      record {
        worst_low = low;
        worst_high = high;
        period_low = fits.period_low;
        period_high = fits.period_high;
        budget_low = rw q.budget (granted_low worst k x.reserved fits.reserved_low);
        budget_high = rw q.budget fits.budget;
        due = q.due;
        deadline_high = q.deadline_high;
        released = q.released;
        ahead = ahead;
        charge_high = q.charge_high;
        covered = q.covered;
        queued_high = q.queue.places.queued_high;
      }

  pub of_order : stream_refusal worst span k x.reserved x.period ≡ 0 → InOrder worst k h x → h ≤ x.deadline.0 → in_order worst span k h x ≡ true
  unfolding in_order
  of_order none q ahead = rw (eq-eqb _ _ none, of_stream worst k h x q, le-leb _ _ ahead)

  module _ (t : in_order worst span k h x ≡ true) where
    tests : (eqb (stream_refusal worst span k x.reserved x.period) 0 && sound_stream worst k h x ≡ true) × (leb h x.deadline.0 ≡ true)
    unfolding in_order
    tests = both _ _ t

    parts : (eqb (stream_refusal worst span k x.reserved x.period) 0 ≡ true) × (sound_stream worst k h x ≡ true)
    parts = both _ _ tests.0

    pub order_none : stream_refusal worst span k x.reserved x.period ≡ 0
    order_none = eqb-true _ _ parts.0

    pub order_fits : FitsIn worst span k x.reserved x.period
    order_fits = fits_of worst span k x.reserved x.period order_none

    pub order_cells : InOrder worst k h x
    order_cells = stream_of worst k h x parts.1

    pub order_ahead : h ≤ x.deadline.0
    order_ahead = leb-true _ _ tests.1

    pub order_share : x.granted.0 * (span / x.period) ≡ share_of worst span k x.reserved x.period
    unfolding share_of
    order_share = rw order_cells.budget

    pub order_bounded : 1 ≤ worst → worst ≤ worst_max → Bounded worst h x
    order_bounded low high = bounded_of low high order_fits order_cells order_ahead
