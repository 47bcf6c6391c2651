-- A trace may be taken in pieces: of two, of which the first has whole events, what is kept and what is listed is that of the first, and then that of the second with the room that is left.
use mathlib.Core.Path.{◌≡◌, refl, sym, ap, ◌∙◌}
use mathlib.Core.List.{List, [], ◌∷◌, ◌++◌, append_assoc, append-nil}
use Prim.Native.Nat.{ℕ, ◌+◌, ◌-◌, ◌*◌, ◌%◌, ◌≤◌, ◌<◌}
use native.Mathlib.Omega.{arith}
use borrow.Author.Tests.{lt-ltb, ltb-true}
use lib.Dec.{ltb}
use lib.ListN.{length, take, drop, length-append, length-drop}
use lib.Seq.{take-append-le, drop-append-le, drop-append-add}
use Rattle.table.specs.Fold.{if}
use Rattle.table.proofs.Tests.{same_test}
use Rattle.table.proofs.Folds.{count_agree, count_parts, join_parts}
use Rattle.cells.specs.Cells.{number_at}
use Rattle.cells.proofs.Numbers.{number_before, number_past}
use Rattle.file.specs.File.{event_size}
use Rattle.file.specs.Reading.{event_from, events_in, event_at, formed}
use Rattle.repair.specs.Salvage.{sound_to, is_kept, event_bytes, kept_of, kept_count, dropped_at, drops_to, cuts_of, trace_changes}
use Rattle.repair.specs.Pieces.{changes_in, rest_after}
use Rattle.repair.specs.Laws.{Pieces, Whole, joined, kept_by, count_by, listed_by, PiecesAreWhole}
use Rattle.repair.specs.declared.pieces.Rest.{Rest}
use Rattle.repair.specs.declared.change.Change.{Change}
use Rattle.repair.proofs.Kept.{count_kept, no_cuts}

-- ---- two pieces

module _ (a b : List ℕ) where
  -- the 16 bytes of an event, in the first and in the second
  from_front : (at : ℕ) → at + event_size ≤ length a → event_from (a ++ b) at ≡ event_from a at
  unfolding event_from
  from_front at l =
      rw (
        number_before 2 a b (at + 6) (omega arith),
        number_before 1 a b at (omega arith),
        number_before 1 a b (at + 1) (omega arith),
        number_before 4 a b (at + 2) (omega arith),
        number_before 8 a b (at + 8) (omega arith),
      )

  from_behind : (at : ℕ) → event_from (a ++ b) (length a + at) ≡ event_from b at
  unfolding event_from
  from_behind at =
      let past : (w k : ℕ) → number_at w (a ++ b) (length a + at + k) ≡ number_at w b (at + k)
      = λ w k. let e : length a + at + k ≡ length a + (at + k) = omega arith in rw e (number_past w a b (at + k)) in
      rw (past 2 6, number_past 1 a b at, past 1 1, past 4 2, past 8 8)

  module _ (whole : length a % event_size ≡ 0) where
    -- the event at i of the second is that behind all of the first
    place : (i : ℕ) → event_size * (events_in a + i) ≡ length a + event_size * i
    place i = omega arith

    events_two : events_in (a ++ b) ≡ events_in a + events_in b
    events_two = rw (length-append a b) (omega arith)

    event_front : (i : ℕ) → i < events_in a → event_at (a ++ b) i ≡ event_at a i
    unfolding event_at if
    event_front i l =
        rw (lt-ltb i (events_in (a ++ b)) (omega (arith, events_two)), lt-ltb i (events_in a) l) (from_front (event_size * i) (omega arith))

    event_behind : (i : ℕ) → event_at (a ++ b) (events_in a + i) ≡ event_at b i
    unfolding event_at if
    event_behind i =
        let n = events_in a + i in
        let same : ltb n (events_in (a ++ b)) ≡ ltb i (events_in b)
        = same_test _ _
        (λ h. lt-ltb i (events_in b) (omega (arith, events_two, ltb-true n (events_in (a ++ b)) h)))
        (λ h. lt-ltb n (events_in (a ++ b)) (omega (arith, events_two, ltb-true i (events_in b) h))) in
        rw (same, place i, from_behind (event_size * i))

    bytes_front : (i : ℕ) → i < events_in a → event_bytes (a ++ b) i ≡ event_bytes a i
    bytes_front i l =
        ap (take event_size) (drop-append-le (event_size * i) a b (omega arith))
        ∙ take-append-le event_size (drop (event_size * i) a) b (omega (arith, length-drop (event_size * i) a))

    bytes_behind : (i : ℕ) → event_bytes (a ++ b) (events_in a + i) ≡ event_bytes b i
    bytes_behind i = rw (place i) (ap (take event_size) (drop-append-add a b (event_size * i)))

    sound_front : (n : ℕ) → n ≤ events_in a → sound_to (a ++ b) n ≡ sound_to a n
    sound_front n le =
        count_agree (λ i. formed (event_at (a ++ b) i)) (λ i. formed (event_at a i)) n (λ i l. ap formed (event_front i (omega arith)))

    sound_behind : (n : ℕ) → sound_to (a ++ b) (events_in a + n) ≡ sound_to a (events_in a) + sound_to b n
    sound_behind n =
        count_parts (λ i. formed (event_at (a ++ b) i)) (λ i. formed (event_at a i)) (λ i. formed (event_at b i)) (events_in a) n
        (λ i l. ap formed (event_front i l))
        (λ i l. ap formed (event_behind i))

    module _ (room : ℕ) where
      -- how many of the second may be kept
      abbrev left : ℕ
      left = room - kept_count room a

      kept_front : (i : ℕ) → i < events_in a → is_kept room (a ++ b) i ≡ is_kept room a i
      unfolding is_kept
      kept_front i l = rw (event_front i l, sound_front i (omega arith))

      kept_behind : (i : ℕ) → is_kept room (a ++ b) (events_in a + i) ≡ is_kept left b i
      unfolding is_kept
      kept_behind i =
          let n = sound_to (a ++ b) (events_in a + i) in
          let m = sound_to b i in
          let kept = count_kept room a (events_in a) in
          let same : ltb n room ≡ ltb m left
          = same_test _ _
          (λ h. lt-ltb m left (omega (arith, sound_behind i, kept, ltb-true n room h)))
          (λ h. lt-ltb n room (omega (arith, sound_behind i, kept, ltb-true m left h))) in
          rw (event_behind i, same)

      kept_two : kept_of room (a ++ b) ≡ kept_of room a ++ kept_of left b
      kept_two =
          rw events_two
          (join_parts
          (λ i. if (is_kept room (a ++ b) i) (event_bytes (a ++ b) i) [])
          (λ i. if (is_kept room a i) (event_bytes a i) [])
          (λ i. if (is_kept left b i) (event_bytes b i) [])
          (events_in a)
          (events_in b)
          (λ i l. rw (kept_front i l, bytes_front i l))
          (λ i l. rw (kept_behind i, bytes_behind i)))

      count_two : kept_count room (a ++ b) ≡ kept_count room a + kept_count left b
      count_two =
          rw events_two
          (count_parts (is_kept room (a ++ b)) (is_kept room a) (is_kept left b) (events_in a) (events_in b) kept_front (λ i l. kept_behind i))

      module _ (at : ℕ) where
        drops_two : drops_to room at (a ++ b) (events_in (a ++ b)) ≡ drops_to room at a (events_in a) ++ drops_to left (at + length a) b (events_in b)
        drops_two =
            rw events_two
            (join_parts
            (λ i. if (is_kept room (a ++ b) i) [] (dropped_at (at + event_size * i) ∷ []))
            (λ i. if (is_kept room a i) [] (dropped_at (at + event_size * i) ∷ []))
            (λ i. if (is_kept left b i) [] (dropped_at (at + length a + event_size * i) ∷ []))
            (events_in a)
            (events_in b)
            (λ i l. rw (kept_front i l))
            (λ i l.
            let there : at + event_size * (events_in a + i) ≡ at + length a + event_size * i = omega (arith, place i) in
            rw (kept_behind i, there)))

        cuts_two : cuts_of at (a ++ b) ≡ cuts_of (at + length a) b
        cuts_two =
            let rest : length (a ++ b) % event_size ≡ length b % event_size = rw (length-append a b) (omega arith) in
            let end : at + event_size * events_in (a ++ b) ≡ at + length a + event_size * events_in b = omega (arith, events_two, place (events_in b)) in
            rw (rest, end)

        changes_two : trace_changes room at (a ++ b) ≡ trace_changes room at a ++ trace_changes left (at + length a) b
        unfolding trace_changes
        changes_two =
            let first = drops_to room at a (events_in a) in
            let second = drops_to left (at + length a) b (events_in b) in
            rw (drops_two, no_cuts at a whole, cuts_two, append-nil first) (append_assoc first second (cuts_of (at + length a) b))

-- ---- any number of pieces

kept_by_lem : (pieces : Pieces) (last : List ℕ) → Whole pieces → (room : ℕ) → kept_by room pieces last ≡ kept_of room (joined pieces last)
unfolding Whole joined kept_by
kept_by_lem [] last whole room = refl
kept_by_lem (piece ∷ pieces) last whole room =
    ap (λ (l : List ℕ). kept_of room piece ++ l) (kept_by_lem pieces last whole.1 (room - kept_count room piece))
    ∙ sym (kept_two piece (joined pieces last) whole.0 room)

count_by_lem : (pieces : Pieces) (last : List ℕ) → Whole pieces → (room : ℕ) → count_by room pieces last ≡ kept_count room (joined pieces last)
unfolding Whole joined count_by
count_by_lem [] last whole room = refl
count_by_lem (piece ∷ pieces) last whole room =
    ap (λ (n : ℕ). kept_count room piece + n) (count_by_lem pieces last whole.1 (room - kept_count room piece))
    ∙ sym (count_two piece (joined pieces last) whole.0 room)

listed_by_lem : (pieces : Pieces) (last : List ℕ) → Whole pieces → (rest : Rest) → listed_by rest pieces last ≡ changes_in rest (joined pieces last)
unfolding Whole joined listed_by
listed_by_lem [] last whole rest = refl
listed_by_lem (piece ∷ pieces) last whole rest =
    ap (λ (l : List Change). changes_in rest piece ++ l) (listed_by_lem pieces last whole.1 (rest_after rest piece))
    ∙ sym (changes_two piece (joined pieces last) whole.0 rest.room rest.at)

pub pieces_are_whole : PiecesAreWhole
pieces_are_whole pieces last whole = (kept_by_lem pieces last whole, count_by_lem pieces last whole, listed_by_lem pieces last whole)
