-- What is kept of a trace, said of its events: the first of the sound ones.
use mathlib.Core.Bool.{Bool, true, false, ◌&&◌}
use mathlib.Core.Path.{◌≡◌, refl, sym, ap, ◌∙◌}
use mathlib.Core.Logic.{⊎_elim}
use mathlib.Core.List.{List, [], ◌∷◌, ◌++◌, append-nil}
use Prim.Native.Nat.{ℕ, zero, suc, ◌+◌, min, ◌≤◌, ◌<◌}
use native.Mathlib.Omega.{arith}
use borrow.Author.Tests.{lt-ltb, le-ltb}
use lib.Dec.{ltb}
use lib.ListN.{length, take, length-append, length-take}
use lib.Seq.{take-append-le, take_all, take-nil}
use Rattle.table.specs.Fold.{if, list_to, join_to, count_to}
use Rattle.table.proofs.Tests.{le_or_lt}
use Rattle.cells.specs.Cells.{Bytes}
use Rattle.file.specs.File.{bytes_of, trace_of}
use Rattle.file.specs.Reading.{events_in, event_at, formed}
use Rattle.file.specs.Laws.{AllCoded}
use Rattle.file.specs.declared.event.Event.{Event}
use Rattle.file.proofs.Events.{event_writes_back}
use Rattle.file.proofs.Traces.{coded_append, trace_append}
use Rattle.repair.specs.Salvage.{sound_to, is_kept, event_bytes, kept_to}
use Rattle.repair.specs.Laws.{sound_ones, KeptAreTheFirst}
use Rattle.repair.proofs.Kept.{count_kept}

-- the first k of a list that gets one more: it is among them where there was room
take_snoc : {A : Type 0} (k : ℕ) (xs : List A) (x : A) → take k (xs ++ (x ∷ [])) ≡ take k xs ++ (if (ltb (length xs) k) (x ∷ []) [])
unfolding if
take_snoc k xs x =
    ⊎_elim
    (λ (u : k ≤ length xs). rw (le-ltb (length xs) k u, take-append-le k xs (x ∷ []) u) (sym (append-nil (take k xs))))
    (λ (u : length xs < k).
    rw (lt-ltb (length xs) k u, take_all k xs (omega arith))
    (take_all k (xs ++ (x ∷ [])) (omega (arith, length-append xs (x ∷ [])))))
    (le_or_lt k (length xs))

sound_append : (a b : List Event) → sound_ones (a ++ b) ≡ sound_ones a ++ sound_ones b
unfolding sound_ones if
sound_append [] b = refl
sound_append (e ∷ a) b = go (formed e) (sound_append a b)
  where
    go : (c : Bool) → sound_ones (a ++ b) ≡ sound_ones a ++ sound_ones b
        → if c (e ∷ sound_ones (a ++ b)) (sound_ones (a ++ b)) ≡ if c (e ∷ sound_ones a) (sound_ones a) ++ sound_ones b
    go true h = ap (λ (es : List Event). e ∷ es) h
    go false h = h

pub coded_take : (k : ℕ) (es : List Event) → AllCoded es → AllCoded (take k es)
coded_take zero es c = tt
coded_take (suc k) [] c = tt
coded_take (suc k) (e ∷ es) c = (c.0, coded_take k es c.1)

module _ (trace : List ℕ) where
  -- the sound ones of the first n events
  abbrev sound_first : ℕ → List Event
  sound_first n = sound_ones (list_to (event_at trace) n)

  sound_none : sound_first 0 ≡ []
  unfolding list_to sound_ones
  sound_none = refl

  -- one more event: it is one of them where it is sound
  sound_more : (n : ℕ) → sound_first (suc n) ≡ sound_first n ++ (if (formed (event_at trace n)) (event_at trace n ∷ []) [])
  unfolding list_to sound_ones
  sound_more n = sound_append (list_to (event_at trace) n) (event_at trace n ∷ [])

  sound_length : (n : ℕ) → length (sound_first n) ≡ sound_to trace n
  unfolding count_to if
  sound_length zero = ap length sound_none
  sound_length (suc n) =
      ap length (sound_more n)
      ∙ length-append (sound_first n) (if (formed (event_at trace n)) (event_at trace n ∷ []) [])
      ∙ rw (sound_length n) (go (formed (event_at trace n)))
    where
      go : (b : Bool) → let c = sound_to trace n in c + length (if b (event_at trace n ∷ []) []) ≡ if b (suc c) c
      go true = omega arith
      go false = omega arith

  module _ (bytes : Bytes trace) where
    pub sound_coded : (n : ℕ) → AllCoded (sound_first n)
    unfolding if
    sound_coded zero = rw sound_none tt
    sound_coded (suc n) = rw (sound_more n) (go (formed (event_at trace n)) refl (sound_coded n))
      where
        go : (b : Bool) → formed (event_at trace n) ≡ b → AllCoded (sound_first n) → AllCoded (sound_first n ++ (if b (event_at trace n ∷ []) []))
        go true h c = coded_append (sound_first n) (event_at trace n) c (event_writes_back trace n bytes h).0
        go false h c = rw (append-nil (sound_first n)) c

    -- the next event is kept, and its bytes with it, where it is sound and there is room
    pub kept_first : (room n : ℕ) → kept_to room trace n ≡ trace_of (take room (sound_first n))
    unfolding join_to is_kept if trace_of
    kept_first room zero = rw (sound_none, take-nil room)
    kept_first room (suc n) = rw (kept_first room n, sound_more n) (go (formed (event_at trace n)) refl)
      where
        one : formed (event_at trace n) ≡ true → (c : Bool) → if c (event_bytes trace n) [] ≡ trace_of (if c (event_at trace n ∷ []) [])
        one h true = sym (append-nil (bytes_of (event_at trace n)) ∙ (event_writes_back trace n bytes h).1)
        one h false = refl

        go : (b : Bool) → formed (event_at trace n) ≡ b
            → trace_of (take room (sound_first n)) ++ (if (b && ltb (sound_to trace n) room) (event_bytes trace n) [])
            ≡ trace_of (take room (sound_first n ++ (if b (event_at trace n ∷ []) [])))
        go true h =
            let least = take room (sound_first n) in
            let more = ltb (length (sound_first n)) room in
            rw (← sound_length n)
            (ap (λ (l : List ℕ). trace_of least ++ l) (one h more)
            ∙ sym (ap trace_of (take_snoc room (sound_first n) (event_at trace n)) ∙ trace_append least (if more (event_at trace n ∷ []) [])))
        go false h = append-nil (trace_of (take room (sound_first n))) ∙ ap (λ (es : List Event). trace_of (take room es)) (sym (append-nil (sound_first n)))

pub kept_are_the_first : KeptAreTheFirst
kept_are_the_first room trace bytes =
    let n = events_in trace in (
      kept_first trace bytes room n,
      count_kept room trace n ∙ sym (length-take room (sound_first trace n) ∙ ap (min room) (sound_length trace n)),
    )
