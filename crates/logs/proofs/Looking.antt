-- The search for a line among those that may stand next, and the lines that may, step by step.
use mathlib.Core.Bool.{Bool, true, false, not, ◌&&◌, false≢true}
use mathlib.Core.List.{List, [], ◌∷◌, map}
use mathlib.Core.Path.{◌≡◌, refl, sym, ap, ◌∙◌}
use Prim.Native.Nat.{ℕ, zero, suc, ◌+◌, ◌-◌, ◌≤◌, ◌<◌}
use native.Mathlib.Omega.{arith}
use lib.ListN.{get_or}
use lib.Dec.{leb, eqb}
use borrow.Author.Tests.{leb-true, leb-false, ne_eqb}
use Rattle.std.specs.Prelude.{Option, None, Some}
use Rattle.std.specs.Option.{is_some}
use Rattle.table.specs.Fold.{if}
use Rattle.table.proofs.Tests.{both, by_if}
use Rattle.session.specs.declared.Session.{Session}
use Rattle.file.specs.Reading.{events_in}
use Rattle.table.specs.declared.refusal.Refusal.TheVariants.{Streams, Worst, Span, Padding, Period, Budget, Load}
use Rattle.file.specs.declared.refusal.Refusal.TheVariants.{Layout as NotLaidOut, Room as NoRoom}
use Rattle.trace.specs.Refusal.{refusal_number}
use Rattle.trace.specs.declared.refusal.Refusal.{Refusal}
use Rattle.listing.specs.Line.{rendered, accepted_fields, place_fields}
use Rattle.logs.specs.Choices.{is_choice, stream_of_cell, index_of_cell, cells_max, own_turn_of, choices_from}
use Rattle.logs.specs.Lines.{same_bytes}
use Rattle.logs.specs.Following.{number_of, awaited, Next, next_by, nexts_at, nexts, lines_of_nexts, first_that_is, followed, with_line, is_nothing, is_whole, checked_by, report_of}
use Rattle.logs.specs.Inner.{only_at}
use Rattle.file.specs.declared.event.Event.{Event}
use Rattle.logs.specs.declared.Follower.{Follower}
use Rattle.logs.specs.declared.Awaited.{Awaited}
use Rattle.logs.specs.declared.Awaited.TheVariants.{First, Event as EventAt}

-- whether nothing is due, by the test for some
pub nothing_is : (a : Option Awaited) (b : Bool) → is_some a ≡ not b → b ≡ is_nothing a
nothing_is (Some First) true e = absurd (false≢true (sym e))
nothing_is (Some First) false e = refl
nothing_is (Some (EventAt i)) true e = absurd (false≢true (sym e))
nothing_is (Some (EventAt i)) false e = refl
nothing_is None true e = refl
nothing_is None false e = absurd (false≢true e)

-- a refusal has a number
pub some_number : (r : Refusal) → eqb (refusal_number r) 0 ≡ false
some_number (Refusal.File NotLaidOut) = refl
some_number (Refusal.File NoRoom) = refl
some_number (Refusal.Table Streams) = refl
some_number (Refusal.Table Worst) = refl
some_number (Refusal.Table Span) = refl
some_number (Refusal.Table Padding) = refl
some_number (Refusal.Table Period) = refl
some_number (Refusal.Table Budget) = refl
some_number (Refusal.Table (Load m)) = refl

-- so it is 0 where there is none
pub none_refused : (r : Option Refusal) (b : Bool) → is_some r ≡ not b → b ≡ eqb (number_of r) 0
none_refused None true e = refl
none_refused None false e = absurd (false≢true e)
none_refused (Some r) true e = absurd (false≢true (sym e))
none_refused (Some r) false e = sym (some_number r)

-- what the first of some finds is found, and else it is looked for among the others
module _ (line : List ℕ) (x : Next) (rest : List Next) where
  pub found_first : (s : Session) → first_that_is line (x ∷ []) ≡ Some s → first_that_is line (x ∷ rest) ≡ Some s
  unfolding first_that_is if
  found_first s h = go (same_bytes line (rendered x.fields)) refl h
    where
      go : (b : Bool) → same_bytes line (rendered x.fields) ≡ b → first_that_is line (x ∷ []) ≡ Some s → first_that_is line (x ∷ rest) ≡ Some s
      go true e h = rw e (rw e at h)
      go false e h = let never : None ≡ Some s = rw e at h in cc

  pub found_later : first_that_is line (x ∷ []) ≡ None → first_that_is line (x ∷ rest) ≡ first_that_is line rest
  unfolding first_that_is if
  found_later h = go (same_bytes line (rendered x.fields)) refl h
    where
      go : (b : Bool) → same_bytes line (rendered x.fields) ≡ b → first_that_is line (x ∷ []) ≡ None → first_that_is line (x ∷ rest) ≡ first_that_is line rest
      go true e h = let never : Some x.session ≡ None = rw e at h in cc
      go false e h = rw e

-- a line of some, past the first
pub line_after : (first : List ℕ) (rest : List (List ℕ)) (k : ℕ) → (k ≡ 0 → ⊥) → get_or (first ∷ rest) k [] ≡ get_or rest (k - 1) []
line_after first rest zero later = absurd (later refl)
line_after first rest (suc k) later = let less : suc k - 1 ≡ k = omega arith in rw less

-- the requests that may be sent, of the cells from m on
abbrev pub choices_at : Session → ℕ → ℕ → List Next
choices_at s n m = map (next_by s n) (choices_from s m (cells_max - m))

module _ (s : Session) (n m : ℕ) (l : m < cells_max) where
  one_less : cells_max - m ≡ suc (cells_max - (m + 1))
  one_less = omega arith

  pub choice_here : is_choice s (stream_of_cell m) (index_of_cell m) ≡ true → choices_at s n m ≡ next_by s n (own_turn_of m) ∷ choices_at s n (m + 1)
  unfolding choices_from if
  choice_here e = rw (one_less, e)

  pub choice_past : is_choice s (stream_of_cell m) (index_of_cell m) ≡ false → choices_at s n m ≡ choices_at s n (m + 1)
  unfolding choices_from if
  choice_past e = rw (one_less, e)

-- past the last cell there is none
pub choices_end : (s : Session) (n m : ℕ) → cells_max ≤ m → choices_at s n m ≡ []
unfolding choices_from
choices_end s n m past = let none : cells_max - m ≡ 0 = omega arith in rw none

-- looking for a line, and for line k: a cell with no choice is passed; at a choice its line is the one, or the next is looked at
module _ (s : Session) (n m : ℕ) (l : m < cells_max) where
  module _ (none : is_choice s (stream_of_cell m) (index_of_cell m) ≡ false) where
    pub search_passes : (line : List ℕ) → first_that_is line (choices_at s n m) ≡ first_that_is line (choices_at s n (m + 1))
    search_passes line = ap (first_that_is line) (choice_past s n m l none)

    pub line_passes : (k : ℕ) → get_or (lines_of_nexts (choices_at s n m)) k [] ≡ get_or (lines_of_nexts (choices_at s n (m + 1))) k []
    line_passes k = ap (λ (xs : List Next). get_or (lines_of_nexts xs) k []) (choice_past s n m l none)

  module _ (some : is_choice s (stream_of_cell m) (index_of_cell m) ≡ true) {event : Event} (is : event ≡ own_turn_of m) where
    here : choices_at s n m ≡ next_by s n event ∷ choices_at s n (m + 1)
    here = choice_here s n m l some ∙ ap (λ (e : Event). next_by s n e ∷ choices_at s n (m + 1)) (sym is)

    module _ (line : List ℕ) {found : Option Session} (looked : found ≡ first_that_is line (next_by s n event ∷ [])) where
      pub search_hits : true ≡ is_some found → first_that_is line (choices_at s n m) ≡ found
      search_hits = go found refl
        where
          go : (x : Option Session) → found ≡ x → true ≡ is_some x → first_that_is line (choices_at s n m) ≡ found
          go (Some after) e some =
              ap (first_that_is line) here ∙ found_first line (next_by s n event) (choices_at s n (m + 1)) after (sym looked ∙ e) ∙ sym e
          go None e some = absurd (false≢true (sym some))

      pub search_misses : false ≡ is_some found → first_that_is line (choices_at s n m) ≡ first_that_is line (choices_at s n (m + 1))
      search_misses = go found refl
        where
          go : (x : Option Session) → found ≡ x → false ≡ is_some x
              → first_that_is line (choices_at s n m) ≡ first_that_is line (choices_at s n (m + 1))
          go (Some after) e none = absurd (false≢true none)
          go None e none = ap (first_that_is line) here ∙ found_later line (next_by s n event) (choices_at s n (m + 1)) (sym looked ∙ e)

    pub line_here : (k : ℕ) → k ≡ 0 → get_or (lines_of_nexts (choices_at s n m)) k [] ≡ rendered (next_by s n event).fields
    line_here k first = ap (λ (xs : List Next). get_or (lines_of_nexts xs) k []) here ∙ rw first

    pub line_later : (k : ℕ) → (k ≡ 0 → ⊥) → get_or (lines_of_nexts (choices_at s n m)) k [] ≡ get_or (lines_of_nexts (choices_at s n (m + 1))) (k - 1) []
    line_later k later = ap (λ (xs : List Next). get_or (lines_of_nexts xs) k []) here ∙ line_after (rendered (next_by s n event).fields) (lines_of_nexts (choices_at s n (m + 1))) k later

-- the line of an event is due only where there is such an event
pub due_event : (f : Follower) (trace : List ℕ) (i : ℕ) → awaited f trace ≡ Some (EventAt i) → i + 1 ≤ events_in trace
unfolding awaited
due_event f trace i h =
    by_if (λ (a : Option Awaited). a ≡ Some (EventAt i) → i + 1 ≤ events_in trace) (leb f.due 1) _ _
    (λ low e. absurd (let never : ◌≡◌ {A = ℕ} 0 1 = cc in omega arith))
    (λ high. by_if (λ (a : Option Awaited). a ≡ Some (EventAt i) → i + 1 ≤ events_in trace)
    (eqb (number_of f.refusal) 0 && leb (f.due - 1) (events_in trace)) _ _
    (λ there e.
    let is : f.due - 2 ≡ i = cc in
    omega (arith, leb-false f.due 1 high, leb-true (f.due - 1) (events_in trace) (both (eqb (number_of f.refusal) 0) (leb (f.due - 1) (events_in trace)) there).1))
    (λ none e. absurd (let never : ◌≡◌ {A = ℕ} 0 1 = cc in omega arith)))
    h

-- a line that is found was due: it is the first, or that of an event
pub found_due : (f : Follower) (trace line : List ℕ) (s : Session) → first_that_is line (nexts f trace) ≡ Some s → (f.due - 1 ≤ events_in trace)
unfolding awaited first_that_is
found_due f trace line s h =
    by_if (λ (a : Option Awaited). first_that_is line (nexts_at f trace a) ≡ Some s → f.due - 1 ≤ events_in trace)
    (leb f.due 1) _ _
    (λ low g. omega (arith, leb-true f.due 1 low))
    (λ high. by_if (λ (a : Option Awaited). first_that_is line (nexts_at f trace a) ≡ Some s → f.due - 1 ≤ events_in trace)
    (eqb (number_of f.refusal) 0 && leb (f.due - 1) (events_in trace)) _ _
    (λ there g. leb-true (f.due - 1) (events_in trace) (both (eqb (number_of f.refusal) 0) (leb (f.due - 1) (events_in trace)) there).1)
    (λ none g. let never : None ≡ Some s = g in cc))
    h

-- one line more, where a line did not follow before, where it is found, and where it is not
pub with_failed : (f : Follower) (trace line : List ℕ) → f.failed ≡ true → with_line f trace line ≡ f
unfolding with_line if
with_failed f trace line e = rw e

pub with_search : (f : Follower) (trace line : List ℕ) (found : Option Session) → f.failed ≡ false → first_that_is line (nexts f trace) ≡ found
    → with_line f trace line ≡ followed f found
unfolding with_line
with_search f trace line found on is =
    by_if (λ (g : Follower). g ≡ followed f found) f.failed f _ (λ e. absurd (false≢true (sym on ∙ e))) (λ _. ap (followed f) is)

-- line k of a single one
pub only_line : (line : List ℕ) (k : ℕ) → only_at line k ≡ get_or (line ∷ []) k []
unfolding only_at if
only_line line zero = refl
only_line line (suc k) = rw (ne_eqb (suc k) 0 (λ e. omega arith))

-- what is said of a listing, where it is whole and where it is not
module _ (f : Follower) (trace left : List ℕ) where
  pub report_accepted : is_whole f trace left ≡ true → report_of (checked_by f trace left) ≡ rendered accepted_fields ∷ []
  unfolding checked_by report_of if
  report_accepted e = rw e

  pub report_rejected : is_whole f trace left ≡ false → report_of (checked_by f trace left) ≡ rendered (place_fields f.due) ∷ lines_of_nexts (nexts f trace)
  unfolding checked_by report_of if
  report_rejected e = rw e
