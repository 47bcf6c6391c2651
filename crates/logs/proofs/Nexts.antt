-- The lines that may stand next: each has one newline, its last byte; they tell what comes after them; and there is one wherever a line is due.
use mathlib.Core.Bool.{Bool, true, false, ◌&&◌, true≢false}
use mathlib.Core.List.{List, [], ◌∷◌, map}
use mathlib.Core.Logic.{⊎_elim}
use mathlib.Core.Path.{◌≡◌, sym, ap, subst, ◌∙◌}
use Prim.Native.Nat.{ℕ, zero, suc, ◌+◌, ◌-◌, ◌≤◌, ◌<◌}
use native.Mathlib.Omega.{arith}
use lib.Dec.{leb, eqb}
use borrow.Author.Tests.{le-leb, lt-leb}
use Rattle.table.specs.Fold.{if}
use Rattle.table.proofs.Tests.{by_if, le_or_lt}
use Rattle.session.specs.declared.Session.{Session}
use Rattle.file.specs.Reading.{event_at, events_in}
use Rattle.file.specs.declared.event.Event.{Event}
use Rattle.listing.specs.Line.{ascii, rendered, event_fields, worded_fields, refused_fields}
use Rattle.listing.specs.Laws.{Each, Field}
use Rattle.listing.proofs.Lines.{decimal_fields, prints_fields, newline_ends, OneNewline}
use Rattle.trace.specs.Trace.{applied, fields_of}
use Rattle.logs.specs.Choices.{may_be}
use Rattle.logs.specs.Follow.{Among, line_by}
use Rattle.logs.specs.Following.{number_of, over_of, awaited, Next, first_fields, next_by, nexts_at, nexts, lines_of_nexts, is_nothing}
use Rattle.logs.specs.Laws.{Once}
use Rattle.logs.specs.declared.Follower.{Follower}
use Rattle.std.specs.Prelude.{Option, None, Some}
use Rattle.logs.specs.declared.Awaited.{Awaited}
use Rattle.logs.specs.declared.Awaited.TheVariants.{First, Event as EventAt}
use Rattle.logs.proofs.Choosing.{itself_may_be, lines_tell_choices, choices_once}
use Rattle.logs.proofs.Members.{map_among, among_map, Tells, once_map, among_one, one_among, once_one}

-- ---- how many lines are due

-- of a whole listing: the header and one for each event, or that of a refusal
unfoldable pub all_lines : Bool → List ℕ → ℕ
all_lines opened trace = if opened (suc (events_in trace)) 1

-- and from the one on that is due
unfoldable pub lacking : Follower → List ℕ → ℕ
lacking f trace = suc (all_lines (eqb (number_of f.refusal) 0) trace) - f.due

pub none_due : (f : Follower) (trace : List ℕ) → lacking f trace ≡ 0 → awaited f trace ≡ None
unfolding awaited lacking all_lines if
none_due f trace h = go (eqb (number_of f.refusal) 0) h
  where
    go : (b : Bool) → suc (if b (suc (events_in trace)) 1) - f.due ≡ 0
        → if (leb f.due 1) (Some First) (if (b && leb (f.due - 1) (events_in trace)) (Some (EventAt (f.due - 2))) None) ≡ None
    go true h = rw (lt-leb f.due 1 (omega arith), lt-leb (f.due - 1) (events_in trace) (omega arith))
    go false h = rw (lt-leb f.due 1 (omega arith))

pub some_due : (f : Follower) (trace : List ℕ) (n : ℕ) → lacking f trace ≡ suc n → is_nothing (awaited f trace) ≡ false
unfolding awaited lacking all_lines if
some_due f trace n h = go (eqb (number_of f.refusal) 0) h
  where
    go : (b : Bool) → suc (if b (suc (events_in trace)) 1) - f.due ≡ suc n
        → is_nothing (if (leb f.due 1) (Some First) (if (b && leb (f.due - 1) (events_in trace)) (Some (EventAt (f.due - 2))) None)) ≡ false
    go true h =
        ⊎_elim
        (λ (first : f.due ≤ 1). rw (le-leb f.due 1 first))
        (λ (later : 1 < f.due). rw (lt-leb f.due 1 later, le-leb (f.due - 1) (events_in trace) (omega arith)))
        (le_or_lt f.due 1)
    go false h = rw (le-leb f.due 1 (omega arith))

-- where the first line is due, and where that of event i is
pub first_due : (f : Follower) (trace : List ℕ) → f.due ≡ 1 → awaited f trace ≡ (Some First)
unfolding awaited if
first_due f trace e = rw (le-leb f.due 1 (omega arith))

pub event_due : (f : Follower) (trace : List ℕ) (i : ℕ) → eqb (number_of f.refusal) 0 ≡ true → f.due ≡ i + 2 → i < events_in trace → awaited f trace ≡ Some (EventAt i)
unfolding awaited if
event_due f trace i opened e l =
    let same : f.due - 2 ≡ i = omega arith in
    rw (lt-leb f.due 1 (omega arith), opened, le-leb (f.due - 1) (events_in trace) (omega arith)) (ap (λ (n : ℕ). Some (EventAt n)) same)

-- ---- the lines

refused_fields_lem : (number over : ℕ) → Each Field (refused_fields number over)
unfolding refused_fields worded_fields ascii
refused_fields_lem number zero = (prints_fields.4 (number ∷ [])).1
refused_fields_lem number (suc n) = (prints_fields.4 (number ∷ suc n ∷ [])).1

first_fields_lem : (f : Follower) → Each Field (first_fields f)
unfolding first_fields
first_fields_lem f =
    by_if (Each Field) (eqb (number_of f.refusal) 0) _ _ (λ opened. prints_fields.0) (λ refused. refused_fields_lem (number_of f.refusal) (over_of f.refusal))

event_fields_lem : (s : Session) (n : ℕ) (event : Event) → Each Field (fields_of (applied s n event).line)
unfolding event_fields
event_fields_lem s n event =
    let l = (applied s n event).line in
    decimal_fields (l.event ∷ l.answer ∷ l.stream ∷ l.value ∷ l.clock ∷ l.tag ∷ [])

-- each has one newline, its last byte
pub nexts_end : (f : Follower) (trace : List ℕ) (x : Next) → Among x (nexts f trace) → OneNewline (rendered x.fields)
unfolding Among
nexts_end f trace x = go (awaited f trace)
  where
    Ends : Next → Type 0
    Ends y = OneNewline (rendered y.fields)

    go : (a : Option Awaited) → Among x (nexts_at f trace a) → OneNewline (rendered x.fields)
    go (Some First) p = subst Ends (sym (among_one x _ p)) (newline_ends (first_fields f) (first_fields_lem f))
    go (Some (EventAt i)) p =
        let from = among_map (next_by f.session (i + 1)) x (may_be f.session (event_at trace i)) p in
        subst Ends (sym from.2) (newline_ends _ (event_fields_lem f.session (i + 1) from.0))
    go None p = absurd p

-- equal lines are of the same
abbrev line_of_next : Next → List ℕ
line_of_next x = rendered x.fields

events_tell : (s : Session) (n : ℕ) (event : Event) → Tells line_of_next (map (next_by s n) (may_be s event))
events_tell s n event x y p q h =
    let a = among_map (next_by s n) x (may_be s event) p in
    let b = among_map (next_by s n) y (may_be s event) q in
    let lines : line_by s n a.0 ≡ line_by s n b.0 = sym (ap line_of_next a.2) ∙ h ∙ ap line_of_next b.2 in
    a.2 ∙ ap (next_by s n) (lines_tell_choices s n event a.0 b.0 a.1 b.1 lines) ∙ sym b.2

pub nexts_tell : (f : Follower) (trace : List ℕ) → Tells line_of_next (nexts f trace)
unfolding Among
nexts_tell f trace = go (awaited f trace)
  where
    go : (a : Option Awaited) → Tells line_of_next (nexts_at f trace a)
    go (Some First) x y p q h = among_one x _ p ∙ sym (among_one y _ q)
    go (Some (EventAt i)) x y p q h = events_tell f.session (i + 1) (event_at trace i) x y p q h
    go None x y p q h = absurd p

-- so none is there twice
pub nexts_once : (f : Follower) (trace : List ℕ) → Once (lines_of_nexts (nexts f trace))
unfolding Once
nexts_once f trace = once_map line_of_next (nexts f trace) (nexts_tell f trace) (go (awaited f trace))
  where
    go : (a : Option Awaited) → Once (nexts_at f trace a)
    go (Some First) = once_one _
    go (Some (EventAt i)) =
        let s = f.session in
        let event = event_at trace i in
        once_map (next_by s (i + 1)) (may_be s event)
        (λ a b p q e. lines_tell_choices s (i + 1) event a b p q (ap line_of_next e))
        (choices_once s event)
    go None = tt

-- there is one where a line is due, and none where none is
pub some_next : (f : Follower) (trace : List ℕ) → is_nothing (awaited f trace) ≡ false → (x : Next) × Among x (nexts f trace)
some_next f trace = go (awaited f trace)
  where
    go : (a : Option Awaited) → is_nothing a ≡ false → (x : Next) × Among x (nexts_at f trace a)
    go (Some First) e = (_, one_among _)
    go (Some (EventAt i)) e =
        let itself = itself_may_be f.session (i + 1) (event_at trace i) in
        (_, map_among (next_by f.session (i + 1)) itself.0 (may_be f.session (event_at trace i)) itself.1)
    go None e = absurd (true≢false e)

pub no_next : (f : Follower) (trace : List ℕ) → awaited f trace ≡ None → nexts f trace ≡ []
no_next f trace e = ap (nexts_at f trace) e
