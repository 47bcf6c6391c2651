-- A listing that follows keeps the promise: it is what is printed of some calls, one for each event.
use mathlib.Core.Bool.{true, false, false≢true}
use mathlib.Core.List.{List, [], ◌∷◌, ◌++◌}
use mathlib.Core.Logic.{inl, inr}
use mathlib.Core.Path.{◌≡◌, refl, sym, ◌∙◌, ap, subst}
use Prim.Native.Nat.{ℕ, zero, suc, ◌+◌, ◌<◌}
use native.Mathlib.Omega.{arith}
use lib.Dec.{eqb}
use borrow.Author.Tests.{eqb-true, ne_eqb}
use Rattle.table.specs.Admission.{admission_of}
use Rattle.table.proofs.Tests.{by_if, both}
use Rattle.calls.specs.declared.Call.{Call}
use Rattle.session.specs.Calls.{answer_to, Line, line_of, lines_from}
use Rattle.session.specs.History.{Moment, history_from, within_bounds}
use Rattle.session.specs.Opening.{NewlyOpened}
use Rattle.session.specs.declared.Session.{Session}
use Rattle.session.proofs.Promise.{promise}
use Rattle.file.specs.Reading.{event_at, events_in, formed, table_in, order_in, trace_in, is_laid_out}
use Rattle.file.specs.declared.event.Event.{Event}
use Rattle.file.proofs.Accepted.{read_accepted}
use Rattle.file.proofs.Round.{accepted_is_within}
use Rattle.listing.specs.Line.{rendered, header_fields}
use Rattle.listing.specs.Laws.{Each}
use Rattle.trace.specs.Trace.{Outcome, called, applied, fields_of}
use Rattle.logs.specs.Choices.{sends, stream_of_cell, index_of_cell, cells_max, is_send, may_be}
use Rattle.logs.specs.Follow.{Among, FollowsFrom, session_in}
use Rattle.logs.specs.Laws.{StandsFor, StandFor, printed, FollowedIsKept}
use Rattle.logs.proofs.Choosing.{choices_pass, choice_parts, send_is_turn}
use Rattle.logs.proofs.Members.{among_one}

-- ---- one event

-- a call that may be made for an event, and comes to what another event does
record Made (s : Session) (event other : Event) : Type 0 where
  call : Call
  stands : StandsFor s event call
  same : (n : ℕ) → applied s n other ≡ called s n call

-- an event that is as laid out is a call
itself_made : (s : Session) (event : Event) → formed event ≡ true → is_send s event ≡ false → Made s event event
unfolding applied
itself_made s (Event.Arrival stream place tag) e other = record { call = Call.Arrival stream place tag; stands = refl; same = λ n. refl }
itself_made s Event.Turn e other = record { call = Call.Turn; stands = inl (other, refl); same = λ n. refl }
itself_made s (Event.OwnTurn stream index) e other = record { call = Call.OwnTurn stream index; stands = refl; same = λ n. refl }
itself_made s (Event.Done duration) e other = record { call = Call.Done duration; stands = refl; same = λ n. refl }
itself_made s (Event.Clock time) e other = record { call = Call.Clock time; stands = refl; same = λ n. refl }
itself_made s Event.Malformed e other = absurd (false≢true e)

-- an own turn that sends may be made for a turn that does
own_made : (s : Session) (stream index : ℕ) → sends s (Call.OwnTurn stream index) ≡ true → sends s Call.Turn ≡ true
    → Made s Event.Turn (Event.OwnTurn stream index)
unfolding applied
own_made s stream index own turn =
    record { call = Call.OwnTurn stream index; stands = inr (turn, own, (stream, index, refl)); same = λ n. refl }

-- so whatever may stand for an event is a call
made : (s : Session) (event other : Event) → formed event ≡ true → Among other (may_be s event) → Made s event other
unfolding may_be
made s event other e =
    by_if (λ l. Among other l → Made s event other) (is_send s event) _ _
    (λ sending among.
    let c = choices_pass s 0 cells_max other among in
    let i = stream_of_cell c.cell in
    let j = index_of_cell c.cell in
    subst (Made s event) (sym c.is)
    (send_is_turn s event sending (λ z. Made s z (Event.OwnTurn (i + 1) j)) (own_made s (i + 1) j (choice_parts s i j c.passes).0)))
    (λ itself among. subst (Made s event) (sym (among_one other event among)) (itself_made s event e itself))

-- ---- all events

-- a text is what is printed of some calls, one for each event from i on
record Printed (s : Session) (trace : List ℕ) (i : ℕ) (text : List ℕ) : Type 0 where
  calls : List Call
  stand_for : StandFor s trace i calls
  prints : text ≡ printed (lines_from (i + 1) s calls)

-- one event before others
printed_more : (s : Session) (trace : List ℕ) (i : ℕ) (text later : List ℕ) (k : Call) → StandsFor s (event_at trace i) k
    → text ≡ rendered (fields_of (called s (i + 1) k).line) ++ later
    → Printed (called s (i + 1) k).session trace (i + 1) later
    → Printed s trace i text
unfolding StandFor printed lines_from called
printed_more s trace i text later k stands is rest =
    record {
      calls = k ∷ rest.calls;
      stand_for = (stands, rest.stand_for);
      prints = is ∙ ap (λ (l : List ℕ). rendered (fields_of (line_of (i + 1) k (answer_to s k))) ++ l) rest.prints;
    }

printed_from : (trace : List ℕ) → ((i : ℕ) → i < events_in trace → formed (event_at trace i) ≡ true)
    → (s : Session) (i left : ℕ) (text : List ℕ) → i + left ≡ events_in trace → FollowsFrom s trace i left text → Printed s trace i text
unfolding FollowsFrom StandFor printed lines_from
printed_from trace formed-all s i zero text end none = record { calls = []; stand_for = omega arith; prints = none }
printed_from trace formed-all s i (suc left) text end (event, later, among, is, rest) =
    let m = made s (event_at trace i) event (formed-all i (omega arith)) among in
    let same = m.same (i + 1) in
    let line : Outcome → List ℕ = λ o. rendered (fields_of o.line) ++ later in
    printed_more s trace i text later m.call m.stands (is ∙ ap line same)
    (subst (λ (o : Outcome). Printed o.session trace (i + 1) later) same
    (printed_from trace formed-all (applied s (i + 1) event).session (i + 1) left later (omega arith) rest))

-- ---- the promise

-- calls whose lines have no 26 and no 28 are within the bounds
abbrev InBounds : Line → Type 0
InBounds line = (line.answer ≡ 26 → ⊥) × (line.answer ≡ 28 → ⊥)

lines_within : (past : List Moment) (n : ℕ) (s : Session) (ks : List Call) → within_bounds past ≡ true → Each InBounds (lines_from n s ks)
    → within_bounds (history_from past s ks) ≡ true
unfolding history_from within_bounds lines_from line_of Each
lines_within past n s [] before each = before
lines_within past n s (k ∷ ks) before each =
    let a = answer_to s k in
    lines_within (record { before = s; call = k; answer = a } ∷ past) (n + 1) a.session ks
    (rw (ne_eqb _ 26 each.0.0, ne_eqb _ 28 each.0.1, before)) each.1

-- no event of a file that opens is malformed
opens_formed : (file : List ℕ) → is_laid_out file ≡ true → (i : ℕ) → i < events_in (trace_in file) → formed (event_at (trace_in file) i) ≡ true
opens_formed file laid_out = (accepted_is_within file _ (read_accepted file laid_out)).all_formed

-- and its session is newly opened
opens_new : (file : List ℕ) → eqb (admission_of (table_in file)) 0 ≡ true → NewlyOpened (table_in file) (session_in file)
opens_new file admitted = record { admitted = eqb-true _ _ admitted; order = order_in file; made = refl }

pub followed_is_kept : FollowedIsKept
unfolding within_bounds
followed_is_kept file listing e follows =
    let (laid_out, admitted) = both (is_laid_out file) _ e in
    let s = session_in file in
    let (later, is, lines) = follows.opened e in
    let p = printed_from (trace_in file) (opens_formed file laid_out) s 0 (events_in (trace_in file)) later (omega arith) lines in
    let promised = promise (table_in file) s p.calls (opens_new file admitted) in
    record {
      calls = p.calls;
      stand_for = p.stand_for;
      prints = is ∙ ap (λ (l : List ℕ). rendered header_fields ++ l) p.prints;
      always = promised.0;
      on_time = λ each. promised.1 (lines_within [] 1 s p.calls refl each);
    }
