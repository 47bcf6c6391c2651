-- What is accepted is what follows, and our own listing is accepted.
use mathlib.Core.Bool.{Bool, true, false, false≢true}
use mathlib.Core.List.{List, [], ◌∷◌, ◌++◌, map, append-nil}
use mathlib.Core.Logic.Iff
use mathlib.Core.Logic.{◌↔◌}
use mathlib.Core.Path.{◌≡◌, refl, sym, ap, subst, ◌∙◌}
use Prim.Native.Nat.{ℕ, zero, suc, ◌+◌}
use native.Mathlib.Omega.{arith}
use lib.Dec.{eqb}
use Rattle.table.specs.Fold.{if}
use Rattle.std.specs.Prelude.{Result, Ok, Err}
use borrow.Author.Tests.{eq-eqb}
use Rattle.table.specs.Admission.{admission_of}
use Rattle.table.specs.Margin.{number_in, answer_of}
use Rattle.table.specs.Refusal.{refusal_number as refused_number}
use Rattle.table.specs.declared.Table.{Table}
use Rattle.table.specs.declared.margin.Margin.{Margin}
use Rattle.table.specs.declared.refusal.Refusal.{Refusal as Unadmitted}
use Rattle.table.proofs.Margins.{answer_carries_margin}
use Rattle.order.specs.declared.Order.{Order}
use Rattle.session.specs.Opening.{opening_of}
use Rattle.table.proofs.Tests.{both, by_if}
use Rattle.session.specs.declared.Session.{Session}
use Rattle.file.specs.Reading.{event_at, events_in, table_in, order_in, trace_in, is_laid_out}
use Rattle.file.specs.declared.event.Event.{Event}
use Rattle.listing.specs.Line.{rendered, header_fields}
use Rattle.trace.specs.Trace.{Outcome, applied, fields_of, printed_from, run_of, listing_of}
use Rattle.logs.specs.Choices.{may_be}
use Rattle.logs.specs.Follow.{Among, FollowsFrom, opens, session_in, Follows}
use Rattle.logs.specs.Lines.{lines_of, left_of}
use Rattle.logs.specs.Following.{number_of, unadmitted, opened_at, begun, trace_of, Next, first_fields, next_by, nexts_at, nexts, with_lines, accepted, is_whole, checked_by, checked_of, rejected, lines_of_nexts}
use Rattle.logs.specs.Laws.{OursIsAccepted, AcceptedFollows}
use Rattle.logs.specs.declared.Follower.{Follower}
use Rattle.logs.proofs.Choosing.{itself_may_be}
use Rattle.logs.proofs.Members.{map_among, among_map, among_one, one_among}
use Rattle.logs.proofs.Nexts.{all_lines, lacking, first_due, event_due}
use Rattle.logs.proofs.Steps.{onto}
use Rattle.logs.proofs.Whole.{FollowsBy, Whole, whole_follows, follows_whole}

-- ---- the first line, and those of events

abbrev first_next : Follower → Next
first_next f = record { fields = first_fields f; session = f.session }

module _ (n : ℕ) (f : Follower) (trace text : List ℕ) (due : f.due ≡ 1) where
  alone : nexts f trace ≡ first_next f ∷ []
  alone = ap (nexts_at f trace) (first_due f trace due)

  first_follows : FollowsBy (suc n) f trace text
      ↔ ((later : List ℕ) × (text ≡ rendered (first_fields f) ++ later) × FollowsBy n (onto f (first_next f)) trace later)
  unfolding FollowsBy
  first_follows = (
    λ (x, later, among, is, q).
        let same : x ≡ first_next f = among_one x (first_next f) (subst (Among x) alone among) in (
          later,
          is ∙ ap (λ (y : Next). rendered y.fields ++ later) same,
          subst (λ (y : Next). FollowsBy n (onto f y) trace later) same q,
        ),
    λ (later, is, q). (first_next f, later, subst (Among (first_next f)) (sym alone) (one_among (first_next f)), is, q),
  )

-- from event i on, by the events as by the follower
events_follow : (n i : ℕ) (f : Follower) (trace text : List ℕ) → eqb (number_of f.refusal) 0 ≡ true → f.due ≡ i + 2 → i + n ≡ events_in trace
    → FollowsBy n f trace text ↔ FollowsFrom f.session trace i n text
unfolding FollowsBy FollowsFrom
events_follow zero i f trace text opened due rest = (λ e. e, λ e. e)
events_follow (suc n) i f trace text opened due rest =
    let events = may_be f.session (event_at trace i) in
    let by = next_by f.session (i + 1) in
    let there : nexts f trace ≡ map by events = ap (nexts_at f trace) (event_due f trace i opened due (omega arith)) in
    let on : (event : Event) (later : List ℕ) → FollowsBy n (onto f (by event)) trace later ↔ FollowsFrom (by event).session trace (i + 1) n later =
    λ event later. events_follow n (i + 1) (onto f (by event)) trace later opened (omega arith) (omega arith) in (
      λ (x, later, among, is, q).
          let from = among_map by x events (subst (Among x) there among) in (
            from.0,
            later,
            from.1,
            is ∙ ap (λ (y : Next). rendered y.fields ++ later) from.2,
            (on from.0 later).0 (subst (λ (y : Next). FollowsBy n (onto f y) trace later) from.2 q),
          ),
      λ (event, later, among, is, q).
          (by event, later, subst (Among (by event)) (sym there) (map_among by event events among), is, (on event later).1 q),
    )

-- ---- a file

pub begun_due : (file : List ℕ) → (begun file).due ≡ 1
unfolding begun opened_at
begun_due file = by_if (λ (f : Follower). f.due ≡ 1) (is_laid_out file) _ _ (λ e. refl) (λ e. refl)

pub begun_going : (file : List ℕ) → (begun file).failed ≡ false
unfolding begun opened_at
begun_going file = by_if (λ (f : Follower). f.failed ≡ false) (is_laid_out file) _ _ (λ e. refl) (λ e. refl)

-- the number that refuses it
opened_number : (t : Table) (order : Order) → number_of (unadmitted (opening_of t order).admission) ≡ admission_of t
unfolding opening_of
opened_number t order = go (answer_of t) ∙ (answer_carries_margin t).0
  where
    go : (a : Result Margin Unadmitted) → number_of (unadmitted a) ≡ number_in a
    go (Ok m) = refl
    go (Err r) = refl

-- one that is opened
module _ (file : List ℕ) (h : opens file ≡ true) where
  tests : (is_laid_out file ≡ true) × (eqb (admission_of (table_in file)) 0 ≡ true)
  tests = both (is_laid_out file) (eqb (admission_of (table_in file)) 0) h

  opened_none : eqb (number_of (begun file).refusal) 0 ≡ true
  unfolding begun opened_at if
  opened_none = rw tests.0 (rw (opened_number (table_in file) (order_in file)) tests.1)

  opened_session : (begun file).session ≡ session_in file
  unfolding begun opened_at if
  opened_session = rw tests.0

  opened_trace : trace_of file ≡ trace_in file
  unfolding trace_of if
  opened_trace = rw tests.0

  opened_prints : listing_of file ≡ rendered header_fields ++ printed_from (session_in file) (trace_in file) 0 (events_in (trace_in file))
  unfolding listing_of run_of if
  opened_prints = rw (tests.0, tests.1)

-- one that reading or opening refuses
refused_file : (file : List ℕ) → opens file ≡ false → (eqb (number_of (begun file).refusal) 0 ≡ false) × (listing_of file ≡ rendered (first_fields (begun file)))
unfolding begun opened_at opening_of first_fields listing_of run_of if
refused_file file = go (is_laid_out file) (answer_of t) refl refl
  where
    t : Table
    t = table_in file

    go : (b : Bool) (a : Result Margin Unadmitted) → is_laid_out file ≡ b → answer_of t ≡ a → opens file ≡ false
        → (eqb (number_of (begun file).refusal) 0 ≡ false) × (listing_of file ≡ rendered (first_fields (begun file)))
    go true (Ok m) e f h =
        let never : eqb (admission_of t) 0 ≡ false = rw e at h in
        absurd (false≢true (sym never ∙ eq-eqb _ 0 (sym (answer_carries_margin t).0 ∙ ap number_in f)))
    go true (Err r) e f h =
        let number : admission_of t ≡ refused_number r = sym (answer_carries_margin t).0 ∙ ap number_in f in
        let some : eqb (admission_of t) 0 ≡ false = rw e at h in
        let told : eqb (refused_number r) 0 ≡ false = rw number at some in
        (rw (e, f) told, rw (e, some, f, told, number))
    go false a e f h = (rw e, rw e)

-- ---- a whole listing

-- "the header, and a line for each event"
abbrev Listed : Session → List ℕ → List ℕ → Type 0
Listed s trace text = (later : List ℕ) × (text ≡ rendered header_fields ++ later) × FollowsFrom s trace 0 (events_in trace) later

opened_lacks : (f : Follower) (trace : List ℕ) → f.due ≡ 1 → eqb (number_of f.refusal) 0 ≡ true → lacking f trace ≡ suc (events_in trace)
unfolding lacking all_lines if
opened_lacks f trace due opened = rw opened (omega arith)

refused_lacks : (f : Follower) (trace : List ℕ) → f.due ≡ 1 → eqb (number_of f.refusal) 0 ≡ false → lacking f trace ≡ 1
unfolding lacking all_lines if
refused_lacks f trace due refused = rw refused (omega arith)

module _ (f : Follower) (trace text : List ℕ) (going : f.failed ≡ false) (due : f.due ≡ 1) where
  followed : (n : ℕ) → lacking f trace ≡ n → Whole f trace text ↔ FollowsBy n f trace text
  followed n e = (whole_follows n f trace text going e, follows_whole n f trace text going e)

  opened_follows : eqb (number_of f.refusal) 0 ≡ true → Whole f trace text ↔ Listed f.session trace text
  unfolding first_fields if
  opened_follows opened =
      let by = Iff.trans (followed (suc (events_in trace)) (opened_lacks f trace due opened)) (first_follows (events_in trace) f trace text due) in
      let header : first_fields f ≡ header_fields = rw opened in
      let on : (later : List ℕ) → FollowsBy (events_in trace) (onto f (first_next f)) trace later ↔ FollowsFrom f.session trace 0 (events_in trace) later =
      λ later. events_follow (events_in trace) 0 (onto f (first_next f)) trace later opened (omega arith) (omega arith) in (
        λ h. let (later, is, q) = by.0 h in (later, is ∙ ap (λ (fields : List (List ℕ)). rendered fields ++ later) header, (on later).0 q),
        λ (later, is, q). by.1 (later, is ∙ ap (λ (fields : List (List ℕ)). rendered fields ++ later) (sym header), (on later).1 q),
      )

  refused_follows : eqb (number_of f.refusal) 0 ≡ false → Whole f trace text ↔ (text ≡ rendered (first_fields f))
  unfolding FollowsBy
  refused_follows refused =
      let by = Iff.trans (followed 1 (refused_lacks f trace due refused)) (first_follows 0 f trace text due) in (
        λ h. let (later, is, none) = by.0 h in is ∙ ap (λ (l : List ℕ). rendered (first_fields f) ++ l) none ∙ append-nil (rendered (first_fields f)),
        λ is. by.1 ([], is ∙ sym (append-nil (rendered (first_fields f))), refl),
      )

pub whole_is_following : (file text : List ℕ) → Whole (begun file) (trace_of file) text ↔ Follows file text
whole_is_following file text = (
  λ h.
      record {
        opened = λ o. (opened o).0 h;
        refused = λ r. (refused r).0 h;
      },
  λ q. go q (opens file) refl,
)
  where
    f : Follower
    f = begun file

    opened : opens file ≡ true → Whole f (trace_of file) text ↔ Listed (session_in file) (trace_in file) text
    opened o =
        let law = opened_follows f (trace_of file) text (begun_going file) (begun_due file) (opened_none file o) in
        subst (λ (trace : List ℕ). Whole f (trace_of file) text ↔ Listed (session_in file) trace text) (opened_trace file o)
        (subst (λ (s : Session). Whole f (trace_of file) text ↔ Listed s (trace_of file) text) (opened_session file o) law)

    refused : opens file ≡ false → Whole f (trace_of file) text ↔ (text ≡ listing_of file)
    refused r =
        let (some, prints) = refused_file file r in
        subst (λ (line : List ℕ). Whole f (trace_of file) text ↔ (text ≡ line)) (sym prints)
        (refused_follows f (trace_of file) text (begun_going file) (begun_due file) some)

    go : Follows file text → (b : Bool) → opens file ≡ b → Whole f (trace_of file) text
    go q true o = (opened o).1 (q.opened o)
    go q false r = (refused r).1 (q.refused r)

-- what is said of a listing
pub accepted_whole : (f : Follower) (trace left : List ℕ) → (checked_by f trace left ≡ accepted) ↔ (is_whole f trace left ≡ true)
unfolding checked_by if
accepted_whole f trace left = (go (is_whole f trace left), λ e. rw e)
  where
    go : (b : Bool) → if b accepted (rejected f.due (lines_of_nexts (nexts f trace))) ≡ accepted → b ≡ true
    go true h = refl
    go false h = cc

pub accepted_follows : AcceptedFollows
unfolding checked_of
accepted_follows file listing =
    Iff.trans
    (accepted_whole (with_lines (begun file) (trace_of file) (lines_of listing)) (trace_of file) (left_of listing))
    (whole_is_following file listing)

-- ---- our own listing

printed_follows : (n : ℕ) (s : Session) (trace : List ℕ) (i : ℕ) → FollowsFrom s trace i n (printed_from s trace i n)
unfolding FollowsFrom printed_from
printed_follows zero s trace i = refl
printed_follows (suc n) s trace i =
    let (event, among, same) = itself_may_be s (i + 1) (event_at trace i) in
    let later = printed_from (applied s (i + 1) (event_at trace i)).session trace (i + 1) n in (
      event,
      later,
      among,
      ap (λ (o : Outcome). rendered (fields_of o.line) ++ later) (sym same),
      subst (λ (o : Outcome). FollowsFrom o.session trace (i + 1) n later) (sym same) (printed_follows n (applied s (i + 1) (event_at trace i)).session trace (i + 1)),
    )

pub ours_is_accepted : OursIsAccepted
ours_is_accepted file =
    (accepted_follows file (listing_of file)).1
    (record {
      opened = λ o. (_, opened_prints file o, printed_follows (events_in (trace_in file)) (session_in file) (trace_in file) 0);
      refused = λ r. refl;
    })
