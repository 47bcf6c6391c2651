-- What may stand for a turn that sends: requests of the set, the house's own choice among them, each told by its line.
use mathlib.Core.Bool.{Bool, true, false, not, false≢true}
use mathlib.Core.List.{List, [], ◌∷◌}
use mathlib.Core.Logic.{◌⊎◌, inl, inr, ⊎_elim}
use mathlib.Core.Path.{◌≡◌, refl, sym, ◌∙◌, ap, ap₂, subst}
use Prim.Native.Nat.{ℕ, zero, suc, ◌+◌, ◌-◌, ◌*◌, ◌≤◌, ◌<◌}
use native.Mathlib.Omega.{arith}
use lib.Dec.{ltb, eqb}
use lib.ListN.{get_or}
use borrow.Author.Tests.{eqb-true, ltb-true, eq-eqb, ne_eqb, lt-ltb, le-ltb, not-true}
use Rattle.table.specs.Fold.{if, all_to}
use Rattle.table.proofs.Tests.{by_if, both, same_test, le_or_lt}
use Rattle.table.proofs.Folds.{all_at, all_of}
use Rattle.order.proofs.Orders.{alike as tied}
use Rattle.stream.specs.Stream.{queue_max, filled}
use Rattle.stream.specs.declared.Stream.{Stream}
use Rattle.calls.specs.Replies.{number_of}
use Rattle.calls.specs.declared.Call.{Call}
use Rattle.session.specs.Session.{stream_at, place_at, tag_at, filled_at, in_set, some_filled, no_slot, latest, sound}
use Rattle.session.specs.Choice.{taken_before, leading_at, leading_place, chosen, expiring}
use Rattle.session.specs.Calls.{Verdict, refuse, send, wait, expire, no_such_stream, call_refusal, turn_effect, effect, verdict, apply, reply_to, outcome, answer_to, line_of}
use Rattle.session.specs.declared.Session.{Session}
use Rattle.session.proofs.Sound.{Sound, sound_of, of_sound}
use Rattle.session.proofs.Grounds.{Grounds, verdict_grounds, call_refusal_high}
use Rattle.session.proofs.Answers.{unsound_verdict, refused, accepted, sendable, own_sends}
use Rattle.session.proofs.Choices.{sent_goes_first}
use Rattle.file.specs.declared.event.Event.{Event}
use Rattle.listing.specs.Line.{rendered, event_fields}
use Rattle.listing.proofs.Lines.{numbers_tell}
use Rattle.trace.specs.Trace.{Outcome, called, applied, fields_of}
use Rattle.logs.specs.Choices.{sends, alike, is_first, is_choice, stream_of_cell, index_of_cell, cells_max, own_turn_of, choices_from, is_send, may_be}
use Rattle.logs.specs.Follow.{Among, line_by}
use Rattle.logs.specs.Laws.{SetIsSent, AnyRequestMayStand, Once}
use Rattle.logs.proofs.Members.{among_one, once_one}

-- a test that does not hold
not_of : (b : Bool) → (b ≡ true → ⊥) → not b ≡ true
not_of true other = absurd (other refl)
not_of false other = refl

-- ---- what is answered by 21

-- a verdict whose reply is 21
abbrev sent_by : Session → Verdict → Bool
sent_by s v = eqb (number_of (reply_to s v)) 21

-- a refusal is none: it is at most 15, or 31
never_refused : (s : Session) (n : ℕ) → (n ≡ 21 → ⊥) → sent_by s (refuse n) ≡ true → ⊥
unfolding reply_to
never_refused s n other e = other (eqb-true n 21 e)

-- so a call that is answered by 21 is of a sound session, and it comes to its effect
sent_effect : (s : Session) (k : Call) → sends s k ≡ true → (sound s ≡ true) × (verdict s k ≡ effect s k)
unfolding answer_to
sent_effect s k e = go (sound s) refl
  where
    with_it : {v : Verdict} → verdict s k ≡ v → sent_by s v ≡ true
    with_it is = subst (λ (v : Verdict). sent_by s v ≡ true) is e

    known : (n : ℕ) → call_refusal s k ≡ n → sound s ≡ true → verdict s k ≡ effect s k
    known zero none ok = accepted s k ok none
    known (suc n) is ok =
        absurd (never_refused s (suc n) (λ z. omega (arith, is, call_refusal_high s k)) (with_it (refused s k ok n is)))

    go : (b : Bool) → sound s ≡ b → (sound s ≡ true) × (verdict s k ≡ effect s k)
    go true ok = (ok, known (call_refusal s k) refl ok)
    go false off = absurd (never_refused s 31 (λ z. omega arith) (with_it (unsound_verdict s k off)))

-- a call of a sound session that comes to a send
pub record Sent (s : Session) (k : Call) (i j : ℕ) : Type 0 where
  pub orderly : Sound s
  pub is : verdict s k ≡ send i j
  pub grounds : Grounds s (send i j)

sent : (s : Session) (k : Call) (i j : ℕ) → sound s ≡ true → verdict s k ≡ send i j → Sent s k i j
sent s k i j ok is =
    let q = sound_of s ok in
    record { orderly = q; is = is; grounds = subst (Grounds s) is (verdict_grounds s q k) }

-- an own turn that is answered by 21 sends its request
pub own_sent : (s : Session) (i j : ℕ) → sends s (Call.OwnTurn (i + 1) j) ≡ true → Sent s (Call.OwnTurn (i + 1) j) i j
unfolding effect
own_sent s i j e =
    let known = sent_effect s (Call.OwnTurn (i + 1) j) e in
    let same : i + 1 - 1 ≡ i = omega arith in
    sent s (Call.OwnTurn (i + 1) j) i j known.0 (known.1 ∙ ap (λ (n : ℕ). send n j) same)

-- which is queued
pub choice_in_queue : (s : Session) (i j : ℕ) → sends s (Call.OwnTurn (i + 1) j) ≡ true → (i < s.count) × (j < (stream_at s i).queued)
unfolding filled
choice_in_queue s i j e =
    let g = (own_sent s i j e).grounds in
    (g.exists, omega (arith, g.in_set))

-- a turn that is answered by 21 has a filled slot to serve
filled_sends : (s : Session) → sent_by s (turn_effect s) ≡ true → some_filled s ≡ true
unfolding turn_effect reply_to
filled_sends s =
    let Told : Verdict → Type 0 = λ v. sent_by s v ≡ true → some_filled s ≡ true in
    by_if Told (some_filled s) _ _ (λ some e. some)
    (λ none.
    by_if Told (no_slot s) _ _ (λ over e. absurd (false≢true e))
    (λ left. by_if Told (ltb s.clock.0 (latest s)) wait (expire (expiring s)) (λ early e. absurd (false≢true e)) (λ due e. absurd (false≢true e))))

-- and sends the house's choice
pub turn_sent : (s : Session) → sends s Call.Turn ≡ true
    → (some_filled s ≡ true) × Sent s Call.Turn (chosen s) (leading_at s (chosen s))
unfolding effect turn_effect answer_to if
turn_sent s e =
    let known = sent_effect s Call.Turn e in
    let some = filled_sends s (subst (λ (v : Verdict). sent_by s v ≡ true) known.1 e) in
    (some, sent s Call.Turn _ _ known.0 (known.1 ∙ rw some))

-- then a request of the set is sent by its own turn
set_sends : (s : Session) → sound s ≡ true → s.served ≡ 0 → (i j : ℕ) → i < s.count → j < filled_at s i
    → sends s (Call.OwnTurn (i + 1) j) ≡ true
unfolding answer_to no_such_stream reply_to
set_sends s ok idle i j exists among =
    let same : i + 1 - 1 ≡ i = omega arith in
    let own : no_such_stream s (i + 1) ≡ false = rw (ne_eqb (i + 1) 0 (λ z. omega arith), le-ltb s.count (i + 1) (omega arith)) in
    let is = own_sends s (i + 1) j ok idle own (rw same among) in
    ap (sent_by s) is

pub set_is_sent : SetIsSent
set_is_sent s e i j =
    let turn = (turn_sent s e).1 in
    same_test _ _
    (λ own. let g = (own_sent s i j own).grounds in rw (lt-ltb i s.count g.exists, lt-ltb j (filled_at s i) g.in_set))
    (λ among.
    let parts = both (ltb i s.count) (in_set s i j) among in
    set_sends s (of_sound s turn.orderly) turn.grounds.idle i j (ltb-true _ _ parts.0) (ltb-true _ _ parts.1))

-- ---- the cells

-- a cell is told by its own turn, and there is one for each request in the arrays' ranges
cell_told : (a b : ℕ) → own_turn_of a ≡ own_turn_of b → a ≡ b
cell_told a b h =
    let streams : stream_of_cell a + 1 ≡ stream_of_cell b + 1 = cc in
    let indices : index_of_cell a ≡ index_of_cell b = cc in
    omega arith

cell_of : (i j : ℕ) → i < 8 → j < 16
    → (m : ℕ) × (m < cells_max) × (stream_of_cell m ≡ i) × (index_of_cell m ≡ j)
cell_of i j l k = (i * queue_max + j, omega arith, omega arith, omega arith)

-- a choice is the own turn of a cell that passes
pub record Passing (s : Session) (m left : ℕ) (event : Event) : Type 0 where
  pub cell : ℕ
  pub low : m ≤ cell
  pub high : cell < m + left
  pub passes : is_choice s (stream_of_cell cell) (index_of_cell cell) ≡ true
  pub is : event ≡ own_turn_of cell

passing_later : (s : Session) (m left : ℕ) (event : Event) → Passing s (m + 1) left event → Passing s m (suc left) event
passing_later s m left event c =
    record { cell = c.cell; low = omega (arith, c.low); high = omega (arith, c.high); passes = c.passes; is = c.is }

pub choices_pass : (s : Session) (m left : ℕ) (event : Event) → Among event (choices_from s m left) → Passing s m left event
unfolding choices_from Among
choices_pass s m zero event = absurd
choices_pass s m (suc left) event =
    let later : Among event (choices_from s (m + 1) left) → Passing s m (suc left) event = λ among. passing_later s m left event (choices_pass s (m + 1) left event among) in
    by_if (λ l. Among event l → Passing s m (suc left) event) (is_choice s (stream_of_cell m) (index_of_cell m)) _ _
    (λ here. ⊎_elim (λ is. record { cell = m; low = omega arith; high = omega arith; passes = here; is = is }) later)
    (λ skipped. later)

-- and the own turn of each that passes is a choice
passes_among : (s : Session) (m left c : ℕ) → m ≤ c → c < m + left → is_choice s (stream_of_cell c) (index_of_cell c) ≡ true
    → Among (own_turn_of c) (choices_from s m left)
unfolding choices_from Among
passes_among s m zero c low high passes = absurd (omega arith)
passes_among s m (suc left) c low high passes =
    let later : m < c → Among (own_turn_of c) (choices_from s (m + 1) left) = λ l. passes_among s (m + 1) left c (omega arith) (omega arith) passes in
    by_if (λ l. Among (own_turn_of c) l) (is_choice s (stream_of_cell m) (index_of_cell m)) _ _
    (λ here. ⊎_elim (λ (u : c ≤ m). let same : c ≡ m = omega arith in inl (ap own_turn_of same)) (λ (u : m < c). inr (later u)) (le_or_lt c m))
    (λ skipped.
    ⊎_elim
    (λ (u : c ≤ m). let same : c ≡ m = omega arith in absurd (false≢true (sym skipped ∙ rw same at passes)))
    later (le_or_lt c m))

-- each of them once, since they come by the cells
choices_stand_once : (s : Session) (m left : ℕ) → Once (choices_from s m left)
unfolding choices_from Once
choices_stand_once s m zero = tt
choices_stand_once s m (suc left) =
    let later = choices_stand_once s (m + 1) left in
    by_if Once (is_choice s (stream_of_cell m) (index_of_cell m)) _ _
    (λ here. (λ again. let c = choices_pass s (m + 1) left (own_turn_of m) again in omega (arith, c.low, cell_told m c.cell c.is), later))
    (λ skipped. later)

pub choices_once : (s : Session) (event : Event) → Once (may_be s event)
unfolding may_be Once Among
choices_once s event =
    by_if Once (is_send s event) _ _ (λ sending. choices_stand_once s 0 cells_max) (λ other. once_one event)

-- ---- what a send comes to

-- the session afterwards and the line are those of the request, whichever call sends it
abbrev sent_outcome : Session → ℕ → ℕ → ℕ → Outcome
sent_outcome s n i j =
    record {
      session = apply s (send i j);
      line = record { event = n; answer = 21; stream = i + 1; value = place_at s i j; clock = s.clock.0; tag = tag_at s i j };
    }

sent_outcome_lem : (s : Session) (n : ℕ) (k : Call) (i j : ℕ) → verdict s k ≡ send i j → called s n k ≡ sent_outcome s n i j
unfolding called answer_to line_of reply_to apply
sent_outcome_lem s n k i j is =
    ap (λ (v : Verdict). let a = outcome s v in record { session = a.session; line = line_of n k a }) is

own_outcome : (s : Session) (n i j : ℕ) → sends s (Call.OwnTurn (i + 1) j) ≡ true → applied s n (Event.OwnTurn (i + 1) j) ≡ sent_outcome s n i j
unfolding applied
own_outcome s n i j e = sent_outcome_lem s n (Call.OwnTurn (i + 1) j) i j (own_sent s i j e).is

-- what may be sent is sent by its own turn, and is the first of those alike
pub choice_parts : (s : Session) (i j : ℕ) → is_choice s i j ≡ true
    → (sends s (Call.OwnTurn (i + 1) j) ≡ true) × (is_first (stream_at s i) j ≡ true)
unfolding is_choice
choice_parts s i j = both _ _

-- and its own turn is among the choices
choice_among : (s : Session) (i j : ℕ) → is_choice s i j ≡ true → Among (Event.OwnTurn (i + 1) j) (choices_from s 0 cells_max)
choice_among s i j choice =
    let own = own_sent s i j (choice_parts s i j choice).0 in
    let fits = sendable s own.orderly i j own.grounds in
    let (m, high, stream-is, index_is) = cell_of i j fits.0 fits.1 in
    rw (stream-is, index_is) at (passes_among s 0 cells_max m (omega arith) (omega arith) (rw (stream-is, index_is) choice))

-- ---- the house's own choice

-- none before it in its queue is like it: in a tie the earlier is sent
none_alike : (s : Session) → sends s Call.Turn ≡ true → (k : ℕ) → k < leading_at s (chosen s)
    → alike (stream_at s (chosen s)) k (leading_at s (chosen s)) ≡ true → ⊥
unfolding alike
none_alike s e k l is =
    let i = chosen s in
    let turn = turn_sent s e in
    let g = turn.1.grounds in
    let among : in_set s i k ≡ true = lt-ltb k (filled_at s i) (omega (arith, g.in_set)) in
    let same : place_at s i k ≡ leading_place s i = eqb-true _ _ (both _ _ is).0 in
    let tie : taken_before s (leading_place s i) (place_at s i k) ≡ false = rw same (tied s.order s.head (leading_place s i)) in
    omega (arith, (sent_goes_first s i k turn.0 g.exists among).earlier refl tie)

-- so it may be sent
house_is_choice : (s : Session) → sends s Call.Turn ≡ true → is_choice s (chosen s) (leading_at s (chosen s)) ≡ true
unfolding is_choice is_first
house_is_choice s e =
    let i = chosen s in
    let j = leading_at s i in
    let turn = (turn_sent s e).1 in
    let g = turn.grounds in
    let first : is_first (stream_at s i) j ≡ true = all_of (λ k. not (alike (stream_at s i) k j)) j (λ k l. not_of _ (none_alike s e k l)) in
    rw (set_sends s (of_sound s turn.orderly) g.idle i j g.exists g.in_set, first)

-- and its own turn is among the choices, and comes to what the turn does
house_among : (s : Session) (n : ℕ) → sends s Call.Turn ≡ true
    → (own : Event) × Among own (choices_from s 0 cells_max) × (applied s n own ≡ applied s n Event.Turn)
unfolding applied
house_among s n e =
    let i = chosen s in
    let j = leading_at s i in
    let choice = house_is_choice s e in (
      Event.OwnTurn (i + 1) j,
      choice_among s i j choice,
      own_outcome s n i j (choice_parts s i j choice).0 ∙ sym (sent_outcome_lem s n Call.Turn i j (turn_sent s e).1.is),
    )

-- a turn's send is a turn
pub send_is_turn : (s : Session) (event : Event) → is_send s event ≡ true → (P : Event → Type 0) → (sends s Call.Turn ≡ true → P Event.Turn) → P event
send_is_turn s (Event.Arrival stream place tag) e P of-turn = absurd (false≢true e)
send_is_turn s Event.Turn e P of-turn = of-turn e
send_is_turn s (Event.OwnTurn stream index) e P of-turn = absurd (false≢true e)
send_is_turn s (Event.Done duration) e P of-turn = absurd (false≢true e)
send_is_turn s (Event.Clock time) e P of-turn = absurd (false≢true e)
send_is_turn s Event.Malformed e P of-turn = absurd (false≢true e)

-- the event itself may stand there, or what comes to the same
pub itself_may_be : (s : Session) (n : ℕ) (event : Event) → (e : Event) × Among e (may_be s event) × (applied s n e ≡ applied s n event)
unfolding may_be Among
itself_may_be s n event =
    by_if (λ l. (e : Event) × Among e l × (applied s n e ≡ applied s n event)) (is_send s event) _ _
    (λ sending. send_is_turn s event sending (λ z. (e : Event) × Among e (choices_from s 0 cells_max) × (applied s n e ≡ applied s n z)) (house_among s n))
    (λ other. (event, inl refl, refl))

-- ---- what a line tells

-- of two requests of a queue that are alike, the one before is not the first
alike_before : (x : Stream) (j k : ℕ) → get_or x.places j 0 ≡ get_or x.places k 0 → get_or x.tags j 0 ≡ get_or x.tags k 0 → is_first x k ≡ true → k ≤ j
unfolding is_first alike
alike_before x j k places tags first =
    ⊎_elim
    (λ (u : k ≤ j). u)
    (λ (u : j < k). absurd (false≢true (rw (eq-eqb _ _ places, eq-eqb _ _ tags) at (all_at (λ m. not (alike x m k)) k first j u))))
    (le_or_lt k j)

first_alike : (x : Stream) (j k : ℕ) → is_first x j ≡ true → is_first x k ≡ true
    → get_or x.places j 0 ≡ get_or x.places k 0 → get_or x.tags j 0 ≡ get_or x.tags k 0 → j ≡ k
first_alike x j k first-j first-k places tags =
    omega (arith, alike_before x j k places tags first-k, alike_before x k j (sym places) (sym tags) first-j)

-- the line of a choice has the stream, the place and the tag of its request, so there is no other with its line
choice_told : (s : Session) (n i j a b : ℕ) → is_choice s i j ≡ true → is_choice s a b ≡ true
    → line_by s n (Event.OwnTurn (i + 1) j) ≡ line_by s n (Event.OwnTurn (a + 1) b) → (i ≡ a) × (j ≡ b)
unfolding event_fields
choice_told s n i j a b one two lines =
    let (sends-one, first_one) = choice_parts s i j one in
    let (sends-two, first_two) = choice_parts s a b two in
    let shown : ℕ → ℕ → List ℕ = λ i j. n ∷ 21 ∷ (i + 1) ∷ place_at s i j ∷ s.clock.0 ∷ tag_at s i j ∷ [] in
    let line : Outcome → List ℕ = λ o. rendered (fields_of o.line) in
    let numbers = numbers_tell (shown i j) (shown a b)
    (sym (ap line (own_outcome s n i j sends-one)) ∙ lines ∙ ap line (own_outcome s n a b sends-two)) in
    let streams : i + 1 ≡ a + 1 = cc in
    let places : place_at s i j ≡ place_at s a b = cc in
    let tags : tag_at s i j ≡ tag_at s a b = cc in
    let same : i ≡ a = omega arith in
    let Told : ℕ → Type 0 = λ m. is_first (stream_at s m) b ≡ true → place_at s i j ≡ place_at s m b → tag_at s i j ≡ tag_at s m b → j ≡ b in
    (same, subst Told same (first_alike (stream_at s i) j b first_one) first_two places tags)

-- two that may stand for an event and have one line are one
pub lines_tell_choices : (s : Session) (n : ℕ) (event a b : Event) → Among a (may_be s event) → Among b (may_be s event)
    → line_by s n a ≡ line_by s n b → a ≡ b
unfolding may_be
lines_tell_choices s n event a b =
    by_if (λ l. Among a l → Among b l → line_by s n a ≡ line_by s n b → a ≡ b) (is_send s event) _ _
    (λ sending here there lines.
    let c = choices_pass s 0 cells_max a here in
    let d = choices_pass s 0 cells_max b there in
    let told = choice_told s n (stream_of_cell c.cell) (index_of_cell c.cell) (stream_of_cell d.cell) (index_of_cell d.cell) c.passes d.passes
    (sym (ap (line_by s n) c.is) ∙ lines ∙ ap (line_by s n) d.is) in
    c.is ∙ ap₂ (λ (i j : ℕ). Event.OwnTurn (i + 1) j) told.0 told.1 ∙ sym d.is)
    (λ other here there lines. among_one a event here ∙ sym (among_one b event there))

-- ---- each request of the set

-- of the numbers below n none passes a test, or there is a first that does
abbrev none_to : (ℕ → Bool) → ℕ → Bool
none_to f n = all_to (λ k. not (f k)) n

abbrev Searched : (ℕ → Bool) → ℕ → Type 0
Searched f n = (none_to f n ≡ true) ⊎ ((k : ℕ) × (k < n) × (f k ≡ true) × (none_to f k ≡ true))

searched : (f : ℕ → Bool) (n : ℕ) → Searched f n
unfolding all_to
searched f zero = inl refl
searched f (suc n) = ⊎_elim (go (f n) refl) (λ (k, l, passes, none). inr (k, omega arith, passes, none)) (searched f n)
  where
    go : (b : Bool) → f n ≡ b → none_to f n ≡ true → Searched f (suc n)
    go true passes none = inr (n, omega arith, passes, none)
    go false fails none = inl (rw (none, fails))

-- the first of the requests of a queue that are like request j: itself or an earlier one
record Earliest (x : Stream) (j : ℕ) : Type 0 where
  index : ℕ
  low : index ≤ j
  places : get_or x.places index 0 ≡ get_or x.places j 0
  tags : get_or x.tags index 0 ≡ get_or x.tags j 0
  first : is_first x index ≡ true

earliest : (x : Stream) (j : ℕ) → Earliest x j
unfolding is_first alike
earliest x j =
    ⊎_elim
    (λ none. record { index = j; low = omega arith; places = refl; tags = refl; first = none })
    (λ (k, l, is, none).
    let same = both _ _ is in
    let places = eqb-true _ _ same.0 in
    let tags = eqb-true _ _ same.1 in
    record { index = k; low = omega arith; places = places; tags = tags; first = simp (places, tags) none })
    (searched (λ k. alike x k j) j)

-- what may stand for a turn that sends are the choices
send_may_be : (s : Session) → sends s Call.Turn ≡ true → may_be s Event.Turn ≡ choices_from s 0 cells_max
unfolding may_be if
send_may_be s e = rw e

-- so they are own turns of requests of the set; and the first of those alike to a request of the set is one of them, and has its line
pub any_request_may_stand : AnyRequestMayStand
unfolding is_choice is_first
any_request_may_stand s e = (
  λ event among.
      let c = choices_pass s 0 cells_max event (rw (send_may_be s e) at among) in
      let i = stream_of_cell c.cell in
      let j = index_of_cell c.cell in
      let g = (own_sent s i j (choice_parts s i j c.passes).0).grounds in
      record {
        stream = i;
        index = j;
        own_turn = c.is;
        exists = g.exists;
        of_the_set = lt-ltb j (filled_at s i) g.in_set;
        in_order = λ k l. not-true _ (all_at (λ m. not (alike (stream_at s i) m j)) j (choice_parts s i j c.passes).1 k l);
      },
  λ i j exists among.
      let first = earliest (stream_at s i) j in
      let k = first.index in
      let high : j < filled_at s i = ltb-true j (filled_at s i) among in
      let own : (m : ℕ) → m ≤ j → sends s (Call.OwnTurn (i + 1) m) ≡ true = λ m l. rw (set_is_sent s e i m, lt-ltb i s.count exists, lt-ltb m (filled_at s i) (omega arith)) in
      let own-k = own k first.low in (
        k,
        first.low,
        rw (send_may_be s e) (choice_among s i k (rw (own-k, first.first))),
        λ n. rw (own_outcome s n i k own-k, own_outcome s n i j (own j (omega arith)), first.places, first.tags),
      ),
)
