-- Tags decide nothing: what is looked at is the same without them, and so is what comes of it.
use mathlib.Core.Bool.{Bool, true, false, not, ◌&&◌, ◌||◌}
use mathlib.Core.List.{List, [], ◌∷◌, map, map-map}
use mathlib.Core.Path.{◌≡◌, refl, sym, ◌∙◌, ap, ap₂, fun_ext}
use Prim.Native.Nat.{ℕ, zero, suc, ◌+◌, ◌-◌, ◌*◌, ◌/◌}
use lib.Dec.{leb, ltb, eqb}
use lib.IntN.{ℤ, pos, ◌-ℤ◌}
use lib.ListN.{get_or, set, get_or-map}
use Rattle.table.specs.Fold.{if, sum_to, smallest_to, all_to, some_to}
use Rattle.table.specs.Refusal.{given, ◌or_next◌}
use Rattle.table.specs.Whole.{signed_sum_to}
use Rattle.table.proofs.Lists.{map_alike}
use Rattle.time.specs.Time.{moment, disk_time}
use Rattle.time.specs.Latest.{remainders}
use Rattle.time.specs.declared.Clock.{Clock}
use Rattle.time.specs.declared.Charge.{Charge}
use Rattle.stream.specs.Stream.{queue_max, slots, filled, part_of, arrived, without, charged, lapsed, closed, moved, closes_past_end}
use Rattle.stream.specs.Choice.{first_best, leading, expires_first}
use Rattle.stream.specs.declared.Stream.{Stream}
use Rattle.session.specs.Session.{no_stream, stream_at, place_at, horizon, filled_at, some_filled, no_slot, latest, remainders_of, sound, with_streams, with_stream, with_disk, with_ahead, looking_ahead}
use Rattle.session.specs.Choice.{taken_before, leading_at, sent_before, chosen, expiring}
use Rattle.session.specs.Calls.{Verdict, refuse, append, send, move, wait, expire, finish, set_clock, no_such_stream, busy, move_passes_end, call_refusal, refusal, turn_effect, effect, ruled, verdict, apply, overlong, late, reply_to, answer_to, Line, line_of, lines_from}
use Rattle.session.specs.Tags.{untagged_stream, untagged, untagged_call, untagged_reply, untagged_line}
use Rattle.session.specs.Laws.{TagsDecideNothing, TagsShowLast}
use Rattle.session.specs.declared.Session.{Session}
use Rattle.calls.specs.declared.Call.{Call}
use Rattle.calls.specs.declared.Reply.{Reply}
use Rattle.session.proofs.Keeps.{calls_keep_sound}
use Rattle.session.proofs.Openings.{opening_is_sound}

map_set : {A B : Type 0} (f : A → B) (xs : List A) (i : ℕ) (y : A) → map f (set xs i y) ≡ set (map f xs) i (f y)
map_set f [] i y = refl
map_set f (x ∷ xs) zero y = refl
map_set {A} {B} f (x ∷ xs) (suc i) y = ap (λ (ys : List B). f x ∷ ys) (map_set f xs i y)

module _ (s : Session) where
  abbrev u : Session
  u = untagged s

  stream_alike : (i : ℕ) → stream_at u i ≡ untagged_stream (stream_at s i)
  stream_alike i = get_or-map untagged_stream s.streams i no_stream

  streams_alike : stream_at u ≡ (λ (i : ℕ). untagged_stream (stream_at s i))
  streams_alike = fun_ext stream_alike

  horizon_alike : horizon u ≡ horizon s
  unfolding horizon
  horizon_alike = ap (λ (x : ℕ → Stream). smallest_to (λ i. (x i).deadline.0) s.count) streams_alike

  -- whatever is made of the horizon and the streams
  seen : {A : Type 0} (look : ℕ → (ℕ → Stream) → A) → look (horizon u) (stream_at u) ≡ look (horizon s) (λ i. untagged_stream (stream_at s i))
  seen look = ap₂ look horizon_alike streams_alike

  filled_alike : (i : ℕ) → filled_at u i ≡ filled_at s i
  unfolding filled slots
  filled_alike i = seen (λ h x. filled s.worst h (x i))

  some_filled_alike : some_filled u ≡ some_filled s
  unfolding some_filled filled slots
  some_filled_alike = seen (λ h x. some_to (λ i. leb 1 (filled s.worst h (x i))) s.count)

  no_slot_alike : no_slot u ≡ no_slot s
  unfolding no_slot slots
  no_slot_alike = seen (λ h x. all_to (λ i. eqb (slots s.worst h (x i)) 0) s.count)

  latest_alike : latest u ≡ latest s
  unfolding latest
  latest_alike = seen (λ h x. ((h + sum_to (λ i. (x i).charge.0) s.count) * s.span - sum_to (λ i. part_of s.span h (x i)) s.count) / s.span)

  remainders_alike : remainders_of u ≡ remainders_of s
  unfolding remainders_of
  remainders_alike = seen (λ h x. signed_sum_to (λ i. pos (part_of s.span h (x i)) -ℤ pos ((x i).charge.0 * s.span)) s.count)

  passes_alike : move_passes_end u ≡ move_passes_end s
  unfolding move_passes_end
  passes_alike = seen (λ h x. some_to (λ i. closes_past_end h (x i)) s.count)

  leading_alike : (i : ℕ) → leading_at u i ≡ leading_at s i
  unfolding filled slots
  leading_alike i = seen (λ h x. leading (taken_before s) (x i).places (filled s.worst h (x i)))

  chosen_alike : chosen u ≡ chosen s
  unfolding chosen sent_before filled slots
  chosen_alike =
      seen
      (λ h x.
      let place : ℕ → ℕ = λ i. get_or (x i).places (leading (taken_before s) (x i).places (filled s.worst h (x i))) 0 in
      first_best (λ i. leb 1 (filled s.worst h (x i)))
      (λ a b. ltb (x a).deadline.0 (x b).deadline.0 || (eqb (x a).deadline.0 (x b).deadline.0 && taken_before s (place a) (place b))) s.count)

  expiring_alike : expiring u ≡ expiring s
  unfolding expiring expires_first slots
  expiring_alike = seen (λ h x. first_best (λ i. leb 1 (slots s.worst h (x i))) (λ a b. expires_first (x a) (x b)) s.count)

  place_alike : (i j : ℕ) → place_at u i j ≡ place_at s i j
  place_alike i j = ap (λ (x : Stream). get_or x.places j 0) (stream_alike i)

  -- the first refusal of a call, and what it comes to
  refusal_alike : (k : Call) → call_refusal u k ≡ call_refusal s k
  unfolding call_refusal no_such_stream busy
  refusal_alike (Call.Arrival n place tag) =
      ap (λ (x : Stream). given (no_such_stream s n) 8 or_next given (eqb x.queued queue_max) 9) (stream_alike (n - 1))
  refusal_alike Call.Turn = ap₂ (λ (a b : Bool). given (busy s) 10 or_next given (a && b) 14) no_slot_alike passes_alike
  refusal_alike (Call.OwnTurn n j) =
      ap (λ (m : ℕ). given (busy s) 10 or_next given (no_such_stream s n) 8 or_next given (not (ltb j m)) 15) (filled_alike (n - 1))
  refusal_alike (Call.Done a) = refl
  refusal_alike (Call.Clock t) = refl

  turn_alike : turn_effect u ≡ turn_effect s
  unfolding turn_effect
  turn_alike =
      let sends : send (chosen u) (leading_at u (chosen u)) ≡ send (chosen s) (leading_at s (chosen s)) =
      ap (λ (c : ℕ). send c (leading_at u c)) chosen_alike ∙ ap (send (chosen s)) (leading_alike (chosen s)) in
      let waits : if (ltb s.clock.0 (latest u)) wait (expire (expiring u)) ≡ if (ltb s.clock.0 (latest s)) wait (expire (expiring s)) =
      ap₂ (λ (l i : ℕ). if (ltb s.clock.0 l) wait (expire i)) latest_alike expiring_alike in
      let moves : if (no_slot u) move (if (ltb s.clock.0 (latest u)) wait (expire (expiring u))) ≡ if (no_slot s) move (if (ltb s.clock.0 (latest s)) wait (expire (expiring s))) =
      ap₂ (λ (b : Bool) (v : Verdict). if b move v) no_slot_alike waits in
      ap (λ (b : Bool). if b (send (chosen u) (leading_at u (chosen u))) (if (no_slot u) move (if (ltb s.clock.0 (latest u)) wait (expire (expiring u))))) some_filled_alike
      ∙ ap₂ (λ (v w : Verdict). if (some_filled s) v w) sends moves

  effect_alike : (k : Call) → effect u k ≡ effect s k
  unfolding effect
  effect_alike (Call.Arrival n place tag) = refl
  effect_alike Call.Turn = turn_alike
  effect_alike (Call.OwnTurn n j) = refl
  effect_alike (Call.Done a) = refl
  effect_alike (Call.Clock t) = refl

  -- a session without tags has none to lose
  twice : untagged s ≡ untagged u
  twice =
      ap (λ (xs : List Stream). with_disk (with_streams s xs) s.clock s.head s.served s.place 0)
      (sym (map_alike untagged_stream untagged_stream (λ x. refl) s.streams))

  -- a stream that is changed by what does not look at tags
  changed_alike : (g : Stream → Stream) → ((x : Stream) → untagged_stream (g (untagged_stream x)) ≡ untagged_stream (g x)) → (i : ℕ)
      → untagged (with_stream s i (g (stream_at s i))) ≡ untagged (with_stream u i (g (stream_at u i)))
  changed_alike g blind i =
      let xs = s.streams in
      ap (λ (ys : List Stream). with_disk (with_streams s ys) s.clock s.head s.served s.place 0)
      (map_set untagged_stream xs i (g (stream_at s i))
      ∙ ap₂ (λ (ys : List Stream) (y : Stream). set ys i y)
      (sym (map_alike untagged_stream untagged_stream (λ x. refl) xs))
      (sym (blind (stream_at s i)) ∙ ap (λ (x : Stream). untagged_stream (g x)) (sym (stream_alike i)))
      ∙ sym (map_set untagged_stream (map untagged_stream xs) i (g (stream_at u i))))

-- it looks ahead to the same
ahead_alike : (z : Session) → untagged (looking_ahead z) ≡ looking_ahead (untagged z)
unfolding horizon remainders_of
ahead_alike z = ap₂ (λ (h : ℕ) (r : ℤ). with_ahead (untagged z) (moment h) (remainders r)) (sym (horizon_alike z)) (sym (remainders_alike z))

looking_alike : (a b : Session) → untagged a ≡ untagged b → untagged (looking_ahead a) ≡ untagged (looking_ahead b)
looking_alike a b same = ahead_alike a ∙ ap (λ (z : Session). looking_ahead z) same ∙ sym (ahead_alike b)

-- a stream that may close its job
moved_alike : (now : Clock) (h : ℕ) (x : Stream) → untagged_stream (moved now h (untagged_stream x)) ≡ untagged_stream (moved now h x)
unfolding moved closed if
moved_alike now h x = go (eqb x.deadline.0 h)
  where
    go : (b : Bool) → untagged_stream (if b (closed now (untagged_stream x)) (untagged_stream x)) ≡ untagged_stream (if b (closed now x) x)
    go true = refl
    go false = refl

module _ (s : Session) where
  moves_alike : untagged (with_streams s (map (moved s.clock (horizon s)) s.streams))
      ≡ untagged (with_streams (untagged s) (map (moved s.clock (horizon (untagged s))) (untagged s).streams))
  moves_alike =
      let f = untagged_stream in
      let now = s.clock in
      let xs = s.streams in
      let close : ℕ → List Stream → List Stream = λ h ys. map (moved now h) ys in
      ap (λ (ys : List Stream). with_disk (with_streams s ys) now s.head s.served s.place 0)
      (map-map f (moved now (horizon s)) xs
      ∙ ap (λ (g : Stream → Stream). map g xs) (fun_ext (λ x. sym (moved_alike now (horizon s) x)))
      ∙ sym (map-map (λ x. f (moved now (horizon s) x)) f xs)
      ∙ sym (map-map f (moved now (horizon s)) (map f xs))
      ∙ ap (λ (h : ℕ). map f (close h (map f xs))) (sym (horizon_alike s)))

  -- the session after each verdict
  pub apply_alike : (v : Verdict) → untagged (apply s v) ≡ untagged (apply (untagged s) v)
  unfolding apply arrived without charged lapsed
  apply_alike (refuse n) = twice s
  apply_alike (append i place tag) = changed_alike s (arrived place tag) (λ x. refl) i
  apply_alike (send i j) =
      ap₂ (λ (z : Session) (place : ℕ). with_disk z s.clock place (i + 1) place 0) (changed_alike s (without j) (λ x. refl) i) (sym (place_alike s i j))
  apply_alike move = looking_alike _ _ moves_alike
  apply_alike wait = twice s
  apply_alike (expire i) = looking_alike _ _ (changed_alike s (lapsed s.worst) (λ x. refl) i)
  apply_alike (finish i a) =
      looking_alike _ _
      (ap (λ (z : Session). with_disk z (moment (s.clock.0 + a)) s.head 0 0 0) (changed_alike s (charged a) (λ x. refl) i))
  apply_alike (set_clock t) = ap (λ (z : Session). with_disk z (moment t) s.head s.served s.place 0) (twice s)

  moved_horizon : horizon (apply s move) ≡ horizon (apply (untagged s) move)
  moved_horizon =
      sym (horizon_alike (apply s move)) ∙ ap (λ (z : Session). horizon z) (apply_alike move) ∙ horizon_alike (apply (untagged s) move)

  -- and the reply
  ended : (b : Bool) (i tag : ℕ) (charge : Charge)
      → untagged_reply (if b (Reply.Overlong i charge tag) (Reply.Done i charge tag)) ≡ if b (Reply.Overlong i charge 0) (Reply.Done i charge 0)
  unfolding if
  ended true i tag charge = refl
  ended false i tag charge = refl

  pub reply_alike : (v : Verdict) → untagged_reply (reply_to s v) ≡ untagged_reply (reply_to (untagged s) v)
  unfolding reply_to overlong late
  reply_alike (refuse n) = refl
  reply_alike (append i place tag) = ap (λ (x : Stream). Reply.Arrived (i + 1) (x.queued + 1)) (sym (stream_alike s i))
  reply_alike (send i j) = ap (λ (place : ℕ). Reply.Sent (i + 1) place 0) (sym (place_alike s i j))
  reply_alike move = ap (λ (h : ℕ). Reply.Moved (moment h)) moved_horizon
  reply_alike wait = ap (λ (l : ℕ). Reply.Wait (moment l)) (sym (latest_alike s))
  reply_alike (expire i) = ap (λ (x : Stream). Reply.Expired (i + 1) (disk_time (x.charge.0 + s.worst))) (sym (stream_alike s i))
  reply_alike (finish i a) =
      let over = ltb s.worst a in
      let charge : Session → Charge = λ z. disk_time ((stream_at z i).charge.0 + a) in
      ended over (i + 1) s.tag (charge s)
      ∙ ap (λ (x : Stream). let c = disk_time (x.charge.0 + a) in if over (Reply.Overlong (i + 1) c 0) (Reply.Done (i + 1) c 0)) (sym (stream_alike s i))
      ∙ sym (ended over (i + 1) 0 (charge (untagged s)))
  reply_alike (set_clock t) =
      ap (λ (l : ℕ). untagged_reply (if (ltb l t && ltb s.clock.0 t) (Reply.Late (moment t)) (Reply.Clock (moment t)))) (sym (latest_alike s))

-- what a call comes to in a session that nobody judges
abbrev unjudged : Session → Call → Verdict
unjudged s k = ruled (call_refusal s k) (effect s k)

-- a call whose tag is not looked at
module _ (s : Session) where
  joins : (n i place tag : ℕ) → (untagged (apply s (ruled n (append i place tag))) ≡ untagged (apply s (ruled n (append i place 0))))
      × (untagged_reply (reply_to s (ruled n (append i place tag))) ≡ untagged_reply (reply_to s (ruled n (append i place 0))))
  unfolding apply reply_to ruled arrived
  joins zero i place tag = (
    ap (λ (ys : List Stream). with_disk (with_streams s ys) s.clock s.head s.served s.place 0)
        (map_set untagged_stream s.streams i (arrived place tag (stream_at s i)) ∙ sym (map_set untagged_stream s.streams i (arrived place 0 (stream_at s i)))),
    refl,
  )
  joins (suc n) i place tag = (refl, refl)

  call_alike : (k : Call) → (untagged (apply s (unjudged s k)) ≡ untagged (apply s (unjudged s (untagged_call k))))
      × (untagged_reply (reply_to s (unjudged s k)) ≡ untagged_reply (reply_to s (unjudged s (untagged_call k))))
  unfolding call_refusal effect
  call_alike (Call.Arrival n place tag) = joins (call_refusal s (Call.Arrival n place tag)) (n - 1) place tag
  call_alike Call.Turn = (refl, refl)
  call_alike (Call.OwnTurn n j) = (refl, refl)
  call_alike (Call.Done a) = (refl, refl)
  call_alike (Call.Clock t) = (refl, refl)

-- A sound session that is seen without its tags: what comes of a call is read off that alone.
module _ (s : Session) (k : Call) (ok : sound s ≡ true) where
  verdict_alike : verdict s k ≡ unjudged (untagged s) k
  unfolding verdict refusal given ◌or_next◌
  verdict_alike = rw ok (ap₂ ruled (sym (refusal_alike s k)) (sym (effect_alike s k)))

  session_seen : untagged (answer_to s k).session ≡ untagged (apply (untagged s) (unjudged (untagged s) (untagged_call k)))
  unfolding answer_to
  session_seen =
      ap (λ (v : Verdict). untagged (apply s v)) verdict_alike ∙ apply_alike s (unjudged (untagged s) k) ∙ (call_alike (untagged s) k).0

  reply_seen : untagged_reply (answer_to s k).reply ≡ untagged_reply (reply_to (untagged s) (unjudged (untagged s) (untagged_call k)))
  unfolding answer_to
  reply_seen =
      ap (λ (v : Verdict). untagged_reply (reply_to s v)) verdict_alike ∙ reply_alike s (unjudged (untagged s) k) ∙ (call_alike (untagged s) k).1

pub tags_decide_nothing : TagsDecideNothing
tags_decide_nothing s z k l ok fine same calls = (
  session_seen s k ok
      ∙ ap₂ (λ (w : Session) (c : Call). untagged (apply w (unjudged w c))) same calls
      ∙ sym (session_seen z l fine),
  reply_seen s k ok
      ∙ ap₂ (λ (w : Session) (c : Call). untagged_reply (reply_to w (unjudged w c))) same calls
      ∙ sym (reply_seen z l fine),
)

-- ---- printed lines

call_twice : (k : Call) → untagged_call (untagged_call k) ≡ untagged_call k
call_twice (Call.Arrival n place tag) = refl
call_twice Call.Turn = refl
call_twice (Call.OwnTurn n j) = refl
call_twice (Call.Done a) = refl
call_twice (Call.Clock t) = refl

-- a line but for its tag, off an answer without tags
abbrev seen_line : ℕ → Call → Session → Reply → Line
seen_line n k s r = untagged_line (line_of n k (record { session = s; reply = r }))

line_alike : (n : ℕ) (k : Call) (s : Session) (r : Reply) → seen_line n k s r ≡ seen_line n (untagged_call k) (untagged s) (untagged_reply r)
unfolding line_of
line_alike n (Call.Arrival i place tag) s (Reply.Refused m) = refl
line_alike n Call.Turn s (Reply.Refused m) = refl
line_alike n (Call.OwnTurn i j) s (Reply.Refused m) = refl
line_alike n (Call.Done a) s (Reply.Refused m) = refl
line_alike n (Call.Clock t) s (Reply.Refused m) = refl
line_alike n k s (Reply.Arrived i queued) = refl
line_alike n k s (Reply.Sent i place tag) = refl
line_alike n k s (Reply.Expired i charge) = refl
line_alike n k s (Reply.Moved h) = refl
line_alike n k s (Reply.Wait until) = refl
line_alike n k s (Reply.Done i charge tag) = refl
line_alike n k s (Reply.Overlong i charge tag) = refl
line_alike n k s (Reply.Clock t) = refl
line_alike n k s (Reply.Late t) = refl

lines_alike : (n : ℕ) (s z : Session) (calls : List Call) → sound s ≡ true → sound z ≡ true → untagged s ≡ untagged z
    → map untagged_line (lines_from n s calls) ≡ map untagged_line (lines_from n z (map untagged_call calls))
unfolding lines_from
lines_alike n s z [] ok fine same = refl
lines_alike n s z (k ∷ calls) ok fine same =
    let l = untagged_call k in
    let a = answer_to s k in
    let b = answer_to z l in
    let next = tags_decide_nothing s z k l ok fine same (sym (call_twice k)) in
    let line : seen_line n k a.session a.reply ≡ seen_line n l b.session b.reply =
    line_alike n k a.session a.reply
    ∙ ap₂ (seen_line n l) next.0 next.1
    ∙ ap (λ (c : Call). seen_line n c (untagged b.session) (untagged_reply b.reply)) (sym (call_twice k))
    ∙ sym (line_alike n l b.session b.reply) in
    ap₂ (λ (x : Line) (xs : List Line). x ∷ xs) line
    (lines_alike (n + 1) a.session b.session calls (calls_keep_sound s k ok) (calls_keep_sound z l fine) next.0)

pub tags_show_last : TagsShowLast
tags_show_last t s calls new =
    let ok = opening_is_sound.0 t s new in
    lines_alike 1 s s calls ok ok refl
