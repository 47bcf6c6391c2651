-- What calls and replies tell adds up to what the streams' cells hold.
use mathlib.Core.Bool.{Bool, true, false}
use mathlib.Core.List.{List, ◌∷◌}
use mathlib.Core.Path.{◌≡◌, refl, sym, ◌∙◌, subst}
use Prim.Native.Nat.{ℕ, suc, ◌+◌, ◌*◌, ◌≤◌, ◌<◌}
use native.Mathlib.Omega.{arith}
use lib.ListN.{length, get_or, set}
use lib.Dec.{eqb}
use lib.Seq.{get_or-set_same, get_or-set_other}
use borrow.Author.Tests.{eqb-true, eqb-false, eq-eqb, ne_eqb}
use Rattle.table.specs.Fold.{if}
use Rattle.table.specs.Admission.{period_at}
use Rattle.table.specs.declared.Table.{Table}
use Rattle.stream.specs.Stream.{worked, arrived, without, charged, lapsed, carry, closed, moved}
use Rattle.session.specs.Session.{no_stream, stream_at, horizon}
use Rattle.session.specs.Calls.{Verdict, refuse, append, send, move, wait, expire, finish, set_clock, apply, reply_to}
use Rattle.session.specs.History.{Moment, closes, closings, due_of, since_closing, duration_of, reported, expiry, added_of, budget_of, start_of, charge_of}
use Rattle.stream.specs.declared.Stream.{Stream}
use Rattle.session.specs.declared.Session.{Session}
use Rattle.calls.specs.declared.Call.{Call}
use Rattle.calls.specs.declared.Reply.{Reply}
use Rattle.session.proofs.Sound.{Sound, admits}
use Rattle.session.proofs.Grounds.{Grounds}
use Rattle.session.proofs.MoveKept.{moved_at}
use Rattle.session.proofs.Reasons.{Reasons, done_or_overlong, clock_or_late}

-- how a stream's cells go on where its job is closed or not, with so much reported and so many slots expired
pub record Follows (closing : Bool) (lasted lost worst : ℕ) (x y : Stream) : Type 0 where
  pub granted_same : y.granted.0 ≡ x.granted.0
  pub period_same : y.period ≡ x.period
  pub charge_next : y.charge.0 ≡ if closing (carry x.charge.0 x.granted.0) (x.charge.0 + lasted + worst * lost)
  pub start_next : y.start.0 ≡ if closing (carry x.charge.0 x.granted.0) x.start.0
  pub expired_next : y.expired ≡ if closing 0 (x.expired + lost)
  pub deadline_next : y.deadline.0 ≡ if closing (x.deadline.0 + x.period) x.deadline.0

-- with another charge, expired count and queue
worked_on : (lasted lost worst : ℕ) (x : Stream) (charge expired queued : ℕ) (places tags : List ℕ)
    → charge ≡ x.charge.0 + lasted + worst * lost → expired ≡ x.expired + lost
    → Follows false lasted lost worst x (worked x charge expired queued places tags)
unfolding if
worked_on lasted lost worst x charge expired queued places tags charge_is expired_is =
    record { granted_same = refl; period_same = refl; charge_next = charge_is; start_next = refl; expired_next = expired_is; deadline_next = refl }

-- the streams after one is changed: that one, and the others
pub set_at : (P : Stream → Type 0) (xs : List Stream) (j : ℕ) (y : Stream) → j < length xs → (i : ℕ)
    → (i ≡ j → P y) → ((i ≡ j → ⊥) → P (get_or xs i no_stream)) → P (get_or (set xs j y) i no_stream)
set_at P xs j y l i here other = go (eqb i j) refl
  where
    go : (b : Bool) → eqb i j ≡ b → P (get_or (set xs j y) i no_stream)
    go true e =
        let same : i ≡ j = eqb-true i j e in
        subst (λ (n : ℕ). P (get_or (set xs j y) n no_stream)) (sym same) (subst P (sym (get_or-set_same xs j y no_stream l)) (here same))
    go false e = subst P (sym (get_or-set_other xs j i y no_stream (eqb-false i j e))) (other (eqb-false i j e))

module _ (s : Session) (q : Sound s) (k : Call) (i : ℕ) where
  abbrev x : Stream
  x = stream_at s i

  cell : (j : ℕ) → j < s.count → j < length s.streams
  cell j l = omega (arith, q.fit.eight, (admits s q).numbers.count_high)

  -- how stream i goes on, by what the call and its reply tell
  abbrev Told : Reply → Stream → Type 0
  Told r y =
      let m : Moment = record { before = s; call = k; answer = record { session = s; reply = r } } in
      Follows (closes i m) (reported i m) (expiry i m) s.worst x y

  -- nothing is told, and nothing changes
  quiet : Follows false 0 0 s.worst x x
  quiet = worked_on 0 0 s.worst x x.charge.0 x.expired x.queued x.places x.tags (omega arith) (omega arith)

  -- stream i is the one at j
  at : (j lasted lost charge expired queued : ℕ) (places tags : List ℕ) → i ≡ j
      → charge ≡ (stream_at s j).charge.0 + lasted + s.worst * lost → expired ≡ (stream_at s j).expired + lost
      → Follows false lasted lost s.worst x (worked (stream_at s j) charge expired queued places tags)
  at j lasted lost charge expired queued places tags same charge_is expired_is =
      subst (λ (n : ℕ). Follows false lasted lost s.worst (stream_at s n) (worked (stream_at s j) charge expired queued places tags)) (sym same)
      (worked_on lasted lost s.worst (stream_at s j) charge expired queued places tags charge_is expired_is)

  -- what the reply to a verdict tells is how it goes on
  abbrev pub Tells : Verdict → Type 0
  Tells v = Told (reply_to s v) (stream_at (apply s v) i)

  refuse_told : (n : ℕ) → n ≤ 15 → Tells (refuse n)
  unfolding apply reply_to if
  refuse_told n low =
      rw (ne_eqb n 22 (λ e. omega arith), ne_eqb n 23 (λ e. omega arith), ne_eqb n 25 (λ e. omega arith), ne_eqb n 26 (λ e. omega arith)) quiet

  append_told : (j place tag : ℕ) → j < s.count → Tells (append j place tag)
  unfolding apply reply_to if arrived
  append_told j place tag l = set_at (Told (reply_to s (append j place tag))) s.streams j _ (cell j l) i (λ e. at j 0 0 _ _ _ _ _ e (omega arith) (omega arith)) (λ e. quiet)

  send_told : (j n : ℕ) → j < s.count → Tells (send j n)
  unfolding apply reply_to if without
  send_told j n l = set_at (Told (reply_to s (send j n))) s.streams j _ (cell j l) i (λ e. at j 0 0 _ _ _ _ _ e (omega arith) (omega arith)) (λ e. quiet)

  move_told : Tells move
  unfolding apply reply_to if moved closed
  move_told =
      subst (Told (reply_to s move)) (sym (moved_at s q i))
      (go (eqb x.deadline.0 (horizon s)))
    where
      go : (b : Bool) → Follows b 0 0 s.worst x (if b (closed s.clock x) x)
      go true = record { granted_same = refl; period_same = refl; charge_next = refl; start_next = refl; expired_next = refl; deadline_next = refl }
      go false = quiet

  expire_told : (j : ℕ) → j < s.count → Tells (expire j)
  unfolding apply reply_to if lapsed
  expire_told j l =
      set_at (Told (reply_to s (expire j))) s.streams j _ (cell j l) i
      (λ e. rw (eq-eqb (j + 1) (i + 1) (omega arith)) (at j 0 1 _ _ _ _ _ e (omega arith) refl))
      (λ e. rw (ne_eqb (j + 1) (i + 1) (λ f. e (omega arith))) quiet)

  -- a completion, overlong or not
  charged_told : (j a : ℕ) → j < s.count → duration_of k ≡ a
      → Follows false (if (eqb (j + 1) (i + 1)) (duration_of k) 0) 0 s.worst x (stream_at (apply s (finish j a)) i)
  unfolding apply if charged
  charged_told j a l lasted =
      set_at (Follows false (if (eqb (j + 1) (i + 1)) (duration_of k) 0) 0 s.worst x) s.streams j _ (cell j l) i
      (λ e. rw (eq-eqb (j + 1) (i + 1) (omega arith), lasted) (at j a 0 _ _ _ _ _ e (omega arith) (omega arith)))
      (λ e. rw (ne_eqb (j + 1) (i + 1) (λ f. e (omega arith))) quiet)

  finish_told : (j a : ℕ) → j < s.count → duration_of k ≡ a → Tells (finish j a)
  unfolding if
  finish_told j a l lasted =
      let grown = charged_told j a l lasted in
      done_or_overlong (λ r. Told r (stream_at (apply s (finish j a)) i)) s j a (λ over. grown) (λ short. grown)

  clock_told : (t : ℕ) → Tells (set_clock t)
  unfolding apply if
  clock_told t = clock_or_late (λ r. Told r x) s t (λ after-l. quiet) (λ early. quiet)

  -- whatever a call comes to
  pub told : (v : Verdict) → Grounds s v → Reasons s k v → Tells v
  unfolding apply reply_to if
  told (refuse n) g r = refuse_told n r
  told (append j place tag) g r = append_told j place tag g.exists
  told (send j n) g r = send_told j n g.exists
  told move g r = move_told
  told wait g r = quiet
  told (expire j) g r = expire_told j g.exists
  told (finish j a) g r = finish_told j a g.exists r
  told (set_clock t) g r = clock_told t

-- the cells of stream i hold what the history tells
pub record Holds (t : Table) (i : ℕ) (past : List Moment) (x : Stream) : Type 0 where
  pub granted_is : x.granted.0 ≡ budget_of t i
  pub period_is : x.period ≡ period_at t i
  pub charge_is : x.charge.0 ≡ charge_of t i past
  pub start_is : x.start.0 ≡ start_of t i past
  pub expired_is : x.expired ≡ since_closing expiry i past
  pub deadline_is : x.deadline.0 ≡ due_of t i past

-- how the sums over the history go on, and what is handed on with them
charge_adds_up : (b : Bool) (next charge budget start lasted lasted-before lost lost-before worst : ℕ)
    → next ≡ if b (carry charge budget) (charge + lasted + worst * lost)
    → charge ≡ start + (lasted-before + worst * lost-before)
    → next ≡ if b (carry (start + (lasted-before + worst * lost-before)) budget) start + (if b 0 (lasted + lasted-before) + worst * if b 0 (lost + lost-before))
unfolding if
charge_adds_up true next charge budget start lasted lasted-before lost lost-before worst e f = omega arith
charge_adds_up false next charge budget start lasted lasted-before lost lost-before worst e f = omega arith

start_goes_on : (b : Bool) (next charge budget start before total : ℕ) → next ≡ if b (carry charge budget) start → charge ≡ total → start ≡ before
    → next ≡ if b (carry total budget) before
unfolding if
start_goes_on b next charge budget start before total e f g = rw (e, f, g)

expired_adds_up : (b : Bool) (next expired lost lost-before : ℕ) → next ≡ if b 0 (expired + lost) → expired ≡ lost-before
    → next ≡ if b 0 (lost + lost-before)
unfolding if
expired_adds_up true next expired lost lost-before e f = e
expired_adds_up false next expired lost lost-before e f = omega arith

deadline_adds_up : (b : Bool) (next deadline period closings : ℕ) → next ≡ if b (deadline + period) deadline → deadline ≡ suc closings * period
    → next ≡ suc (if b (suc closings) closings) * period
unfolding if
deadline_adds_up true next deadline period closings e f = omega arith
deadline_adds_up false next deadline period closings e f = omega arith

-- so the cells go on holding it
pub holds_on : (t : Table) (i : ℕ) (past : List Moment) (m : Moment) (x y : Stream) → Holds t i past x
    → Follows (closes i m) (reported i m) (expiry i m) t.worst x y → Holds t i (m ∷ past) y
unfolding charge_of added_of start_of since_closing due_of closings
holds_on t i past m x y held f =
    record {
      granted_is = f.granted_same ∙ held.granted_is;
      period_is = f.period_same ∙ held.period_is;
      charge_is = charge_adds_up (closes i m) y.charge.0 x.charge.0 (budget_of t i) (start_of t i past)
          (reported i m) (since_closing reported i past) (expiry i m) (since_closing expiry i past) t.worst
          (subst (λ (g : ℕ). y.charge.0 ≡ if (closes i m) (carry x.charge.0 g) (x.charge.0 + reported i m + t.worst * expiry i m)) held.granted_is f.charge_next)
          held.charge_is;
      start_is = start_goes_on (closes i m) y.start.0 x.charge.0 (budget_of t i) x.start.0 (start_of t i past) (charge_of t i past)
          (subst (λ (g : ℕ). y.start.0 ≡ if (closes i m) (carry x.charge.0 g) x.start.0) held.granted_is f.start_next) held.charge_is held.start_is;
      expired_is = expired_adds_up (closes i m) y.expired x.expired (expiry i m) (since_closing expiry i past) f.expired_next held.expired_is;
      deadline_is = deadline_adds_up (closes i m) y.deadline.0 x.deadline.0 (period_at t i) (closings i past)
          (subst (λ (p : ℕ). y.deadline.0 ≡ if (closes i m) (x.deadline.0 + p) x.deadline.0) held.period_is f.deadline_next) held.deadline_is;
    }
