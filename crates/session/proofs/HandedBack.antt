-- The tag that a completion hands back is the one with which its request arrived: history and session have the same requests queued and at the disk.
use mathlib.Core.Bool.{Bool, true, false, ◌||◌, false≢true}
use mathlib.Core.List.{List, [], ◌∷◌, ◌++◌}
use mathlib.Core.Path.{◌≡◌, refl, sym, ◌∙◌, ap, ap₂, subst}
use Prim.Native.Nat.{ℕ, ◌+◌, ◌<◌}
use native.Mathlib.Omega.{arith}
use lib.Dec.{eqb}
use lib.ListN.{length, get_or, set}
use borrow.Author.Tests.{eq-eqb, ne_eqb}
use Rattle.table.specs.Fold.{if, leaving}
use Rattle.table.specs.declared.Table.{Table}
use Rattle.table.proofs.Lists.{set_alike}
use Rattle.stream.specs.Stream.{filled, charged, lapsed, closed, moved, fresh_stream}
use Rattle.stream.specs.declared.Stream.{Stream}
use Rattle.time.specs.declared.Clock.{Clock}
use Rattle.session.specs.Session.{no_stream, stream_at, horizon}
use Rattle.session.specs.Calls.{Verdict, refuse, append, send, move, wait, expire, finish, set_clock, verdict, apply, reply_to, answer_to, after}
use Rattle.session.specs.Opening.{NewlyOpened}
use Rattle.session.specs.History.{Moment, history_from, history_of, replied}
use Rattle.session.specs.Tags.{Request, no_request, waiting_after, waiting, at_disk_after, at_disk, requests, queued_in, queued_at, served_at, request_in}
use Rattle.session.specs.Laws.{HandedBack, TagComesBack}
use Rattle.session.specs.declared.Session.{Session}
use Rattle.calls.specs.declared.Call.{Call}
use Rattle.calls.specs.declared.Reply.{Reply}
use Rattle.session.proofs.Sound.{Sound, admits}
use Rattle.session.proofs.Grounds.{Grounds, verdict_grounds}
use Rattle.session.proofs.Keeps.{effect_kept}
use Rattle.session.proofs.MoveKept.{moved_at}
use Rattle.session.proofs.Openings.{begun}
use Rattle.session.proofs.Reasons.{Reasons, verdict_reasons, done_or_overlong, clock_or_late}
use Rattle.session.proofs.Histories.{set_at}
use Rattle.session.proofs.Promise.{moment_of, table_same, part, numbers_are_kept}
use Rattle.session.proofs.Requests.{joined, left, taken}

-- a session that has the requests of its history
record Has (s : Session) (past : List Moment) : Type 0 where
  orderly : Sound s
  queues : (i : ℕ) → i < s.count → queued_at s i ≡ waiting i past
  disk : served_at s ≡ at_disk past

-- a move leaves queues as they are
queue_moved : (i : ℕ) (now : Clock) (h : ℕ) (x : Stream) → queued_in i (moved now h x) ≡ queued_in i x
unfolding moved closed if
queue_moved i now h x = go (eqb x.deadline.0 h)
  where
    go : (b : Bool) → queued_in i (if b (closed now x) x) ≡ queued_in i x
    go true = refl
    go false = refl

module _ (s : Session) (past : List Moment) (has : Has s past) where
  cell : (i : ℕ) → i < s.count → i < length s.streams
  cell i l = omega (arith, has.orderly.fit.eight, (admits s has.orderly).numbers.count_high)

  -- where stream n alone is changed, the others have what they had
  changed : (k : Call) (v : Verdict) (n : ℕ) (y : Stream) → n < s.count
      → ((i : ℕ) → eqb n i ≡ false → waiting_after i k v (waiting i past) ≡ waiting i past)
      → queued_in n y ≡ waiting_after n k v (waiting n past)
      → (i : ℕ) → i < s.count → queued_in i (get_or (set s.streams n y) i no_stream) ≡ waiting_after i k v (waiting i past)
  changed k v n y l others own i m =
      set_at (λ z. queued_in i z ≡ waiting_after i k v (waiting i past)) s.streams n y (cell n l) i
      (λ e. subst (λ (j : ℕ). queued_in j y ≡ waiting_after j k v (waiting j past)) (sym e) own)
      (λ other. has.queues i m ∙ sym (others i (ne_eqb n i (λ e. other (sym e)))))

  -- what each verdict leaves queued
  append_on : (k : Call) (n place tag : ℕ) → Grounds s (append n place tag) → Reasons s k (append n place tag) → (i : ℕ) → i < s.count
      → queued_at (apply s (append n place tag)) i ≡ waiting_after i k (append n place tag) (waiting i past)
  unfolding apply waiting_after if
  append_on k n place tag g brought =
      let l = g.exists in
      changed k (append n place tag) n _ l (λ i e. rw e)
      (rw (eq-eqb n n refl)
      (joined n (stream_at s n) (has.orderly.fit.used.each n l).queue place tag g.space
      ∙ ap₂ (λ (w : List Request) (r : Request). w ++ (r ∷ [])) (has.queues n l) (sym brought)))

  below : (n j : ℕ) → Grounds s (send n j) → j < (stream_at s n).queued
  unfolding filled
  below n j g = omega (arith, g.in_set)

  send_on : (k : Call) (n j : ℕ) → Grounds s (send n j) → (i : ℕ) → i < s.count
      → queued_at (apply s (send n j)) i ≡ waiting_after i k (send n j) (waiting i past)
  unfolding apply waiting_after if
  send_on k n j g =
      let l = g.exists in
      changed k (send n j) n _ l (λ i e. rw e)
      (rw (eq-eqb n n refl)
      (left n (stream_at s n) (has.orderly.fit.used.each n l).queue j (below n j g) ∙ ap (leaving j) (has.queues n l)))

  queues_on : (k : Call) (v : Verdict) → Grounds s v → Reasons s k v → (i : ℕ) → i < s.count
      → queued_at (apply s v) i ≡ waiting_after i k v (waiting i past)
  unfolding apply waiting_after charged lapsed
  queues_on k (refuse n) g r i l = has.queues i l
  queues_on k (append n place tag) g r i l = append_on k n place tag g r i l
  queues_on k (send n j) g r i l = send_on k n j g i l
  queues_on k move g r i l = ap (queued_in i) (moved_at s has.orderly i) ∙ queue_moved i s.clock (horizon s) (stream_at s i) ∙ has.queues i l
  queues_on k wait g r i l = has.queues i l
  queues_on k (expire n) g r i l = set_alike s.streams n _ no_stream (queued_in i) refl i ∙ has.queues i l
  queues_on k (finish n a) g r i l = set_alike s.streams n _ no_stream (queued_in i) refl i ∙ has.queues i l
  queues_on k (set_clock t) g r i l = has.queues i l

  -- and at the disk
  disk_on : (v : Verdict) → Grounds s v → served_at (apply s v) ≡ at_disk_after v past (at_disk past)
  unfolding apply at_disk_after
  disk_on (refuse n) g = has.disk
  disk_on (append n place tag) g = has.disk
  disk_on (send n j) g =
      let l = g.exists in
      sym (taken n (stream_at s n) (has.orderly.fit.used.each n l).queue j (below n j g) no_request)
      ∙ ap (λ (w : List Request). get_or w j no_request) (has.queues n l)
  disk_on move g = has.disk
  disk_on wait g = has.disk
  disk_on (expire n) g = has.disk
  disk_on (finish n a) g = refl
  disk_on (set_clock t) g = has.disk

  has_on : (k : Call) → Has (apply s (verdict s k)) (moment_of s k (verdict s k) ∷ past)
  unfolding waiting at_disk
  has_on k =
      let v = verdict s k in
      let g = verdict_grounds s has.orderly k in
      let count = (table_same s v).3 in
      record {
        orderly = effect_kept s has.orderly v g;
        queues = λ i l. queues_on k v g (verdict_reasons s has.orderly k) i (omega (arith, l, count));
        disk = disk_on v g;
      }

  -- what the reply to each verdict has of it
  abbrev replying : Call → Verdict → Reply → Moment
  replying k v r = record { before = s; call = k; answer = record { session = apply s v; reply = r } }

  -- one that neither sends nor completes
  silent : (m : Moment) → replied 21 m ≡ false → (replied 25 m || replied 26 m) ≡ false → (request_in m).tag ≡ 0 → HandedBack m past
  silent m not-sent not_done none =
      record {
        sent = λ e. absurd (false≢true (sym not-sent ∙ e));
        done = λ e. absurd (false≢true (sym not_done ∙ e));
        others = λ e. none;
      }

  handed_on : (k : Call) (v : Verdict) → verdict s k ≡ v → Grounds s v → Reasons s k v → HandedBack (moment_of s k v) past
  unfolding reply_to at_disk apply
  handed_on k (refuse n) is g low =
      silent _ (ne_eqb n 21 (λ e. omega arith)) (rw (ne_eqb n 25 (λ e. omega arith), ne_eqb n 26 (λ e. omega arith))) refl
  handed_on k (append n place tag) is g r = silent _ refl refl refl
  handed_on k (send n j) is g r =
      record {
        sent = λ e. disk_on (send n j) g ∙ ap (λ (v : Verdict). at_disk_after v past (at_disk past)) (sym is);
        done = λ e. absurd (false≢true e);
        others = λ e. absurd (false≢true (sym e));
      }
  handed_on k move is g r = silent _ refl refl refl
  handed_on k wait is g r = silent _ refl refl refl
  handed_on k (expire n) is g r = silent _ refl refl refl
  handed_on k (finish n a) is g r =
      let back : (n + 1 ≡ (at_disk past).stream) × (s.tag ≡ (at_disk past).tag) =
      (sym g.is ∙ ap (λ (r : Request). r.stream) has.disk, ap (λ (r : Request). r.tag) has.disk) in
      done_or_overlong (λ r. HandedBack (replying k (finish n a) r) past) s n a
      (λ over. record { sent = λ e. absurd (false≢true e); done = λ e. back; others = λ e. absurd (false≢true (sym e)) })
      (λ short. record { sent = λ e. absurd (false≢true e); done = λ e. back; others = λ e. absurd (false≢true (sym e)) })
  handed_on k (set_clock t) is g r =
      clock_or_late (λ r. HandedBack (replying k (set_clock t) r) past) s t (λ after-l. silent _ refl refl refl) (λ early. silent _ refl refl refl)

-- any calls
abbrev AllHanded : List Moment → Type 0
AllHanded [] = Unit {0}
AllHanded (m ∷ earlier) = HandedBack m earlier × AllHanded earlier

has_after : (past : List Moment) (s : Session) (ks : List Call) → Has s past → AllHanded past
    → Has (after s ks) (history_from past s ks) × AllHanded (history_from past s ks)
unfolding history_from after answer_to
has_after past s [] has handed = (has, handed)
has_after past s (k ∷ ks) has handed =
    let v = verdict s k in
    let q = has.orderly in
    has_after (moment_of s k v ∷ past) (apply s v) ks (has_on s past has k)
    (handed_on s past has k v refl (verdict_grounds s q k) (verdict_reasons s q k), handed)

-- a new session has none
opened_has : (t : Table) (s : Session) → NewlyOpened t s → Has s []
unfolding fresh_stream waiting at_disk requests
opened_has t s new =
    let b = begun t s new in
    record {
      orderly = b.orderly;
      queues = λ i l. ap (queued_in i) (b.each i (omega (arith, b.count_is)));
      disk = rw (b.served_is, b.place_is, b.tag_is);
    }

pub tag_comes_back : TagComesBack
tag_comes_back t s calls new =
    let run = has_after [] s calls (opened_has t s new) tt in
    let past = history_of s calls in
    let count : (after s calls).count ≡ t.count = (numbers_are_kept t s calls new).3 in (
      λ i l. run.0.queues i (omega (arith, l, count)),
      run.0.disk,
      λ later m earlier e. (part AllHanded (λ n before handed. handed.1) later (m ∷ earlier) (subst AllHanded (sym e) run.1)).0,
    )
