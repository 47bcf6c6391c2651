-- A move keeps a session fit: deadlines only grow, and each job that closes begins anew at the horizon that was.
use mathlib.Core.List.{map}
use mathlib.Core.Path.{◌≡◌, refl, sym, ◌∙◌, ap}
use Prim.Native.Nat.{ℕ, ◌+◌, ◌≤◌}
use native.Mathlib.Omega.{arith}
use lib.ListN.{get_or, length-map, get_or-map}
use borrow.Author.Tests.{eqb-true, ne_eqb}
use Rattle.table.specs.Fold.{if}
use Rattle.table.specs.Ranges.{period_min}
use Rattle.table.proofs.Tests.{by_if}
use Rattle.table.proofs.Folds.{smallest_is}
use Rattle.table.proofs.Lists.{map_alike}
use Rattle.time.specs.Time.{session_end}
use Rattle.stream.specs.Stream.{closed, moved}
use Rattle.session.specs.Session.{no_stream, stream_at, horizon, with_streams}
use Rattle.session.specs.Calls.{move}
use Rattle.time.specs.declared.Clock.{Clock}
use Rattle.stream.specs.declared.Stream.{Stream}
use Rattle.session.specs.declared.Session.{Session}
use Rattle.stream.proofs.Orderly.{InOrder, later_order, closed_order}
use Rattle.session.proofs.Sound.{Fit, Sound, admits, bounded, unused_deadline}
use Rattle.session.proofs.Grounds.{Grounds}
use Rattle.session.proofs.Changes.{streams_kept, idle_kept}

module _ (now : Clock) (h : ℕ) where
  -- what a stream keeps as its job closes, it keeps in a move
  pub moved_keeps : {A : Type 0} (f : Stream → A) → ((x : Stream) → f (closed now x) ≡ f x) → (x : Stream) → f (moved now h x) ≡ f x
  unfolding moved
  moved_keeps f e x = by_if (λ y. f y ≡ f x) _ (closed now x) x (λ c. e x) (λ c. refl)

  -- a stream with another deadline keeps its job
  pub moved_other : (x : Stream) → (x.deadline.0 ≡ h → ⊥) → moved now h x ≡ x
  unfolding moved if
  moved_other x other = rw (ne_eqb x.deadline.0 h other)

  -- a deadline does not fall
  moved_later : (x : Stream) → x.deadline.0 ≤ (moved now h x).deadline.0
  unfolding moved closed
  moved_later x =
      by_if (λ (y : Stream). x.deadline.0 ≤ y.deadline.0) _ (closed now x) x (λ c. omega arith) (λ c. omega arith)

  -- a stream in order is in order at a later horizon, if its deadline does not pass the end
  moved_order : (worst k later : ℕ) (x : Stream) → h ≤ later → InOrder worst k h x
      → (x.deadline.0 ≡ h → x.deadline.0 + x.period ≤ session_end) → InOrder worst k later (moved now h x)
  unfolding moved
  moved_order worst k later x le q in_time =
      by_if (InOrder worst k later) _ (closed now x) x
      (λ c.
      let due = eqb-true x.deadline.0 h c in
      closed_order worst k h x q now later (omega (arith, due, le)) (in_time due))
      (λ c. later_order worst k h x q later le)

module _ (s : Session) (q : Sound s) where
  -- the horizon is a period at least
  horizon_low : period_min ≤ horizon s
  unfolding horizon
  horizon_low =
      smallest_is (λ d. period_min ≤ d) (λ i. (stream_at s i).deadline.0) s.count (admits s q).numbers.count_low
      (λ i l. let b = bounded s q i l in omega (arith, b.due, b.period_low))

  abbrev pub moving : Stream → Stream
  moving = moved s.clock (horizon s)

  abbrev pub next : Session
  next = with_streams s (map moving s.streams)

  -- what has no deadline stays as it is
  pub stays : (x : Stream) → x.deadline.0 ≡ 0 → moving x ≡ x
  stays x zero-deadline = moved_other s.clock (horizon s) x (λ e. let low = horizon_low in omega arith)

  -- each stream moves
  pub moved_at : (i : ℕ) → stream_at next i ≡ moving (stream_at s i)
  moved_at i = ap (get_or (map moving s.streams) i) (sym (stays no_stream refl)) ∙ get_or-map moving s.streams i no_stream

  -- the horizon does not fall
  pub horizon_later : horizon s ≤ horizon next
  unfolding horizon
  horizon_later =
      smallest_is (λ h. horizon s ≤ h) (λ i. (stream_at next i).deadline.0) s.count (admits s q).numbers.count_low
      (λ i l. rw (moved_at i) (omega (arith, (bounded s q i l).ahead, moved_later s.clock (horizon s) (stream_at s i))))

  -- a move keeps the session fit
  pub move_kept : Grounds s move → Fit next
  unfolding closed
  move_kept g =
      let xs = s.streams in
      let kept : (cell : Stream → ℕ) → ((x : Stream) → cell (closed s.clock x) ≡ cell x) → map cell (map moving xs) ≡ map cell xs =
      λ cell e. map_alike cell moving (moved_keeps s.clock (horizon s) cell e) xs in
      streams_kept s q (map moving xs) (kept (λ x. x.reserved) (λ x. refl)) (kept (λ x. x.period) (λ x. refl)) (length-map xs moving)
      (λ i l.
      rw (moved_at i)
      (moved_order s.clock (horizon s) s.worst s.padding (horizon next) (stream_at s i) horizon_later (q.fit.used.each i l) (g.in_time i l)))
      (λ i past l.
      let unused = q.fit.others i past l in
      rw (moved_at i, stays (stream_at s i) (unused_deadline (stream_at s i) unused)) unused)
      (idle_kept s (map moving xs) q g.idle)
