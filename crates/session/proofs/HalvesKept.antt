-- Each effect keeps both halves of the promise's invariant: one lemma for a changed stream, one for a move, one for a clock report.
use mathlib.Core.List.{List}
use mathlib.Core.Path.{◌≡◌, refl, sym, ◌∙◌, ap, subst}
use Prim.Native.Nat.{ℕ, zero, suc, ◌+◌, ◌-◌, ◌*◌, ◌/◌, ◌≤◌, ◌<◌}
use native.Mathlib.Nat.{mul-le-mul_left, mul-le-mul_right}
use native.Mathlib.Omega.{arith}
use borrow.Author.Tests.{eqb-true}
use Rattle.table.specs.Fold.{sum_to}
use Rattle.table.proofs.Tests.{by_if}
use Rattle.table.proofs.Folds.{sum_le, sum_agree}
use Rattle.table.proofs.Lists.{set_each}
use Rattle.stream.specs.Stream.{worked, carry, closed, moved}
use Rattle.session.specs.Session.{no_stream, stream_at, horizon, scaled_part, latest, with_stream}
use Rattle.stream.specs.declared.Stream.{Stream}
use Rattle.session.specs.declared.Session.{Session}
use Rattle.session.proofs.Sound.{Sound, of_sound, bounded}
use Rattle.session.proofs.Latest.{latest_rounds_once}
use Rattle.session.proofs.Changes.{horizon_kept, here, summed}
use Rattle.session.proofs.MoveKept.{moved_keeps, moving, next, moved_at, horizon_later}
use Rattle.session.proofs.Halves.{rate, used, rate_at, used_at, Room, InTime, rates_high, whole, due_most}

-- a stream that was charged a more
grown_in_time : (t u a h next span rates others useds more : ℕ) → next ≡ h → others ≡ rates → more ≡ useds + a * span → u ≤ t + a
    → t * span + h * rates ≤ h * span + useds → u * span + next * others ≤ next * span + more
grown_in_time t u a h next span rates others useds more same alike grows le time =
    rw (same, alike, grows) (omega (arith, mul-le-mul_right span le))

module _ (s : Session) (q : Sound s) (i : ℕ) (l : i < s.count) (charge expired queued : ℕ) (places tags : List ℕ) (a : ℕ)
    (more : charge ≡ (stream_at s i).charge.0 + a) where
  abbrev old : Stream
  old = stream_at s i

  abbrev new : Stream
  new = worked old charge expired queued places tags

  -- what it has used is that much more
  new_used : used s.span new ≡ used s.span old + a * s.span
  new_used = rw more (omega arith)

  abbrev changed : Session
  changed = with_stream s i new

  ahead : horizon changed ≡ horizon s
  ahead = horizon_kept s q i l charge expired queued places tags

  -- the sum over the streams of what each has
  sum_of : (f : Stream → ℕ) → sum_to (λ j. f (stream_at changed j)) s.count + f old ≡ sum_to (λ j. f (stream_at s j)) s.count + f new
  sum_of f = summed s q i l charge expired queued places tags f

  -- it keeps its room, if it had room for that
  pub charge_keeps_room : used_at s i + a * s.span ≤ horizon s * rate_at s i → Room s → Room changed
  charge_keeps_room enough room j m =
      subst (λ (h : ℕ). used_at changed j ≤ h * rate_at changed j) (sym ahead)
      (set_each s.streams i new no_stream (λ x. used s.span x ≤ horizon s * rate s.span x) (here s q i l charge expired queued places tags) (omega (arith, new_used, enough)) j (room j m))

  -- and a clock that grows by no more than that is still in time
  pub charge_keeps_time : (t u : ℕ) → u ≤ t + a → InTime s t → InTime changed u
  charge_keeps_time t u le time =
      grown_in_time t u a (horizon s) (horizon changed) s.span (sum_to (rate_at s) s.count) (sum_to (rate_at changed) s.count)
      (sum_to (used_at s) s.count) (sum_to (used_at changed) s.count) ahead
      (omega (arith, sum_of (rate s.span))) (omega (arith, sum_of (used s.span), new_used)) le time

-- a job that closes and one that follows it: with H = w × p, a period's use is g × H, and what was used above it is carried
carry_covers : (r g p w span c : ℕ) → w * p ≡ span → r * (g * w) + c * span ≤ (r + p) * (g * w) + carry c g * span
carry_covers r g p w span c all =
    let most : c ≤ g + carry c g = omega arith in
    omega (arith, mul-le-mul_right span most, ap (λ (z : ℕ). g * z) all)

-- a move: a job that closes has used its rate up to the horizon or what it did not use is lost, so what is used does not fall
later_in_time : (t h next span rates useds more : ℕ) → h ≤ next → rates ≤ span → useds ≤ more
    → t * span + h * rates ≤ h * span + useds → t * span + next * rates ≤ next * span + more
later_in_time t h next span rates useds more later fits grows time =
    let k : ℕ = next - h in
    let sum : h + k ≡ next = omega arith in
    omega (arith, mul-le-mul_left k fits, ap (λ (z : ℕ). z * rates) sum, ap (λ (z : ℕ). z * span) sum)

module _ (s : Session) (q : Sound s) where
  -- with room up to the horizon nothing is carried
  moved_room : (later : ℕ) (x : Stream) → horizon s ≤ later → used s.span x ≤ horizon s * rate s.span x
      → (x.deadline.0 ≡ horizon s → x.charge.0 ≤ x.granted.0) → used s.span (moving s q x) ≤ later * rate s.span (moving s q x)
  unfolding moved closed
  moved_room later x le room most =
      by_if (λ y. used s.span y ≤ later * rate s.span y) _ (closed s.clock x) x
      (λ due.
      let d : x.deadline.0 ≡ horizon s = eqb-true x.deadline.0 (horizon s) due in
      let none : carry x.charge.0 x.granted.0 ≡ 0 = omega (arith, most d) in
      omega (arith, mul-le-mul_right (rate s.span x) le, ap (λ (z : ℕ). z * rate s.span x) d, ap (λ (z : ℕ). z * s.span) none))
      (λ other. omega (arith, room, mul-le-mul_right (rate s.span x) le))

  -- what is used does not fall, with room or without
  moved_more : (i : ℕ) → i < s.count → used_at s i ≤ used s.span (moving s q (stream_at s i))
  unfolding moved closed
  moved_more i l =
      let x = stream_at s i in
      by_if (λ y. used s.span x ≤ used s.span y) _ (closed s.clock x) x
      (λ due.
      omega (
        arith,
        carry_covers x.release.0 x.granted.0 x.period (s.span / x.period) s.span x.charge.0 (whole s q i l),
        ap (λ (z : ℕ). z * rate s.span x) (q.fit.used.each i l).due,
      ))
      (λ other. omega arith)

  pub move_keeps_room : Room s → Room (next s q)
  move_keeps_room room i l =
      subst (λ (x : Stream). used s.span x ≤ horizon (next s q) * rate s.span x) (sym (moved_at s q i))
      (moved_room (horizon (next s q)) (stream_at s i) (horizon_later s q) (room i l) (λ due. due_most s q i l due room))

  pub move_keeps_time : (t : ℕ) → InTime s t → InTime (next s q) t
  unfolding closed
  move_keeps_time t time =
      let n = s.count in
      let rates = sum_agree (rate_at (next s q)) (rate_at s) n
      (λ i l. ap (rate s.span) (moved_at s q i) ∙ moved_keeps s.clock (horizon s) (rate s.span) (λ x. refl) (stream_at s i)) in
      let useds = sum_le (used_at s) (used_at (next s q)) n
      (λ i l. subst (λ (x : Stream). used_at s i ≤ used s.span x) (sym (moved_at s q i)) (moved_more i l)) in
      subst (λ (sum : ℕ). t * s.span + horizon (next s q) * sum ≤ horizon (next s q) * s.span + sum_to (used_at (next s q)) n) (sym rates)
      (later_in_time t (horizon s) (horizon (next s q)) s.span (sum_to (rate_at s) n) (sum_to (used_at s) n) (sum_to (used_at (next s q)) n)
      (horizon_later s q) (rates_high s q) useds time)

  -- a clock report: what is used and what remains make up the rates up to the horizon
  split : (n : ℕ) → n ≤ s.count
      → horizon s * sum_to (rate_at s) n + sum_to (λ i. (stream_at s i).charge.0) n * s.span ≡ sum_to (used_at s) n + sum_to (scaled_part s) n
  unfolding sum_to
  split zero le = omega arith
  split (suc n) le =
      let x = stream_at s n in
      let k : ℕ = horizon s - x.release.0 in
      let sum : x.release.0 + k ≡ horizon s = omega (arith, (bounded s q n le).released) in
      omega (arith, split n (omega arith), ap (λ (z : ℕ). z * rate_at s n) sum)

  pub clock_keeps_time : (t : ℕ) → t ≤ latest s → InTime s t
  clock_keeps_time t le =
      omega (arith, split s.count (omega arith), (latest_rounds_once s (of_sound s q)).0, mul-le-mul_right s.span le)
