-- Opening makes a sound session with the margin of its table, which no call changes, and with a sum of remainders that comes from the load; and so after it 31 is never answered, and the ask gives the latest safe moment.
use mathlib.Core.Bool.{true}
use mathlib.Core.List.{List, [], ◌∷◌, map}
use mathlib.Core.Path.{◌≡◌, refl, sym, ◌∙◌, ap, ap₂}
use Prim.Native.Nat.{ℕ, ◌+◌, ◌-◌, ◌*◌, ◌/◌, ◌≤◌, ◌<◌}
use native.Mathlib.Nat.{mul-le-mul, mul_assoc, div-add-mod'}
use native.Mathlib.Omega.{arith}
use lib.ListN.{get_or, get_or-map}
use lib.Dec.{lit<}
use lib.IntN.{pos, ◌-ℤ◌}
use borrow.Author.Tests.{lt-ltb, le-ltb, eq-eqb, ne_eqb}
use Rattle.std.proofs.Common.{Ok, Err}
use Rattle.table.specs.Fold.{if, sum_to, all_to}
use Rattle.table.specs.Ranges.{streams_max, worst_max, span_max, period_max}
use Rattle.table.specs.Admission.{reserved_at, period_at, granted_of, share_of, share_at, shares_of, smallest_period, load_of, admission_of}
use Rattle.table.specs.Whole.{above_zero}
use Rattle.table.specs.Margin.{less_load, margin_of, answer_of}
use Rattle.table.specs.declared.Table.{Table}
use Rattle.table.specs.declared.margin.Margin.{Margin}
use Rattle.table.specs.declared.refusal.Refusal.{Refusal}
use Rattle.table.proofs.Tests.{by_if}
use Rattle.table.proofs.Folds.{sum_agree, sum_scaled, sum_none, smallest_agree, smallest_is}
use Rattle.table.proofs.Whole.{less_left}
use Rattle.table.proofs.Lists.{length_list_to, get_d_list_to}
use Rattle.table.proofs.Judged.{Admits, admits_of, load_alike, admits_alike}
use Rattle.table.proofs.Margins.{admitted_only, refused_only}
use Rattle.order.specs.declared.Order.{Order}
use Rattle.time.specs.Time.{parts_max}
use Rattle.stream.specs.Stream.{part_of, sound_row, sound_queue, unused_stream, zero_job, fresh_stream}
use Rattle.session.specs.Session.{no_stream, stream_at, horizon, scaled_part, remainders_of, table_of, sound_disk, sound}
use Rattle.calls.specs.Replies.{number_of}
use Rattle.session.specs.Calls.{Verdict, refuse, append, send, move, wait, expire, finish, set_clock, verdict, apply, reply_to, answer_to, after}
use Rattle.session.specs.Opening.{opened_stream, opened_session, fresh_session, zero_session, opening_of, NewlyOpened}
use Rattle.session.specs.Laws.{OpeningIsSound, NeverUnsound, AskIsLatest, MarginIsKept, OrderIsKept}
use Rattle.stream.specs.declared.Stream.{Stream}
use Rattle.session.specs.declared.Session.{Session}
use Rattle.calls.specs.declared.Call.{Call}
use Rattle.calls.specs.declared.Reply.{Reply}
use Rattle.session.proofs.Rules.{rules}
use Rattle.stream.proofs.Orderly.{InOrder, fresh_order}
use Rattle.session.proofs.Sound.{Fit, Sound, sound_of, of_sound, looking_ahead_lem}
use Rattle.session.proofs.Remainders.{remainders_split}
use Rattle.session.proofs.Latest.{asked_is}
use Rattle.session.proofs.Grounds.{Grounds, verdict_grounds}
use Rattle.session.proofs.Keeps.{calls_keep_sound}

covered : (h shares w q span : ℕ) → q * h ≡ span → h * (shares + w * q) ≡ h * shares + w * span
covered h shares w q span whole = omega (arith, ap (λ (z : ℕ). w * z) whole)

module _ (t : Table) (order : Order) (admitted : admission_of t ≡ 0) where
  abbrev judged : Admits t
  judged = admits_of t admitted

  -- the stream at i, for each of the eight
  opened_at : (i : ℕ) → i < streams_max → stream_at (opened_session t order) i ≡ opened_stream t i
  opened_at i l = get_d_list_to (opened_stream t) no_stream streams_max i l

  -- those below the count hold their reservations
  held_at : (i : ℕ) → i < t.count
      → stream_at (opened_session t order) i ≡ fresh_stream (reserved_at t i) (period_at t i) (granted_of t.worst t.padding (reserved_at t i))
  unfolding opened_stream if
  held_at i l = opened_at i (omega (arith, judged.numbers.count_high)) ∙ rw (lt-ltb i t.count l)

  -- and are in order
  in_order_at : (h i : ℕ) → i < t.count → InOrder t.worst t.padding h (stream_at (opened_session t order) i)
  in_order_at h i l =
      rw (held_at i l) (fresh_order t.worst t.padding h (reserved_at t i) (period_at t i) (omega (arith, (judged.each i l).period_high)))

  -- the table of the session is the one that was admitted, as far as it is used
  cell : (f : Stream → ℕ) (i : ℕ) → i < t.count → get_or (map f (opened_session t order).streams) i (f no_stream)
      ≡ f (fresh_stream (reserved_at t i) (period_at t i) (granted_of t.worst t.padding (reserved_at t i)))
  cell f i l = get_or-map f (opened_session t order).streams i no_stream ∙ ap f (held_at i l)

  fresh_admitted : admission_of (table_of (opened_session t order)) ≡ 0
  unfolding fresh_stream
  fresh_admitted =
      admits_alike t (table_of (opened_session t order)).reserved (table_of (opened_session t order)).period admitted
      (cell (λ x. x.reserved))
      (cell (λ x. x.period))

  -- and so its margin is that
  fresh_margin : margin_of t ≡ margin_of (table_of (opened_session t order))
  unfolding margin_of fresh_stream
  fresh_margin =
      ap (less_load t.span)
      (sym
      (load_alike t (table_of (opened_session t order)).reserved (table_of (opened_session t order)).period admitted
      (cell (λ x. x.reserved))
      (cell (λ x. x.period))))

  -- the others are 0
  fresh_others : (i : ℕ) → t.count ≤ i → i < streams_max → unused_stream (stream_at (opened_session t order) i) ≡ true
  unfolding opened_stream fresh_stream unused_stream zero_job sound_row sound_queue all_to if
  fresh_others i past l = rw (opened_at i l, le-ltb i t.count past)

  -- the session of an admitted table is sound once it looks ahead
  pub opened_fit : Fit (opened_session t order)
  unfolding sound_disk if
  opened_fit =
      record {
        used = record { admitted = fresh_admitted; margin_is = fresh_margin; each = in_order_at (horizon (opened_session t order)) };
        eight = length_list_to (opened_stream t) streams_max;
        others = fresh_others;
        clock_high = omega arith;
        disk = refl;
      }

  fresh_sound : Sound (fresh_session t order)
  unfolding fresh_session
  fresh_sound = looking_ahead_lem (opened_session t order) opened_fit

  -- nothing is charged yet, so that the sum of its remainders is the horizon times the shares: the load, less W for each of the shortest periods, of which the horizon is one
  abbrev first : ℕ
  first = horizon (opened_session t order)

  first_is : first ≡ smallest_period t
  unfolding horizon smallest_period fresh_stream
  first_is =
      smallest_agree (λ i. (stream_at (opened_session t order) i).deadline.0) (period_at t) t.count judged.numbers.count_low
      (λ i l. ap (λ (x : Stream). x.deadline.0) (held_at i l))

  first_divides : t.span / first * first ≡ t.span
  unfolding smallest_period
  first_divides =
      rw first_is
      (smallest_is (λ (d : ℕ). t.span / d * d ≡ t.span) (period_at t) t.count judged.numbers.count_low
      (λ i l. omega (arith, div-add-mod' t.span (period_at t i), (judged.each i l).divides)))

  parts_are : sum_to (scaled_part (opened_session t order)) t.count ≡ first * shares_of t
  unfolding shares_of share_of fresh_stream
  parts_are =
      sum_agree (scaled_part (opened_session t order)) (λ i. first * share_at t i) t.count
      (λ i l.
      ap (part_of t.span first) (held_at i l)
      ∙ mul_assoc (first - 0) (granted_of t.worst t.padding (reserved_at t i)) (t.span / period_at t i)
      ∙ ap (λ (n : ℕ). n * share_at t i) (let none : first - 0 ≡ first = omega arith in none))
      ∙ sum_scaled first (share_at t) t.count

  charges_are : sum_to (λ i. (stream_at (opened_session t order) i).charge.0) t.count ≡ 0
  unfolding fresh_stream
  charges_are = sum_none _ t.count (λ i l. ap (λ (x : Stream). x.charge.0) (held_at i l))

  load_covers : first * load_of t ≡ first * shares_of t + t.worst * t.span
  unfolding load_of
  load_covers =
      ap (λ (d : ℕ). first * (shares_of t + t.worst * (t.span / d))) (sym first_is)
      ∙ covered first (shares_of t) t.worst (t.span / first) t.span first_divides

  pub opened_sum : pos (first * load_of t) -ℤ pos (t.worst * t.span) ≡ remainders_of (opened_session t order)
  opened_sum =
      let blocking = t.worst * t.span in
      let left : first * load_of t - blocking ≡ first * shares_of t - 0 = omega (arith, load_covers) in
      let charged : sum_to (λ i. (stream_at (opened_session t order) i).charge.0) t.count * t.span ≡ 0 = ap (λ (n : ℕ). n * t.span) charges_are ∙ omega arith in
      less_left (first * load_of t) blocking (omega (arith, load_covers))
      ∙ ap pos left
      ∙ sym (remainders_split (opened_session t order) ∙ ap₂ (λ (n m : ℕ). pos n -ℤ pos m) parts_are charged ∙ less_left (first * shares_of t) 0 (omega arith))

  -- what the margin leaves is the load, and these numbers are small
  pub margin_left : above_zero (margin_of t) ≡ t.span - load_of t
  unfolding margin_of above_zero
  margin_left = rw (less_left t.span (load_of t) judged.fits)

  pub opening_fits : (load_of t ≤ t.span) × (first * load_of t ≤ parts_max) × (t.worst * t.span ≤ parts_max)
  unfolding smallest_period
  opening_fits =
      let n = judged.numbers in
      let soon : first ≤ period_max = rw first_is (smallest_is (λ (d : ℕ). d ≤ period_max) (period_at t) t.count n.count_low (λ i l. (judged.each i l).period_high)) in
      let load : load_of t ≤ span_max = omega (arith, judged.fits, n.span_high) in
      let most = mul-le-mul {n₂ = period_max} {m₂ = span_max} soon load in
      let blocking = mul-le-mul {n₂ = worst_max} {m₂ = span_max} n.worst_high n.span_high in
      (judged.fits, omega (arith, most), omega (arith, blocking))

-- what the answer of admission says of the table, and of what opening gives
pub answered_admitted : (t : Table) (m : Margin) → answer_of t ≡ Ok m → (admission_of t ≡ 0) × (m.0 ≡ margin_of t)
answered_admitted t m says =
    let only = admitted_only t m says in
    (only.0, ap (λ (n : Margin). n.0) only.1)

pub opens_admitted : (t : Table) (order : Order) (m : Margin) → answer_of t ≡ Ok m → opening_of t order ≡ record { session = fresh_session t order; admission = Ok m }
unfolding opening_of if
opens_admitted t order m says = rw (eq-eqb _ _ (admitted_only t m says).0, says)

pub opens_refused : (t : Table) (order : Order) (r : Refusal) → answer_of t ≡ Err r → opening_of t order ≡ record { session = zero_session; admission = Err r }
unfolding opening_of if
opens_refused t order r says = rw (ne_eqb _ _ (refused_only t r says), says)

-- what a newly opened session has: the numbers of its table, streams at their first release, and nothing at the disk
pub record Begun (t : Table) (s : Session) : Type 0 where
  pub worst_is : s.worst ≡ t.worst
  pub span_is : s.span ≡ t.span
  pub padding_is : s.padding ≡ t.padding
  pub count_is : s.count ≡ t.count
  pub margin_is : s.margin.0 ≡ margin_of t
  pub clock_is : s.clock.0 ≡ 0
  pub served_is : s.served ≡ 0
  pub place_is : s.place ≡ 0
  pub tag_is : s.tag ≡ 0
  pub each : (i : ℕ) → i < t.count → stream_at s i ≡ fresh_stream (reserved_at t i) (period_at t i) (granted_of t.worst t.padding (reserved_at t i))
  pub orderly : Sound s

fresh_begun : (t : Table) (order : Order) → admission_of t ≡ 0 → Begun t (fresh_session t order)
unfolding fresh_session
fresh_begun t order admitted =
    record {
      worst_is = refl;
      span_is = refl;
      padding_is = refl;
      count_is = refl;
      margin_is = refl;
      clock_is = refl;
      served_is = refl;
      place_is = refl;
      tag_is = refl;
      each = held_at t order admitted;
      orderly = fresh_sound t order admitted;
    }

-- opening makes that session where the table is admitted
pub begun : (t : Table) (s : Session) → NewlyOpened t s → Begun t s
unfolding opening_of if
begun t s new = rw (new.made, eq-eqb (admission_of t) 0 new.admitted) (fresh_begun t new.order new.admitted)

opened_sound : (t : Table) (s : Session) → NewlyOpened t s → sound s ≡ true
opened_sound t s new = of_sound s (begun t s new).orderly

-- the all-zero session is judged by computing
pub opening_is_sound : OpeningIsSound
unfolding rules
opening_is_sound = (opened_sound, refl)

-- after any calls the session is sound
pub sound_after : (s : Session) (ks : List Call) → sound s ≡ true → sound (after s ks) ≡ true
unfolding after
sound_after s [] t = t
sound_after s (k ∷ ks) t = sound_after (answer_to s k).session ks (calls_keep_sound s k t)

-- so what is asked of it is its latest safe moment
pub ask_is_latest : AskIsLatest
ask_is_latest = (
  λ s t. asked_is s (sound_of s t),
  λ t s calls new. asked_is _ (sound_of _ (sound_after s calls (opened_sound t s new))),
)

-- a verdict leaves margin and order as they are, and so does every call
record Stays (s z : Session) : Type 0 where
  pub margin_stays : z.margin ≡ s.margin
  pub order_stays : z.order ≡ s.order

alike : {s : Session} → Stays s s
alike = record { margin_stays = refl; order_stays = refl }

verdict_leaves : (s : Session) (v : Verdict) → Stays s (apply s v)
unfolding apply
verdict_leaves s (refuse n) = alike
verdict_leaves s (append i place tag) = record { margin_stays = refl; order_stays = refl }
verdict_leaves s (send i j) = record { margin_stays = refl; order_stays = refl }
verdict_leaves s move = record { margin_stays = refl; order_stays = refl }
verdict_leaves s wait = alike
verdict_leaves s (expire i) = record { margin_stays = refl; order_stays = refl }
verdict_leaves s (finish i a) = record { margin_stays = refl; order_stays = refl }
verdict_leaves s (set_clock t) = record { margin_stays = refl; order_stays = refl }

call_leaves : (s : Session) (k : Call) → Stays s (answer_to s k).session
unfolding answer_to
call_leaves s k = verdict_leaves s (verdict s k)

calls_leave : (s : Session) (ks : List Call) → Stays s (after s ks)
unfolding after
calls_leave s [] = alike
calls_leave s (k ∷ ks) =
    let first = call_leaves s k in
    let rest = calls_leave (answer_to s k).session ks in
    record { margin_stays = rest.margin_stays ∙ first.margin_stays; order_stays = rest.order_stays ∙ first.order_stays }

opened_order : (t : Table) (order : Order) → admission_of t ≡ 0 → (opening_of t order).session.order ≡ order
unfolding opening_of fresh_session if
opened_order t order admitted = rw (eq-eqb (admission_of t) 0 admitted)

pub order_is_kept : OrderIsKept
order_is_kept = (
  λ t order calls admitted. (calls_leave (opening_of t order).session calls).order_stays ∙ opened_order t order admitted,
  λ s k. (call_leaves s k).order_stays,
)

pub margin_is_kept : MarginIsKept
margin_is_kept = (
  λ t s calls new. ap (λ (m : Margin). m.0) (calls_leave s calls).margin_stays ∙ (begun t s new).margin_is,
  λ s k. (call_leaves s k).margin_stays,
  λ s t. (sound_of s t).fit.used.margin_is,
)

-- a reply has the number of its refusal, or one from 20 to 28
number_low : (s : Session) (v : Verdict) → Grounds s v → number_of (reply_to s v) < 31
unfolding reply_to
number_low s (refuse n) g = g
number_low s (append i place tag) g = lit< tt
number_low s (send i j) g = lit< tt
number_low s move g = lit< tt
number_low s wait g = lit< tt
number_low s (expire i) g = lit< tt
number_low s (finish i a) g = by_if (λ (r : Reply). number_of r < 31) _ _ _ (λ b. lit< tt) (λ b. lit< tt)
number_low s (set_clock t) g = by_if (λ (r : Reply). number_of r < 31) _ _ _ (λ b. lit< tt) (λ b. lit< tt)

-- so 31 is never answered
pub never_unsound : NeverUnsound
unfolding answer_to
never_unsound t s before k new is-31 =
    let now = after s before in
    let q = sound_of now (sound_after s before (opened_sound t s new)) in
    let low = number_low now (verdict now k) (verdict_grounds now q k) in
    omega arith
