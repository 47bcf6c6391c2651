-- A session stays fit with one stream changed, and sound with another clock, queue or request at the disk.
use mathlib.Core.Bool.{true, ◌&&◌}
use mathlib.Core.List.{List, map}
use mathlib.Core.Path.{◌≡◌, refl, sym, ◌∙◌, ap, ap₂, fun_ext, subst}
use Prim.Native.Nat.{ℕ, ◌+◌, ◌-◌, ◌*◌, ◌≤◌, ◌<◌}
use native.Mathlib.Omega.{arith}
use lib.ListN.{length, set, length-set}
use lib.Dec.{leb, eqb}
use lib.IntN.{ℤ, pos, ◌-ℤ◌, +ℤ_idr}
use lib.Seq.{get_or-set_same, get_or-set_other, map-set_same}
use borrow.Author.Tests.{le-leb, eq-eqb, ne_eqb}
use Rattle.table.specs.Fold.{if, sum_to, smallest_to}
use Rattle.table.specs.Admission.{admission_of}
use Rattle.table.specs.Margin.{margin_of}
use Rattle.table.proofs.Folds.{sum_agree, sum_other}
use Rattle.table.proofs.Lists.{set_each, set_alike}
use Rattle.table.proofs.Whole.{less_more}
use Rattle.time.specs.Time.{session_end, duration_max, moment}
use Rattle.time.specs.Latest.{remainders}
use Rattle.stream.specs.Stream.{slots, part_of, worked, with_queue, with_charge, unused_stream}
use Rattle.session.specs.Session.{no_stream, stream_at, horizon, slots_at, scaled_part, remainders_of, table_of, sound_disk, with_streams, with_stream, with_disk, with_ahead, looking_ahead}
use Rattle.time.specs.declared.Clock.{Clock}
use Rattle.time.specs.declared.remainders.Remainders.{Remainders}
use Rattle.stream.specs.declared.Stream.{Stream}
use Rattle.session.specs.declared.Session.{Session}
use Rattle.stream.proofs.Orderly.{Queue, InOrder, worked_order}
use Rattle.session.proofs.Sound.{Fit, Sound, admits}
use Rattle.session.proofs.Remainders.{remainders_split}

-- the table of a session is as it was, where no stream's reservation changes
table_kept : (s : Session) (xs : List Stream)
    → map (λ (x : Stream). x.reserved) xs ≡ map (λ (x : Stream). x.reserved) s.streams
    → map (λ (x : Stream). x.period) xs ≡ map (λ (x : Stream). x.period) s.streams
    → table_of (with_streams s xs) ≡ table_of s
table_kept s xs es ps i =
    record { worst = s.worst; span = s.span; padding = s.padding; count = s.count; reserved = es i; period = ps i }

-- so a session is fit with other streams of the same reservations, if they and the disk are in order
pub streams_kept : (s : Session) → Sound s → (xs : List Stream)
    → map (λ (x : Stream). x.reserved) xs ≡ map (λ (x : Stream). x.reserved) s.streams
    → map (λ (x : Stream). x.period) xs ≡ map (λ (x : Stream). x.period) s.streams
    → length xs ≡ length s.streams
    → let next = with_streams s xs in
    ((i : ℕ) → i < s.count → InOrder s.worst s.padding (horizon next) (stream_at next i))
    → ((i : ℕ) → s.count ≤ i → i < 8 → unused_stream (stream_at next i) ≡ true)
    → sound_disk next ≡ true → Fit next
streams_kept s q xs es ps many each others disk =
    let same = table_kept s xs es ps in
    record {
      used = record { admitted = ap admission_of same ∙ q.fit.used.admitted; margin_is = q.fit.used.margin_is ∙ sym (ap margin_of same); each = each };
      eight = many ∙ q.fit.eight;
      others = others;
      clock_high = q.fit.clock_high;
      disk = disk;
    }

-- the disk stays in order while it is idle, whatever the streams
pub idle_kept : (s : Session) (xs : List Stream) → Sound s → s.served ≡ 0 → sound_disk (with_streams s xs) ≡ true
unfolding sound_disk if
idle_kept s xs q idle = rw (eq-eqb s.served 0 idle) (rw (eq-eqb s.served 0 idle) at q.fit.disk)

module _ (s : Session) (q : Sound s) (i : ℕ) (l : i < s.count) (charge expired queued : ℕ) (places tags : List ℕ) where
  abbrev new : Stream
  new = worked (stream_at s i) charge expired queued places tags

  -- its horizon is as it was
  pub horizon_kept : horizon (with_stream s i new) ≡ horizon s
  unfolding horizon
  horizon_kept =
      ap (λ (f : ℕ → ℕ). smallest_to f s.count) (fun_ext (set_alike s.streams i new no_stream (λ x. x.deadline.0) refl))

  pub here : i < length s.streams
  here = omega (arith, q.fit.eight, (admits s q).numbers.count_high)

  -- the sum over the streams of what each has
  pub summed : (f : Stream → ℕ) → sum_to (λ j. f (stream_at (with_stream s i new) j)) s.count + f (stream_at s i) ≡ sum_to (λ j. f (stream_at s j)) s.count + f new
  summed f =
      sum_other (λ j. f (stream_at (with_stream s i new) j)) (λ j. f (stream_at s j)) s.count i l
      (λ j _ other. ap f (get_or-set_other s.streams i j new no_stream other))
      ∙ ap (λ (x : Stream). sum_to (λ j. f (stream_at s j)) s.count + f x) (get_or-set_same s.streams i new no_stream here)

  -- what is charged more, times the span, comes off the sum of all remainders
  pub remainders_charged : (a : ℕ) → charge ≡ (stream_at s i).charge.0 + a → remainders_of (with_stream s i new) ≡ remainders_of s -ℤ pos (a * s.span)
  remainders_charged a more =
      let n = s.count in
      let next = with_stream s i new in
      let charges : Session → ℕ = λ z. sum_to (λ j. (stream_at z j).charge.0) n in
      let part : Stream → ℕ = part_of s.span (horizon s) in
      let parts : sum_to (scaled_part next) n ≡ sum_to (scaled_part s) n =
      ap (λ (h : ℕ). sum_to (λ j. part_of s.span h (stream_at next j)) n) horizon_kept
      ∙ sum_agree (λ j. part (stream_at next j)) (λ j. part (stream_at s j)) n (λ j _. set_alike s.streams i new no_stream part refl j) in
      let grown : charges next * s.span ≡ charges s * s.span + a * s.span =
      let sum : charges next ≡ charges s + a = omega (arith, summed (λ x. x.charge.0), more) in omega (arith, ap (λ (c : ℕ). c * s.span) sum) in
      remainders_split next
      ∙ ap₂ (λ (x y : ℕ). pos x -ℤ pos y) parts grown
      ∙ less_more (sum_to (scaled_part s) n) (charges s * s.span) (a * s.span)
      ∙ ap (λ (z : ℤ). z -ℤ pos (a * s.span)) (sym (remainders_split s))

  -- so what a charge leaves of the two cells is what the session looks ahead to
  pub ahead_charged : (a : ℕ) → charge ≡ (stream_at s i).charge.0 + a → (sum : Remainders) → sum ≡ remainders (s.remainders.0 -ℤ pos (a * s.span))
      → with_ahead (with_stream s i new) s.horizon sum ≡ looking_ahead (with_stream s i new)
  ahead_charged a more sum e =
      ap₂ (with_ahead (with_stream s i new)) (q.ahead.horizon_is ∙ ap moment (sym horizon_kept))
      (e ∙ ap (λ (r : Remainders). remainders (r.0 -ℤ pos (a * s.span))) q.ahead.remainders_is ∙ ap remainders (sym (remainders_charged a more)))

  -- such a stream at i keeps a session fit, if its charge, its queue and the disk are in order
  pub stream_kept : charge ≤ (stream_at s i).granted.0 + duration_max → (stream_at s i).start.0 + s.worst * expired ≤ charge → Queue queued places tags
      → sound_disk (with_stream s i new) ≡ true → Fit (with_stream s i new)
  stream_kept high low queue disk =
      let x = q.fit.used.each i l in
      let xs = s.streams in
      let order = worked_order s.worst s.padding (horizon s) (stream_at s i) x charge expired queued places tags high low queue in
      streams_kept s q (set xs i new) (map-set_same _ xs i new no_stream refl) (map-set_same _ xs i new no_stream refl) (length-set xs i new)
      (λ j m.
      subst (λ (h : ℕ). InOrder s.worst s.padding h (stream_at (with_stream s i new) j)) (sym horizon_kept)
      (set_each xs i new no_stream (InOrder s.worst s.padding (horizon s)) here order j (q.fit.used.each j m)))
      (λ j past m. rw (get_or-set_other xs i j new no_stream (λ e. omega arith)) (q.fit.others j past m))
      disk

  -- where the charge stays, so do the slots of each stream
  pub slots_kept : charge ≡ (stream_at s i).charge.0 → (j : ℕ) → slots_at (with_stream s i new) j ≡ slots_at s j
  unfolding slots
  slots_kept e j =
      ap (λ (h : ℕ). slots s.worst h (stream_at (with_stream s i new) j)) horizon_kept
      ∙ set_alike s.streams i new no_stream (slots s.worst (horizon s)) (rw e) j

  -- and the disk stays in order
  pub disk_kept : charge ≡ (stream_at s i).charge.0 → sound_disk (with_stream s i new) ≡ true
  unfolding sound_disk
  disk_kept e =
      ap (λ (n : ℕ). if (eqb s.served 0) (eqb s.place 0 && eqb s.tag 0) (leb s.served s.count && leb 1 n)) (slots_kept e (s.served - 1))
      ∙ q.fit.disk

module _ (s : Session) (q : Sound s) (i : ℕ) (l : i < s.count) where
  abbrev old : Stream
  old = stream_at s i

  -- another queue
  pub queue_kept : (queued : ℕ) (places tags : List ℕ) → Queue queued places tags
      → Sound (with_stream s i (with_queue old queued places tags))
  queue_kept queued places tags queue =
      let o = q.fit.used.each i l in
      let c = old.charge.0 in
      let e = old.expired in
      let same : remainders_of s ≡ remainders_of (with_stream s i (with_queue old queued places tags)) =
      sym (remainders_charged s q i l c e queued places tags 0 (omega arith) ∙ ap (λ (n : ℕ). remainders_of s -ℤ pos n) (let none : 0 * s.span ≡ 0 = omega arith in none) ∙ +ℤ_idr (remainders_of s)) in
      record {
        fit = stream_kept s q i l c e queued places tags o.charge_high o.covered queue (disk_kept s q i l c e queued places tags refl);
        ahead =
            record {
              horizon_is = q.ahead.horizon_is ∙ ap moment (sym (horizon_kept s q i l c e queued places tags));
              remainders_is = q.ahead.remainders_is ∙ ap remainders same;
            };
      }

  -- another charge, while the disk is idle, until the session looks ahead anew
  pub charge_kept : (charge expired : ℕ) → charge ≤ old.granted.0 + duration_max → old.start.0 + s.worst * expired ≤ charge → s.served ≡ 0
      → Fit (with_stream s i (with_charge old charge expired))
  charge_kept charge expired high low idle =
      stream_kept s q i l charge expired old.queued old.places old.tags high low
      (q.fit.used.each i l).queue
      (idle_kept s _ q idle)

-- another clock and another request at the disk
pub clock_kept : (s : Session) → Sound s → (clock : Clock) (head served place tag : ℕ) → clock.0 ≤ session_end
    → sound_disk (with_disk s clock head served place tag) ≡ true → Sound (with_disk s clock head served place tag)
unfolding horizon remainders_of
clock_kept s q clock head served place tag high disk =
    let used = q.fit.used in
    record {
      fit =
          record {
            used = record { admitted = used.admitted; margin_is = used.margin_is; each = used.each };
            eight = q.fit.eight;
            others = q.fit.others;
            clock_high = high;
            disk = disk;
          };
      ahead = record { horizon_is = q.ahead.horizon_is; remainders_is = q.ahead.remainders_is };
    }

-- a stream with a slot may have its request at the disk
pub disk_served : (s : Session) (clock : Clock) (head i place tag : ℕ) → i < s.count → 1 ≤ slots_at s i
    → sound_disk (with_disk s clock head (i + 1) place tag) ≡ true
unfolding sound_disk horizon if
disk_served s clock head i place tag l slot =
    let back : i + 1 - 1 ≡ i = omega arith in
    rw (back, ne_eqb (i + 1) 0 (λ e. omega arith), le-leb (i + 1) s.count (omega arith), le-leb 1 (slots_at s i) slot)
