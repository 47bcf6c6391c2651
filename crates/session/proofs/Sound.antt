-- A sound session, test by test: what each test says, and that these facts make it sound.
use mathlib.Core.Bool.{true, ◌||◌}
use mathlib.Core.Path.{◌≡◌, refl, ap}
use mathlib.Core.Logic.{⊎_elim}
use Prim.Native.Nat.{ℕ, ◌≤◌, ◌<◌}
use native.Mathlib.Omega.{arith}
use lib.ListN.{length, get_or-map}
use lib.Dec.{ltb}
use borrow.Author.Tests.{leb-true, eqb-true, le-leb, lt-ltb, le-ltb, eq-eqb}
use Rattle.table.specs.Admission.{admission_of}
use Rattle.table.specs.Margin.{margin_of}
use Rattle.table.proofs.Tests.{both, used_or_zero, le_or_lt}
use Rattle.table.proofs.Folds.{all_at, all_of, smallest_le}
use Rattle.table.proofs.Whole.{same_is, is_same}
use Rattle.table.proofs.Judged.{FitsIn, Admits, admits_of}
use Rattle.time.specs.Time.{session_end, moment}
use Rattle.time.specs.Latest.{remainders}
use Rattle.stream.specs.Stream.{fresh_stream, sound_stream, unused_stream}
use Rattle.stream.specs.Bounds.{Bounded}
use Rattle.session.specs.Session.{no_stream, stream_at, horizon, remainders_of, table_of, sound_disk, sound_rest, used_streams, sound_ahead, sound, looking_ahead}
use Rattle.session.specs.Inner.{Bookkept}
use Rattle.time.specs.declared.Clock.{Clock}
use Rattle.time.specs.declared.remainders.Remainders.{Remainders}
use Rattle.stream.specs.declared.Stream.{Stream}
use Rattle.session.specs.declared.Session.{Session}
use Rattle.stream.proofs.Orderly.{InOrder, or_right, stream_of, of_stream, bounded_of}
use Rattle.stream.proofs.Unused.{unused_is_zero}

-- the horizon and the sum that a session keeps
pub record Ahead (s : Session) : Type 0 where
  pub horizon_is : s.horizon ≡ moment (horizon s)
  pub remainders_is : s.remainders ≡ remainders (remainders_of s)

-- its table, and its used streams
pub record Used (s : Session) : Type 0 where
  pub admitted : admission_of (table_of s) ≡ 0
  pub margin_is : s.margin.0 ≡ margin_of (table_of s)
  pub each : (i : ℕ) → i < s.count → InOrder s.worst s.padding (horizon s) (stream_at s i)

-- all but the horizon and the sum
pub record Fit (s : Session) : Type 0 where
  pub used : Used s
  pub eight : length s.streams ≡ 8
  pub others : (i : ℕ) → s.count ≤ i → i < 8 → unused_stream (stream_at s i) ≡ true
  pub clock_high : s.clock.0 ≤ session_end
  pub disk : sound_disk s ≡ true

pub record Sound (s : Session) : Type 0 where
  pub fit : Fit s
  pub ahead : Ahead s

-- a session that looks ahead anew
pub looking_ahead_lem : (s : Session) → Fit s → Sound (looking_ahead s)
unfolding horizon remainders_of sound_disk
looking_ahead_lem s q =
    let used = q.used in
    record {
      fit =
          record {
            used = record { admitted = used.admitted; margin_is = used.margin_is; each = used.each };
            eight = q.eight;
            others = q.others;
            clock_high = q.clock_high;
            disk = q.disk;
          };
      ahead = record { horizon_is = refl; remainders_is = refl };
    }

-- the streams past the count, of a session that has eight
pub rest_of : (s : Session) → sound_rest s.streams s.count ≡ true
    → (length s.streams ≡ 8) × ((i : ℕ) → s.count ≤ i → i < 8 → unused_stream (stream_at s i) ≡ true)
unfolding sound_rest
rest_of s t =
    let rest = both _ _ t in
    (eqb-true _ _ rest.0, λ i past l. used_or_zero _ _ (all_at _ 8 rest.1 i l) (le-ltb i s.count past))

pub sound_of : (s : Session) → sound s ≡ true → Sound s
unfolding sound used_streams sound_ahead
sound_of s t =
    let a = both _ _ t in
    let b = both _ _ a.0 in
    let d = both _ _ b.0 in
    let rest = rest_of s d.1 in
    let g = both _ _ d.0 in
    let kept = both _ _ g.1 in
    let e = both _ _ g.0 in
    let f = both _ _ e.0 in
    record {
      fit =
          record {
            used =
                record {
                  admitted = eqb-true _ _ f.0;
                  margin_is = same_is _ _ f.1;
                  each = λ i l. stream_of s.worst s.padding (horizon s) (stream_at s i) (all_at _ s.count e.1 i l);
                };
            eight = rest.0;
            others = rest.1;
            clock_high = leb-true _ _ b.1;
            disk = a.1;
          };
      ahead = record { horizon_is = ap moment (eqb-true _ _ kept.0); remainders_is = ap remainders (same_is _ _ kept.1) };
    }

pub of_sound : (s : Session) → Sound s → sound s ≡ true
unfolding sound used_streams sound_ahead sound_rest
of_sound s q =
    rw (
      eq-eqb _ _ q.fit.used.admitted,
      is_same _ _ q.fit.used.margin_is,
      all_of (λ i. sound_stream s.worst s.padding (horizon s) (stream_at s i)) s.count
          (λ i l. of_stream s.worst s.padding (horizon s) (stream_at s i) (q.fit.used.each i l)),
      eq-eqb _ _ (ap (λ (h : Clock). h.0) q.ahead.horizon_is),
      is_same _ _ (ap (λ (r : Remainders). r.0) q.ahead.remainders_is),
      eq-eqb _ _ q.fit.eight,
      all_of (λ i. ltb i s.count || unused_stream (stream_at s i)) 8
          (λ i l.
          ⊎_elim
          (λ (past : s.count ≤ i). or_right (ltb i s.count) _ (q.fit.others i past l))
          (λ (here : i < s.count). rw (lt-ltb i s.count here))
          (le_or_lt s.count i)),
      le-leb _ _ q.fit.clock_high,
      q.fit.disk,
    )

-- the table's facts, read off the session
pub admits : (s : Session) → Sound s → Admits (table_of s)
admits s q = admits_of (table_of s) q.fit.used.admitted

pub count_high : (s : Session) → sound s ≡ true → s.count ≤ 8
count_high s t = (admits s (sound_of s t)).numbers.count_high

-- the numbers of the used streams, of any session that is fit
module _ (s : Session) (used : Used s) where
  abbrev booked : Admits (table_of s)
  booked = admits_of (table_of s) used.admitted

  pub used_reservation : (i : ℕ) → i < s.count → FitsIn s.worst s.span s.padding (stream_at s i).reserved (stream_at s i).period
  used_reservation i l =
      rw (get_or-map (λ (x : Stream). x.reserved) s.streams i no_stream, get_or-map (λ (x : Stream). x.period) s.streams i no_stream)
      at (booked.each i l)

  pub used_bounded : (i : ℕ) → i < s.count → Bounded s.worst (horizon s) (stream_at s i)
  unfolding horizon
  used_bounded i l =
      let n = booked.numbers in
      bounded_of s.worst s.span s.padding (horizon s) (stream_at s i) n.worst_low n.worst_high (used_reservation i l) (used.each i l)
      (smallest_le (λ j. (stream_at s j).deadline.0) s.count i l)

  pub bookkept : Bookkept s
  bookkept =
      let n = booked.numbers in
      record { some = n.count_low; few = n.count_high; span_high = n.span_high; each = used_bounded }

pub reservation : (s : Session) → Sound s → (i : ℕ) → i < s.count
    → FitsIn s.worst s.span s.padding (stream_at s i).reserved (stream_at s i).period
reservation s q = used_reservation s q.fit.used

pub bounded : (s : Session) → Sound s → (i : ℕ) → i < s.count → Bounded s.worst (horizon s) (stream_at s i)
bounded s q = used_bounded s q.fit.used

-- by the horizon that is kept
pub bounded_by : (s : Session) → Sound s → (h : Clock) → h ≡ s.horizon → (i : ℕ) → i < s.count → Bounded s.worst h.0 (stream_at s i)
bounded_by s q h is i l = rw (is, q.ahead.horizon_is) (bounded s q i l)

-- an unused stream has the deadline 0
pub unused_deadline : (x : Stream) → unused_stream x ≡ true → x.deadline.0 ≡ 0
unfolding fresh_stream
unused_deadline x t = ap (λ (y : Stream). y.deadline.0) ((unused_is_zero x).0 t)

-- no deadline passes the session's end, used or not
pub deadline_high : (s : Session) → Sound s → (i : ℕ) → i < 8 → (stream_at s i).deadline.0 ≤ session_end
deadline_high s q i l =
    ⊎_elim
    (λ (past : s.count ≤ i). let z = unused_deadline (stream_at s i) (q.fit.others i past l) in omega arith)
    (λ (here : i < s.count). (q.fit.used.each i here).deadline_high)
    (le_or_lt s.count i)
