-- What is judged of a session: a census of the used streams, and that the unused ones are all zeros. Then the clock and the disk decide.
use mathlib.Core.Bool.{Bool, true, false, not, ◌&&◌, false≢true}
use mathlib.Core.Path.{◌≡◌, refl, sym, ap, subst, ◌∙◌}
use mathlib.Core.Logic.{⊎_elim}
use Prim.Native.Nat.{ℕ, ◌+◌, ◌-◌, ◌≤◌, ◌<◌}
use native.Mathlib.Omega.{arith}
use lib.Dec.{leb, ltb, eqb}
use lib.ListN.{length, drop}
use borrow.Author.Tests.{leb-true, ltb-false, not-true, le-leb, le-ltb, eq-eqb, ne_eqb}
use Rattle.table.specs.Fold.{if}
use Rattle.table.proofs.Tests.{both, le_or_lt, same_test}
use Rattle.table.proofs.Judged.{numbers_of}
use Rattle.time.specs.Time.{session_end}
use Rattle.stream.specs.Stream.{slots, unused_stream}
use Rattle.stream.specs.Bounds.{Bounded}
use Rattle.std.specs.Bool.{MatchBool}
use Rattle.std.specs.List.{AllWithin, HoldsAt}
use Rattle.std.proofs.lemmas.List.{get_or-drop, length-drop}
use Rattle.session.specs.Session.{no_stream, stream_at, table_of, sound_disk, sound}
use Rattle.stream.specs.Search.{says}
use Rattle.time.specs.declared.Clock.{Clock}
use Rattle.stream.specs.declared.census.Census.{Census}
use Rattle.session.specs.declared.Session.{Session}
use Rattle.session.proofs.Sound.{Ahead, Used, Sound, sound_of, of_sound, used_bounded}
use Rattle.session.proofs.Grounds.{served_in}
use Rattle.session.proofs.Counted.{CountedTo, not_sound, says_used, used_says}

-- a stream at the disk is a used one
served_high : (s : Session) → Sound s → s.served ≤ s.count
served_high s q =
    ⊎_elim
    (λ (some : 1 ≤ s.served). let l = (served_in s q (λ none. omega (arith, some, none))).1 in omega (arith, l))
    (λ (none : s.served < 1). omega (arith, none))
    (le_or_lt 1 s.served)

-- the used streams are counted, and the unused ones tested
pub record Looked (s : Session) (c : Census) (unused : Bool) : Type 0 where
  pub counts : CountedTo s c s.count
  pub eight : length s.streams ≡ 8
  pub zeros : unused ≡ true → (j : ℕ) → s.count ≤ j → j < 8 → unused_stream (stream_at s j) ≡ true
  pub other : unused ≡ false → Sound s → ⊥

-- going over the streams past the count tests the unused ones
pub looks : (s : Session) (c : Census) → CountedTo s c s.count → length s.streams ≡ 8 → s.count ≤ 8 → (r : Bool)
    → MatchBool r (AllWithin (λ x. unused_stream x ≡ true) (drop s.count s.streams) 0 (length (drop s.count s.streams))) ((k : ℕ) × (k < length (drop s.count s.streams)) × HoldsAt (λ x. unused_stream x ≡ false) (drop s.count s.streams) k)
    → Looked s c r
looks s c counts eight few true all =
    record {
      counts = counts;
      eight = eight;
      zeros = λ yes j past l.
          let behind : s.count + (j - s.count) ≡ j = omega arith in
          subst (λ (n : ℕ). unused_stream (stream_at s n) ≡ true) behind
          (rw (← get_or-drop s.count s.streams (j - s.count) no_stream) (all (j - s.count) no_stream (omega arith) (omega (arith, eight, length-drop s.count s.streams))));
      other = λ no. absurd (false≢true (sym no));
    }
looks s c counts eight few false some =
    record {
      counts = counts;
      eight = eight;
      zeros = λ yes. absurd (false≢true yes);
      other = λ no q.
          let here : s.count + some.0 < 8 = omega (arith, some.1, eight, length-drop s.count s.streams) in
          let zero : unused_stream (stream_at s (s.count + some.0)) ≡ true = q.fit.others (s.count + some.0) (omega arith) here in
          false≢true (sym (some.2 no_stream) ∙ rw (get_or-drop s.count s.streams some.0 no_stream) zero);
    }

-- the tests of the unused streams, of the census, of the clock and of the number at the disk
abbrev pub tests : Session → Census → Bool → Bool
tests s c unused = unused && says c s.margin.0 s.remainders.0 && not (ltb session_end s.clock.0) && leb s.served s.count

module _ {s : Session} {c : Census} {unused : Bool} (looked : Looked s c unused) where
  -- a sound session passes
  needed : Sound s → tests s c unused ≡ true
  needed q = go unused (λ bad. looked.other bad q)
    where
      go : (b : Bool) → (b ≡ false → ⊥) → tests s c b ≡ true
      go true fine = rw (used_says s c looked.counts q.fit.used q.ahead, le-ltb session_end s.clock.0 q.fit.clock_high, le-leb _ _ (served_high s q))
      go false bad = absurd (bad refl)

  pub refused : tests s c unused ≡ false → sound s ≡ false
  refused f = not_sound s (λ q. false≢true (sym f ∙ needed q))

  -- and one that passes is sound if its disk is
  module _ (passes : tests s c unused ≡ true) where
    a : (unused && says c s.margin.0 s.remainders.0 && not (ltb session_end s.clock.0) ≡ true) × (leb s.served s.count ≡ true)
    a = both _ _ passes

    b : (unused && says c s.margin.0 s.remainders.0 ≡ true) × (not (ltb session_end s.clock.0) ≡ true)
    b = both (unused && says c s.margin.0 s.remainders.0) (not (ltb session_end s.clock.0)) a.0

    streams : (unused ≡ true) × (says c s.margin.0 s.remainders.0 ≡ true)
    streams = both unused (says c s.margin.0 s.remainders.0) b.0

    used : Used s × Ahead s
    used = says_used s c looked.counts streams.1

    disk_decides : sound_disk s ≡ sound s
    disk_decides = same_test _ _ forth (λ ok. (sound_of s ok).fit.disk)
      where
        forth : sound_disk s ≡ true → sound s ≡ true
        forth disk =
            of_sound s
            (record {
              fit =
                  record {
                    used = used.0;
                    eight = looked.eight;
                    others = looked.zeros streams.0;
                    clock_high = ltb-false _ _ (not-true _ b.1);
                    disk = disk;
                  };
              ahead = used.1;
            })

    pub idle_decides : s.served ≡ 0 → (eqb s.place 0 && eqb s.tag 0) ≡ sound s
    unfolding sound_disk if
    idle_decides none = rw (eq-eqb _ _ none) at disk_decides

    module _ (some : s.served ≡ 0 → ⊥) where
      inside_count : s.served - 1 < s.count
      inside_count = omega (arith, some, leb-true s.served s.count a.1)

      pub at_disk : s.served - 1 < 8
      at_disk = omega (arith, inside_count, (numbers_of (table_of s) looked.counts.passed.numbers).count_high)

      pub can_have : Bounded s.worst s.horizon.0 (stream_at s (s.served - 1))
      can_have = rw used.1.horizon_is (used_bounded s used.0 (s.served - 1) inside_count)

      pub busy_decides : (n : ℕ) → n ≡ slots s.worst s.horizon.0 (stream_at s (s.served - 1)) → leb 1 n ≡ sound s
      unfolding sound_disk if
      busy_decides n e = rw (e ∙ ap (λ (h : Clock). slots s.worst h.0 (stream_at s (s.served - 1))) used.1.horizon_is) (rw (ne_eqb _ _ some, a.1) at disk_decides)
