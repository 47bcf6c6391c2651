-- The one pass over the streams where no slot is filled: what it has found among those passed.
use mathlib.Core.Bool.{Bool, true, false, ◌&&◌, ◌||◌, false≢true}
use mathlib.Core.Path.{◌≡◌, refl, sym, ap, ◌∙◌}
use Prim.Native.Nat.{ℕ, ◌+◌, ◌≤◌, ◌<◌}
use native.Mathlib.Numerals.{add-one}
use native.Mathlib.Omega.{arith}
use lib.Dec.{leb}
use Rattle.std.proofs.Common.{List, Option, Some, None, is_none}
use Rattle.std.specs.Option.{unwrap_or}
use Rattle.table.specs.Fold.{if, some_to}
use Rattle.table.proofs.Folds.{some_not_all}
use Rattle.time.specs.Time.{moment}
use Rattle.stream.specs.Stream.{slots, stream_in, closes_past_end}
use Rattle.stream.specs.Choice.{expires_first}
use Rattle.stream.specs.Search.{lapsing}
use Rattle.stream.specs.declared.Stream.{Stream}
use Rattle.stream.proofs.Best.{best_below}
use Rattle.session.specs.Session.{stream_at, horizon, slots_at, no_slot, sound}
use Rattle.session.specs.Choice.{expires_before, expiring}
use Rattle.session.specs.Calls.{move_passes_end}
use Rattle.session.specs.Inner.{survey_of}
use Rattle.session.specs.declared.Session.{Session}
use Rattle.time.specs.declared.Clock.{Clock}
use Rattle.session.proofs.Options.{some_if}
use Rattle.session.proofs.Sound.{sound_of}
use Rattle.session.proofs.Lapses.{lapse_to, lapse_more}

-- of the streams below a count: the slot that would expire, and whether one would close its job past the end
abbrev pub found_to : Session → ℕ → Option ℕ
found_to s n = lapse_to (λ i. leb 1 (slots_at s i)) (expires_before s) n

abbrev pub passing : Session → ℕ → Bool
passing s n = some_to (λ i. closes_past_end (horizon s) (stream_at s i)) n

pub survey_none : (s : Session) → (None ≡ found_to s 0) × (false ≡ passing s 0)
unfolding some_to if
survey_none s = (refl, refl)

-- a step of the search looks at two streams of the list: at the one that is passed, and at the best so far, or at any where there is none
pub lapsing_is : (worst h : ℕ) (streams : List Stream) (best : Option ℕ) (i b : ℕ) → b ≡ unwrap_or best i → (if (leb 1 (slots worst h (stream_in streams i)) && (is_none best || expires_first (stream_in streams i) (stream_in streams b))) (Some i) best) ≡ lapsing worst h streams best i
unfolding lapsing
lapsing_is worst h streams None i b is = refl
lapsing_is worst h streams (Some found) i b is = rw is

module _ (s : Session) (ok : sound s ≡ true) where
  horizon_is : s.horizon ≡ moment (horizon s)
  horizon_is = (sound_of s ok).ahead.horizon_is

  -- what was found is a used stream
  pub found_in : (n b : ℕ) → n ≤ s.count → found_to s n ≡ Some b → b < s.count
  unfolding if
  found_in n b le e = go (some_to (λ i. leb 1 (slots_at s i)) n) refl
    where
      go : (q : Bool) → some_to (λ i. leb 1 (slots_at s i)) n ≡ q → b < s.count
      go true some =
          let is = (some_if (some_to (λ i. leb 1 (slots_at s i)) n) e).1 in
          omega (arith, is, best_below (λ i. leb 1 (slots_at s i)) (expires_before s) n some)
      go false none = absurd (false≢true (sym none ∙ (some_if (some_to (λ i. leb 1 (slots_at s i)) n) e).0))

  -- and with none found the next one stands in for it
  pub looked_in : (i b : ℕ) (best : Option ℕ) → best ≡ found_to s i → b ≡ unwrap_or best i → i < s.count → b < s.count
  looked_in i b None found is l = omega (arith, is)
  looked_in i b (Some at) found is l = omega (arith, is, found_in i at (omega arith) (sym found))

  pub better_is : (i : ℕ) → lapsing s.worst s.horizon.0 s.streams (found_to s i) i ≡ found_to s (i + 1)
  unfolding lapsing
  better_is i =
      ap (λ (h : Clock). lapsing s.worst h.0 s.streams (found_to s i) i) horizon_is
      ∙ sym (lapse_more (λ n. leb 1 (slots_at s n)) (expires_before s) i)
      ∙ ap (found_to s) (sym (add-one i))

  pub passing_more : (i : ℕ) → (passing s i || closes_past_end s.horizon.0 (stream_at s i)) ≡ passing s (i + 1)
  unfolding some_to
  passing_more i =
      ap (λ (h : Clock). passing s i || closes_past_end h.0 (stream_at s i)) horizon_is ∙ ap (passing s) (sym (add-one i))

-- past all streams it is over
pub survey_all : (s : Session) → record { expiring = found_to s s.count; beyond = passing s s.count } ≡ survey_of s
unfolding no_slot expiring move_passes_end if
survey_all s = rw (some_not_all (slots_at s) s.count)
