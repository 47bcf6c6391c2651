-- The search for the request to send, step by step.
use mathlib.Core.Bool.{Bool, true, false, or-false}
use mathlib.Core.Path.{◌≡◌, refl, sym, ap, ◌∙◌}
use Prim.Native.Nat.{ℕ, zero, suc, ◌+◌}
use native.Mathlib.Numerals.{add-one}
use native.Mathlib.Omega.{arith}
use lib.Dec.{leb}
use borrow.Author.Tests.{eq-eqb, ne_eqb, le-leb, lt-leb}
use Rattle.std.proofs.Common.{Option, Some, None}
use Rattle.table.specs.Fold.{if, some_to}
use Rattle.session.specs.Session.{stream_at, horizon, filled_at, some_filled, sound}
use Rattle.stream.specs.Choice.{first_best}
use Rattle.session.specs.Choice.{taken_before, sent_before, chosen}
use Rattle.session.specs.Inner.{request_at, pick_of}
use Rattle.stream.specs.Search.{considered, preferred}
use Rattle.time.specs.declared.Clock.{Clock}
use Rattle.stream.specs.declared.choice.Pick.{Pick}
use Rattle.session.specs.declared.Session.{Session}
use Rattle.stream.proofs.Best.{best_skips, best_starts, best_next}
use Rattle.session.proofs.Sound.{sound_of}

module _ (s : Session) where
  abbrev passes : ℕ → Bool
  passes j = leb 1 (filled_at s j)

  -- what the search has found among the streams below n
  abbrev pub pick_to : ℕ → Option Pick
  pick_to n = if (some_to passes n) (Some (request_at s (first_best passes (sent_before s) n))) None

  pub pick_none : None ≡ pick_to 0
  unfolding some_to if
  pick_none = refl

  pub pick_all : pick_to s.count ≡ pick_of s
  unfolding some_filled chosen
  pick_all = refl

  -- a choice of the stream is one of its request
  whole : (b : Bool) (m n : ℕ) → Some (request_at s (if b m n)) ≡ (if b (Some (request_at s m)) (Some (request_at s n)))
  unfolding if
  whole true m n = refl
  whole false m n = refl

  -- one stream further
  next : (i : ℕ) → considered s.worst (horizon s) (taken_before s) (pick_to i) (stream_at s i) i ≡ pick_to (suc i)
  unfolding considered preferred sent_before if some_to
  next i = go (filled_at s i) refl (some_to passes i) refl
    where
      go : (m : ℕ) → filled_at s i ≡ m → (q : Bool) → some_to passes i ≡ q → considered s.worst (horizon s) (taken_before s) (pick_to i) (stream_at s i) i ≡ pick_to (suc i)
      go zero e q some =
          let fails : passes i ≡ false = lt-leb 1 (filled_at s i) (omega (arith, e)) in
          rw (eq-eqb (filled_at s i) 0 e, fails, or-false (some_to passes i), best_skips passes (sent_before s) i fails)
      go (suc m) e true some =
          let here : passes i ≡ true = le-leb 1 (filled_at s i) (omega (arith, e)) in
          rw (ne_eqb (filled_at s i) 0 (λ z. omega (arith, e, z)), here, some, best_next passes (sent_before s) i here some) (sym (whole (sent_before s i (first_best passes (sent_before s) i)) i (first_best passes (sent_before s) i)))
      go (suc m) e false none =
          let here : passes i ≡ true = le-leb 1 (filled_at s i) (omega (arith, e)) in
          rw (ne_eqb (filled_at s i) 0 (λ z. omega (arith, e, z)), here, none, best_starts passes (sent_before s) i here none)

  -- by the horizon that is kept
  pub pick_more : sound s ≡ true → (i : ℕ) → considered s.worst s.horizon.0 (taken_before s) (pick_to i) (stream_at s i) i ≡ pick_to (i + 1)
  pick_more ok i =
      ap (λ (h : Clock). considered s.worst h.0 (taken_before s) (pick_to i) (stream_at s i) i) (sound_of s ok).ahead.horizon_is
      ∙ next i
      ∙ ap pick_to (sym (add-one i))
