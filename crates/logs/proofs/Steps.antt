-- A line that may stand next is followed, and any other is where following ends.
use mathlib.Core.Bool.{Bool, true, false, false≢true}
use mathlib.Core.List.{List, [], ◌∷◌}
use mathlib.Core.Logic.{◌⊎◌, inl, inr, ⊎_elim}
use mathlib.Core.Path.{◌≡◌, refl, sym, ap, ◌∙◌}
use Prim.Native.Nat.{ℕ, ◌+◌}
use Rattle.std.specs.Prelude.{Option, None, Some}
use Rattle.table.specs.Fold.{if}
use Rattle.listing.specs.Line.{rendered}
use Rattle.logs.specs.Follow.{Among}
use Rattle.logs.specs.Lines.{same_bytes}
use Rattle.logs.specs.Following.{awaited, Next, first_fields, nexts_at, nexts, first_that_is, follower, with_line, with_lines}
use Rattle.logs.specs.declared.Follower.{Follower}
use Rattle.logs.specs.declared.Awaited.{Awaited}
use Rattle.logs.specs.declared.Awaited.TheVariants.{First, Event as EventAt}
use Rattle.logs.proofs.Looking.{with_failed, with_search}
use Rattle.logs.proofs.Splitting.{same_bytes_lem}
use Rattle.logs.proofs.Nexts.{nexts_tell}

-- a line is that of x, one of some
abbrev pub IsOf : List ℕ → List Next → Next → Type 0
IsOf line xs x = Among x xs × (line ≡ rendered x.fields)

-- ---- the search

-- it finds one whose line it is, or there is none
abbrev Search : List ℕ → List Next → Type 0
Search line xs =
    ((x : Next) × IsOf line xs x × (first_that_is line xs ≡ Some x.session))
    ⊎ (((x : Next) → IsOf line xs x → ⊥) × (first_that_is line xs ≡ None))

found_or_none : (line : List ℕ) (xs : List Next) → Search line xs
unfolding first_that_is Among if
found_or_none line [] = inr (λ x p. p.0, refl)
found_or_none line (x ∷ rest) = go (same_bytes line (rendered x.fields)) refl (found_or_none line rest)
  where
    go : (b : Bool) → same_bytes line (rendered x.fields) ≡ b → Search line rest → Search line (x ∷ rest)
    go true e later = inl (x, (inl refl, (same_bytes_lem line (rendered x.fields)).0 e), rw e)
    go false e (inl (y, (p, is), found)) = inl (y, (inr p, is), rw e found)
    go false e (inr (none, missed)) = inr (λ y (p, is). ⊎_elim (λ (same : y ≡ x). differs (is ∙ ap (λ (z : Next). rendered z.fields) same)) (λ q. none y (q, is)) p, rw e missed)
      where
        differs : line ≡ rendered x.fields → ⊥
        differs is = false≢true (sym e ∙ (same_bytes_lem line (rendered x.fields)).1 is)

-- ---- one line

-- the follower behind a line that may stand next, and where a line may not
abbrev pub onto : Follower → Next → Follower
onto f x = follower f x.session (f.due + 1) false

abbrev pub stopped : Follower → Follower
stopped f = follower f f.session f.due true

-- a line is followed, or following ends
pub step : (f : Follower) (trace line : List ℕ) → f.failed ≡ false
    → ((x : Next) × IsOf line (nexts f trace) x × (with_line f trace line ≡ onto f x))
    ⊎ (((x : Next) → IsOf line (nexts f trace) x → ⊥) × (with_line f trace line ≡ stopped f))
step f trace line going = go (found_or_none line (nexts f trace))
  where
    go : Search line (nexts f trace)
        → ((x : Next) × IsOf line (nexts f trace) x × (with_line f trace line ≡ onto f x))
        ⊎ (((x : Next) → IsOf line (nexts f trace) x → ⊥) × (with_line f trace line ≡ stopped f))
    go (inl (x, is, found)) = inl (x, is, with_search f trace line (Some x.session) going found)
    go (inr (none, missed)) = inr (none, with_search f trace line None going missed)

-- lines tell which it is
pub step_onto : (f : Follower) (trace line : List ℕ) (x : Next) → f.failed ≡ false → IsOf line (nexts f trace) x → with_line f trace line ≡ onto f x
step_onto f trace line x going is =
    ⊎_elim
    (λ (found : (y : Next) × IsOf line (nexts f trace) y × (with_line f trace line ≡ onto f y)).
    let same : found.0 ≡ x = nexts_tell f trace found.0 x found.1.0 is.0 (sym found.1.1 ∙ is.1) in
    found.2 ∙ ap (onto f) same)
    (λ none. absurd (none.0 x is))
    (step f trace line going)

-- ---- after following has ended

-- the same may stand next
pub stopped_nexts : (f : Follower) (trace : List ℕ) → nexts (stopped f) trace ≡ nexts f trace
unfolding awaited first_fields
stopped_nexts f trace = go (awaited f trace)
  where
    go : (a : Option Awaited) → nexts_at (stopped f) trace a ≡ nexts_at f trace a
    go (Some First) = refl
    go (Some (EventAt i)) = refl
    go None = refl

pub stays_stopped : (f : Follower) (trace : List ℕ) (lines : List (List ℕ)) → f.failed ≡ true → with_lines f trace lines ≡ f
unfolding with_lines
stays_stopped f trace [] over = refl
stays_stopped f trace (line ∷ rest) over =
    ap (λ (g : Follower). with_lines g trace rest) (with_failed f trace line over) ∙ stays_stopped f trace rest over
