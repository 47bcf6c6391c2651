-- Each change of the list is in its place: contents at 0, a dropped event at one of its trace, and a cut at the last part of one.
use mathlib.Core.Logic.{inl, inr}
use mathlib.Core.Bool.{true, false}
use mathlib.Core.Path.{◌≡◌, refl}
use mathlib.Core.List.{List, [], ◌∷◌, ◌++◌}
use Prim.Native.Nat.{ℕ, zero, suc, ◌+◌, ◌-◌, ◌*◌, ◌/◌, ◌%◌, ◌≤◌, ◌<◌}
use native.Mathlib.Omega.{arith}
use borrow.Author.Tests.{eqb-false}
use lib.Dec.{eqb}
use lib.ListN.{length}
use Rattle.table.specs.Fold.{if, join_to}
use Rattle.table.proofs.Tests.{by_if}
use Rattle.file.specs.File.{events_max, event_size}
use Rattle.file.specs.Reading.{events_in, trace_start, trace_in}
use Rattle.repair.specs.Salvage.{is_salvageable, is_kept, contents_stay, contents_change, dropped_at, cut_at, drops_to, cuts_of, trace_changes, changes_of}
use Rattle.repair.specs.Laws.{InPlace, AllInPlace, ChangesAreInPlace}
use Rattle.repair.specs.declared.change.Change.{Change}
use Rattle.repair.proofs.Kept.{outlined, trace_length}

places_append : (old : List ℕ) (a b : List Change) → AllInPlace old a → AllInPlace old b → AllInPlace old (a ++ b)
unfolding AllInPlace
places_append old [] b p q = q
places_append old (change ∷ a) b p q = (p.0, places_append old a b p.1 q)

module _ (old : List ℕ) (fine : is_salvageable old ≡ true) where
  abbrev start : ℕ
  start = trace_start old

  abbrev trace : List ℕ
  trace = trace_in old

  -- the trace goes up to the end of the file
  whole : start + length trace ≡ length old
  whole = omega (arith, trace_length old fine, (outlined old fine).long)

  drop_there : (n : ℕ) → n < events_in trace → is_kept events_max trace n ≡ false → InPlace old (dropped_at (start + event_size * n))
  unfolding InPlace
  drop_there n l h =
      let e : (start + event_size * n - start) / event_size ≡ n = omega arith in
      inr (inl (refl, omega arith, omega arith, omega (arith, whole), rw e h))

  drops_there : (n : ℕ) → n ≤ events_in trace → AllInPlace old (drops_to events_max start trace n)
  unfolding join_to AllInPlace
  drops_there zero le = tt
  drops_there (suc n) le =
      places_append old (drops_to events_max start trace n) _ (drops_there n (omega arith))
      (by_if (AllInPlace old) (is_kept events_max trace n) [] (dropped_at (start + event_size * n) ∷ []) (λ _. tt) (λ h. (drop_there n (omega arith) h, tt)))

  cut_there : (length trace % event_size ≡ 0 → ⊥) → InPlace old (cut_at (start + event_size * events_in trace))
  unfolding InPlace
  cut_there torn = inr (inr (refl, omega arith, omega arith, omega (arith, whole, torn), omega (arith, whole)))

  cuts_there : AllInPlace old (cuts_of start trace)
  unfolding AllInPlace
  cuts_there =
      let rest = length trace % event_size in
      by_if (AllInPlace old) (eqb rest 0) [] (cut_at (start + event_size * events_in trace) ∷ []) (λ _. tt) (λ h. (cut_there (eqb-false rest 0 h), tt))

  trace_there : AllInPlace old (trace_changes events_max start trace)
  unfolding trace_changes
  trace_there =
      places_append old (drops_to events_max start trace (events_in trace)) (cuts_of start trace) (drops_there (events_in trace) (omega arith)) cuts_there

contents_there : (old : List ℕ) → AllInPlace old (if (contents_stay old) [] (contents_change ∷ []))
unfolding AllInPlace InPlace
contents_there old = by_if (AllInPlace old) (contents_stay old) [] (contents_change ∷ []) (λ _. tt) (λ _. (inl (refl, refl), tt))

pub changes_are_in_place : ChangesAreInPlace
unfolding changes_of
changes_are_in_place old fine =
    places_append old (if (contents_stay old) [] (contents_change ∷ [])) (trace_changes events_max (trace_start old) (trace_in old))
    (contents_there old) (trace_there old fine)
