-- The list of changes goes up.
use mathlib.Core.Bool.{Bool, true, false}
use mathlib.Core.List.{List, [], ◌∷◌, ◌++◌, map, map-append}
use Prim.Native.Nat.{ℕ, zero, suc, ◌+◌, ◌*◌, ◌%◌, ◌≤◌, ◌<◌}
use native.Mathlib.Omega.{arith}
use lib.Dec.{eqb}
use lib.ListN.{length}
use Rattle.table.specs.Fold.{if, join_to}
use Rattle.file.specs.File.{event_size, events_max}
use Rattle.file.specs.Reading.{events_in, trace_start, trace_in}
use Rattle.repair.specs.Salvage.{is_kept, contents_stay, contents_change, dropped_at, cut_at, drops_to, cuts_of, trace_changes, changes_of}
use Rattle.repair.specs.Laws.{AboveEach, ListGoesUp}
use Rattle.repair.specs.declared.change.Change.{Change}
use Rattle.repair.proofs.Kept.{start_two}

-- numbers of which each is above the one before it, and the last at most so high
unfoldable Rising : ℕ → ℕ → List ℕ → Type 0
Rising low high [] = low ≤ high
Rising low high (n ∷ rest) = (low < n) × Rising n high rest

rising_above : (low less high : ℕ) (l : List ℕ) → less ≤ low → Rising low high l → AboveEach less l
unfolding Rising AboveEach
rising_above low less high [] le q = tt
rising_above low less high (n ∷ rest) le q = (omega (arith, q.0), rising_above n n high rest (omega arith) q.1)

rising_from : (low less high : ℕ) (l : List ℕ) → less ≤ low → Rising low high l → Rising less high l
unfolding Rising
rising_from low less high [] le q = omega (arith, q)
rising_from low less high (n ∷ rest) le q = (omega (arith, q.0), q.1)

-- two lists that rise, one behind the other
rising_append : (low middle high : ℕ) (a b : List ℕ) → Rising low middle a → Rising middle high b → Rising low high (a ++ b)
unfolding Rising
rising_append low middle high [] b p q = rising_from middle low high b p q
rising_append low middle high (n ∷ a) b p q = (p.0, rising_append n middle high a b p.1 q)

-- where a change is listed, counted from 1
abbrev place : Change → ℕ
place c = suc c.position

module _ (room at : ℕ) (trace : List ℕ) where
  drops_rise : (n : ℕ) → Rising at (at + event_size * n) (map place (drops_to room at trace n))
  unfolding join_to if Rising
  drops_rise zero = omega arith
  drops_rise (suc n) =
      rw (map-append place (drops_to room at trace n) (if (is_kept room trace n) [] (dropped_at (at + event_size * n) ∷ [])))
      (rising_append at (at + event_size * n) (at + event_size * suc n) (map place (drops_to room at trace n)) _ (drops_rise n) (go (is_kept room trace n)))
    where
      go : (b : Bool) → Rising (at + event_size * n) (at + event_size * suc n) (map place (if b [] (dropped_at (at + event_size * n) ∷ [])))
      go true = omega arith
      go false = (omega arith, omega arith)

  cuts_rise : let end = at + event_size * events_in trace in Rising end (suc end) (map place (cuts_of at trace))
  unfolding if Rising
  cuts_rise = go (eqb (length trace % event_size) 0)
    where
      go : (b : Bool) → let end = at + event_size * events_in trace in Rising end (suc end) (map place (if b [] (cut_at end ∷ [])))
      go true = omega arith
      go false = (omega arith, omega arith)

  changes_rise : Rising at (suc (at + event_size * events_in trace)) (map place (trace_changes room at trace))
  unfolding trace_changes
  changes_rise =
      let end = at + event_size * events_in trace in
      rw (map-append place (drops_to room at trace (events_in trace)) (cuts_of at trace))
      (rising_append at end (suc end) (map place (drops_to room at trace (events_in trace))) (map place (cuts_of at trace)) (drops_rise (events_in trace)) cuts_rise)

pub list_goes_up : ListGoesUp
unfolding changes_of if AboveEach
list_goes_up old fine = go (contents_stay old)
  where
    go : (stay : Bool) → AboveEach 0 (map place ((if stay [] (contents_change ∷ [])) ++ trace_changes events_max (trace_start old) (trace_in old)))
    go true = rising_above (trace_start old) 0 _ _ (omega arith) (changes_rise events_max (trace_start old) (trace_in old))
    go false = (omega arith, rising_above (trace_start old) 1 _ _ (omega (arith, start_two old fine)) (changes_rise events_max (trace_start old) (trace_in old)))
