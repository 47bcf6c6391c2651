-- Lists of changes, as they are put into a list of pairs from its start on.
use mathlib.Core.Bool.{Bool, true, false}
use mathlib.Core.Path.{◌≡◌, refl, ◌∙◌}
use mathlib.Core.List.{List, [], ◌∷◌, ◌++◌, map, map-append, append-nil}
use Prim.Native.Nat.{ℕ, suc, ◌+◌, ◌-◌, ◌*◌, ◌%◌, ◌≤◌, ◌<◌}
use native.Mathlib.Omega.{arith}
use lib.ListN.{length, take, drop, set, length-map, length-append, length-set, length-drop}
use lib.Seq.{take-length, drop-length, length-take-le}
use Rattle.table.specs.Fold.{if}
use Rattle.file.specs.File.{events_max, event_size}
use Rattle.file.specs.Reading.{events_in}
use Rattle.repair.specs.Salvage.{contents_change, cut_at, pair_of, put_on, drops_to, trace_changes, list_from}
use Rattle.repair.specs.declared.change.Change.{Change}
use Rattle.repair.proofs.Kept.{no_cuts, one_cut}
use Rattle.repair.proofs.Turns.{put_one}

-- changes at the start of a list
pub length_on : (list : List Change) (start : List (List ℕ)) → length list ≤ length start → length (put_on list start) ≡ length start
length_on list start few =
    length-append (map pair_of list) (drop (length list) start) ∙ omega (arith, length-map list pair_of, length-drop (length list) start)

-- one change more
pub one_more : (list : List Change) (change : Change) (start : List (List ℕ)) → length list < length start
    → set (put_on list start) (length list) (pair_of change) ≡ put_on (list ++ (change ∷ [])) start
one_more list change start more =
    let n : length (list ++ (change ∷ [])) ≡ suc (length list) = length-append list (change ∷ []) ∙ omega arith in
    rw (map-append pair_of list (change ∷ []), n)
    (put_one (map pair_of list) start (length list) (pair_of change) [] (length-map list pair_of) more)

module _ (room at : ℕ) (trace : List ℕ) where
  pub no_cut : length trace % event_size ≡ 0 → trace_changes room at trace ≡ drops_to room at trace (events_in trace)
  unfolding trace_changes
  no_cut whole = rw (no_cuts at trace whole) (append-nil (drops_to room at trace (events_in trace)))

  pub a_cut : (length trace % event_size ≡ 0 → ⊥)
      → trace_changes room at trace ≡ drops_to room at trace (events_in trace) ++ (cut_at (at + event_size * events_in trace) ∷ [])
  unfolding trace_changes
  a_cut torn = rw (one_cut at trace torn) refl

-- the whole list, where the contents stay and where they do not
module _ (stay : Bool) (at : ℕ) (trace : List ℕ) where
  pub list_stays : stay ≡ true → list_from stay at trace ≡ trace_changes events_max at trace
  unfolding if
  list_stays h = rw h refl

  pub list_changed : stay ≡ false → list_from stay at trace ≡ contents_change ∷ trace_changes events_max at trace
  unfolding if
  list_changed h = rw h refl

-- a list behind a first change: what is put into the part behind the first place
module _ (first : Change) (list : List Change) (start : List (List ℕ)) where
  abbrev whole : List (List ℕ)
  whole = set start 0 (pair_of first)

  abbrev pub behind : List (List ℕ)
  behind = take (length whole - 1) (drop 1 whole)

  pub length_behind : 1 ≤ length start → length behind ≡ length start - 1
  length_behind more = length-take-le (length whole - 1) (drop 1 whole) (rw length-drop (omega arith)) ∙ rw (length-set start 0 (pair_of first)) refl

pub behind_first : (first : Change) (list : List Change) (start : List (List ℕ)) → 1 ≤ length start
    → let whole = set start 0 (pair_of first) in
    take 1 whole ++ (put_on list (behind first list start) ++ drop (length whole - 1) (drop 1 whole)) ≡ put_on (first ∷ list) start
behind_first first list [] more = absurd (omega arith)
behind_first first list (x ∷ rest) more =
    let all : suc (length rest) - 1 ≡ length rest = omega arith in
    rw (all, take-length rest, drop-length rest, append-nil (put_on list rest)) refl
