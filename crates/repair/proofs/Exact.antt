-- The list of changes is exact: what each change took away, put back in turn, makes the old file again.
use mathlib.Core.Bool.{Bool, true, false}
use mathlib.Core.Path.{◌≡◌, refl, sym, ap, ◌∙◌}
use mathlib.Core.List.{List, [], ◌∷◌, ◌++◌, append_assoc, append-nil}
use Prim.Native.Nat.{ℕ, zero, suc, ◌+◌, ◌-◌, ◌*◌, ◌%◌, ◌≤◌}
use native.Mathlib.Omega.{arith}
use lib.Dec.{eqb}
use borrow.Author.Tests.{eqb-true}
use lib.ListN.{length, take, drop, length-drop, take-append-drop}
use lib.Seq.{take_at, drop_at, take-add, take_all, drop-drop, length-take-le}
use Rattle.table.specs.Fold.{if, join_to}
use Rattle.table.proofs.Tests.{by_if}
use Rattle.cells.specs.Cells.{Bytes}
use Rattle.file.specs.File.{events_max, event_size}
use Rattle.file.specs.Reading.{events_in, table_length, trace_start, trace_in}
use Rattle.repair.specs.Salvage.{is_salvageable, count_in, is_kept, event_bytes, kept_to, kept_of, salvaged_file, contents_stay, contents_change, dropped_at, cut_at, drops_to, cuts_of, trace_changes, changes_of}
use Rattle.repair.specs.Laws.{put_back, restored, ListIsExact, EmptyListIsEqual}
use Rattle.repair.specs.declared.change.Change.{Change}
use Rattle.repair.proofs.Kept.{outlined, start_two, trace_rest}
use Rattle.repair.proofs.Contents.{behind_contents, contents_stay_if_same}

restored_append : (old : List ℕ) (a b : List Change) (file : List ℕ) → restored old (a ++ b) file ≡ restored old b (restored old a file)
unfolding restored
restored_append old [] b file = refl
restored_append old (change ∷ a) b file = restored_append old a b (put_back old change file)

-- what stands before a place, and something behind it
module _ (old rest : List ℕ) (at : ℕ) (l : at ≤ length old) where
  front_there : take at (take at old ++ rest) ≡ take at old
  front_there = take_at (take at old) rest at (length-take-le at old l)

  rest_there : drop at (take at old ++ rest) ≡ rest
  rest_there = drop_at (take at old) rest at (length-take-le at old l)

module _ (old : List ℕ) (at : ℕ) (long : at ≤ length old) (trace : List ℕ) (behind : trace ≡ drop at old) where
  length_behind : length trace ≡ length old - at
  length_behind = ap length behind ∙ length-drop at old

  -- one event more
  event_more : (n : ℕ) (rest : List ℕ)
      → take (at + event_size * n) old ++ (take event_size (drop (at + event_size * n) old) ++ rest) ≡ take (at + event_size * suc n) old ++ rest
  event_more n rest =
      let here = at + event_size * n in
      let next : at + event_size * suc n ≡ here + event_size = omega arith in
      rw (next, take-add here event_size old) (sym (append_assoc (take here old) (take event_size (drop here old)) rest))

  -- its bytes are those that stand there
  event_there : (n : ℕ) → event_bytes trace n ≡ take event_size (drop (at + event_size * n) old)
  event_there n =
      ap (λ (l : List ℕ). take event_size (drop (event_size * n) l)) behind ∙ ap (take event_size) (drop-drop (event_size * n) at old)

  -- With the dropped ones of the first n events put back, the file is the old one up to there.
  drops_back : (room n : ℕ) (rest : List ℕ) → n ≤ events_in trace
      → restored old (drops_to room at trace n) (take at old ++ (kept_to room trace n ++ rest)) ≡ take (at + event_size * n) old ++ rest
  unfolding join_to restored if put_back
  drops_back room zero rest le = let e : at + event_size * 0 ≡ at = omega arith in rw e
  drops_back room (suc n) rest le =
      let kept = is_kept room trace n in
      let piece = if kept (event_bytes trace n) [] in
      let change = if kept [] (dropped_at (at + event_size * n) ∷ []) in
      restored_append old (drops_to room at trace n) change (take at old ++ (kept_to room trace (suc n) ++ rest))
      ∙ ap (λ (l : List ℕ). restored old change (restored old (drops_to room at trace n) (take at old ++ l))) (append_assoc (kept_to room trace n) piece rest)
      ∙ ap (restored old change) (drops_back room n (piece ++ rest) (omega arith))
      ∙ go kept
    where
      go : (b : Bool) → let here = at + event_size * n in
          restored old (if b [] (dropped_at here ∷ [])) (take here old ++ (if b (event_bytes trace n) [] ++ rest)) ≡ take (at + event_size * suc n) old ++ rest
      go true = ap (λ (l : List ℕ). take (at + event_size * n) old ++ (l ++ rest)) (event_there n) ∙ event_more n rest
      go false =
          let here = at + event_size * n in
          let short : here ≤ length old = omega (arith, length_behind) in
          rw (front_there old rest here short, rest_there old rest here short) (event_more n rest)

  -- and with a rest that was cut it is the old one
  cuts_back : let end = at + event_size * events_in trace in restored old (cuts_of at trace) (take end old ++ []) ≡ old
  unfolding restored if put_back
  cuts_back =
      let end = at + event_size * events_in trace in
      let rest = length trace % event_size in
      let short : end ≤ length old = omega (arith, length_behind) in
      by_if (λ (l : List Change). restored old l (take end old ++ []) ≡ old) (eqb rest 0) [] (cut_at end ∷ [])
      (λ h. append-nil (take end old) ∙ take_all end old (omega (arith, length_behind, eqb-true rest 0 h)))
      (λ h. rw (front_there old [] end short, rest_there old [] end short, append-nil (drop end old)) (take-append-drop end old))

-- with the contents put back, where they are listed, the file is the old one up to the trace, and then what is kept
contents_back : (old : List ℕ) → Bytes old → (fine : is_salvageable old ≡ true)
    → restored old (if (contents_stay old) [] (contents_change ∷ [])) (salvaged_file old) ≡ take (trace_start old) old ++ kept_of events_max (trace_in old)
unfolding restored put_back if
contents_back old bytes fine =
    let new = salvaged_file old in
    let kept = kept_of events_max (trace_in old) in
    let size = table_length (count_in old) in
    let front : take (trace_start old) old ≡ take 26 old ++ take size (drop 26 old)
    = ap (λ (n : ℕ). take n old) (start_two old fine) ∙ take-add 26 size old in
    let same : take 26 old ++ drop 26 new ≡ take (trace_start old) old ++ kept
    = ap (λ (l : List ℕ). take 26 old ++ l) (behind_contents old fine bytes)
    ∙ sym (ap (λ (l : List ℕ). l ++ kept) front ∙ append_assoc (take 26 old) (take size (drop 26 old)) kept) in
    by_if (λ (l : List Change). restored old l new ≡ take (trace_start old) old ++ kept) (contents_stay old) [] (contents_change ∷ [])
    (λ stay.
    sym (take-append-drop 26 new) ∙ ap (λ (l : List ℕ). l ++ drop 26 new) ((contents_stay_if_same old bytes fine).0 stay) ∙ same)
    (λ _. same)

pub list_is_exact : ListIsExact
unfolding changes_of trace_changes
list_is_exact old bytes fine =
    let at = trace_start old in
    let trace = trace_in old in
    let behind = trace_rest old fine in
    let long = (outlined old fine).long in
    let drops = drops_to events_max at trace (events_in trace) in
    let head = if (contents_stay old) [] (contents_change ∷ []) in
    restored_append old head (drops ++ cuts_of at trace) (salvaged_file old)
    ∙ restored_append old drops (cuts_of at trace) (restored old head (salvaged_file old))
    ∙ ap (λ (l : List ℕ). restored old (cuts_of at trace) (restored old drops l))
    (contents_back old bytes fine ∙ ap (λ (l : List ℕ). take at old ++ l) (sym (append-nil (kept_of events_max trace))))
    ∙ ap (restored old (cuts_of at trace)) (drops_back old at long trace behind events_max (events_in trace) [] (omega arith))
    ∙ cuts_back old at long trace behind

pub empty_list_is_equal : EmptyListIsEqual
unfolding restored
empty_list_is_equal old bytes fine none = rw none at (list_is_exact old bytes fine)
