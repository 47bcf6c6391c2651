-- A desk's cells and its streams: the cells of a sound desk are its streams and then 0, and stay so as a stream is added or withdrawn.
use mathlib.Core.Bool.{true, ◌||◌}
use mathlib.Core.List.{List, [], ◌∷◌, ◌++◌, append_assoc}
use mathlib.Core.Path.{◌≡◌, sym, ◌∙◌, ap, ap₂}
use mathlib.Core.Logic.{⊎_elim}
use Prim.Native.Nat.{ℕ, suc, ◌+◌, ◌-◌, ◌≤◌, ◌<◌}
use native.Mathlib.Omega.{arith}
use native.Mathlib.Decide.{ℕ_discrete}
use lib.ListN.{length, take, drop, set, length-append, length-set, length-drop, get_or-eq_default, get_or-append}
use lib.Dec.{ltb}
use lib.Seq.{length-take-le, get_or-take, get_or-set_same, get_or-set_other, get_or-append_seam, ext_get_or, get_or-append-add, get_or-drop}
use borrow.Rule.Slice.PartMut.{put_mid}
use borrow.Author.Tests.{leb-true, eqb-true, le-leb, lt-ltb, le-ltb, eq-eqb}
use Rattle.table.specs.Fold.{list_to, leaving, closed_up}
use Rattle.table.specs.Ranges.{streams_max}
use Rattle.table.specs.Reservations.{no_record, record_at, records_of}
use Rattle.table.specs.declared.reservations.Reservation.{Reservation}
use Rattle.table.proofs.Tests.{both, used_or_zero, le_or_lt}
use Rattle.table.proofs.Folds.{all_at, all_of}
use Rattle.table.proofs.Lists.{length_list_to, get_d_list_to, get_d_padded, length_closed_up, closed_up_leaving, leaving_below, leaving_from, length_leaving}
use Rattle.booking.specs.Book.{streams_of, empty_cell, sound_cells}
use Rattle.booking.specs.Bookings.{with_stream, without_stream}
use Rattle.booking.specs.declared.Desk.{Desk}

-- streams in eight cells, of which the others are 0
abbrev pub listed : List Reservation → List Reservation
listed xs = list_to (record_at xs) streams_max

-- what each cell then has, and each place past them
module _ (xs : List Reservation) where
  pub length_listed : length (listed xs) ≡ streams_max
  length_listed = length_list_to (record_at xs) streams_max

  pub listed_at : length xs ≤ streams_max → (i : ℕ) → record_at (listed xs) i ≡ record_at xs i
  listed_at few i =
      ⊎_elim
      (λ (u : streams_max ≤ i). get_or-eq_default (listed xs) no_record (omega (arith, length_listed)) ∙ sym (get_or-eq_default xs no_record (omega arith)))
      (λ (u : i < streams_max). get_d_list_to (record_at xs) no_record streams_max i u)
      (le_or_lt streams_max i)

-- cells that read as streams do are these
listed_is : (cells xs : List Reservation) → length cells ≡ streams_max → length xs ≤ streams_max
    → ((i : ℕ) → record_at cells i ≡ record_at xs i) → cells ≡ listed xs
listed_is cells xs eight few reads =
    ext_get_or no_record cells (listed xs) (eight ∙ sym (length_listed xs)) (λ i l. reads i ∙ sym (listed_at xs few i))

-- a stream more takes the first cell that is free
pub listed_more : (xs : List Reservation) (r : Reservation) → length xs < streams_max → set (listed xs) (length xs) r ≡ listed (xs ++ (r ∷ []))
listed_more xs r space =
    listed_is (set (listed xs) (length xs) r) (xs ++ (r ∷ [])) (length-set (listed xs) (length xs) r ∙ length_listed xs) (omega (arith, length-append xs (r ∷ []))) reads
  where
    reads : (i : ℕ) → record_at (set (listed xs) (length xs) r) i ≡ record_at (xs ++ (r ∷ [])) i
    reads i = go (ℕ_discrete i (length xs))
      where
        go : Dec (i ≡ length xs) → record_at (set (listed xs) (length xs) r) i ≡ record_at (xs ++ (r ∷ [])) i
        go (yes here) = rw here (get_or-set_same (listed xs) (length xs) r no_record (omega (arith, length_listed xs)) ∙ sym (get_or-append_seam xs r [] no_record))
        go (no there) =
            get_or-set_other (listed xs) (length xs) i r no_record there
            ∙ listed_at xs (omega arith) i
            ∙ ⊎_elim
            (λ (u : length xs ≤ i).
            let past : length (xs ++ (r ∷ [])) ≤ i = let ne : i ≡ length xs → ⊥ = there in omega (arith, length-append xs (r ∷ [])) in
            get_or-eq_default xs no_record u ∙ sym (get_or-eq_default (xs ++ (r ∷ [])) no_record past))
            (λ (u : i < length xs). sym (get_or-append xs (r ∷ []) no_record i u))
            (le_or_lt (length xs) i)

-- one less closes up
pub listed_fewer : (xs : List Reservation) (j : ℕ) → length xs ≤ streams_max → j < length xs → closed_up no_record j (listed xs) ≡ listed (leaving j xs)
listed_fewer xs j few l =
    let cell : j < length (listed xs) = omega (arith, length_listed xs) in
    listed_is (closed_up no_record j (listed xs)) (leaving j xs) (length_closed_up (listed xs) no_record j cell ∙ length_listed xs) (omega (arith, length_leaving j xs l))
    (λ i.
    ap (λ (cells : List Reservation). record_at cells i) (closed_up_leaving no_record j (listed xs) cell)
    ∙ get_d_padded (leaving j (listed xs)) no_record i
    ∙ ⊎_elim
    (λ (u : j ≤ i). leaving_from no_record j i (listed xs) u ∙ listed_at xs few (suc i) ∙ sym (leaving_from no_record j i xs u))
    (λ (u : i < j). leaving_below no_record j i (listed xs) u ∙ listed_at xs few i ∙ sym (leaving_below no_record j i xs u))
    (le_or_lt j i))

-- A desk of streams: its cells are sound, its streams are these, and it is still one with a stream more, and with one less.
abbrev pub desk_with : ℕ → List Reservation → Desk
desk_with limit xs = record { limit = limit; count = length xs; streams = listed xs }

pub empty_is : (r : Reservation) → empty_cell r ≡ true → r ≡ no_record
unfolding empty_cell
empty_is r h =
    let a = both _ _ h in
    ap₂ (λ (e p : ℕ). record { reserved = e; period = p }) (eqb-true _ _ a.0) (eqb-true _ _ a.1)

module _ (limit : ℕ) (xs : List Reservation) where
  pub sound_with : length xs ≤ streams_max → sound_cells (desk_with limit xs) ≡ true
  unfolding sound_cells empty_cell
  sound_with few =
      rw (eq-eqb (length (listed xs)) streams_max (length_listed xs), le-leb (length xs) streams_max few)
      (all_of (λ i. ltb i (length xs) || empty_cell (record_at (listed xs) i)) streams_max
      (λ i l.
      ⊎_elim
      (λ (past : length xs ≤ i). rw (le-ltb i (length xs) past, listed_at xs few i, get_or-eq_default xs no_record past))
      (λ (used : i < length xs). rw (lt-ltb i (length xs) used))
      (le_or_lt (length xs) i)))

  pub streams_with : length xs ≤ streams_max → streams_of (desk_with limit xs) ≡ xs
  streams_with few =
      let long = length-take-le (length xs) (listed xs) (omega (arith, length_listed xs)) in
      ext_get_or no_record (take (length xs) (listed xs)) xs long
      (λ i l. get_or-take (length xs) (listed xs) i no_record (omega (arith, long)) ∙ listed_at xs few i)

  pub more_with : (e p : ℕ) → length xs < streams_max → with_stream (desk_with limit xs) e p ≡ desk_with limit (xs ++ (record { reserved = e; period = p } ∷ []))
  unfolding with_stream
  more_with e p space =
      let r : Reservation = record { reserved = e; period = p } in
      let one : suc (length xs) ≡ length (xs ++ (r ∷ [])) = omega (arith, length-append xs (r ∷ [])) in
      ap₂ (λ (n : ℕ) (cells : List Reservation). record { limit = limit; count = n; streams = cells }) one (listed_more xs r space)

  pub fewer_with : (number : ℕ) → length xs ≤ streams_max → 1 ≤ number → number ≤ length xs
      → without_stream (desk_with limit xs) number ≡ desk_with limit (leaving (number - 1) xs)
  unfolding without_stream
  fewer_with number few low high =
      let one : length xs - 1 ≡ length (leaving (number - 1) xs) = omega (arith, length_leaving (number - 1) xs (omega arith)) in
      ap₂ (λ (n : ℕ) (cells : List Reservation). record { limit = limit; count = n; streams = cells }) one (listed_fewer xs (number - 1) few (omega arith))

-- what the tests of a desk's cells say
pub record Cells (d : Desk) : Type 0 where
  pub eight : length d.streams ≡ streams_max
  pub count_high : d.count ≤ streams_max
  pub long : length (streams_of d) ≡ d.count
  pub are : d.streams ≡ listed (streams_of d)

pub cells_of : (d : Desk) → sound_cells d ≡ true → Cells d
unfolding sound_cells
cells_of d h =
    let a = both _ _ h in
    let c = both _ _ a.0 in
    let eight = eqb-true (length d.streams) streams_max c.0 in
    let high = leb-true d.count streams_max c.1 in
    let long = length-take-le d.count d.streams (omega arith) in
    let reads : (i : ℕ) → record_at d.streams i ≡ record_at (streams_of d) i =
    λ i.
    ⊎_elim
    (λ (past : d.count ≤ i).
    ⊎_elim
    (λ (beyond : streams_max ≤ i). get_or-eq_default d.streams no_record (omega arith))
    (λ (l : i < streams_max). empty_is _ (used_or_zero _ _ (all_at _ streams_max a.1 i l) (le-ltb i d.count past)))
    (le_or_lt streams_max i)
    ∙ sym (get_or-eq_default (streams_of d) no_record (omega arith)))
    (λ (used : i < d.count). sym (get_or-take d.count d.streams i no_record used))
    (le_or_lt d.count i) in
    record { eight = eight; count_high = high; long = long; are = listed_is d.streams (streams_of d) eight (omega arith) reads }

-- one desk's cells with another's streams behind its own hold the streams of both
pub both_listed : (first second : Desk) → Cells first → Cells second → first.count + second.count ≤ streams_max
    → put_mid first.count second.count first.streams (streams_of second) ≡ listed (streams_of first ++ streams_of second)
both_listed first second one two few =
    listed_is (streams_of first ++ (streams_of second ++ drop second.count (drop first.count first.streams))) (streams_of first ++ streams_of second) eight
    (omega (arith, length-append (streams_of first) (streams_of second), one.long, two.long)) reads
  where
    eight : length (streams_of first ++ (streams_of second ++ drop second.count (drop first.count first.streams))) ≡ streams_max
    eight =
        let xs = streams_of first in
        let ys = streams_of second in
        let rest = drop second.count (drop first.count first.streams) in
        let a = length-append xs (ys ++ rest) in
        let b = length-append ys rest in
        let c = length-drop second.count (drop first.count first.streams) in
        let d = length-drop first.count first.streams in
        omega (arith, a, b, c, d, one.eight, one.long, two.long, one.count_high, few)

    reads : (i : ℕ) → record_at (streams_of first ++ (streams_of second ++ drop second.count (drop first.count first.streams))) i ≡ record_at (streams_of first ++ streams_of second) i
    reads i =
        let xs = streams_of first in
        let ys = streams_of second in
        let rest = drop second.count (drop first.count first.streams) in
        ap (λ (zs : List Reservation). record_at zs i) (sym (append_assoc xs ys rest))
        ∙ ⊎_elim
        (λ (past : length (xs ++ ys) ≤ i).
        let n = i - length (xs ++ ys) in
        let place : length (xs ++ ys) + n ≡ i = omega arith in
        let there : first.count + (second.count + n) ≡ i = omega (arith, length-append xs ys, one.long, two.long) in
        ap (λ (m : ℕ). record_at ((xs ++ ys) ++ rest) m) (sym place)
        ∙ get_or-append-add (xs ++ ys) rest n no_record
        ∙ get_or-drop second.count (drop first.count first.streams) n no_record
        ∙ get_or-drop first.count first.streams (second.count + n) no_record
        ∙ ap (λ (m : ℕ). record_at first.streams m) there
        ∙ ap (λ (zs : List Reservation). record_at zs i) one.are
        ∙ listed_at xs (omega (arith, one.long, one.count_high)) i
        ∙ get_or-eq_default xs no_record (omega (arith, length-append xs ys))
        ∙ sym (get_or-eq_default (xs ++ ys) no_record past))
        (λ (l : i < length (xs ++ ys)). get_or-append (xs ++ ys) rest no_record i l)
        (le_or_lt (length (xs ++ ys)) i)

-- A desk whose cells are sound is the one of its streams, and so what is proved of such holds of it.
module _ (d : Desk) (h : sound_cells d ≡ true) where
  cells : Cells d
  cells = cells_of d h

  few : length (streams_of d) ≤ streams_max
  few = omega (arith, cells.long, cells.count_high)

  pub desk_is : d ≡ desk_with d.limit (streams_of d)
  desk_is = ap₂ (λ (n : ℕ) (rows : List Reservation). record { limit = d.limit; count = n; streams = rows }) (sym cells.long) cells.are

  -- its cells and its count are what is taken of its streams
  pub desk_records : record { rows = d.streams; count = d.count } ≡ records_of (streams_of d)
  unfolding records_of
  desk_records = ap₂ (λ (rows : List Reservation) (n : ℕ). record { rows = rows; count = n }) cells.are (sym cells.long)

  -- with a stream more
  module _ (e p : ℕ) (space : d.count < streams_max) where
    abbrev more : List Reservation
    more = streams_of d ++ (record { reserved = e; period = p } ∷ [])

    more_desk : with_stream d e p ≡ desk_with d.limit more
    more_desk = ap (λ (x : Desk). with_stream x e p) desk_is ∙ more_with d.limit (streams_of d) e p (omega (arith, cells.long))

    fit : length more ≤ streams_max
    fit = omega (arith, cells.long, length-append (streams_of d) (record { reserved = e; period = p } ∷ []))

    pub more_streams : streams_of (with_stream d e p) ≡ more
    more_streams = ap streams_of more_desk ∙ streams_with d.limit more fit

    pub more_sound : sound_cells (with_stream d e p) ≡ true
    more_sound = ap sound_cells more_desk ∙ sound_with d.limit more fit

  -- with one less
  module _ (number : ℕ) (low : 1 ≤ number) (high : number ≤ d.count) where
    abbrev fewer : List Reservation
    fewer = leaving (number - 1) (streams_of d)

    fewer_desk : without_stream d number ≡ desk_with d.limit fewer
    fewer_desk = ap (λ (x : Desk). without_stream x number) desk_is ∙ fewer_with d.limit (streams_of d) number few low (omega (arith, cells.long))

    left : length fewer ≤ streams_max
    left = omega (arith, few, cells.long, length_leaving (number - 1) (streams_of d) (omega (arith, cells.long)))

    pub fewer_streams : streams_of (without_stream d number) ≡ fewer
    fewer_streams = ap streams_of fewer_desk ∙ streams_with d.limit fewer left

    pub fewer_sound : sound_cells (without_stream d number) ≡ true
    fewer_sound = ap sound_cells fewer_desk ∙ sound_with d.limit fewer left
