-- Runs of stores: how they join, and where they end.
use mathlib.Core.Path.{◌≡◌, refl, sym, ap, ◌∙◌}
use Rattle.std.proofs.Common.{inl, inr}
use mathlib.Core.List.{List, [], ◌∷◌, ◌++◌, append_assoc, append-nil}
use Prim.Native.Nat.{ℕ, zero, suc, ◌+◌, ◌-◌, ◌/◌, ◌%◌, min, ◌≤◌, ◌<◌}
use native.Mathlib.Omega.{arith}
use native.Mathlib.Numerals.{add-one}
use native.Mathlib.Nat.{add-zero}
use lib.ListN.{length, get_or, take, drop, set, length-append, length-drop, take-append-drop}
use lib.Seq.{drop-cons, sets, sets-eq, set_out, length-sets, length-take-le, take-suc-set, take_all, drop-drop}
use borrow.Rule.Slice.PartMut.{put_mid}
use Rattle.std.proofs.lemmas.Bool.{cases_lt}
use Rattle.cells.specs.Cells.{cell}

-- two runs, one after the other, are one
pub sets_append : (a b l : List ℕ) (at : ℕ) → sets l at (a ++ b) ≡ sets (sets l at a) (at + length a) b
sets_append [] b l at = rw add-zero
sets_append (x ∷ a) b l at =
    let e : at + suc (length a) ≡ suc at + length a = omega arith in
    rw (e, sets_append a b (set l at x) (suc at))

pub sets_next : (a b l : List ℕ) (at n : ℕ) → length a ≡ n → sets (sets l at a) (at + n) b ≡ sets l at (a ++ b)
sets_next a b l at n e = rw (← e) (sym (sets_append a b l at))

-- a run from the start: the run, and then what stood after it
pub sets_start : (v l : List ℕ) → length v ≤ length l → sets l 0 v ≡ v ++ drop (length v) l
sets_start v l h =
    let e : 0 + length v ≡ length v = omega arith in
    sets-eq v l 0 (omega arith) ∙ rw e

-- a run past the end stores nothing
pub sets_out : (v l : List ℕ) (at : ℕ) → length l ≤ at → sets l at v ≡ l
sets_out [] l at h = refl
sets_out (x ∷ v) l at h = rw (set_out l at x h) (sets_out v l (suc at) (omega arith))

-- nothing is left of a run that is empty, or for which there is no room
pub sets_done : (v l : List ℕ) (at : ℕ) → min (length v) (length l - at) ≡ 0 → sets l at v ≡ l
sets_done [] l at h = refl
sets_done (x ∷ v) l at h = sets_out (x ∷ v) l at (omega arith)

-- The buffer `start` after it was written from its first byte on: `text` stands there, and the next byte goes to `place`.
pub record Wrote (start text : List ℕ) (place : ℕ) (buffer : List ℕ) : Type 0 where
  pub next : place ≡ length text
  pub holds : buffer ≡ sets start 0 text

pub wrote_none : (start : List ℕ) → Wrote start [] 0 start
wrote_none start = record { next = refl; holds = refl }

-- a run stored at the place joins the text
pub wrote_more : {start text buffer : List ℕ} {place : ℕ} (more : List ℕ) {place2 : ℕ} {buffer2 : List ℕ}
    → Wrote start text place buffer → place2 ≡ place + length more → buffer2 ≡ sets buffer place more
    → Wrote start (text ++ more) place2 buffer2
wrote_more {start} {text} {buffer} {place} more {place2} {buffer2} w p h = record {
  next = rw (length-append text more) (omega (arith, w.next, p));
  holds =
      let e : place ≡ 0 + length text = omega (arith, w.next) in
      h ∙ rw (w.holds, e) (sym (sets_append text more start 0));
}

-- ---- as the code stores

-- past the end it is all one where
sets_from : (v l : List ℕ) (at from : ℕ) → from ≡ min at (length l) → sets l at v ≡ sets l from v
sets_from v l at from f =
    elim (cases_lt at (length l)) [ inl h ↦ (let e : from ≡ at = omega arith in rw e) | inr h ↦ sets_out v l at h ∙ sym (sets_out v l from (omega arith)) ]

-- The part from an index on, as far as there is one, is overwritten by what it has room for.
pub part_stored : (v l now : List ℕ) (at from run k : ℕ) → from ≡ min at (length l) → run ≡ min (length v) (length l - from) → k ≡ run
    → now ≡ take run v → put_mid from k l now ≡ sets l at v
part_stored v l now at from run k f r e s =
    let part = take run v in
    let long : length part ≡ run = length-take-le run v (omega arith) in
    let fits : from + length part ≤ length l = omega arith in
    let place : from + length part ≡ from + k = omega arith in
    let whole : sets l at v ≡ sets l from v = sets_from v l at from f in
    let split : sets l from v ≡ sets (sets l from part) (from + length part) (drop run v)
    = ap (sets l from) (sym (take-append-drop run v)) ∙ sets_append part (drop run v) l from in
    let done : sets (sets l from part) (from + length part) (drop run v) ≡ sets l from part
    = sets_done (drop run v) (sets l from part) (from + length part) (omega (arith, length-drop run v, length-sets l from part)) in
    let mid : sets l from part ≡ take from l ++ part ++ drop (from + k) l = rw place at (sets-eq part l from fits) in
    rw s (ap (λ r. take from l ++ (part ++ r)) (drop-drop k from l) ∙ sym (append_assoc (take from l) part (drop (from + k) l)) ∙ sym (whole ∙ split ∙ done ∙ mid))

-- the start of a cell is the cell of fewer bytes
cell_start : (run width n : ℕ) → run ≤ width → take run (cell width n) ≡ cell run n
unfolding cell
cell_start zero width n h = refl
cell_start (suc run) zero n h = absurd (omega arith)
cell_start (suc run) (suc width) n h = ap (λ r. n % 256 ∷ r) (cell_start run width (n / 256) (omega arith))

-- a turn of the loop that stores a cell: one byte more is stored, and one less is left
pub cell_more : (items whole : List ℕ) (i run rest : ℕ) → i < run → run ≤ length items → take i items ++ cell (run - i) rest ≡ whole
    → take (i + 1) (set items i (rest % 256)) ++ cell (run - (i + 1)) (rest / 256) ≡ whole
unfolding cell
cell_more items whole i run rest h l e =
    let d : run - i ≡ suc (run - (i + 1)) = omega arith in
    let e2 : take i items ++ (rest % 256 ∷ cell (run - (i + 1)) (rest / 256)) ≡ whole = rw d at e in
    rw (add-one, take-suc-set items i (rest % 256) (omega arith), append_assoc) (rw add-one at e2)

-- and in the end all of it is stored
pub cell_stored : (items : List ℕ) (i run width rest n : ℕ) → run ≤ i → length items ≡ run → run ≤ width → take i items ++ cell (run - i) rest ≡ cell run n
    → items ≡ take run (cell width n)
unfolding cell
cell_stored items i run width rest n h l w e =
    let none : run - i ≡ 0 = omega arith in
    let full : take i items ++ [] ≡ cell run n = rw none at e in
    sym (append-nil items) ∙ ap (λ r. r ++ []) (sym (take_all i items (omega arith))) ∙ full ∙ sym (cell_start run width n w)

-- a byte more of a run that is copied
pub copy_more : (bytes out : List ℕ) (at i : ℕ) → i < length bytes
    → sets (set out (at + i) (get_or bytes i 0)) (at + (i + 1)) (drop (i + 1) bytes) ≡ sets out (at + i) (drop i bytes)
copy_more bytes out at i h =
    let e : at + (i + 1) ≡ suc (at + i) = omega arith in
    rw (e, add-one, drop-cons bytes i 0 h)
