-- What is refused: which files, in which order, and where there is room.
use mathlib.Core.Bool.{Bool, true, false}
use mathlib.Core.Path.{◌≡◌, refl, sym, ap, ◌∙◌}
use mathlib.Core.Logic.{⊎_elim}
use mathlib.Core.List.{List, [], ◌∷◌, ◌++◌}
use Prim.Native.Nat.{ℕ, suc, ◌+◌, ◌≤◌}
use native.Mathlib.Omega.{arith}
use borrow.Author.Tests.{le-leb, ne_eqb, le-ltb}
use lib.Dec.{eqb}
use lib.ListN.{length}
use Rattle.table.specs.Fold.{if}
use Rattle.table.specs.Refusal.{given, ◌or_next◌}
use Rattle.cells.specs.Cells.{number_at}
use Rattle.file.specs.File.{third_length, events_max}
use Rattle.file.specs.Reading.{form_in, table_length, trace_start, trace_in}
use Rattle.file.specs.declared.form.Form.TheVariants.{Two, Three}
use Rattle.file.proofs.Forms.{form_is}
use Rattle.repair.specs.Salvage.{is_salvageable, salvaged_file, contents_stay, contents_change, trace_changes, changes_of, salvage_refusal, salvage_of, salvaged_on, listed_on}
use Rattle.repair.specs.Laws.{RefusedAsSaid, SixteenComesFirst, RefusedChangesNothing, EnoughRoom, NeverSeventeen}
use Rattle.repair.specs.declared.Salvaged.{Salvaged}
use Rattle.repair.proofs.Kept.{outlined, start_two, trace_length, changes_few, kept_few, salvaged_length}

-- ---- which files

-- a file is read as one of two entries exactly where its first two bytes do not say 3
not_three_is_two : (old : List ℕ) → (number_at 2 old 0 ≡ 3 → ⊥) → form_in old ≡ Two
unfolding form_in if
not_three_is_two old h = rw (ne_eqb (number_at 2 old 0) 3 h)

two_is_not_three : (old : List ℕ) → form_in old ≡ Two → number_at 2 old 0 ≡ 3 → ⊥
two_is_not_three old two h = let never : ◌≡◌ {A = ℕ} 0 4 = sym (ap third_length two) ∙ ap third_length (form_is old Three h) in omega arith

pub refused_as_said : RefusedAsSaid
unfolding is_salvageable
refused_as_said old = (
  λ fine.
      let q = outlined old fine in
      let long : 26 + table_length (number_at 4 old 38) ≤ length old = rw q.two at q.long in
      record { not_three = two_is_not_three old q.two; count_high = rw q.two at q.count_high; table_whole = omega arith },
  λ q.
      let long : 26 + table_length (number_at 4 old 38) + 0 ≤ length old = omega (arith, q.table_whole) in
      rw (not_three_is_two old q.not_three, le-leb _ _ q.count_high, le-leb _ _ long),
)

-- ---- the refusal

pub sixteen_comes_first : SixteenComesFirst
unfolding salvage_refusal given ◌or_next◌
sixteen_comes_first old bytes places h = rw h

pub refused_changes_nothing : RefusedChangesNothing
unfolding salvage_of salvaged_on listed_on if
refused_changes_nothing old out changes n h =
    let refused = go (eqb (salvage_refusal old (length out) (length changes)) 0) _ _ h refl in
    (rw refused, rw refused)
  where
    go : (b : Bool) (done refused : Salvaged) → (if b done refused).number ≡ suc n → done.number ≡ 0 → b ≡ false
    go true done refused h none = absurd (let never : 0 ≡ suc n = sym none ∙ h in omega arith)
    go false done refused h none = refl

-- ---- room

-- of contents there is at most one change
contents_once : (old : List ℕ) → length (changes_of old) ≤ suc (length (trace_changes events_max (trace_start old) (trace_in old)))
unfolding changes_of if
contents_once old = go (contents_stay old)
  where
    go : (stay : Bool) → let rest = trace_changes events_max (trace_start old) (trace_in old) in
        length ((if stay [] (contents_change ∷ [])) ++ rest) ≤ suc (length rest)
    go true = omega arith
    go false = omega arith

pub enough_room : EnoughRoom
enough_room old fine =
    let q = outlined old fine in
    let trace = trace_in old in
    let few = kept_few events_max trace in
    let rest = trace_length old fine in
    let size = salvaged_length old fine in
    let start = start_two old fine in (
      omega (arith, size, few.1, rest, q.long),
      omega (arith, size, few.0, start, q.count_high),
      omega (arith, contents_once old, changes_few events_max (trace_start old) trace, rest, start, q.long),
    )

pub never_seventeen : NeverSeventeen
unfolding salvage_refusal given ◌or_next◌
never_seventeen old bytes places fine long wide =
    let q = enough_room old fine in
    let file : length (salvaged_file old) ≤ bytes
    = ⊎_elim (λ (l : length old ≤ bytes). omega (arith, q.0)) (λ (l : 64_106 ≤ bytes). omega (arith, q.1)) long in
    let list : length (changes_of old) ≤ places = omega (arith, q.2) in
    rw (fine, le-ltb bytes _ file, le-ltb places _ list)
