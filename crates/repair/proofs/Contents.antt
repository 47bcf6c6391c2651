-- What a file that is salvaged is made of; and its contents are listed exactly where they are not what they were.
use mathlib.Core.Bool.{Bool, true, false, ◌&&◌}
use mathlib.Core.Path.{◌≡◌, refl, sym, ap, ◌∙◌}
use mathlib.Core.List.{List, ◌++◌, append_assoc}
use Prim.Native.Nat.{ℕ, ◌+◌, ◌-◌, ◌*◌}
use native.Mathlib.Omega.{arith}
use borrow.Author.Tests.{le-leb}
use lib.Dec.{leb}
use lib.ListN.{length, take, drop, take-append-drop}
use lib.Seq.{take_at, drop_at}
use Rattle.table.proofs.Tests.{both}
use Rattle.cells.specs.Cells.{Bytes}
use Rattle.file.specs.File.{table_start, events_max, event_size, contents, table_body}
use Rattle.file.specs.Reading.{start_in, table_length, trace_in, table_at, table_in, has_contents}
use Rattle.file.specs.declared.form.Form.{Form}
use Rattle.file.specs.declared.form.Form.TheVariants.{Two}
use Rattle.file.proofs.Lengths.{length_contents, length_table}
use Rattle.file.proofs.Accepted.{Contents, contents_of, is_contents_lem}
use Rattle.file.proofs.WriteBack.{contents_there, table_there}
use Rattle.file.proofs.ReadBack.{entries_there}
use Rattle.repair.specs.Salvage.{is_salvageable, count_in, kept_of, kept_count, salvaged_file, contents_stay, changes_of}
use Rattle.repair.specs.Laws.{ContentsListedIfChanged}
use Rattle.repair.proofs.Kept.{outlined, start_two, kept_few}
use Rattle.repair.proofs.Lists.{list_stays, list_changed}
use Rattle.repair.proofs.Salvaging.{file_is}

module _ (old : List ℕ) (fine : is_salvageable old ≡ true) where
  -- how long its table body is, and what is kept
  abbrev table_size : ℕ
  table_size = table_length (count_in old)

  abbrev kept_size : ℕ
  kept_size = event_size * kept_count events_max (trace_in old)

  -- where its trace starts
  abbrev start : ℕ
  start = table_start Two + table_size

  -- the contents that it should have, its table body and what is kept
  parts : salvaged_file old ≡ contents Two table_size kept_size ++ (table_body (table_in old) ++ kept_of events_max (trace_in old))
  unfolding table_at
  parts =
      let t = table_in old in
      file_is old fine
      ∙ append_assoc (contents Two (length (table_body t)) kept_size) (table_body t) (kept_of events_max (trace_in old))
      ∙ rw (length_table t) refl

  pub contents_front : take 26 (salvaged_file old) ≡ contents Two table_size kept_size
  contents_front = rw parts (take_at (contents Two table_size kept_size) _ 26 (length_contents Two table_size kept_size))

  module _ (bytes : Bytes old) where
    -- what stands behind the contents is the table body that stood there, and what is kept
    pub behind_contents : drop 26 (salvaged_file old) ≡ take table_size (drop 26 old) ++ kept_of events_max (trace_in old)
    behind_contents =
        let kept = kept_of events_max (trace_in old) in
        let q = outlined old fine in
        let body : table_body (table_in old) ≡ take table_size (drop 26 old)
        = table_there old bytes (start_in old) q.count_high q.long ∙ ap (λ (f : Form). take table_size (drop (table_start f) old)) q.two in
        rw parts
        (drop_at (contents Two table_size kept_size) (table_body (table_in old) ++ kept) 26 (length_contents Two table_size kept_size)
        ∙ ap (λ (l : List ℕ). l ++ kept) body)

    -- where its entries are those that it should have, its contents are,
    stay_same : Contents Two old start (start + kept_size) → contents Two table_size kept_size ≡ take 26 old
    stay_same q =
        let table : start - table_start Two ≡ table_size = omega arith in
        let trace : start + kept_size - start ≡ kept_size = omega arith in
        contents_there old bytes Two table_size kept_size q.entries (rw table at q.table_entry) (rw trace at q.trace_entry) refl
        (omega (arith, (outlined old fine).long, start_two old fine))

  -- and the other way round
  same_stay : contents Two table_size kept_size ≡ take 26 old → Contents Two old start (start + kept_size)
  same_stay same =
      let whole : contents Two table_size kept_size ++ drop 26 old ≡ old = ap (λ (l : List ℕ). l ++ drop 26 old) same ∙ take-append-drop 26 old in
      let few = (kept_few events_max (trace_in old)).0 in
      let e = rw whole at (entries_there table_size kept_size (drop 26 old) (omega (arith, (outlined old fine).count_high)) (omega arith) Two) in
      let table : start - table_start Two ≡ table_size = omega arith in
      let trace : start + kept_size - start ≡ kept_size = omega arith in
      record { entries = e.0; table_entry = rw table e.1; trace_entry = rw trace e.2; third_entry = refl }

-- the contents stay exactly where the 26 bytes do
pub contents_stay_if_same : (old : List ℕ) → Bytes old → is_salvageable old ≡ true
    → let same = take 26 (salvaged_file old) ≡ take 26 old in (contents_stay old ≡ true → same) × (same → contents_stay old ≡ true)
unfolding contents_stay has_contents
contents_stay_if_same old bytes fine =
    let front = contents_front old fine in
    let start = table_start Two + table_length (count_in old) in
    let kept = kept_count events_max (trace_in old) in (
      λ stay. front ∙ stay_same old fine bytes (contents_of Two old start (start + event_size * kept) (both (leb (count_in old) 8 && leb kept events_max) _ stay).1),
      λ same.
          rw (
            le-leb _ _ (outlined old fine).count_high,
            le-leb _ _ (kept_few events_max (trace_in old)).0,
          )
          (is_contents_lem Two old start (start + event_size * kept) (same_stay old fine (sym front ∙ same))),
    )

-- a test that does not hold fails
not_so : (b : Bool) → (b ≡ true → ⊥) → b ≡ false
not_so true h = absurd (h refl)
not_so false h = refl

pub contents_listed_if_changed : ContentsListedIfChanged
unfolding changes_of
contents_listed_if_changed old bytes fine =
    let stay = contents_stay_if_same old bytes fine in (
      λ same. list_stays _ _ _ (stay.1 same),
      λ changed. list_changed _ _ _ (not_so (contents_stay old) (λ h. changed (stay.0 h))),
    )
