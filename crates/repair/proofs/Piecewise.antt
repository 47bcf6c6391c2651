-- What is made of an old file in pieces is what is made of it whole.
use mathlib.Core.Bool.{true}
use mathlib.Core.Logic.{◌⊎◌, ⊎_elim}
use mathlib.Core.Path.{◌≡◌, refl, sym, ap, ◌∙◌}
use mathlib.Core.List.{List, [], ◌++◌, append-nil}
use Prim.Native.Nat.{ℕ, ◌≤◌}
use lib.ListN.{length}
use Rattle.file.specs.File.{events_max}
use Rattle.file.specs.Reading.{trace_start, trace_in, table_in, has_contents}
use Rattle.file.specs.declared.form.Form.TheVariants.{Two}
use Rattle.repair.specs.Salvage.{is_salvageable, count_in, kept_of, kept_count, salvaged_file, contents_stay, trace_changes, changes_of}
use Rattle.repair.specs.Pieces.{table_end_max, taken_of}
use Rattle.repair.specs.Laws.{joined, kept_by, count_by, listed_by, InPiecesAsWhole}
use Rattle.repair.specs.declared.pieces.Rest.{Rest}
use Rattle.repair.proofs.Kept.{trace_rest}
use Rattle.repair.proofs.Taking.{found_is}
use Rattle.repair.proofs.Head.{head_is_enough}
use Rattle.repair.proofs.Joined.{pieces_are_whole}

-- what the first bytes say is what the whole does
record Same (head old : List ℕ) : Type 0 where
  taken : taken_of old ≡ taken_of head
  table : table_in old ≡ table_in head
  contents : (count events : ℕ) → has_contents Two old count events ≡ has_contents Two head count events

same_of : (head more : List ℕ) → (table_end_max ≤ length head) ⊎ (more ≡ []) → is_salvageable head ≡ true → Same head (head ++ more)
same_of head more first fine =
    ⊎_elim
    (λ (long : table_end_max ≤ length head).
    let q = head_is_enough head more long in
    record { taken = q.0; table = q.1 fine; contents = q.2 })
    (λ (none : more ≡ []).
    rw (none, append-nil head) (record { taken = refl; table = refl; contents = λ count events. refl }))
    first

pub in_pieces_as_whole : InPiecesAsWhole
unfolding salvaged_file changes_of contents_stay
in_pieces_as_whole head more taken pieces last first found whole parts =
    let old = head ++ more in
    let s = same_of head more first (found_is head taken (sym found)).fine in
    let f = found_is old taken (sym (s.taken ∙ found)) in
    let trace : joined pieces last ≡ trace_in old = sym parts ∙ rw f.start_is (sym (trace_rest old f.fine)) in
    let p = pieces_are_whole pieces last whole in
    let kept : kept_by events_max pieces last ≡ kept_of events_max (trace_in old) = p.0 events_max ∙ ap (kept_of events_max) trace in
    let count : count_by events_max pieces last ≡ kept_count events_max (trace_in old) = p.1 events_max ∙ ap (kept_count events_max) trace in
    let rest : Rest = record { at = taken.start; room = events_max } in
    let listed : listed_by rest pieces last ≡ trace_changes events_max (trace_start old) (trace_in old) = p.2 rest ∙ rw (trace, f.start_is) refl in
    (f.fine, rw (kept, s.table) refl, rw (count, listed, f.count_is, s.contents (count_in old) (kept_count events_max (trace_in old))) refl)
