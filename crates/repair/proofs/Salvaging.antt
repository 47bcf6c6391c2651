-- What salvaging refuses, puts into the buffer and lists.
use mathlib.Core.Bool.{Bool, true, false, not, ◌||◌}
use mathlib.Core.Path.{◌≡◌, refl, sym, ap, ◌∙◌}
use mathlib.Core.List.{List, ◌++◌, map, append-nil, append_assoc}
use Prim.Native.Nat.{ℕ, ◌+◌, ◌-◌, ◌*◌, ◌≤◌}
use native.Mathlib.Omega.{arith}
use borrow.Author.Tests.{eqb-false}
use lib.Dec.{ltb, eqb}
use mir.Val.{bool_byte}
use lib.ListN.{length, take, drop, length-append, length-drop, length-map}
use lib.Seq.{sets, take_all, take-length, drop-length, take_at, drop_at, drop-drop}
use Rattle.table.specs.Fold.{if}
use Rattle.table.specs.Refusal.{given, ◌or_next◌}
use Rattle.table.specs.declared.Table.{Table}
use Rattle.order.specs.declared.Order.TheVariants.{Nearest}
use Rattle.cells.specs.Cells.{cell}
use Rattle.cells.proofs.Runs.{sets_start}
use Rattle.file.specs.File.{table_start, third_body, contents, table_body, events_max, event_size}
use Rattle.file.specs.Reading.{events_in, trace_start, trace_in, table_at, table_in}
use Rattle.file.specs.Writing.{headed_on}
use Rattle.file.specs.declared.form.Form.TheVariants.{Two}
use Rattle.file.proofs.Lengths.{length_contents, length_table}
use Rattle.file.proofs.Heads.{head_there}
use Rattle.file.proofs.Stores.{file_parts}
use Rattle.repair.specs.Salvage.{is_salvageable, kept_of, kept_count, salvaged_file, pair_of, put_on, cuts_of, list_from, changes_of, salvage_refusal, salvage_of, salvaged_on, listed_on}
use Rattle.repair.specs.Laws.{AnsweredIsThere}
use Rattle.repair.proofs.Kept.{outlined, trace_rest, kept_few, kept_size, changes_length, salvaged_length}
use Rattle.repair.proofs.Lists.{list_stays, list_changed}

-- ---- the answer

module _ (old out : List ℕ) (changes : List (List ℕ)) where
  -- one of the two buffers is too short
  abbrev pub is_short : Bool
  is_short = ltb (length out) (length (salvaged_file old)) || ltb (length changes) (length (changes_of old))

  pub sixteen : is_salvageable old ≡ false
      → (record { number = 16; length = 0; changes = 0 } ≡ salvage_of old out changes)
      × (out ≡ salvaged_on old out changes)
      × (changes ≡ listed_on old out changes)
  unfolding salvage_of salvaged_on listed_on salvage_refusal given ◌or_next◌ if
  sixteen h = (rw h, rw h, rw h)

  module _ (fine : is_salvageable old ≡ true) where
    pub seventeen : is_short ≡ true
        → (record { number = 17; length = 0; changes = 0 } ≡ salvage_of old out changes)
        × (out ≡ salvaged_on old out changes)
        × (changes ≡ listed_on old out changes)
    unfolding salvage_of salvaged_on listed_on salvage_refusal given ◌or_next◌ if
    seventeen h = (rw (fine, h), rw (fine, h), rw (fine, h))

    pub done : is_short ≡ false
        → (record { number = 0; length = length (salvaged_file old); changes = length (changes_of old) } ≡ salvage_of old out changes)
        × (salvaged_file old ++ drop (length (salvaged_file old)) out ≡ salvaged_on old out changes)
        × (put_on (changes_of old) changes ≡ listed_on old out changes)
    unfolding salvage_of salvaged_on listed_on salvage_refusal given ◌or_next◌ if
    done h = (rw (fine, h), rw (fine, h), rw (fine, h))

  -- a number 0 is answered only where nothing is refused
  answered : (salvage_of old out changes).number ≡ 0 → eqb (salvage_refusal old (length out) (length changes)) 0 ≡ true
  unfolding salvage_of if
  answered none = go (eqb refusal 0) refl none
    where
      refusal : ℕ
      refusal = salvage_refusal old (length out) (length changes)

      go : (b : Bool) → eqb refusal 0 ≡ b → (salvage_of old out changes).number ≡ 0 → eqb refusal 0 ≡ true
      go true h none = h
      go false h none = absurd (eqb-false refusal 0 h (rw h at none))

-- what is put at the start of a list is there, and what stood behind it stays
put_there : {A : Type 0} (front l : List A) (n : ℕ) → length front ≡ n
    → let put = front ++ drop n l in (take n put ≡ front) × (drop n put ≡ drop n l)
put_there front l n e = (take_at front _ n e, drop_at front _ n e)

pub answered_is_there : AnsweredIsThere
unfolding salvage_of salvaged_on listed_on if
answered_is_there old out changes none =
    let file = put_there (salvaged_file old) out (length (salvaged_file old)) refl in
    let list = put_there (map pair_of (changes_of old)) changes (length (changes_of old)) (length-map (changes_of old) pair_of) in
    rw (answered old out changes none) (file.0, file.1, list.0, list.1)

-- ---- the list

-- what is counted of it before it is put
pub listed_is : (stay : Bool) (at : ℕ) (trace : List ℕ)
    → bool_byte (not stay) + (events_in trace - kept_count events_max trace + length (cuts_of 0 trace)) ≡ length (list_from stay at trace)
listed_is true at trace = omega (arith, changes_length events_max at trace, ap length (list_stays true at trace refl))
listed_is false at trace = omega (arith, changes_length events_max at trace, ap length (list_changed false at trace refl))

-- ---- the file

module _ (old : List ℕ) (fine : is_salvageable old ≡ true) where
  abbrev start : ℕ
  start = trace_start old

  -- all that stands behind the table is the trace
  pub the_trace : take (length old - start) (drop start old) ≡ trace_in old
  the_trace = take_all (length old - start) (drop start old) (rw length-drop (omega arith)) ∙ sym (trace_rest old fine)

  abbrev t : Table
  t = table_in old

  abbrev count : ℕ
  count = kept_count events_max (trace_in old)

  abbrev kept : List ℕ
  kept = kept_of events_max (trace_in old)

  abbrev head : List ℕ
  head = contents Two (length (table_body t)) (event_size * count) ++ table_body t

  length_head : length head ≡ start
  unfolding table_at
  length_head =
      length-append (contents Two (length (table_body t)) (event_size * count)) (table_body t)
      ∙ omega (arith, length_contents Two (length (table_body t)) (event_size * count), length_table t, ap table_start (outlined old fine).two)

  pub file_is : salvaged_file old ≡ head ++ kept
  unfolding salvaged_file third_body cell
  file_is = file_parts Two Nearest t kept ∙ rw (kept_size events_max (trace_in old)) (append-nil (head ++ kept))

  pub file_put : (out : List ℕ) → length (salvaged_file old) ≤ length out
      → let h = headed_on Two t count out in
      take start h ++ (sets (take (length h - start) (drop start h)) 0 kept ++ drop (length h - start) (drop start h))
      ≡ salvaged_file old ++ drop (length (salvaged_file old)) out
  unfolding table_at
  file_put out room =
      let size = salvaged_length old fine in
      let rest = drop start out in
      let h : headed_on Two t count out ≡ head ++ rest
      = head_there Two t count out (outlined old fine).count_high (kept_few events_max (trace_in old)).0
      ∙ sets_start head out (omega (arith, length_head, size, room))
      ∙ ap (λ (n : ℕ). head ++ drop n out) length_head in
      let m : length (head ++ rest) - start ≡ length rest = omega (arith, length-append head rest, length_head) in
      let held = kept_size events_max (trace_in old) in
      let n : length kept ≤ length rest = omega (arith, held, size, room, length-drop start out) in
      let e : start + length kept ≡ length (salvaged_file old) = omega (arith, held, size) in
      rw (
        h,
        take_at head rest start length_head,
        drop_at head rest start length_head,
        m,
        take-length rest,
        drop-length rest,
        sets_start kept rest n,
        append-nil (kept ++ drop (length kept) rest),
        drop-drop (length kept) start out,
        e,
      )
      (sym (append_assoc head kept (drop (length (salvaged_file old)) out)) ∙ ap (λ (l : List ℕ). l ++ drop (length (salvaged_file old)) out) (sym file_is))
