-- What a definition by tests comes to, where its tests are known.
use Rattle.std.specs.Prelude.{Option, None, Some, Result, Ok, Err}
use mathlib.Core.Bool.{Bool, true, false}
use mathlib.Core.Path.{◌≡◌, refl, ap, ◌∙◌}
use mathlib.Core.List.{List}
use Prim.Native.Nat.{ℕ, ◌+◌, ◌-◌, ◌^◌, min, ◌≤◌, ◌<◌}
use native.Mathlib.Omega.{arith}
use lib.Dec.{ltb, eqb}
use borrow.Author.Tests.{eq-eqb, ne_eqb, lt-ltb, le-ltb, ltb-true, ltb-false}
use Rattle.table.specs.Fold.{if}
use Rattle.order.specs.declared.Order.{Order}
use Rattle.file.specs.Reading.{events_in}
use Rattle.table.specs.declared.Table.{Table}
use Rattle.table.proofs.Tests.{by_if}
use Rattle.file.specs.Writing.{write_of, written_on}
use Rattle.file.specs.Refusal.{refusal_of, answer_by}
use Rattle.file.specs.declared.refusal.Refusal.{Refusal}
use Rattle.file.specs.declared.refusal.Refusal.TheVariants.{Room as NoRoom}
use Rattle.file.specs.declared.form.Form.{Form}
use Rattle.file.proofs.Round.{refused_changes_nothing}
use Rattle.listing.specs.Line.{newline}
use Rattle.notes.specs.declared.Notes.{Notes}
use Rattle.notes.specs.declared.Composed.{Composed}
use Rattle.notes.specs.declared.Composed.TheVariants.{Written, Streamless}
use Rattle.notes.specs.declared.Flaw.TheVariants.{Wrong, Unfinished, Refused}
use Rattle.notes.specs.Notes.{next_line, Read, read, refused_as, refused_by, line_ended, lengthened, byte_read, Filed, filed, written_by, told, expected_by, trace_of_notes, unless_refused, filed_by}
use Rattle.notes.specs.Fault.{fault_by}
use Rattle.notes.specs.Laws.{NothingElseWritten}

pub chosen : {A : Type 0} (b : Bool) (x y : A) → b ≡ true → if b x y ≡ x
unfolding if
chosen b x y h = rw h

pub passed : {A : Type 0} (b : Bool) (x y : A) → b ≡ false → if b x y ≡ y
unfolding if
passed b x y h = rw h

-- the number of the next line, which stays at the highest
pub saturated : (line : ℕ) → line < 2 ^ 64 → min (line + 1) (2 ^ 64 - 1) ≡ next_line line
unfolding next_line
saturated line fits =
    by_if (λ (n : ℕ). min (line + 1) (2 ^ 64 - 1) ≡ n) (ltb line (2 ^ 64 - 1)) (line + 1) line
    (λ low. let l = ltb-true line (2 ^ 64 - 1) low in omega arith)
    (λ high. let l = ltb-false line (2 ^ 64 - 1) high in omega arith)

-- a byte more
module _ (n : Notes) (trace : List ℕ) (byte : ℕ) where
  abbrev ending : Read
  ending = if (eqb byte newline) (line_ended n trace) (read (lengthened n byte) trace)

  pub byte_stopped : n.wrong ≡ true → byte_read (read n trace) byte ≡ read n trace
  unfolding byte_read
  byte_stopped h = chosen n.wrong (read n trace) ending h

  module _ (right : n.wrong ≡ false) where
    pub byte_ends : byte ≡ newline → byte_read (read n trace) byte ≡ line_ended n trace
    unfolding byte_read
    byte_ends h =
        passed n.wrong (read n trace) ending right
        ∙ chosen (eqb byte newline) (line_ended n trace) (read (lengthened n byte) trace) (eq-eqb byte newline h)

    pub byte_lengthens : (byte ≡ newline → ⊥) → byte_read (read n trace) byte ≡ read (lengthened n byte) trace
    unfolding byte_read
    byte_lengthens h =
        passed n.wrong (read n trace) ending right
        ∙ passed (eqb byte newline) (line_ended n trace) (read (lengthened n byte) trace) (ne_eqb byte newline h)

-- an event that the trace took, or refused
abbrev pub Put : Type 0
Put = Result (Unit {0}) Refusal

abbrev pub kept : Notes → Put → Notes
kept n (Ok done) = n
kept n (Err refusal) = refused_as n refusal

kept_if : (n : Notes) (zero : Bool) (refusal : Refusal) → kept n (if zero (Ok tt) (Err refusal)) ≡ if zero n (refused_as n refusal)
unfolding if
kept_if n true refusal = refl
kept_if n false refusal = refl

pub put_kept : (n : Notes) (number : ℕ) (put : Put) → put ≡ answer_by number tt → kept n put ≡ refused_by n number
unfolding refused_by
put_kept n number put is = ap (kept n) is ∙ kept_if n (eqb number 0) (refusal_of number)

-- the end of the notes
module _ (n : Notes) (trace out : List ℕ) where
  abbrev file_written : Filed
  file_written = filed (told n.table.count n.began (write_of n.form n.order n.table (trace_of_notes n trace) out)) (written_on n.form n.order n.table (trace_of_notes n trace) out)

  abbrev stored : Filed
  stored = if (ltb (events_in trace) n.events) (filed (Err (Refused NoRoom)) out) file_written

  abbrev whole : Filed
  whole = unless_refused n.refused out stored

  abbrev wrong_line : Filed
  wrong_line = filed (Err (Wrong n.line (fault_by n) (expected_by n))) out

  abbrev unfinished : Filed
  unfinished = filed (Err (Unfinished (expected_by n))) out

  abbrev right : Filed
  right = if (ltb n.numbers 3) unfinished whole

  pub filed_wrong : n.wrong ≡ true → filed_by n trace out ≡ wrong_line
  unfolding filed_by
  filed_wrong h = chosen n.wrong wrong_line right h

  module _ (ok : n.wrong ≡ false) where
    pub filed_unfinished : n.numbers < 3 → filed_by n trace out ≡ unfinished
    unfolding filed_by
    filed_unfinished h = passed n.wrong wrong_line right ok ∙ chosen (ltb n.numbers 3) unfinished whole (lt-ltb n.numbers 3 h)

    module _ (three : 3 ≤ n.numbers) where
      on : filed_by n trace out ≡ whole
      unfolding filed_by
      on = passed n.wrong wrong_line right ok ∙ passed (ltb n.numbers 3) unfinished whole (le-ltb n.numbers 3 three)

      pub filed_refused : (refusal : Refusal) → n.refused ≡ Some refusal → filed_by n trace out ≡ filed (Err (Refused refusal)) out
      filed_refused refusal is = on ∙ ap (λ (o : Option Refusal). unless_refused o out stored) is

      module _ (none : n.refused ≡ None) where
        on_stored : filed_by n trace out ≡ stored
        on_stored = on ∙ ap (λ (o : Option Refusal). unless_refused o out stored) none

        pub filed_short : events_in trace < n.events → filed_by n trace out ≡ filed (Err (Refused NoRoom)) out
        filed_short h = on_stored ∙ chosen (ltb (events_in trace) n.events) (filed (Err (Refused NoRoom)) out) file_written (lt-ltb (events_in trace) n.events h)

        pub filed_whole : n.events ≤ events_in trace → filed_by n trace out ≡ file_written
        filed_whole h = on_stored ∙ passed (ltb (events_in trace) n.events) (filed (Err (Refused NoRoom)) out) file_written (le-ltb (events_in trace) n.events h)

-- a file that the writer refuses leaves the buffer as it was
not_written : (streams : ℕ) (began : Option ℕ) (len : ℕ) (A : Type 0) → (written_by streams began len ≡ Written len → A) → (written_by streams began len ≡ Streamless len began → A) → A
unfolding written_by
not_written streams began len A = by_if (λ (c : Composed). (c ≡ Written len → A) → (c ≡ Streamless len began → A) → A) (eqb streams 0) (Streamless len began) (Written len) (λ _ f g. g refl) (λ _ f g. f refl)

not_told : (reply : Result ℕ Refusal) (form : Form) (order : Order) (table : Table) (began : Option ℕ) (trace out : List ℕ) → write_of form order table trace out ≡ reply
    → ((len : ℕ) → told table.count began reply ≡ Ok (Written len) → ⊥) → ((len : ℕ) (event : Option ℕ) → told table.count began reply ≡ Ok (Streamless len event) → ⊥)
    → written_on form order table trace out ≡ out
not_told (Ok len) form order table began trace out is none bare =
    absurd (not_written table.count began len ⊥ (λ h. none len (ap Ok h)) (λ h. bare len began (ap Ok h)))
not_told (Err refusal) form order table began trace out is none bare =
    refused_changes_nothing form order table trace out refusal is

-- what holds of a refusal, and of what is written without one
by_refused : (P : Filed → Type 0) (o : Option Refusal) (out : List ℕ) (written : Filed) → ((refusal : Refusal) → P (filed (Err (Refused refusal)) out)) → P written → P (unless_refused o out written)
by_refused P None out written p q = q
by_refused P (Some refusal) out written p q = p refusal

pub nothing_else_written : NothingElseWritten
unfolding filed_by
nothing_else_written n trace out =
    let P : Filed → Type 0 = λ f. ((len : ℕ) → f.reply ≡ Ok (Written len) → ⊥) → ((len : ℕ) (event : Option ℕ) → f.reply ≡ Ok (Streamless len event) → ⊥) → f.out ≡ out in
    by_if P n.wrong (wrong_line n trace out) (right n trace out) (λ _ _ _. refl)
    (λ _.
    by_if P (ltb n.numbers 3) (unfinished n trace out) (whole n trace out) (λ _ _ _. refl)
    (λ _.
    by_refused P n.refused out (stored n trace out) (λ _ _ _. refl)
    (by_if P (ltb (events_in trace) n.events) (filed (Err (Refused NoRoom)) out) (file_written n trace out) (λ _ _ _. refl)
    (λ _ none bare. not_told (write_of n.form n.order n.table (trace_of_notes n trace) out) n.form n.order n.table n.began (trace_of_notes n trace) out refl none bare))))
