-- The forms, one by one: what is said here by cases is used of any form.
use mathlib.Core.Bool.{true}
use mathlib.Core.Path.{◌≡◌, refl, sym}
use mathlib.Core.List.{List}
use Prim.Native.Nat.{ℕ, ◌^◌, ◌≤◌, ◌<◌, min}
use native.Mathlib.Omega.{arith}
use borrow.Author.Tests.{eqb-true}
use lib.Dec.{lit≤}
use Rattle.table.specs.Fold.{if}
use Rattle.order.specs.Order.{order_number, order_of}
use Rattle.order.specs.declared.Order.{Order}
use Rattle.order.specs.declared.Order.TheVariants.{Nearest, Sweep}
use Rattle.cells.specs.Cells.{number_at}
use Rattle.file.specs.File.{entries_of, table_start, table_start_max, third_length, form_of_third, is_third_length}
use Rattle.file.specs.Reading.{form_in}
use Rattle.file.specs.Writing.{has_place}
use Rattle.file.specs.Laws.{ThirdsAreForms}
use Rattle.file.specs.declared.form.Form.{Form}
use Rattle.file.specs.declared.form.Form.TheVariants.{Two, Three}

pub entries_few : (form : Form) → entries_of form ≤ 3
entries_few Two = lit≤ tt
entries_few Three = lit≤ tt

pub start_low : (form : Form) → table_start form ≤ table_start_max
start_low Two = lit≤ tt
start_low Three = lit≤ tt

pub after_two : (form : Form) → 26 ≤ table_start form
after_two Two = lit≤ tt
after_two Three = lit≤ tt

pub third_low : (form : Form) → third_length form ≤ 4
third_low Two = lit≤ tt
third_low Three = lit≤ tt

-- the number of entries tells the form
pub form_is : (file : List ℕ) (form : Form) → number_at 2 file 0 ≡ entries_of form → form_in file ≡ form
unfolding form_in if
form_is file Two h = rw h refl
form_is file Three h = rw h refl

-- ---- the third body

-- it is read whole
pub third_width : (form : Form) → min (third_length form) 8 ≡ third_length form
third_width Two = refl
third_width Three = refl

-- an order that a form has a place for fits its third body
pub order_fits : (form : Form) (order : Order) → has_place form order ≡ true → order_number order < 256 ^ third_length form
order_fits Two order h = let e : order_number order ≡ 0 = eqb-true _ _ h in omega arith
order_fits Three Nearest h = omega arith
order_fits Three Sweep h = omega arith

-- and the order that a third body says has a place in its form
pub order_placed : (form : Form) (file : List ℕ) (at : ℕ) → has_place form (order_of (number_at (third_length form) file at)) ≡ true
unfolding number_at order_of if
order_placed Two file at = refl
order_placed Three file at = refl

-- ---- forms and the lengths of their third bodies

form_of_length : (form : Form) → (is_third_length (third_length form) ≡ true) × (form_of_third (third_length form) ≡ form)
unfolding is_third_length form_of_third if
form_of_length Two = (refl, refl)
form_of_length Three = (refl, refl)

length_of_form : (n : ℕ) → is_third_length n ≡ true → third_length (form_of_third n) ≡ n
unfolding is_third_length
length_of_form n h = sym (eqb-true _ _ h)

pub thirds_are_forms : ThirdsAreForms
thirds_are_forms = (form_of_length, length_of_form)
