-- What is printed after a beginning that is refused.
use mathlib.Core.Bool.{true, false, false≢true}
use mathlib.Core.List.{List, [], ◌∷◌, ◌++◌}
use mathlib.Core.Path.{◌≡◌, refl, ap, ◌∙◌}
use Prim.Native.Nat.{ℕ}
use borrow.Author.Tests.{ne_eqb}
use Rattle.table.specs.Fold.{if, all_to}
use Rattle.table.specs.Refusal.{given, ◌or_next◌, outside}
use Rattle.table.specs.Admission.{numbers_refusal, ranges_refusal}
use Rattle.table.proofs.Tests.{both}
use Rattle.notes.specs.Words.{all_of}
use Rattle.booking.specs.Book.{empty_cell, sound_cells, table_refusal, keeps_limit, is_sound}
use Rattle.booking.specs.Bookings.{refused, booked, zero_book, begun_of, desk_refusal, add_refusal, withdraw_refusal, add_of, withdraw_of, booking_of, finished_of}
use Rattle.booking.specs.declared.Book.{Book}
use Rattle.booking.specs.declared.Booked.{Booked}
use Rattle.booking.specs.declared.Booking.{Booking}
use Rattle.booking.specs.declared.Booking.TheVariants.{Add, Withdraw}
use Rattle.ledger.specs.declared.Entry.{Entry}
use Rattle.ledger.specs.declared.Entry.TheVariants.{Blank, Begin, Call, Wrong}
use Rattle.ledger.specs.Entry.{entry_of}
use Rattle.ledger.specs.Ledger.{stands, taken_by, replied_to, finished_notes, printed_from}
use Rattle.ledger.specs.Laws.{all_refused, RefusedBeginning}

-- an all-zero table is not sound: W is out of range
zero_unsound : is_sound zero_book ≡ false
unfolding is_sound sound_cells empty_cell all_to table_refusal numbers_refusal given ◌or_next◌ outside keeps_limit if
zero_unsound = refl

-- so it refuses every booking by 31
zero_refuses : (x : Booking) → booking_of zero_book x ≡ booked zero_book (refused 31)
unfolding add_of add_refusal withdraw_of withdraw_refusal desk_refusal given ◌or_next◌ if
zero_refuses (Add desk e p) = rw zero_unsound
zero_refuses (Withdraw desk number) = rw zero_unsound

-- and it is not printed
zero_not_printed : finished_notes zero_book ≡ []
unfolding finished_notes finished_of if
zero_not_printed = rw zero_unsound

-- a line behind the beginning leaves it, and is answered so
line_refused : (e : Entry) → stands true e ≡ true
    → ((taken_by zero_book e).book ≡ zero_book) × (replied_to (taken_by zero_book e).receipt e ≡ replied_to (refused 31) e)
line_refused Blank fine = (refl, refl)
line_refused (Begin worst span k limit1 limit2) fine = absurd (false≢true fine)
line_refused (Call x) fine =
    (ap (λ (r : Booked). r.book) (zero_refuses x), ap (λ (r : Booked). replied_to r.receipt (Call x)) (zero_refuses x))
line_refused Wrong fine = absurd (false≢true fine)

all_refused_lem : (lines : List (List ℕ)) → all_of (λ line. stands true (entry_of line)) lines ≡ true → printed_from zero_book lines ≡ all_refused lines
unfolding printed_from all_refused all_of
all_refused_lem [] fine = zero_not_printed
all_refused_lem (line ∷ rest) fine =
    let parts = both (stands true (entry_of line)) (all_of (λ line. stands true (entry_of line)) rest) fine in
    let step = line_refused (entry_of line) parts.0 in
    ap (λ (said : List ℕ). said ++ printed_from (taken_by zero_book (entry_of line)).book rest) step.1
    ∙ ap (λ (b : Book). replied_to (refused 31) (entry_of line) ++ printed_from b rest) step.0
    ∙ ap (λ (l : List ℕ). replied_to (refused 31) (entry_of line) ++ l) (all_refused_lem rest parts.1)

begun_refused : (worst span k limit1 limit2 : ℕ) → (ranges_refusal worst span k ≡ 0 → ⊥)
    → begun_of worst span k limit1 limit2 ≡ booked zero_book (refused (ranges_refusal worst span k))
unfolding begun_of if
begun_refused worst span k limit1 limit2 off = rw (ne_eqb (ranges_refusal worst span k) 0 off)

pub refused_beginning : RefusedBeginning
unfolding printed_from
refused_beginning b line rest worst span k limit1 limit2 is off fine =
    ap (λ (e : Entry). let t = taken_by b e in replied_to t.receipt e ++ printed_from t.book rest) is
    ∙ ap (λ (t : Booked). replied_to t.receipt (Begin worst span k limit1 limit2) ++ printed_from t.book rest) (begun_refused worst span k limit1 limit2 off)
    ∙ ap (λ (l : List ℕ). replied_to (refused (ranges_refusal worst span k)) (Begin worst span k limit1 limit2) ++ l) (all_refused_lem rest fine)
