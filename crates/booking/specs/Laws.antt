-- What is proved of booking tables.
use Rattle.std.specs.Prelude.{true, false, List, [], ◌∷◌, ◌++◌, map, ◌≡◌, ℕ, ◌-◌, ◌≤◌}
use Rattle.table.specs.Admission.{smallest_period, judged_load, ranges_refusal, admission_of}
use Rattle.table.specs.Fold.{leaving}
use Rattle.booking.specs.Book.{desk_of, streams_of, count_in, table_in, shares_in, is_sound}
use Rattle.booking.specs.Bookings.{accepted, refused, booked, zero_book, begun_of, add_of, withdraw_of, booking_of, finished_of, finished_table}
use Rattle.booking.specs.Cases.{Case, limit_cases, number_cases, order_cases, known_cases}
use Rattle.booking.specs.declared.Book.{Book}
use Rattle.booking.specs.declared.Booking.{Booking}
use Rattle.booking.specs.declared.Booking.TheVariants.{Add, Withdraw}

-- a table after any bookings
unfoldable pub after_all : Book → List Booking → Book
after_all b [] = b
after_all b (x ∷ rest) = after_all (booking_of b x).book rest

-- the desk that books
abbrev pub desk_in : Booking → ℕ
desk_in (Add desk e p) = desk
desk_in (Withdraw desk number) = desk

-- A table that is begun is sound, and replies 0 and 0; one whose beginning is refused is the all-zero one, which is not.
abbrev pub BegunIsSound : Type 0
BegunIsSound =
    (worst span k limit1 limit2 : ℕ)
    → let refusal = ranges_refusal worst span k in
    let begun = begun_of worst span k limit1 limit2 in
    (refusal ≡ 0 → (is_sound begun.book ≡ true) × (begun.receipt ≡ accepted 0))
    × ((refusal ≡ 0 → ⊥) → begun ≡ booked zero_book (refused refusal))
    × (is_sound zero_book ≡ false)

-- "first of all in a booking 31": a table that is not sound gets it, whatever is asked, and is what it was.
abbrev pub UnsoundIsRefused : Type 0
UnsoundIsRefused =
    (b : Book) (x : Booking) → is_sound b ≡ false → (booking_of b x ≡ booked b (refused 31)) × ((finished_of b).number ≡ 31)

-- Every booking keeps it sound, and so do any bookings: 31 never comes to what was begun.
abbrev pub BookingKeepsSound : Type 0
BookingKeepsSound = (b : Book) (x : Booking) → is_sound b ≡ true → is_sound (booking_of b x).book ≡ true

abbrev pub BookingsKeepSound : Type 0
BookingsKeepSound = (b : Book) (bookings : List Booking) → is_sound b ≡ true → is_sound (after_all b bookings) ≡ true

-- "a refused one changes nothing", and its value is 0.
abbrev pub RefusedChangesNothing : Type 0
RefusedChangesNothing =
    (b : Book) (x : Booking) → let r = booking_of b x in (r.receipt.number ≡ 0 → ⊥) → (r.book ≡ b) × (r.receipt.value ≡ 0)

-- "An accepted booking replies 0 and the desk's own count after it"; the other desk is as it was, and the numbers and limits of the table are "fixed".
pub record Kept (desk : ℕ) (b after : Book) : Type 0 where
  pub worst : after.worst ≡ b.worst
  pub span : after.span ≡ b.span
  pub padding : after.padding ≡ b.padding
  pub unused : after.unused ≡ b.unused
  pub first_limit : after.first.limit ≡ b.first.limit
  pub second_limit : after.second.limit ≡ b.second.limit
  pub second_stays : desk ≡ 1 → after.second ≡ b.second
  pub first_stays : desk ≡ 2 → after.first ≡ b.first

abbrev pub OthersStay : Type 0
OthersStay =
    (b : Book) (x : Booking) → let r = booking_of b x in
    Kept (desk_in x) b r.book × (r.receipt.number ≡ 0 → r.receipt.value ≡ (desk_of r.book (desk_in x)).count)

-- "It counts its own streams from 1 in order of booking, closing up after a withdrawal": what is added comes behind a desk's own, what is withdrawn is left out, and the others keep their order.
abbrev pub StreamsInOrder : Type 0
StreamsInOrder =
    (b : Book) (desk : ℕ)
    → ((e p : ℕ) → let r = add_of b desk e p in
    r.receipt.number ≡ 0 → streams_of (desk_of r.book desk) ≡ streams_of (desk_of b desk) ++ (record { reserved = e; period = p } ∷ []))
    × ((number : ℕ) → let r = withdraw_of b desk number in
    r.receipt.number ≡ 0 → streams_of (desk_of r.book desk) ≡ leaving (number - 1) (streams_of (desk_of b desk)))

-- "Each desk has a limit on the sum of g × (H / p) over its own streams": it is never passed, whatever is booked.
abbrev pub LimitIsKept : Type 0
LimitIsKept =
    (b : Book) (bookings : List Booking) (desk : ℕ) → is_sound b ≡ true
    → let after = after_all b bookings in shares_in after (desk_of after desk) ≤ (desk_of b desk).limit

-- "Demands 2 and 3 apply from opening on": a sound table with a stream in it is admitted when it is opened, so that 7 comes at the desk or not at all; one without is refused by 1.
abbrev pub FinishedIsAdmitted : Type 0
FinishedIsAdmitted =
    (b : Book) → is_sound b ≡ true
    → ((finished_of b).number ≡ 0)
    × (finished_table b ≡ table_in b)
    × (1 ≤ count_in b → admission_of (finished_table b) ≡ 0)
    × (count_in b ≡ 0 → admission_of (finished_table b) ≡ 1)

-- Who withdraws what was just added has the table back, cell by cell.
abbrev pub AddedIsWithdrawn : Type 0
AddedIsWithdrawn =
    (b : Book) (desk e p : ℕ) → let r = add_of b desk e p in
    r.receipt.number ≡ 0 → withdraw_of r.book desk r.receipt.value ≡ booked b (accepted (desk_of b desk).count)

-- "What a desk is told may depend on its own streams, its limit, the number of all streams and the load of the whole table, smallest period included, and on nothing else of the other desk." So two tables are alike to a desk:
pub record Alike (desk : ℕ) (a b : Book) : Type 0 where
  pub worst : a.worst ≡ b.worst
  pub span : a.span ≡ b.span
  pub padding : a.padding ≡ b.padding
  pub own : desk_of a desk ≡ desk_of b desk
  pub count : count_in a ≡ count_in b
  pub load : judged_load (table_in a) ≡ judged_load (table_in b)
  pub smallest : smallest_period (table_in a) ≡ smallest_period (table_in b)

-- and where two sound tables are, the same booking has the same reply, and leaves the desk the same. It is of one booking: after a withdrawal two tables need not be alike any more, and the load alone is not enough (`known_cases`).
abbrev pub DesksAreIsolated : Type 0
DesksAreIsolated =
    (a b : Book) (x : Booking) → is_sound a ≡ true → is_sound b ≡ true → Alike (desk_in x) a b
    → let p = booking_of a x in
    let q = booking_of b x in
    (p.receipt ≡ q.receipt) × (desk_of p.book (desk_in x) ≡ desk_of q.book (desk_in x))

-- The worked cases come out as they stand there.
abbrev pub Hold : List Case → Type 0
Hold cases = map (λ (k : Case). k.rules) cases ≡ map (λ (k : Case). k.expected) cases

abbrev pub LimitCasesHold : Type 0
LimitCasesHold = Hold limit_cases

abbrev pub NumberCasesHold : Type 0
NumberCasesHold = Hold number_cases

abbrev pub OrderCasesHold : Type 0
OrderCasesHold = Hold order_cases

abbrev pub KnownCasesHold : Type 0
KnownCasesHold = Hold known_cases
