-- Worked cases: what the rules say to some bookings, beside what is expected. A statement of `Laws` covers each list.
use Rattle.std.specs.Prelude.{List, [], ◌∷◌, ◌++◌, map, ℕ, suc, replicate}
use Rattle.table.specs.Fold.{list_to}
use Rattle.table.specs.Admission.{smallest_period, judged_load}
use Rattle.table.specs.declared.reservations.Reservation.{Reservation}
use Rattle.booking.specs.Book.{count_in, streams_in, table_in}
use Rattle.booking.specs.Bookings.{begun_of, booking_of}
use Rattle.booking.specs.declared.Book.{Book}
use Rattle.booking.specs.declared.Booking.{Booking}
use Rattle.booking.specs.declared.Booking.TheVariants.{Add, Withdraw}

pub record Case : Type 0 where
  pub rules : List (List ℕ)
  pub expected : List (List ℕ)

-- after any bookings, what each desk may know of the whole table: the number of all streams, the load, and the smallest period
abbrev pub known : Book → List ℕ
known b = count_in b ∷ judged_load (table_in b) ∷ smallest_period (table_in b) ∷ []

-- and its streams
abbrev pub shown : Book → List (List ℕ)
shown b = map (λ (r : Reservation). r.reserved ∷ r.period ∷ []) (streams_in b)

-- the replies to bookings, each as its number and its value, and then something of the table
unfoldable pub told : (Book → List (List ℕ)) → Book → List Booking → List (List ℕ)
told last b [] = last b
told last b (x ∷ rest) =
    let r = booking_of b x in (r.receipt.number ∷ r.receipt.value ∷ []) ∷ told last r.book rest

-- of a table that is begun with W, H, k and two limits
abbrev pub books : (Book → List (List ℕ)) → ℕ → ℕ → ℕ → ℕ → ℕ → List Booking → List (List ℕ) → Case
books last worst span k limit1 limit2 bookings expected =
    record { rules = told last (begun_of worst span k limit1 limit2).book bookings; expected = expected }

-- a table of document 01's numbers: desk 1 may have 300,000 of the span, and desk 2 500,000
abbrev pub rental : List Booking → List (List ℕ) → Case
rental = books (λ b. known b ∷ []) 25_000 1_000_000 1 300_000 500_000

-- W 100, H 20,000 and k 1, with limits that are never passed
abbrev pub free : List Booking → List (List ℕ) → Case
free = books (λ b. known b ∷ []) 100 20_000 1 20_000 20_000

-- each desk has its own count and its own limit, and a sum that is as large as the limit is taken; 18 before 7, and 7 where the limit is kept; a limit of 0 takes nothing
unfoldable pub limit_cases : List Case
limit_cases =
    rental [] ((0 ∷ 0 ∷ 0 ∷ []) ∷ [])
    ∷ rental
    (Add 1 25_000 250_000 ∷ Add 1 25_000 250_000 ∷ Add 2 175_000 500_000 ∷ Add 3 1 1 ∷ Withdraw 2 2 ∷ Withdraw 2 1 ∷ Withdraw 2 1 ∷ [])
    ((0 ∷ 1 ∷ []) ∷ (18 ∷ 0 ∷ []) ∷ (0 ∷ 1 ∷ []) ∷ (30 ∷ 0 ∷ []) ∷ (19 ∷ 0 ∷ []) ∷ (0 ∷ 0 ∷ []) ∷ (19 ∷ 0 ∷ []) ∷ (1 ∷ 300_000 ∷ 250_000 ∷ []) ∷ [])
    ∷ books (λ b. []) 25_000 1_000_000 1 200_000 199_999 (Add 1 25_000 250_000 ∷ Add 2 25_000 250_000 ∷ []) ((0 ∷ 1 ∷ []) ∷ (18 ∷ 0 ∷ []) ∷ [])
    ∷ books (λ b. []) 25_000 1_000_000 1 900_000 1_000_000 (Add 1 875_000 1_000_000 ∷ Add 1 100_000 1_000_000 ∷ Add 2 100_000 1_000_000 ∷ []) ((0 ∷ 1 ∷ []) ∷ (18 ∷ 0 ∷ []) ∷ (7 ∷ 0 ∷ []) ∷ [])
    ∷ books (λ b. []) 25_000 1_000_000 1 0 0 (Add 1 1 1_000_000 ∷ []) ((18 ∷ 0 ∷ []) ∷ [])
    ∷ []

-- numbers close up after a withdrawal, and in the finished table desk 1's streams come first
unfoldable pub number_cases : List Case
number_cases =
    books shown 100 20_000 1 20_000 20_000
    (Add 2 10 20_000 ∷ Add 1 20 20_000 ∷ Add 1 30 20_000 ∷ Add 1 40 20_000 ∷ Withdraw 1 2 ∷ Add 1 50 20_000 ∷ Withdraw 1 2 ∷ [])
    ((0 ∷ 1 ∷ []) ∷ (0 ∷ 1 ∷ []) ∷ (0 ∷ 2 ∷ []) ∷ (0 ∷ 3 ∷ []) ∷ (0 ∷ 2 ∷ []) ∷ (0 ∷ 3 ∷ []) ∷ (0 ∷ 2 ∷ []) ∷ (20 ∷ 20_000 ∷ []) ∷ (50 ∷ 20_000 ∷ []) ∷ (10 ∷ 20_000 ∷ []) ∷ [])
    ∷ []

-- "31 [..], next 30 [..]; then for adding 1, 5, 6, 18, 7; for withdrawing 19": of two that hold the first is told, 30 before 5, 5 before 6, and 6 before 18; then, with eight streams, 30 before 1, 1 before 5, 1 before 18, and 30 before 19 (18 before 7 is among `limit_cases`, and 31 is the law `UnsoundIsRefused`)
unfoldable pub order_cases : List Case
order_cases =
    books (λ b. []) 100 20_000 1 20_000 0
    (Add 3 0 0 ∷ Add 1 0 999 ∷ Add 2 0 20_000 ∷ [])
    ((30 ∷ 0 ∷ []) ∷ (5 ∷ 0 ∷ []) ∷ (6 ∷ 0 ∷ []) ∷ [])
    ∷ books (λ b. []) 100 20_000 1 20_000 0
    (replicate 8 (Add 1 10 20_000) ++ (Add 0 10 20_000 ∷ Add 1 0 0 ∷ Add 2 10 20_000 ∷ Withdraw 0 0 ∷ []))
    (list_to (λ i. 0 ∷ suc i ∷ []) 8 ++ ((30 ∷ 0 ∷ []) ∷ (1 ∷ 0 ∷ []) ∷ (1 ∷ 0 ∷ []) ∷ (30 ∷ 0 ∷ []) ∷ []))
    ∷ []

-- The load alone is not enough: two tables with one load, and another smallest period, tell desk 1 another reply. And bookings one after the other are not enough either: two tables that are alike to desk 1 are not any more when it has withdrawn its stream of the smallest period, and the next reply tells.
unfoldable pub known_cases : List Case
known_cases =
    free (Add 2 1_900 10_000 ∷ []) ((0 ∷ 1 ∷ []) ∷ (1 ∷ 4_200 ∷ 10_000 ∷ []) ∷ [])
    ∷ free (Add 2 4_000 20_000 ∷ []) ((0 ∷ 1 ∷ []) ∷ (1 ∷ 4_200 ∷ 20_000 ∷ []) ∷ [])
    ∷ free (Add 2 1_900 10_000 ∷ Add 1 7_800 10_000 ∷ []) ((0 ∷ 1 ∷ []) ∷ (0 ∷ 1 ∷ []) ∷ (2 ∷ 20_000 ∷ 10_000 ∷ []) ∷ [])
    ∷ free (Add 2 4_000 20_000 ∷ Add 1 7_800 10_000 ∷ []) ((0 ∷ 1 ∷ []) ∷ (7 ∷ 0 ∷ []) ∷ (1 ∷ 4_200 ∷ 20_000 ∷ []) ∷ [])
    ∷ free (Add 2 1_900 10_000 ∷ Add 1 900 5_000 ∷ []) ((0 ∷ 1 ∷ []) ∷ (0 ∷ 1 ∷ []) ∷ (2 ∷ 8_400 ∷ 5_000 ∷ []) ∷ [])
    ∷ free (Add 2 3_900 20_000 ∷ Add 1 900 5_000 ∷ []) ((0 ∷ 1 ∷ []) ∷ (0 ∷ 1 ∷ []) ∷ (2 ∷ 8_400 ∷ 5_000 ∷ []) ∷ [])
    ∷ free (Add 2 1_900 10_000 ∷ Add 1 900 5_000 ∷ Withdraw 1 1 ∷ Add 1 15_800 20_000 ∷ []) ((0 ∷ 1 ∷ []) ∷ (0 ∷ 1 ∷ []) ∷ (0 ∷ 0 ∷ []) ∷ (7 ∷ 0 ∷ []) ∷ (1 ∷ 4_200 ∷ 10_000 ∷ []) ∷ [])
    ∷ free (Add 2 3_900 20_000 ∷ Add 1 900 5_000 ∷ Withdraw 1 1 ∷ Add 1 15_800 20_000 ∷ []) ((0 ∷ 1 ∷ []) ∷ (0 ∷ 1 ∷ []) ∷ (0 ∷ 0 ∷ []) ∷ (0 ∷ 1 ∷ []) ∷ (2 ∷ 20_000 ∷ 20_000 ∷ []) ∷ [])
    ∷ []
