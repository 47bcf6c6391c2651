-- Worked cases: some lines and what they say, and some files with what is said or printed of them. The statement that covers the lists is `CasesHold`.
use Rattle.std.specs.Prelude.{true, false, List, [], ◌∷◌, Result, Ok, Err}
use Prim.Native.String.{String}
use Rattle.booking.specs.declared.Booking.TheVariants.{Add, Withdraw}
use Rattle.ledger.specs.declared.Entry.{Entry}
use Rattle.ledger.specs.declared.Entry.TheVariants.{Blank, Begin, Call, Wrong}
use Rattle.ledger.specs.declared.Fault.{Fault}
use Rattle.ledger.specs.declared.Fault.TheVariants.{Unbegun, Amiss}

pub record LineCase : Type 0 where
  pub line : String
  pub says : Entry

abbrev pub says : String → Entry → LineCase
says line entry = record { line = line; says = entry }

unfoldable pub line_cases : List LineCase
line_cases =
    -- gaps, comments and a carriage return at the end
    says "" Blank
    ∷ says " \t # begin 1 2 3 4 5" Blank
    ∷ says "\r" Blank
    ∷ says "begin 25000 1000000 1 300000 500000" (Begin 25_000 1_000_000 1 300_000 500_000)
    ∷ says "\tadd  1\t25000 250000 # rental\r" (Call (Add 1 25_000 250_000))
    ∷ says "add 1 25000 250000#\r" (Call (Add 1 25_000 250_000))
    ∷ says "withdraw 2 007\r" (Call (Withdraw 2 7))
    ∷ says "withdraw 2 7\r\r" Wrong
    -- any desk and number are understood, and a booking refuses them; numbers of the table have 32 bits, and the others 64
    ∷ says "add 3 0 4294967295" (Call (Add 3 0 4_294_967_295))
    ∷ says "add 1 1 4294967296" Wrong
    ∷ says "withdraw 18446744073709551615 0" (Call (Withdraw 18_446_744_073_709_551_615 0))
    ∷ says "withdraw 1 18446744073709551616" Wrong
    ∷ says "begin 0 0 4294967295 18446744073709551615 0" (Begin 0 0 4_294_967_295 18_446_744_073_709_551_615 0)
    ∷ says "begin 0 0 0 0 18446744073709551616" Wrong
    ∷ says "begin 4294967296 0 0 0 0" Wrong
    -- another word, and too few words or too many
    ∷ says "book 1 25000 250000" Wrong
    ∷ says "Add 1 25000 250000" Wrong
    ∷ says "withdrawn 1 1" Wrong
    ∷ says "begin" Wrong
    ∷ says "withdraw 1" Wrong
    ∷ says "add 1 25000" Wrong
    ∷ says "begin 25000 1000000 1 300000" Wrong
    ∷ says "begin 25000 1000000 1 300000 500000 0" Wrong
    ∷ says "begin 25000 1000000 1 300000 500000 0 0" Wrong
    ∷ says "add 1 25,000 250000" Wrong
    ∷ says "1 2 3" Wrong
    ∷ []

pub record FileCase : Type 0 where
  pub file : String
  pub judged : Result (Unit {0}) Fault

abbrev pub is : String → Result (Unit {0}) Fault → FileCase
is file judged = record { file = file; judged = judged }

unfoldable pub file_cases : List FileCase
file_cases =
    is "" (Err Unbegun)
    ∷ is "# nothing\n\n" (Err Unbegun)
    ∷ is "\nbegin 1 2 3 4 5" (Ok tt)
    ∷ is "begin 1 2 3 4 5\nadd 1 2 3\n\nwithdraw 1 1\n" (Ok tt)
    ∷ is "add 1 2 3\nbegin 1 2 3 4 5\n" (Err (Amiss 1 false))
    ∷ is "# first\n\nbegin 1 2 3 4\n" (Err (Amiss 3 false))
    ∷ is "begin 1 2 3 4 5\n\nbegin 1 2 3 4 5\n" (Err (Amiss 3 true))
    ∷ is "begin 1 2 3 4 5\nadd 1 2\nwithdraw\n" (Err (Amiss 2 true))
    ∷ is "begin 1 2 3 4 5\nwithdraw 1" (Err (Amiss 2 true))
    ∷ []

pub record PrintCase : Type 0 where
  pub file : String
  pub printed : String

abbrev pub prints : String → String → PrintCase
prints file printed = record { file = file; printed = printed }

unfoldable pub print_cases : List PrintCase
print_cases =
    -- a table of document 01's numbers: the second stream of desk 1 would pass its limit
    prints
    "begin 25000 1000000 1 300000 500000\nadd 1 25000 250000\nadd 1 25000 250000\nadd 2 175000 500000\n"
    "0 0\n0 1\n18 0\n0 1\nworst 25000\nspan 1000000\npadding 1\nstream 25000 250000\nstream 175000 500000\n"
    -- desk 1's streams come first, and numbers close up after a withdrawal
    ∷ prints
    "# both desks\nbegin 100 20000 1 20000 20000\n\nadd 2 10 20000\nadd 1 20 20000\nadd 1 30 20000\nwithdraw 1 1\nwithdraw 1 2"
    "0 0\n0 1\n0 1\n0 2\n0 1\n19 0\nworst 100\nspan 20000\npadding 1\nstream 30 20000\nstream 10 20000\n"
    -- a table that is begun, and into which nothing is booked
    ∷ prints "begin 100 20000 1 0 0" "0 0\nworst 100\nspan 20000\npadding 1\n"
    -- a beginning that is refused leaves no table
    ∷ prints "begin 0 1000000 1 300000 500000\nadd 1 25000 250000\n" "2 0\n31 0\n"
    ∷ []
