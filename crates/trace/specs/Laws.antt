-- What is proved of a whole run.
use Rattle.std.specs.Prelude.{List, [], ◌∷◌, ◌≡◌, ℕ, ◌+◌, ◌≤◌}
use Rattle.table.specs.Admission.{load_of, admission_of}
use Rattle.table.specs.declared.Table.{Table}
use Rattle.order.specs.declared.Order.{Order}
use Rattle.file.specs.Listing.{listing_file}
use Rattle.listing.specs.Line.{ascii, decimal, rendered, refused_word}
use Rattle.trace.specs.Trace.{run_of, listing_of}

-- "Listing (P)": its 234 bytes come out as the twelve lines that document 01 shows, with the last field of document 02, Req 07.
abbrev pub ListingPrints : Type 0
ListingPrints =
    listing_of listing_file
    ≡ ascii "event answer stream value clock tag\n1 20 1 1 0 0\n2 21 1 100 0 0\n3 25 1 5000 5000 0\n4 24 0 105000 5000 0\n5 27 0 105000 105000 0\n6 22 2 25000 105000 0\n7 20 2 1 105000 0\n8 21 2 900 105000 0\n9 10 0 0 105000 0\n10 25 2 50000 130000 0\n11 28 0 160000 160000 0\n"

-- Document 02, Req 05: "the program prints `refused 7 N` with N the amount over the span", which is what the load has above it, and never 0. "Other refusals [...] print as before."
abbrev pub RefusalPrints : Type 0
RefusalPrints =
    (t : Table) (order : Order) (trace : List ℕ)
    → (admission_of t ≡ 7
    → (n : ℕ) × (t.span + n ≡ load_of t) × (1 ≤ n) × (run_of t order trace ≡ rendered (refused_word ∷ decimal 7 ∷ decimal n ∷ [])))
    × ((admission_of t ≡ 0 → ⊥) → (admission_of t ≡ 7 → ⊥) → run_of t order trace ≡ rendered (refused_word ∷ decimal (admission_of t) ∷ []))
