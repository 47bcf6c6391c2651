-- Document 01's printed lines, with the last field of document 02, Req 07, those of a tally, those on a listing, and those of bookings: the fields of each, beside what is shown. The statement that covers the list is `CasesHold`.
use Rattle.std.specs.Prelude.{List, [], ◌∷◌, ℕ}
use Prim.Native.String.{String}
use Rattle.listing.specs.Line.{header_fields, event_fields, refused_fields, tally_header_fields, tally_fields, total_fields, accepted_fields, place_fields, receipt_fields}

pub record Case : Type 0 where
  pub fields : List (List ℕ)
  pub document : String

abbrev pub prints : List (List ℕ) → String → Case
prints fields document = record { fields = fields; document = document }

-- listing (P), whose requests have tag 0, and a refusal; then numbers at the ends of their range; the lines of a tally; those on a listing; and those of bookings
unfoldable pub cases : List Case
cases =
    prints header_fields "event answer stream value clock tag\n"
    ∷ prints (event_fields 1 20 1 1 0 0) "1 20 1 1 0 0\n"
    ∷ prints (event_fields 2 21 1 100 0 0) "2 21 1 100 0 0\n"
    ∷ prints (event_fields 3 25 1 5_000 5_000 0) "3 25 1 5000 5000 0\n"
    ∷ prints (event_fields 4 24 0 105_000 5_000 0) "4 24 0 105000 5000 0\n"
    ∷ prints (event_fields 5 27 0 105_000 105_000 0) "5 27 0 105000 105000 0\n"
    ∷ prints (event_fields 6 22 2 25_000 105_000 0) "6 22 2 25000 105000 0\n"
    ∷ prints (event_fields 7 20 2 1 105_000 0) "7 20 2 1 105000 0\n"
    ∷ prints (event_fields 8 21 2 900 105_000 0) "8 21 2 900 105000 0\n"
    ∷ prints (event_fields 9 10 0 0 105_000 0) "9 10 0 0 105000 0\n"
    ∷ prints (event_fields 10 25 2 50_000 130_000 0) "10 25 2 50000 130000 0\n"
    ∷ prints (event_fields 11 28 0 160_000 160_000 0) "11 28 0 160000 160000 0\n"
    ∷ prints (refused_fields 16 0) "refused 16\n"
    ∷ prints (refused_fields 7 2) "refused 7 2\n"
    ∷ prints
    (event_fields 4_000 21 8 18_446_744_073_709_551_615 1_000_000_000_000 4_294_967_295)
    "4000 21 8 18446744073709551615 1000000000000 4294967295\n"
    ∷ prints tally_header_fields "stream jobs late expired time largest\n"
    ∷ prints (tally_fields 1 12 0 3 300_000 25_000) "1 12 0 3 300000 25000\n"
    ∷ prints total_fields "total\n"
    ∷ prints accepted_fields "accepted\n"
    ∷ prints (place_fields 4_001) "4001\n"
    ∷ prints (receipt_fields 0 1) "0 1\n"
    ∷ prints (receipt_fields 18 0) "18 0\n"
    ∷ []
