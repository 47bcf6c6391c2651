-- Notes on either side of each line of docs/NOTES.md, and what composing answers. The statement that covers the list is `CasesHold` of `Laws`.
use Rattle.std.specs.Prelude.{List, [], ◌∷◌, ℕ, None, Some, Result, Ok, Err}
use Prim.Native.String.{String}
use Rattle.listing.specs.Line.{ascii}
use Rattle.notes.specs.declared.Composed.{Composed}
use Rattle.notes.specs.declared.fault.Fault.TheVariants.{Return, Mark, Word, Numbers, OneWord, NoNumber, TooLarge, NoOrder, Misplaced, NinthStream}
use Rattle.notes.specs.declared.Composed.TheVariants.{Written, Streamless}
use Rattle.notes.specs.declared.Flaw.{Flaw}
use Rattle.notes.specs.declared.Flaw.TheVariants.{Wrong, Unfinished, Refused}
use Rattle.file.specs.declared.refusal.Refusal.TheVariants.{Room as NoRoom}
use Rattle.notes.specs.declared.Expected.TheVariants.{Worst, Span, Padding, OrderStreamOrEvent, StreamOrEvent, Event}

pub record Case : Type 0 where
  pub notes : List ℕ
  pub answer : Result Composed Flaw

abbrev pub gives : String → Result Composed Flaw → Case
gives notes answer = record { notes = ascii notes; answer = answer }

-- the same behind a byte order mark
abbrev pub marked : String → Result Composed Flaw → Case
marked notes answer = record { notes = 239 ∷ 187 ∷ 191 ∷ ascii notes; answer = answer }

unfoldable pub cases : List Case
cases =
    gives "" (Err (Unfinished Worst))
    ∷ gives "worst 1\nspan 1" (Err (Unfinished Padding))
    ∷ gives "worst 1\nspan 1\npadding 1" (Ok (Streamless 42 None))
    ∷ gives "\n# span comes second\nspan 1\nworst 1\npadding 1\n" (Err (Wrong 3 Misplaced Worst))
    ∷ gives "worst 1\nworst 1\n" (Err (Wrong 2 Misplaced Span))
    ∷ gives "worst 4294967295\nspan 1\npadding 1\n" (Ok (Streamless 42 None))
    ∷ gives "worst 4294967296\nspan 1\npadding 1\n" (Err (Wrong 1 (TooLarge 32) Worst))
    ∷ gives "worst 1\nspan 1\nstream 1 1\n" (Err (Wrong 3 Misplaced Padding))
    ∷ gives "worst 1\nspan 1\npadding 1\nstream 1\n" (Err (Wrong 4 (Numbers 2) OrderStreamOrEvent))
    ∷ gives "worst 1\nspan 1\npadding 1\nstream 1 1\nturn\nstream 1 1\n" (Err (Wrong 6 Misplaced Event))
    ∷ gives "worst 1\nspan 1\npadding 1\nstream 1 1\nstream 1 1\nstream 1 1\nstream 1 1\nstream 1 1\nstream 1 1\nstream 1 1\nstream 1 1\n" (Ok (Written 106))
    ∷ gives "worst 1\nspan 1\npadding 1\nstream 1 1\nstream 1 1\nstream 1 1\nstream 1 1\nstream 1 1\nstream 1 1\nstream 1 1\nstream 1 1\nstream 1 1\n" (Err (Wrong 12 NinthStream Event))
    ∷ gives "worst 1\nspan 1\npadding 1\narrival 255 18446744073709551615\n" (Ok (Streamless 58 (Some 4)))
    ∷ gives "arrival 256 1\n" (Err (Wrong 1 (TooLarge 8) Worst))
    ∷ gives "arrival 1 18446744073709551616\n" (Err (Wrong 1 (TooLarge 64) Worst))
    ∷ gives "worst 1\nspan 1\npadding 1\narrival 255 18446744073709551615 4294967295\n" (Ok (Streamless 58 (Some 4)))
    ∷ gives "worst 1\nspan 1\npadding 1\narrival 1 1 0\n" (Ok (Streamless 58 (Some 4)))
    ∷ gives "arrival 1 1 4294967296\n" (Err (Wrong 1 (TooLarge 32) Worst))
    ∷ gives "arrival 1 1 18446744073709551616\n" (Err (Wrong 1 (TooLarge 32) Worst))
    ∷ gives "arrival 1 18446744073709551616 1\n" (Err (Wrong 1 (TooLarge 64) Worst))
    ∷ gives "arrival 256 1 4294967296\n" (Err (Wrong 1 (TooLarge 8) Worst))
    ∷ gives "arrival 1 1 1,5\n" (Err (Wrong 1 NoNumber Worst))
    ∷ gives "arrival 1\n" (Err (Wrong 1 (Numbers 3) Worst))
    ∷ gives "arrival 1 1 1 1\n" (Err (Wrong 1 (Numbers 3) Worst))
    ∷ gives "arrival 1 1 1\n" (Err (Wrong 1 Misplaced Worst))
    ∷ gives "own 1 0 0\n" (Err (Wrong 1 (Numbers 2) Worst))
    ∷ gives "stream 1 1 1\n" (Err (Wrong 1 (Numbers 2) Worst))
    ∷ gives "worst 1\nspan 1\npadding 1\norder nearest\n" (Ok (Streamless 58 None))
    ∷ gives "worst 1\nspan 1\npadding 1\norder sweep\n" (Ok (Streamless 58 None))
    ∷ gives "worst 1\nspan 1\npadding 1\norder sweep\nstream 1 1\nturn\n" (Ok (Written 82))
    ∷ gives "worst 1\nspan 1\npadding 1\norder\n" (Err (Wrong 4 OneWord OrderStreamOrEvent))
    ∷ gives "worst 1\nspan 1\npadding 1\norder sweep 1\n" (Err (Wrong 4 OneWord OrderStreamOrEvent))
    ∷ gives "worst 1\nspan 1\npadding 1\norder left\n" (Err (Wrong 4 NoOrder OrderStreamOrEvent))
    ∷ gives "worst 1\nspan 1\npadding 1\norder 1\n" (Err (Wrong 4 NoOrder OrderStreamOrEvent))
    ∷ gives "worst 1\nspan 1\npadding 1\norder Sweep\n" (Err (Wrong 4 NoOrder OrderStreamOrEvent))
    ∷ gives "worst 1\nspan 1\npadding 1\norder nearestto\n" (Err (Wrong 4 NoOrder OrderStreamOrEvent))
    ∷ gives "worst 1\nspan 1\npadding 1\norder nearest\norder nearest\n" (Err (Wrong 5 Misplaced StreamOrEvent))
    ∷ gives "worst 1\nspan 1\norder nearest\npadding 1\n" (Err (Wrong 3 Misplaced Padding))
    ∷ gives "worst 1\nspan 1\npadding 1\nstream 1 1\norder nearest\n" (Err (Wrong 5 Misplaced StreamOrEvent))
    ∷ gives "worst 1\nspan 1\npadding 1\nturn\norder nearest\n" (Err (Wrong 5 Misplaced Event))
    ∷ gives "worst\t1\nspan 1\t\n\tpadding \t 1\n\t\n" (Ok (Streamless 42 None))
    ∷ gives "worst 1\r\nspan 1 \r\npadding 1# as the card says\r\n\r\nturn\r" (Ok (Streamless 58 (Some 5)))
    ∷ gives "turn\rturn\n" (Err (Wrong 1 Return Worst))
    ∷ gives "turn \r # sent\n" (Err (Wrong 1 Return Worst))
    ∷ gives "turn\r\r\n" (Err (Wrong 1 Return Worst))
    ∷ marked "worst 1\n" (Err (Wrong 1 Mark Worst))
    ∷ marked "# two streams\nworst 1\n" (Err (Wrong 1 Mark Worst))
    ∷ gives "worst 1\nspan 1\npadding 1\nturn\nTurn\n" (Err (Wrong 5 Word Event))
    ∷ gives "strem 1,5 1\n" (Err (Wrong 1 Word Worst))
    ∷ gives "clockwise 1\n" (Err (Wrong 1 Word Worst))
    ∷ gives "done 5,000\n" (Err (Wrong 1 NoNumber Worst))
    ∷ gives "stream 4294967296 x\n" (Err (Wrong 1 (TooLarge 32) Worst))
    ∷ gives "turn x\n" (Err (Wrong 1 (Numbers 0) Worst))
    ∷ gives "worst 1\nspan\n" (Err (Wrong 2 (Numbers 1) Span))
    ∷ gives "worst 1\nspan 1\npadding 1\nturn\nturn\n" (Ok (Streamless 74 (Some 4)))
    ∷ gives "worst 1\nspan 1\npadding 1\nstream 1 1\n\nturn\nturn\n" (Ok (Written 82))
    ∷ gives "worst 1\nspan 1\npadding 1\nturn\nturn\nturn\n" (Err (Refused NoRoom))
    ∷ []
