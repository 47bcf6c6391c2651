-- The worked cases, by computation.
use mathlib.Core.Path.{refl}
use Rattle.table.specs.Fold.{if, sum_to, smallest_to, all_to, list_to}
use Rattle.table.specs.Refusal.{given, ◌or_next◌, outside, first_to}
use Rattle.table.specs.Admission.{padding_of, granted_of, share_of, shares_of, smallest_period, load_of, numbers_refusal, stream_refusal, streams_refusal, admission_of, parts_refusal, judged_load}
use Rattle.table.specs.Reservations.{records_of, table_of_records}
use Rattle.file.specs.Reading.{event_at}
use Rattle.listing.specs.Line.{ascii, digits, decimal, onward, rendered, worded_fields}
use Rattle.listing.specs.Laws.{spelt_after}
use Rattle.notes.specs.Draft.{held_after}
use Rattle.notes.specs.Line.{stream_at, after_head, line_at, shown_to}
use Rattle.notes.specs.Words.{unreturned, uncommented, words_after, all_of, is_name, is_number}
use Rattle.booking.specs.Book.{desk_of, with_desk, keeps_limit, empty_cell, sound_cells, table_refusal, is_sound}
use Rattle.booking.specs.Bookings.{begun_of, with_stream, without_stream, desk_refusal, add_refusal, withdraw_refusal, add_of, withdraw_of, finished_of}
use Rattle.ledger.specs.Ledger.{lines_after, judged_from, finished_notes, printed_from}
use Rattle.ledger.specs.Cases.{line_cases, file_cases, print_cases}
use Rattle.ledger.specs.Laws.{CasesHold}

pub cases_hold : CasesHold
unfolding if sum_to smallest_to all_to list_to given ◌or_next◌ outside first_to padding_of granted_of share_of shares_of smallest_period load_of numbers_refusal stream_refusal streams_refusal admission_of parts_refusal judged_load records_of table_of_records event_at ascii digits decimal onward rendered worded_fields spelt_after held_after stream_at after_head line_at shown_to unreturned uncommented words_after all_of is_name is_number desk_of with_desk keeps_limit empty_cell sound_cells table_refusal is_sound begun_of with_stream without_stream desk_refusal add_refusal withdraw_refusal add_of withdraw_of finished_of lines_after judged_from finished_notes printed_from line_cases file_cases print_cases
cases_hold = (refl, refl, refl)
