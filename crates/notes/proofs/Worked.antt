-- Listing (P), a file with an order, and the cases, composed by computing.
use mathlib.Core.Path.{refl}
use Rattle.table.specs.Fold.{if, all_to}
use Rattle.table.specs.Refusal.{given, ◌or_next◌}
use Rattle.cells.specs.Cells.{cell, number_at}
use Rattle.file.specs.File.{third_body, entry, contents, stream_cells, table_body, event_cells, bytes_of, file_of}
use Rattle.file.specs.Reading.{event_of, event_from, event_at, is_trace}
use Rattle.file.specs.Writing.{is_writable, write_refusal, write_of, written_on, is_storable, put_refusal, with_event}
use Rattle.listing.specs.Line.{ascii}
use Rattle.notes.specs.Draft.{held_after, takes_name, lengthens, lettered, valued, in_field, begun, after_gap, after_field}
use Rattle.notes.specs.Line.{word_line, order_line, table_line, number_line, stream_line, pair_line, triple_line, fields_line}
use Rattle.notes.specs.Numbers.{is_known, takes, fits, first_of, room_at}
use Rattle.notes.specs.Heard.{field_with, is_marked, heard_in, heard_with}
use Rattle.notes.specs.Fault.{stream_fault, event_fault, count_fault, field_fault, value_fault, fault_of}
use Rattle.notes.specs.Notes.{next_line, after_number, takes_order, after_order, after_stream, began_by, after_event, expected_by, refused_by, line_ended, byte_read, bytes_read, written_by, filed_by}
use Rattle.notes.specs.Laws.{ListingComposes, CasesHold}
use Rattle.notes.specs.Cases.{cases}

pub listing_composes : ListingComposes
unfolding if all_to given ◌or_next◌ cell number_at third_body entry contents stream_cells table_body event_cells bytes_of file_of event_of event_from event_at is_trace is_writable write_refusal write_of written_on is_storable put_refusal with_event ascii takes_name lengthens lettered valued in_field begun after_gap after_field held_after word_line order_line table_line number_line stream_line pair_line triple_line fields_line next_line after_number takes_order after_order after_stream began_by after_event expected_by refused_by line_ended byte_read bytes_read written_by filed_by
listing_composes = (refl, refl)

pub cases_hold : CasesHold
unfolding if all_to given ◌or_next◌ cell number_at third_body entry contents stream_cells table_body event_cells bytes_of file_of event_of event_from event_at is_trace is_writable write_refusal write_of written_on is_storable put_refusal with_event ascii takes_name lengthens lettered valued in_field begun after_gap after_field held_after word_line order_line table_line number_line stream_line pair_line triple_line fields_line next_line after_number takes_order after_order after_stream began_by after_event expected_by refused_by line_ended byte_read bytes_read written_by filed_by is_known takes fits first_of room_at field_with is_marked heard_in heard_with stream_fault event_fault count_fault field_fault value_fault fault_of cases
cases_hold = refl
