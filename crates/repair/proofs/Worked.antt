-- The worked cases, by computation.
use mathlib.Core.Path.{refl}
use Rattle.table.specs.Fold.{if, list_to, join_to, count_to}
use Rattle.cells.specs.Cells.{cell, number_at}
use Rattle.file.specs.File.{entry, contents, stream_cells, table_body, third_body, file_of}
use Rattle.file.specs.Reading.{event_of, event_from, event_at, form_in, column, table_at, is_entry, is_contents, has_contents}
use Rattle.repair.specs.Salvage.{is_salvageable, is_kept, salvaged_file, contents_stay, trace_changes, changes_of}
use Rattle.repair.specs.Laws.{CasesHold, RoomCasesHold}

pub cases_hold : CasesHold
unfolding if list_to join_to count_to cell number_at entry contents stream_cells table_body third_body file_of event_of event_from event_at form_in column table_at is_entry is_contents has_contents is_salvageable is_kept salvaged_file contents_stay trace_changes changes_of
cases_hold = ((refl, refl, refl), (refl, refl, refl), (refl, refl, refl), (refl, refl, refl))

pub room_cases_hold : RoomCasesHold
unfolding if join_to count_to number_at event_of event_from event_at is_kept trace_changes
room_cases_hold = (refl, refl)
