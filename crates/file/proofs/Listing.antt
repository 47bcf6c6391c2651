-- Listing (P), and a file of three entries, read and written by computing.
use mathlib.Core.Path.{refl}
use Rattle.table.specs.Fold.{if, list_to, all_to}
use Rattle.order.specs.Order.{order_of}
use Rattle.cells.specs.Cells.{cell, number_at}
use Rattle.file.specs.File.{third_body, entry, contents, stream_cells, table_body, event_cells, bytes_of, trace_of, file_of}
use Rattle.file.specs.Reading.{event_of, event_from, event_at, is_trace, form_in, column, table_at, is_entry, is_contents, is_laid_out, read_of}
use Rattle.file.specs.Laws.{ListingReads, SweepReads}

pub listing_reads : ListingReads
unfolding if list_to all_to cell number_at event_of event_from event_at is_trace entry contents stream_cells table_body event_cells bytes_of trace_of file_of column table_at is_entry is_contents is_laid_out read_of form_in order_of third_body
listing_reads = (refl, refl, refl, refl)

pub sweep_reads : SweepReads
unfolding if list_to all_to cell number_at event_of event_from event_at is_trace entry contents stream_cells table_body event_cells bytes_of trace_of file_of column table_at is_entry is_contents is_laid_out read_of form_in order_of third_body
sweep_reads = (refl, refl, refl, refl)
