-- Listing (P), run by computing.
use mathlib.Core.Path.{refl}
use Rattle.table.specs.Fold.{if, list_to, all_to}
use Rattle.cells.specs.Cells.{number_at}
use Rattle.session.proofs.Rules.{rules}
use Rattle.order.specs.Order.{order_of}
use Rattle.file.specs.Reading.{form_in, event_of, event_from, event_at, is_trace, column, table_at, is_entry, is_contents, is_laid_out}
use Rattle.listing.specs.Line.{ascii, digits, decimal, onward, rendered, header_fields, event_fields, refused_fields}
use Rattle.trace.specs.Trace.{called, applied, printed_from, run_of, listing_of}
use Rattle.trace.specs.Laws.{ListingPrints}

pub listing_prints : ListingPrints
unfolding rules if list_to all_to number_at order_of form_in event_of event_from event_at is_trace column table_at is_entry is_contents is_laid_out ascii digits decimal onward rendered header_fields event_fields refused_fields called applied printed_from run_of listing_of
listing_prints = refl
