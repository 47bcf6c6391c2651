-- The printed lines of document 01 and of a tally, by computing.
use mathlib.Core.Path.{refl}
use Rattle.listing.specs.Line.{ascii, digits, decimal, onward, rendered, header_fields, event_fields, worded_fields, refused_fields, tally_header_fields, tally_fields}
use Rattle.listing.specs.Cases.{cases}
use Rattle.listing.specs.Laws.{CasesHold}

pub cases_hold : CasesHold
unfolding ascii digits decimal onward rendered header_fields event_fields worded_fields refused_fields tally_header_fields tally_fields cases
cases_hold = refl
