-- `Book::finished` gives the streams of a sound table, and else 31 and none.
use lib.ListN.{replicate}
use mathlib.Core.Path.{◌≡◌, sym, ◌∙◌}
use native.Mathlib.Omega.{arith}
use Rattle.std.proofs.lemmas.Grind.{common_steps}
use Rattle.table.specs.Fold.{if, list_to}
use Rattle.table.specs.Reservations.{no_record, records_of}
use Rattle.table.specs.Ranges.{streams_max}
use Rattle.booking.specs.Bookings.{finished_of}
use Rattle.booking.proofs.Sound.{sound_of}
use Rattle.booking.proofs.Book.finished.Goals as goal

pub records-requires : goal.records-requires
records-requires c =
    let s = sound_of _ (sym c.is_sound.ensures ∙ c.if-is_sound.true) in
    (s.first, s.second, s.count_high)

pub returns-then-is_sound : goal.returns-then-is_sound
unfolding finished_of if
returns-then-is_sound c = rw (sym c.is_sound.ensures ∙ c.if-is_sound.true, c.records.ensures)

pub returns : goal.returns
unfolding finished_of if records_of list_to
returns c =
    let none : c.default.result ≡ record { rows = replicate streams_max no_record; count = 0 } = grind (arith, common_steps) in
    rw (← c.if-is_sound.ensures, c.number.ensures, none)
