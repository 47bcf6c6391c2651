-- The worked cases, by computation.
use mathlib.Core.Path.{refl}
use Rattle.table.specs.Fold.{if, sum_to, smallest_to, all_to, list_to}
use Rattle.table.specs.Refusal.{given, ◌or_next◌, outside, first_to}
use Rattle.table.specs.Admission.{padding_of, granted_of, share_of, shares_of, smallest_period, load_of, numbers_refusal, stream_refusal, streams_refusal, admission_of, parts_refusal, judged_load}
use Rattle.table.specs.Reservations.{records_of, table_of_records}
use Rattle.booking.specs.Book.{desk_of, with_desk, keeps_limit, empty_cell, sound_cells, table_refusal, is_sound}
use Rattle.booking.specs.Bookings.{begun_of, with_stream, without_stream, desk_refusal, add_refusal, withdraw_refusal, add_of, withdraw_of}
use Rattle.booking.specs.Cases.{told, limit_cases, number_cases, order_cases, known_cases}
use Rattle.booking.specs.Laws.{LimitCasesHold, NumberCasesHold, OrderCasesHold, KnownCasesHold}

pub limit_cases_hold : LimitCasesHold
unfolding if sum_to smallest_to all_to list_to given ◌or_next◌ outside first_to padding_of granted_of share_of shares_of smallest_period load_of numbers_refusal stream_refusal streams_refusal admission_of parts_refusal judged_load records_of table_of_records desk_of with_desk keeps_limit empty_cell sound_cells table_refusal is_sound begun_of with_stream without_stream desk_refusal add_refusal withdraw_refusal add_of withdraw_of told limit_cases
limit_cases_hold = refl

pub number_cases_hold : NumberCasesHold
unfolding if sum_to smallest_to all_to list_to given ◌or_next◌ outside first_to padding_of granted_of share_of shares_of smallest_period load_of numbers_refusal stream_refusal streams_refusal admission_of parts_refusal judged_load records_of table_of_records desk_of with_desk keeps_limit empty_cell sound_cells table_refusal is_sound begun_of with_stream without_stream desk_refusal add_refusal withdraw_refusal add_of withdraw_of told number_cases
number_cases_hold = refl

pub order_cases_hold : OrderCasesHold
unfolding if sum_to smallest_to all_to list_to given ◌or_next◌ outside first_to padding_of granted_of share_of shares_of smallest_period load_of numbers_refusal stream_refusal streams_refusal admission_of parts_refusal judged_load records_of table_of_records desk_of with_desk keeps_limit empty_cell sound_cells table_refusal is_sound begun_of with_stream without_stream desk_refusal add_refusal withdraw_refusal add_of withdraw_of told order_cases
order_cases_hold = refl

pub known_cases_hold : KnownCasesHold
unfolding if sum_to smallest_to all_to list_to given ◌or_next◌ outside first_to padding_of granted_of share_of shares_of smallest_period load_of numbers_refusal stream_refusal streams_refusal admission_of parts_refusal judged_load records_of table_of_records desk_of with_desk keeps_limit empty_cell sound_cells table_refusal is_sound begun_of with_stream without_stream desk_refusal add_refusal withdraw_refusal add_of withdraw_of told known_cases
known_cases_hold = refl
