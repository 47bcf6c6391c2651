-- One name that opens all the rules, for what is proved by computing them.
use Prim.Native.Nat.{ℕ}
use Rattle.table.specs.Fold.{if, sum_to, smallest_to, all_to, some_to, list_to, count_to}
use Rattle.table.specs.Refusal.{given, ◌or_next◌, first_to, outside}
use Rattle.table.specs.Admission.{padding_of, granted_of, share_of, shares_of, smallest_period, load_of, numbers_refusal, stream_refusal, streams_refusal, admission_of}
use Rattle.table.specs.Whole.{eq_z, above_zero, below_zero, signed_sum_to}
use Rattle.table.specs.Margin.{margin_of, refusal_of, answered, answer_of}
use Rattle.time.specs.Latest.{rounded_down, latest_of}
use Rattle.time.specs.Exact.{less, same}
use Rattle.stream.specs.Stream.{slots, filled, micro_deadline, shifted, arrived, without, charged, lapsed, closed, moved, sound_row, sound_queue, sound_cells, sound_stream, zero_job, unused_stream, fresh_stream}
use Rattle.session.specs.Session.{horizon, some_filled, no_slot, latest, sound_disk, sound_rest, used_streams, remainders_of, sound_ahead, sound}
use Rattle.order.specs.Order.{distance, swept_before}
use Rattle.stream.specs.Choice.{first_best, leading, expires_first}
use Rattle.session.specs.Choice.{sent_before, chosen, expiring}
use Rattle.session.specs.Calls.{no_such_stream, busy, move_passes_end, call_refusal, refusal, turn_effect, effect, ruled, verdict, apply, overlong, late, reply_to, answer_to, after, line_of, lines_from}
use Rattle.session.specs.Opening.{opened_stream, fresh_session, zero_session, opening_of}

unfoldable pub rules : ℕ
unfolding if sum_to smallest_to all_to some_to list_to count_to given ◌or_next◌ first_to outside padding_of granted_of share_of shares_of smallest_period load_of numbers_refusal stream_refusal streams_refusal admission_of margin_of refusal_of above_zero below_zero eq_z signed_sum_to answered answer_of rounded_down latest_of slots filled less same micro_deadline shifted arrived without charged lapsed closed moved sound_row sound_queue sound_cells sound_stream zero_job unused_stream horizon some_filled no_slot latest sound_disk sound_rest used_streams remainders_of sound_ahead sound first_best distance swept_before leading sent_before chosen expires_first expiring no_such_stream busy move_passes_end call_refusal refusal turn_effect effect ruled verdict apply overlong late reply_to answer_to after line_of lines_from fresh_stream opened_stream fresh_session zero_session opening_of
rules = 0
