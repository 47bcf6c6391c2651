-- What is said of a session file, as numbers.
use Rattle.std.specs.Prelude.{◌&&◌, List, ℕ, Result, Ok, Err}
use Rattle.table.specs.Fold.{if}
use Rattle.table.specs.declared.Table.{Table}
use Rattle.order.specs.Order.{order_number, is_order, order_of}
use Rattle.file.specs.File.{third_length, is_third_length, form_of_third}
use Rattle.file.specs.Refusal.{refusal_number}
use Rattle.file.specs.Writing.{write_of, written_on}
use Rattle.file.specs.declared.Layout.{Layout}
use Rattle.file.specs.declared.refusal.Refusal.{Refusal}
use Rattle.file.specs.declared.refusal.Refusal.TheVariants.{Layout as NotLaidOut}
use Rattle.shelf.specs.declared.images.Filed.{Filed}
use Rattle.shelf.specs.declared.images.Wrote.{Wrote}

-- where the parts of a file are, its order, and the length of its third body, by which it is written again with as many entries as it had
abbrev pub read_as : Result Layout Refusal → Filed
read_as (Ok l) =
    record { number = 0; count = l.count; start = l.start; end = l.end; events = l.events; order = order_number l.order; third = third_length l.form }
read_as (Err r) = record { number = refusal_number r; count = 0; start = 0; end = 0; events = 0; order = 0; third = 0 }

abbrev pub written_as : Result ℕ Refusal → Wrote
written_as (Ok n) = record { number = 0; length = n }
written_as (Err r) = record { number = refusal_number r; length = 0 }

-- What writing answers with the number of an order and the length of a third body, and the buffer afterwards. "another value [..] is 16"
unfoldable pub wrote_as : Table → ℕ → ℕ → List ℕ → List ℕ → Wrote
wrote_as t order third trace out =
    if (is_order order && is_third_length third)
    (written_as (write_of (form_of_third third) (order_of order) t trace out))
    (written_as (Err NotLaidOut))

unfoldable pub wrote_on : Table → ℕ → ℕ → List ℕ → List ℕ → List ℕ
wrote_on t order third trace out =
    if (is_order order && is_third_length third) (written_on (form_of_third third) (order_of order) t trace out) out
