-- `make` hands on a file that lies within its buffer.
use Rattle.std.proofs.Common.{arith, sym, length-take-le}
use Rattle.file.proofs.Round.{written_is_within}
use Rattle.salvage.proofs.make.Goals as goal

pub slice_bounds-put-end : goal.slice_bounds-put-end
slice_bounds-put-end g c =
    sym (length-take-le c.in_ok-len.len c.write.new.out (omega (arith, c.write.auto.out, written_is_within _ _ _ _ _ _ (sym c.in_ok-len.ensures.value))))
