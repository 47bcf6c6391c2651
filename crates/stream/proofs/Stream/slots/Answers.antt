-- `Stream::slots` gives the number of slots: what is left of the room, in worst-case times.
use native.Mathlib.Nat.{mul_comm}
use Prim.Native.Nat.{◌-◌}
use Rattle.stream.specs.Stream.{slots}
use Rattle.stream.proofs.Stream.slots.Goals as goal

pub returns : goal.returns
unfolding slots
returns c =
    let x = c.args.self.now in
    rw (
      c.saturating_sub.ensures,
      c.times-used.ensures,
      c.times-room.ensures,
      c.since.ensures,
      mul_comm x.granted.0 (c.args.h.0 - x.release.0),
    )
