-- `Session::send` takes a request out of its queue and stores it as the one at the disk.
use mathlib.Core.Path.{refl}
use Rattle.session.proofs.Outcomes.{sends}
use Rattle.session.proofs.Dues.{can_send}
use Rattle.session.proofs.Offsets.{offset_fits}
use Rattle.table.proofs.Loops.{next_fits}
use Rattle.session.proofs.Session.send.Goals as goal

pub offset_bounds-self-n : goal.offset_bounds-self-n
offset_bounds-self-n c = offset_fits _ _ (can_send c.requires).0 refl

pub bounds-self-n : goal.bounds-self-n
bounds-self-n c = (can_send c.requires).0

pub offset_bounds-x-index : goal.offset_bounds-x-index
offset_bounds-x-index c = offset_fits _ _ (can_send c.requires).1 refl

pub bounds-x-index : goal.bounds-x-index
bounds-x-index c = (can_send c.requires).1

pub offset_bounds-x-index-2 : goal.offset_bounds-x-index-2
offset_bounds-x-index-2 c = offset_fits _ _ (can_send c.requires).1 refl

pub bounds-x-index-2 : goal.bounds-x-index-2
bounds-x-index-2 c = (can_send c.requires).1

pub without-requires : goal.without-requires
without-requires c = let x = can_send c.requires in (x.1, x.2)

pub offset_bounds-self-n-2 : goal.offset_bounds-self-n-2
offset_bounds-self-n-2 c = offset_fits _ _ (can_send c.requires).0 refl

pub bounds-self-n-2 : goal.bounds-self-n-2
bounds-self-n-2 c = (can_send c.requires).0

pub overflow_add-self : goal.overflow_add-self
overflow_add-self c = next_fits _ (can_send c.requires).0

pub overflow_add-result : goal.overflow_add-result
overflow_add-result c = next_fits _ (can_send c.requires).0

pub returns : goal.returns
returns c = sends _ _ _ _ c.without.ensures
