-- `Session::append` stores the stream with one request more.
use mathlib.Core.Path.{refl}
use Rattle.session.proofs.Outcomes.{appends}
use Rattle.session.proofs.Dues.{can_append}
use Rattle.session.proofs.Offsets.{offset_fits}
use Rattle.table.proofs.Loops.{next_fits}
use Rattle.session.proofs.Session.append.Goals as goal

pub offset_bounds-self-n : goal.offset_bounds-self-n
offset_bounds-self-n c = offset_fits _ _ (can_append c.requires).0 refl

pub bounds-self-n : goal.bounds-self-n
bounds-self-n c = (can_append c.requires).0

pub arrived-y-requires : goal.arrived-y-requires
arrived-y-requires c = (can_append c.requires).1

pub offset_bounds-self-n-2 : goal.offset_bounds-self-n-2
offset_bounds-self-n-2 c = offset_fits _ _ (can_append c.requires).0 refl

pub bounds-self-n-2 : goal.bounds-self-n-2
bounds-self-n-2 c = (can_append c.requires).0

pub overflow_add-result : goal.overflow_add-result
overflow_add-result c = next_fits _ (can_append c.requires).0

pub returns : goal.returns
returns c = appends _ _ _ _ _ c.arrived-y.ensures
