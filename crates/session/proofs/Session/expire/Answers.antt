-- `Session::expire` stores the stream with one slot less, and takes W off the sum.
use mathlib.Core.Path.{◌≡◌, refl, ap}
use Rattle.session.proofs.Outcomes.{expires}
use Rattle.session.proofs.Dues.{grounds, can_expire, can_charge}
use Rattle.session.proofs.Sound.{sound_of}
use Rattle.time.specs.declared.Charge.{Charge}
use Rattle.session.proofs.Offsets.{offset_fits}
use Rattle.table.proofs.Loops.{next_fits}
use Rattle.session.proofs.Session.expire.Goals as goal

pub offset_bounds-self-n : goal.offset_bounds-self-n
offset_bounds-self-n c = offset_fits _ _ (can_expire c.requires).0 refl

pub bounds-self-n : goal.bounds-self-n
bounds-self-n c = (can_expire c.requires).0

pub lapsed-y-requires : goal.lapsed-y-requires
lapsed-y-requires c = let x = can_expire c.requires in (x.1, x.2)

pub less-self-requires : goal.less-self-requires
less-self-requires c =
    let lost-is : c.of-lost.result.0 ≡ c.args.self.worst = ap (λ (d : Charge). d.0) c.of-lost.ensures in
    can_charge c.args.self c.requires.ok _ (rw lost-is (can_expire c.requires).3)

pub offset_bounds-self-n-2 : goal.offset_bounds-self-n-2
offset_bounds-self-n-2 c = offset_fits _ _ (can_expire c.requires).0 refl

pub bounds-self-n-2 : goal.bounds-self-n-2
bounds-self-n-2 c = (can_expire c.requires).0

pub overflow_add-result : goal.overflow_add-result
overflow_add-result c = next_fits _ (can_expire c.requires).0

pub returns : goal.returns
returns c =
    let lost-is : c.of-lost.result.0 ≡ c.args.self.worst = ap (λ (d : Charge). d.0) c.of-lost.ensures in
    expires _ (sound_of _ c.requires.ok) _ (grounds c.requires).exists _ _ c.lapsed-y.ensures (rw lost-is at c.less-self.ensures)
