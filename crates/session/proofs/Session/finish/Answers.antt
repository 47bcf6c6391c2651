-- `Session::finish` charges the stream that was served, takes that off the sum, and frees the disk.
use mathlib.Core.Path.{refl, sym, ◌∙◌}
use Rattle.session.proofs.Outcomes.{finishes_overlong, finishes}
use Rattle.session.proofs.Dues.{grounds, can_finish, can_charge}
use Rattle.session.proofs.Sound.{sound_of}
use Rattle.session.proofs.Offsets.{offset_fits}
use Rattle.table.proofs.Loops.{next_fits}
use Rattle.session.proofs.Session.finish.Goals as goal

pub after-self-requires : goal.after-self-requires
after-self-requires c = let x = can_finish c.requires in (x.2, x.3)

pub offset_bounds-self-n : goal.offset_bounds-self-n
offset_bounds-self-n c = offset_fits _ _ (can_finish c.requires).0 refl

pub bounds-self-n : goal.bounds-self-n
bounds-self-n c = (can_finish c.requires).0

pub charged-y-requires : goal.charged-y-requires
charged-y-requires c = let x = can_finish c.requires in (x.1, x.3)

pub less-sum-requires : goal.less-sum-requires
less-sum-requires c =
    can_charge c.args.self c.requires.ok c.args.taken (can_finish c.requires).4

pub offset_bounds-self-n-2 : goal.offset_bounds-self-n-2
offset_bounds-self-n-2 c = offset_fits _ _ (can_finish c.requires).0 refl

pub bounds-self-n-2 : goal.bounds-self-n-2
bounds-self-n-2 c = (can_finish c.requires).0

pub overflow_add-stream : goal.overflow_add-stream
overflow_add-stream c = next_fits _ (can_finish c.requires).0

pub returns-then-is_over : goal.returns-then-is_over
returns-then-is_over c =
    finishes_overlong _ (sound_of _ c.requires.ok) _ (grounds c.requires).exists _ _ _ _ c.charged-y.ensures c.less-sum.ensures c.after-self.ensures (sym c.is_over.ensures ∙ c.if-is_over.true)

pub returns-else-is_over : goal.returns-else-is_over
returns-else-is_over c =
    finishes _ (sound_of _ c.requires.ok) _ (grounds c.requires).exists _ _ _ _ c.charged-y.ensures c.less-sum.ensures c.after-self.ensures (sym c.is_over.ensures ∙ c.if-is_over.false)
