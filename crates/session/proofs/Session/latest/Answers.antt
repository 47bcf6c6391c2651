-- `Session::latest` gives what a sound session is told, which is the latest safe moment.
use mathlib.Core.Path.{refl, sym, subst, ◌∙◌}
use Rattle.std.proofs.Common.{Option}
use Rattle.std.specs.Option.{IsSome}
use Rattle.time.specs.declared.Clock.{Clock}
use Rattle.session.proofs.Sound.{sound_of}
use Rattle.session.proofs.Latest.{asked_is, told_is}
use Rattle.session.proofs.Session.latest.Goals as goal

pub unwrap-requires : goal.unwrap-requires
unwrap-requires c = subst (λ (o : Option Clock). IsSome o) (sym (c.asked.ensures ∙ asked_is _ (sound_of _ c.requires))) refl

pub returns : goal.returns
returns c = told_is _ c.requires _ (sym c.asked.ensures ∙ c.unwrap.ensures)
