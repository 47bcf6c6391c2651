-- `Session::outlook` shows the horizon that is kept and the latest safe moment, of a sound session.
use mathlib.Core.Bool.{true}
use mathlib.Core.Path.{◌≡◌, ap₂, ◌∙◌}
use Rattle.table.specs.Fold.{if}
use Rattle.std.proofs.Common.{Option, Some}
use Rattle.time.specs.declared.Clock.{Clock}
use Rattle.session.specs.declared.searches.Outlook.{Outlook}
use Rattle.session.specs.Session.{sound}
use Rattle.session.proofs.Dues.{by_31, past_31}
use Rattle.session.proofs.Sound.{sound_of}
use Rattle.session.proofs.Session.outlook.Goals as goal

pub returns-then-not-is_sound : goal.returns-then-not-is_sound
unfolding if
returns-then-not-is_sound c = rw (by_31 _ _ c.is_sound.ensures c.if-not-is_sound.true)

pub returns : goal.returns
unfolding if
returns c =
    let s = c.args.self.now in
    let ok : sound s ≡ true = past_31 _ _ c.is_sound.ensures c.if-not-is_sound.false in
    let ahead : Clock → Clock → Option Outlook = λ h until. Some (record { horizon = h; latest = until }) in
    ap₂ ahead (sound_of s ok).ahead.horizon_is c.latest.ensures ∙ rw ok
