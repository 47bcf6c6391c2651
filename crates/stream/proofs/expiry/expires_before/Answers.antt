-- `expires_before` compares exact moments, which are the fractions of the rules (`pace_is`).
use mathlib.Core.Bool.{Bool, ◌&&◌, ◌||◌}
use mathlib.Core.Path.{◌≡◌, ap, ◌∙◌}
use lib.Dec.{ltb}
use borrow.Author.Rules.{rules}
use Rattle.time.specs.Exact.{Fraction, less, same, paced, fraction_of}
use Rattle.stream.specs.Choice.{expiry_of, expires_first}
use Rattle.stream.proofs.Fits.{pace_is}
use Rattle.stream.proofs.expiry.expires_before.Goals as goal

pub returns : goal.returns
unfolding expires_first
returns c =
    let a = c.args.a.now in
    let b = c.args.b.now in
    let first : Fraction → Fraction → Bool = λ x y. less x y || (same x y && ltb a.deadline.0 b.deadline.0) in
    let due : c.lt-due.result ≡ ltb a.deadline.0 b.deadline.0 = search rules in
    rw (c.is.ensures, c.is_before.ensures, due, c.paced-of_a.ensures, c.paced-of_b.ensures)
    (ap (λ (x : Fraction). first x (fraction_of (paced b.release.0 b.charge.0 b.period b.granted.0))) (pace_is c.requires.2)
    ∙ ap (first (expiry_of a)) (pace_is c.requires.3))
