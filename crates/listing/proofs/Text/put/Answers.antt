-- `put` stores a run behind the line so far.
use native.Mathlib.Omega.{arith}
use mathlib.Core.Path.{ap}
use Prim.Native.Nat.{◌+◌, ◌≤◌}
use lib.ListN.{length}
use Rattle.listing.specs.Line.{text_size}
use Rattle.listing.proofs.Texts.{line_length, run_kept}
use Rattle.listing.proofs.Text.put.Goals as goal

pub invariant_of-self : goal.invariant_of-self
invariant_of-self c =
    let s = c.self in
    let room : s.inside.len + length c.args.run.now ≤ text_size = omega (arith, line_length s.inside s.told s.invariant, ap length s.view_is) in
    rw c.copy_from_slice.ensures.after (run_kept s.inside c.args.run.now s.told room s.invariant)
