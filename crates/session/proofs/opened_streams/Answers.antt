use mathlib.Core.Path.{◌≡◌, refl, sym, ◌∙◌}
use Prim.Native.Nat.{ℕ, ◌≤◌, ◌<◌}
use native.Mathlib.Omega.{arith}
use lib.ListN.{get_or-replicate}
use lib.Seq.{get_or-set_other}
use borrow.Author.Tests.{le-ltb}
use Rattle.table.specs.Fold.{if, list_to}
use Rattle.table.specs.declared.Table.{Table}
use Rattle.table.proofs.Lists.{filled_more, filled_all, filled_on}
use Rattle.stream.specs.Stream.{fresh_stream}
use Rattle.session.specs.Session.{no_stream}
use Rattle.session.specs.Opening.{opened_stream}
use Rattle.session.proofs.opened_streams.Goals as goal

pub loop-i-init : goal.loop-i-init
unfolding list_to
loop-i-init c = (omega arith, record { cells = refl; front = refl }, λ j low l. get_or-replicate 8 j _ no_stream l ∙ c.fresh-unused.ensures)

pub loop-i-preserved : goal.loop-i-preserved
loop-i-preserved c =
    let at = c.loop-i in
    let t = c.args.t.now in
    let l : at.i < 8 = omega (arith, c.requires) in (
      omega arith,
      rw c.opened_stream.ensures (filled_more (opened_stream t) at.streams at.i 8 l at.invariant.1),
      λ j low m. get_or-set_other at.streams at.i j _ no_stream (λ e. omega arith) ∙ at.invariant.2 j (omega arith) m,
    )

-- past the count the definition has zeros
past-count : (t : Table) (j : ℕ) → t.count ≤ j → opened_stream t j ≡ fresh_stream 0 0 0
unfolding opened_stream if
past-count t j le = rw (le-ltb j t.count le)

pub returns : goal.returns
returns c =
    let at = c.loop-i in
    let t = c.args.t.now in
    filled_all (opened_stream t) at.streams 8
    (filled_on (opened_stream t) at.streams no_stream at.i 8 (omega (arith, c.requires))
    (λ j low l. at.invariant.2 j low l ∙ sym (past-count t j (omega arith))) at.invariant.1)
