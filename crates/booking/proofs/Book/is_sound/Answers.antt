-- `Book::is_sound` tests the cells, the number of streams, 2 to 7, and both limits: the shares are judged where these are passed.
use mathlib.Core.Bool.{true, false, ◌&&◌}
use mathlib.Core.Path.{◌≡◌, sym, ◌∙◌, ap₂}
use Prim.Native.Nat.{◌≤◌, ◌<◌}
use lib.Dec.{eqb}
use borrow.Author.Tests.{le-leb, lt-leb, ne_eqb}
use Rattle.table.specs.Ranges.{streams_max}
use Rattle.table.proofs.Tests.{both}
use Rattle.table.proofs.Margins.{refused_some, refused_none}
use Rattle.booking.specs.Book.{count_in, sound_cells, table_refusal, keeps_limit, is_sound}
use Rattle.booking.specs.declared.Book.{Book}
use Rattle.booking.proofs.Cells.{cells_of}
use Rattle.booking.proofs.Sound.{desks_judged}
use Rattle.booking.proofs.Book.is_sound.Goals as goal
use Rattle.booking.proofs.Book.is_sound.Goals.{Else-count-gt-STREAMS_MAX, Else-not-is_sound}

-- what is said where a test fails
module _ (b : Book) where
  at_cells : (sound_cells b.first && sound_cells b.second) ≡ false → is_sound b ≡ false
  unfolding is_sound
  at_cells fails = rw fails

  module _ (cells : (sound_cells b.first ≡ true) × (sound_cells b.second ≡ true)) where
    at_count : streams_max < count_in b → is_sound b ≡ false
    unfolding is_sound
    at_count many = rw (cells.0, cells.1, lt-leb (count_in b) streams_max many)

    at-refusal : count_in b ≤ streams_max → (table_refusal b ≡ 0 → ⊥) → is_sound b ≡ false
    unfolding is_sound
    at-refusal few some = rw (cells.0, cells.1, le-leb (count_in b) streams_max few, ne_eqb (table_refusal b) 0 some)

    at-limits : count_in b ≤ streams_max → table_refusal b ≡ 0 → is_sound b ≡ (keeps_limit b b.first && keeps_limit b b.second && eqb b.unused 0)
    unfolding is_sound
    at-limits few none = rw (cells.0, cells.1, le-leb (count_in b) streams_max few, none)

pub returns-then-not-is_sound : goal.returns-then-not-is_sound
returns-then-not-is_sound c =
    sym (at_cells _ (ap₂ ◌&&◌ (sym c.is_sound.ensures) (sym c.is_sound-2.ensures) ∙ c.if-not-is_sound.true))

-- past the first test the cells of both desks are sound
cells-pass : (c : Else-not-is_sound) → (sound_cells c.args.self.first ≡ true) × (sound_cells c.args.self.second ≡ true)
cells-pass c =
    let pass = both _ _ c.if-not-is_sound.false in
    (sym c.is_sound.ensures ∙ pass.0, sym c.is_sound-2.ensures ∙ pass.1)

pub count-requires : goal.count-requires
count-requires c = ((cells_of _ (cells-pass c).0).count_high, (cells_of _ (cells-pass c).1).count_high)

pub returns-then-count-gt-STREAMS_MAX : goal.returns-then-count-gt-STREAMS_MAX
returns-then-count-gt-STREAMS_MAX c = sym (at_count _ (cells-pass c.before.before) (rw c.count.ensures at c.if-count-gt-STREAMS_MAX.true))

-- past the second test there are at most eight streams
few : (c : Else-count-gt-STREAMS_MAX) → count_in c.args.self ≤ streams_max
few c = rw c.count.ensures at c.if-count-gt-STREAMS_MAX.false

pub returns-then-is_err : goal.returns-then-is_err
returns-then-is_err c =
    let some = refused_some c.table_refusal.result (sym c.if-is_err.ensures.value) in
    sym (at-refusal _ (cells-pass c.before.before.before.before.before.before) (few c.before.before.before.before) (λ none. some (c.table_refusal.ensures ∙ none)))

pub returns : goal.returns
unfolding keeps_limit
returns c =
    let cells = cells-pass c.before.before.before.before.before.before.before.before.before.before.before in
    let small = few c.before.before.before.before.before.before.before.before.before in
    let none = sym c.table_refusal.ensures ∙ refused_none c.table_refusal.result (sym c.if-is_err.ensures.value) in
    let judged = desks_judged _ cells.0 cells.1 small none in
    rw (at-limits _ cells small none, ← judged.0, ← judged.1, ← c.shares.ensures, ← c.shares-2.ensures)
