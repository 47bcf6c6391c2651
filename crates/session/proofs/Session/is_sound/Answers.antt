-- `Session::is_sound` looks at the used streams, at the unused ones, and then at the clock and the disk: each way out cites what decides there.
use mathlib.Core.Bool.{true, false, not, ◌&&◌}
use mathlib.Core.Path.{◌≡◌, refl, sym, ◌∙◌}
use Prim.Native.Nat.{◌-◌, ◌≤◌, ◌<◌}
use native.Mathlib.Omega.{arith}
use lib.Dec.{leb}
use lib.ListN.{length, length-map, take, drop}
use borrow.Author.Rules.{rules}
use borrow.Author.Tests.{tests as facts}
use Rattle.std.proofs.lemmas.Iterator.{cases_from_all, YieldsList-from_slice}
use Rattle.std.proofs.lemmas.List.{length-drop, take_all}
use Rattle.table.proofs.Judged.{numbers_of}
use Rattle.stream.specs.Stream.{unused_stream}
use Rattle.stream.specs.contracts.Stream as Cells
use Rattle.session.specs.Session.{table_of}
use Rattle.session.proofs.Offsets.{offset_fits}
use Rattle.session.proofs.Counted.{CountedTo, not_sound, counted_to, counted_fails, judgeable}
use Rattle.session.proofs.Judging.{Looked, looks, tests, refused, idle_decides, at_disk, can_have, busy_decides}
use Rattle.session.proofs.Session.is_sound.Goals as goal
use Rattle.session.proofs.Session.is_sound.Goals.{In-Some, After-all-unused, After-is_past_end-in_time, Else-not-unused-streams}

pub returns-in_default : goal.returns-in_default
returns-in_default c =
    let s = c.args.self.now in
    sym (not_sound s (counted_fails s s.count (omega arith) (sym c.census.ensures ∙ c.in_default.is)))

counted : (c : In-Some) → CountedTo c.args.self.now c.in-Some.census c.args.self.now.count
counted c = counted_to _ _ _ (sym c.census.ensures ∙ c.in-Some.is)

few : (c : In-Some) → c.args.self.now.count ≤ 8
few c = (numbers_of (table_of c.args.self.now) (counted c).passed.numbers).count_high

pub offset_bounds-self-self : goal.offset_bounds-self-self
offset_bounds-self-self c =
    let le = few (goal.at.offset_bounds-self-self c).In-Some in
    let l : c.args.self.now.count < 9 = omega (arith, le) in
    offset_fits _ _ l refl

pub slice_bounds-iter-count : goal.slice_bounds-iter-count
slice_bounds-iter-count c = few (goal.at.slice_bounds-iter-count c).In-Some

pub slice_bounds-iter-start : goal.slice_bounds-iter-start
slice_bounds-iter-start c = let le = few (goal.at.slice_bounds-iter-start c).In-Some in search rules

pub is_sound-streams-requires : goal.is_sound-streams-requires
is_sound-streams-requires c = judgeable _ _ (counted (goal.at.is_sound-streams-requires c).In-Some)

looked : (c : After-all-unused) → Looked c.args.self.now c.in-Some.census c.all-unused.result
looked c =
    let s = c.args.self.now in
    let counts = counted_to _ _ _ (sym c.census.ensures ∙ c.in-Some.is) in
    let high = (numbers_of (table_of s) counts.passed.numbers).count_high in
    let eight : length s.streams ≡ 8 = omega (arith, c.well_formed, length-map s.streams (Cells.the_type).to) in
    let rest : take (8 - s.count) (drop s.count s.streams) ≡ drop s.count s.streams = take_all (8 - s.count) (drop s.count s.streams) (omega (arith, eight, length-drop s.count s.streams)) in
    looks s _ counts eight high _
    (cases_from_all _ _ _ (λ x. unused_stream x ≡ true) (λ x. unused_stream x ≡ false) c.all-unused.ensures.ran (YieldsList-from_slice (drop s.count s.streams) (c.iter.ensures.rest ∙ rest))
    (λ x q k. search (rules, facts))
    (λ x q k. search (rules, facts)))

-- the tests that the code makes
tests_are : (c : After-is_past_end-in_time)
    → (c.all-unused.result && c.is_sound-streams.result && not c.is_past_end-in_time.result && leb c.args.self.now.served c.args.self.now.count)
    ≡ tests c.args.self.now c.in-Some.census c.all-unused.result
tests_are c = rw (c.is_sound-streams.ensures, c.is_past_end-in_time.ensures)

pub returns-then-not-unused-streams : goal.returns-then-not-unused-streams
returns-then-not-unused-streams c =
    let at = goal.at.returns-then-not-unused-streams c in
    sym (refused (looked at.After-all-unused) (sym (tests_are at.After-is_past_end-in_time) ∙ c.if-not-unused-streams.true))

passes : (c : Else-not-unused-streams) → tests c.args.self.now c.in-Some.census c.all-unused.result ≡ true
passes c = rw (← c.is_sound-streams.ensures, ← c.is_past_end-in_time.ensures) c.if-not-unused-streams.false

pub returns-then-self-eq0 : goal.returns-then-self-eq0
returns-then-self-eq0 c =
    let at = goal.at.returns-then-self-eq0 c in
    idle_decides (looked at.After-all-unused) (passes at.Else-not-unused-streams) c.if-self-eq0.true

pub offset_bounds-self-self-2 : goal.offset_bounds-self-self-2
offset_bounds-self-self-2 c =
    let at = goal.at.offset_bounds-self-self-2 c in
    offset_fits _ _ (at_disk (looked at.After-all-unused) (passes at.Else-not-unused-streams) c.if-self-eq0.false) refl

pub bounds-self-self : goal.bounds-self-self
bounds-self-self c =
    let at = goal.at.bounds-self-self c in
    at_disk (looked at.After-all-unused) (passes at.Else-not-unused-streams) c.if-self-eq0.false

pub slots-requires : goal.slots-requires
slots-requires c =
    let at = goal.at.slots-requires c in
    can_have (looked at.After-all-unused) (passes at.Else-not-unused-streams) c.if-self-eq0.false

pub returns : goal.returns
returns c =
    let at = goal.at.returns c in
    busy_decides (looked at.After-all-unused) (passes at.Else-not-unused-streams) c.if-self-eq0.false _ c.slots.ensures
