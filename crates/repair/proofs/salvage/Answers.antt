-- `salvage` judges and measures before it puts anything: each way out is a law of `Salvaging`.
use mathlib.Core.Path.{◌≡◌, refl, sym, ◌∙◌}
use mathlib.Core.List.{List}
use Prim.Native.Nat.{ℕ, ◌+◌, ◌*◌, ◌^◌, ◌≤◌, ◌<◌}
use native.Mathlib.Omega.{arith}
use borrow.Author.Rules.{rules}
use lib.Dec.{ltb}
use lib.ListN.{length}
use borrow.Author.Tests.{ltb-false}
use Rattle.table.proofs.Tests.{neither}
use Rattle.file.specs.File.{events_max, event_size}
use Rattle.file.specs.Reading.{trace_start, trace_in}
use Rattle.repair.specs.Salvage.{kept_count, salvaged_file, contents_stay, list_from, changes_of}
use Rattle.repair.proofs.Kept.{kept_few, outlined, trace_length, salvaged_length}
use Rattle.repair.proofs.Refused.{enough_room}
use Rattle.repair.proofs.Taking.{Found, refused_is, found_is}
use Rattle.repair.proofs.Salvaging.{sixteen, seventeen, done, listed_is, the_trace}
use Rattle.repair.proofs.salvage.Goals as goal
use Rattle.repair.proofs.salvage.Goals.{After-has_contents-stay, After-kept_in-kept, After-listed_in, Else-out-length, In-Ok}

pub returns-in-Err : goal.returns-in-Err
returns-in-Err c =
    let a = c.args in
    let refused = refused_is a.old.now c.in-Err.refusal c.in-Err.ensures in
    let q = sixteen a.old.now a.out.now a.changes.now refused.0 in
    record { value = c.unsalvaged.ensures ∙ rw refused.1 q.0; out_after = q.1; changes_after = q.2 }

-- past the first test there is something to salvage
found : (c : In-Ok) → Found c.args.old.now c.in-Ok.taken
found c = found_is _ _ c.in-Ok.ensures

pub slice_bounds-trace-count : goal.slice_bounds-trace-count
slice_bounds-trace-count c =
    let f = found (goal.at.slice_bounds-trace-count c).In-Ok in
    rw f.start_is (outlined _ f.fine).long

-- what is counted is what is kept of the trace
kept-is : (c : After-kept_in-kept) → c.kept_in-kept.result ≡ kept_count events_max (trace_in c.args.old.now)
kept-is c =
    let f = found_is _ _ c.in-Ok.ensures in
    c.kept_in-kept.ensures ∙ rw (f.start_is, the_trace _ f.fine) refl

-- a slice is no longer than 63 bits can say
short : (c : After-kept_in-kept) → length c.args.old.now < 2 ^ 63
short c = omega arith

kept_low : (c : After-kept_in-kept) → c.kept_in-kept.result ≤ 4_000
kept_low c = rw (kept-is c) (kept_few events_max (trace_in c.args.old.now)).0

-- and so is the length of the file
length_is : (c : After-kept_in-kept)
    → c.in-Ok.taken.start + event_size * c.kept_in-kept.result
    ≡ length (salvaged_file c.args.old.now)
length_is c =
    let f = found_is _ _ c.in-Ok.ensures in
    rw (kept-is c, f.start_is) (sym (salvaged_length _ f.fine))

pub slice_bounds-trace-start : goal.slice_bounds-trace-start
slice_bounds-trace-start c = let l = slice_bounds-trace-count c in search rules

pub overflow_mul-length : goal.overflow_mul-length
overflow_mul-length c = omega (arith, kept_low (goal.at.overflow_mul-length c).After-kept_in-kept)

pub overflow_add-length : goal.overflow_add-length
overflow_add-length c =
    let f = found (goal.at.overflow_add-length c).In-Ok in
    let l : c.in-Ok.taken.start ≤ length c.args.old.now = rw f.start_is (outlined _ f.fine).long in
    omega (arith, kept_low (goal.at.overflow_add-length c).After-kept_in-kept, l)

pub listed_in-requires : goal.listed_in-requires
listed_in-requires c =
    let f = found (goal.at.listed_in-requires c).In-Ok in
    rw (kept-is (goal.at.listed_in-requires c).After-kept_in-kept, f.start_is, the_trace _ f.fine) (kept_few events_max (trace_in c.args.old.now)).1

-- and of the list
stay-is : (c : After-has_contents-stay) → c.has_contents-stay.result ≡ contents_stay c.args.old.now
unfolding contents_stay
stay-is c =
    let f = found_is _ _ c.in-Ok.ensures in
    c.has_contents-stay.ensures ∙ rw (c.kept_in-kept.ensures, f.start_is, the_trace _ f.fine, f.count_is) refl

count_is : (c : After-listed_in)
    → c.from.result + c.listed_in.result ≡ length (changes_of c.args.old.now)
unfolding changes_of contents_stay
count_is c =
    let old = c.args.old.now in
    let f = found_is _ _ c.in-Ok.ensures in
    let kept : c.kept_in-kept.result ≡ kept_count events_max (trace_in old)
    = c.kept_in-kept.ensures ∙ rw (f.start_is, the_trace _ f.fine) refl in
    let stay : c.has_contents-stay.result ≡ contents_stay old = c.has_contents-stay.ensures ∙ rw (kept, f.count_is) refl in
    rw (c.from.ensures, c.listed_in.ensures, kept, f.start_is, the_trace old f.fine, ← stay)
    (listed_is c.has_contents-stay.result (trace_start old) (trace_in old))

pub overflow_add-listed : goal.overflow_add-listed
overflow_add-listed c =
    let old = c.args.old.now in
    omega (arith, count_is (goal.at.overflow_add-listed c).After-listed_in, (enough_room old (found (goal.at.overflow_add-listed c).In-Ok).fine).2)

pub returns-then-out-length : goal.returns-then-out-length
returns-then-out-length c =
    let a = c.args in
    let f = found (goal.at.returns-then-out-length c).In-Ok in
    let q = seventeen a.old.now a.out.now a.changes.now f.fine (rw (length_is (goal.at.returns-then-out-length c).After-kept_in-kept, count_is (goal.at.returns-then-out-length c).After-listed_in) at c.if-out-length.true) in
    record { value = c.unsalvaged-then-out-length.ensures ∙ q.0; out_after = q.1; changes_after = q.2 }

-- past both tests there is room for both
room : (c : Else-out-length)
    → c.in-Ok.taken.start + event_size * c.kept_in-kept.result ≡ length (salvaged_file c.args.old.now)
    → c.from.result + c.listed_in.result ≡ length (changes_of c.args.old.now)
    → let a = c.args in
    (length (salvaged_file a.old.now) ≤ length a.out.now) × (length (changes_of a.old.now) ≤ length a.changes.now)
room c size count =
    let a = c.args in
    let q = neither (ltb (length a.out.now) (length (salvaged_file a.old.now))) (ltb (length a.changes.now) (length (changes_of a.old.now))) (rw (size, count) at c.if-out-length.false) in
    (ltb-false _ _ q.0, ltb-false _ _ q.1)

pub put_file-requires : goal.put_file-requires
put_file-requires c =
    let f = found (goal.at.put_file-requires c).In-Ok in
    record {
      value = (f.fine, f.start_is, kept-is (goal.at.put_file-requires c).After-kept_in-kept);
      in_bounds = (room (goal.at.put_file-requires c).Else-out-length (length_is (goal.at.put_file-requires c).After-kept_in-kept) (count_is (goal.at.put_file-requires c).After-listed_in)).0;
    }

changes-fit : (old : List ℕ) {n : ℕ} → length (changes_of old) ≤ n
    → length (list_from (contents_stay old) (trace_start old) (trace_in old)) ≤ n
unfolding changes_of
changes-fit old h = h

pub put_list-requires : goal.put_list-requires
put_list-requires c =
    let old = c.args.old.now in
    let f = found (goal.at.put_list-requires c).In-Ok in
    let start = f.start_is in
    let trace = the_trace old f.fine in
    record {
      trace_bound = rw (start, trace) (omega (arith, trace_length old f.fine, (outlined old f.fine).long, short (goal.at.put_list-requires c).After-kept_in-kept));
      trace_in_bounds = rw (start, trace, stay-is (goal.at.put_list-requires c).After-has_contents-stay) (changes-fit old (room (goal.at.put_list-requires c).Else-out-length (length_is (goal.at.put_list-requires c).After-kept_in-kept) (count_is (goal.at.put_list-requires c).After-listed_in)).1);
    }

pub returns : goal.returns
unfolding changes_of
returns c =
    let a = c.args in
    let old = a.old.now in
    let f = found (goal.at.returns c).In-Ok in
    let q = done old a.out.now a.changes.now f.fine (rw (length_is (goal.at.returns c).After-kept_in-kept, count_is (goal.at.returns c).After-listed_in) at c.if-out-length.false) in
    record { value = rw (length_is (goal.at.returns c).After-kept_in-kept, count_is (goal.at.returns c).After-listed_in) q.0; out_after = c.put_file.ensures ∙ q.1; changes_after = c.put_list.ensures ∙ rw (f.start_is, the_trace old f.fine, stay-is (goal.at.returns c).After-has_contents-stay) q.2 }
