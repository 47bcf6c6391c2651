-- What one more read gives stands behind what was read before.
use Rattle.std.proofs.Common.{◌≡◌, ℕ, ◌+◌, ◌-◌, ◌≤◌, List, ◌++◌, length, take, sym, ap, subst, ◌∙◌, arith, length-take-le}
use Rattle.std.proofs.Math.Seq.{take-append-add}
use Rattle.std.proofs.lemmas.List.{take-append-le}
use Rattle.std.proofs.KnownBytes.{Consumes-trans}
use Rattle.std.specs.Io.KnownBytes.{Consumes}
use borrow.Rule.Slice.PartMut.{put_mid, post_of, same_len_mid}
use Rattle.given.proofs.read_full.Goals as goal

-- the first done + n of a buffer, into which ys was put behind the first done
grown : (xs ys : List ℕ) (done n : ℕ) → done ≤ length xs → n ≤ length ys
    → take (done + n) (put_mid done (length xs - done) xs ys) ≡ take done xs ++ take n ys
grown xs ys done n within fits =
    let front : length (take done xs) ≡ done = length-take-le done xs within in
    let rest = ys ++ post_of done (length xs - done) xs in
    ap (λ k. take (k + n) (take done xs ++ rest)) (sym front)
    ∙ take-append-add (take done xs) rest n
    ∙ ap (λ l. take done xs ++ l) (take-append-le n ys (post_of done (length xs - done) xs) fits)

pub loop-done-preserved : goal.loop-done-preserved
loop-done-preserved g c =
    let at = c.loop-done in
    let xs = at.buffer in
    let ys = c.read.new.buf in
    let n = c.in_ok-got.got in
    let fits : n ≤ length ys = c.in_ok-got.ensures.bound.0 in
    let same = same_len_mid at.done (length xs - at.done) xs ys c.read.auto.buf in
    record {
      long = same ∙ at.invariant.long;
      within = omega (arith, same, fits, c.read.auto.buf);
      read =
          subst
          (Consumes (g.R.Read.remaining c.args.from.now) (g.R.Read.remaining c.read.new.self))
          (sym (grown xs ys at.done n at.invariant.within fits))
          (Consumes-trans _ _ _ _ _ at.invariant.read c.in_ok-got.ensures.bytes.0);
    }
