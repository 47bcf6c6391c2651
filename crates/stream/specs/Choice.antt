-- How one request is chosen before another, and one stream before another, whatever session they are of.
use Rattle.std.specs.Prelude.{Bool, true, not, ◌&&◌, ◌||◌, List, ℕ, zero, suc, ◌+◌, ◌*◌, get_or, ltb}
use Rattle.table.specs.Fold.{if}
use Rattle.time.specs.Exact.{Fraction, less, same}
use Rattle.stream.specs.declared.Stream.{Stream}

-- of the indices below n that pass, the first that no other beats: of equals the lower one; 0 where none passes
unfoldable pub first_best : (ℕ → Bool) → (ℕ → ℕ → Bool) → ℕ → ℕ
first_best passes beats zero = 0
first_best passes beats (suc n) =
    let best = first_best passes beats n in
    if (passes n && (not (passes best) || beats n best)) n best

-- Of the first m places of a queue the one that goes first, by whichever comparison of places: "ties go to [...] the earlier arrival". Which comparisons there are, `goes_before` of `order` says.
unfoldable pub leading : (ℕ → ℕ → Bool) → List ℕ → ℕ → ℕ
leading before places m = first_best (λ j. true) (λ a b. before (get_or places a 0) (get_or places b 0)) m

-- "r + c × p / g", where the micro-deadlines of a stream start: a fraction, never rounded
abbrev pub expiry_of : Stream → Fraction
expiry_of x =
    record { above = x.release.0 * x.granted.0 + x.charge.0 * x.period; below = x.granted.0 }

-- "the stream whose r + c × p / g is least among those with a slot; ties go to the earlier deadline"
unfoldable pub expires_first : Stream → Stream → Bool
expires_first a b =
    less (expiry_of a) (expiry_of b) || (same (expiry_of a) (expiry_of b) && ltb a.deadline.0 b.deadline.0)
