-- What a card may say of a table: the terms of each stream and how far it could change alone, and whether the table is admitted, or which number of it is beyond which limit.
use Rattle.std.specs.Prelude.{not, ℕ, ◌+◌, ◌-◌, ◌*◌, ◌/◌, ◌%◌, min, ltb, eqb, ℤ, Some, None}
use Rattle.table.specs.Fold.{if}
use Rattle.table.specs.Refusal.{given, first_to, outside}
use Rattle.table.specs.Ranges.{streams_max, worst_min, worst_max, span_min, span_max, padding_max, period_min, period_max}
use Rattle.table.specs.Admission.{reserved_at, period_at, padding_of, granted_of, load_of, numbers_refusal, stream_refusal_at}
use Rattle.table.specs.Margin.{left_of, over_of, refusal_of}
use Rattle.table.specs.declared.Table.{Table}
use Rattle.terms.specs.declared.Terms.{Terms}
use Rattle.terms.specs.declared.Change.{Change}
use Rattle.terms.specs.declared.Change.TheVariants.{Grow, Shrink, NotAlone}
use Rattle.terms.specs.declared.Finding.{Finding}
use Rattle.terms.specs.declared.Verdict.{Verdict}

-- the padding that k stands for; what a stream is granted; what the charge of a closed job is "more than": "that budget less one worst-case time"; and the ⌊g / W⌋ requests that it comes to at least
unfoldable pub terms_of : ℕ → ℕ → ℕ → Terms
terms_of worst k e =
    let g = granted_of worst k e in
    record { padding = padding_of k; granted = g; above = g - worst; requests = g / worst }

-- What can be done with one stream alone, while the others stay as they are. A microsecond of reserved time more takes H / p of the margin (`RaisingLowers` of the table), and the granted budget may not pass the period: so much could still be added.
unfoldable pub room_of : ℤ → ℕ → ℕ → ℕ → ℕ → ℕ → ℕ
room_of margin worst span k e p = min (left_of margin / (span / p)) (p - granted_of worst k e)

-- and where the load is over the span, so much would have to be taken off: the amount over divided by H / p, rounded up
unfoldable pub shrink_of : ℤ → ℕ → ℕ → ℕ
shrink_of margin span p = (over_of margin - 1) / (span / p) + 1

-- it may grow, or has to shrink; where nothing would be left of its reserved time, it alone is not enough
unfoldable pub change_of : ℤ → ℕ → ℕ → ℕ → ℕ → ℕ → Change
change_of margin worst span k e p =
    if (eqb (over_of margin) 0) (Grow (room_of margin worst span k e p))
    (if (ltb (shrink_of margin span p) e) (Shrink (shrink_of margin span p)) NotAlone)

-- a part of a whole in hundredths of a percent, rounded down; a part that is not below its whole counts as all of it
unfoldable pub hundredths_of : ℕ → ℕ → ℕ
hundredths_of part whole = if (ltb part whole) (part * 10_000 / whole) 10_000

-- a number of the table, or one that is worked out from it, and the limit that it is held to
abbrev pub found : ℕ → ℕ → Finding
found n limit = record { value = n; limit = limit }

-- a number outside its range, and the end of the range that it is beyond
unfoldable pub beyond : ℕ → ℕ → ℕ → Finding
beyond low high n = found n (if (ltb n low) low high)

-- the number of the table that the refusal 1, 2, 3 or 4 speaks of
unfoldable pub numbers_finding : Table → ℕ → Finding
numbers_finding t number =
    if (eqb number 1) (beyond 1 streams_max t.count)
    (if (eqb number 2) (beyond worst_min worst_max t.worst)
    (if (eqb number 3) (beyond span_min span_max t.span)
    (beyond 0 padding_max t.padding)))

-- 5 "p outside its range or not dividing H": the period, or what it leaves of H, which should be 0
unfoldable pub period_finding : ℕ → ℕ → Finding
period_finding span p = if (outside period_min period_max p) (beyond period_min period_max p) (found (span % p) 0)

-- 6 "e = 0 or g > p": the reserved time, which should be 1 at least, or the granted budget beside the period
unfoldable pub budget_finding : ℕ → ℕ → ℕ → ℕ → Finding
budget_finding worst k e p = if (eqb e 0) (found e 1) (found (granted_of worst k e) p)

unfoldable pub stream_finding : ℕ → ℕ → ℕ → ℕ → ℕ → ℕ → Finding
stream_finding number worst span k e p = if (eqb number 5) (period_finding span p) (budget_finding worst k e p)

-- the number of stream i, counted from 1, where f has a refusal for it; else 0
unfoldable pub numbered : (ℕ → ℕ) → ℕ → ℕ
numbered f i = given (not (eqb (f i) 0)) (i + 1)

-- the first stream that has a refusal of its own, counted from 1; 0 where none has
unfoldable pub refused_stream : Table → ℕ
refused_stream t = first_to (numbered (stream_refusal_at t)) t.count

-- the number by which opening refuses the table or 0, the stream that it speaks of or 0, and what was found
pub record Said : Type 0 where
  pub number : ℕ
  pub stream : ℕ
  pub finding : Finding

abbrev pub verdict : ℕ → ℕ → Finding → Said
verdict number stream finding = record { number = number; stream = stream; finding = finding }

-- as the code holds it: nothing for 0, and a refusal of the load with the margin
unfoldable pub as_said : ℤ → Said → Verdict
as_said margin said =
    record {
      refusal = if (eqb said.number 0) None (Some (refusal_of said.number margin));
      stream = if (eqb said.stream 0) None (Some said.stream);
      finding = said.finding;
    }

-- what refuses stream i, and what was found of it
unfoldable pub stream_verdict : Table → ℕ → Said
stream_verdict t i =
    let number = stream_refusal_at t i in
    verdict number (i + 1) (stream_finding number t.worst t.span t.padding (reserved_at t i) (period_at t i))

-- the load beside H, and 7 where it is above
unfoldable pub load_verdict : Table → Said
load_verdict t = verdict (given (ltb t.span (load_of t)) 7) 0 (found (load_of t) t.span)

-- "Opening: 1, 2, 3, 4, then 5 and 6 stream by stream, then 7"
unfoldable pub verdict_of : Table → Said
verdict_of t =
    if (not (eqb (numbers_refusal t) 0)) (verdict (numbers_refusal t) 0 (numbers_finding t (numbers_refusal t)))
    (if (not (eqb (refused_stream t) 0)) (stream_verdict t (refused_stream t - 1))
    (load_verdict t))
