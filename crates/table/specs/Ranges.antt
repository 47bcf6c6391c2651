-- The ranges of a table's numbers, in document 01's words, and the padding that 0 stands for, in document 02's.
use Rattle.std.specs.Prelude.{ℕ}

-- "up to eight streams"
abbrev pub streams_max : ℕ
streams_max = 8

-- "W, the worst-case request time, 1 to 1,000,000."
abbrev pub worst_min : ℕ
worst_min = 1

abbrev pub worst_max : ℕ
worst_max = 1_000_000

-- "H, the common span, 1,000 to 600,000,000."
abbrev pub span_min : ℕ
span_min = 1_000

abbrev pub span_max : ℕ
span_max = 600_000_000

-- "k, the padding, 0 to 3."
abbrev pub padding_max : ℕ
padding_max = 3

-- document 02, Req 02: "A padding of 0 in a table now stands for 3."
abbrev pub padding_default : ℕ
padding_default = 3

-- "period p (1,000 to 60,000,000, dividing H)"
abbrev pub period_min : ℕ
period_min = 1_000

abbrev pub period_max : ℕ
period_max = 60_000_000
