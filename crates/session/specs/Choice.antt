-- Which request the house sends, and which slot expires.
use Rattle.std.specs.Prelude.{Bool, ◌&&◌, ◌||◌, ℕ, leb, ltb, eqb}
use Rattle.order.specs.Order.{goes_before}
use Rattle.stream.specs.Choice.{first_best, leading, expires_first}
use Rattle.session.specs.Session.{stream_at, place_at, slots_at, filled_at}
use Rattle.session.specs.declared.Session.{Session}

-- the deadline of a stream of a session
abbrev pub deadline_at : Session → ℕ → ℕ
deadline_at s i = (stream_at s i).deadline.0

-- whether one place is taken before another, by the order that the session holds and where its head stands
abbrev pub taken_before : Session → ℕ → ℕ → Bool
taken_before s = goes_before s.order s.head

-- a stream's request of the set that would be sent, and its place
abbrev pub leading_at : Session → ℕ → ℕ
leading_at s i = leading (taken_before s) (stream_at s i).places (filled_at s i)

abbrev pub leading_place : Session → ℕ → ℕ
leading_place s i = place_at s i (leading_at s i)

-- "Take the earliest deadline among streams with a filled slot; of the set's requests from streams with that deadline, the place nearest the head", and document 02, Req 08: "With sweep order, among the candidates with the earliest deadline the turn takes the smallest place not below the head, and if there is none, the smallest place of all; ties as before."
unfoldable pub sent_before : Session → ℕ → ℕ → Bool
sent_before s a b =
    ltb (deadline_at s a) (deadline_at s b)
    || (eqb (deadline_at s a) (deadline_at s b) && taken_before s (leading_place s a) (leading_place s b))

-- the stream that the house serves: "ties go to the lower stream"
unfoldable pub chosen : Session → ℕ
chosen s = first_best (λ i. leb 1 (filled_at s i)) (sent_before s) s.count

-- which of two streams of a session loses a slot first
abbrev pub expires_before : Session → ℕ → ℕ → Bool
expires_before s a b = expires_first (stream_at s a) (stream_at s b)

-- the stream that loses a slot: "then the lower number"
unfoldable pub expiring : Session → ℕ
expiring s = first_best (λ i. leb 1 (slots_at s i)) (expires_before s) s.count
