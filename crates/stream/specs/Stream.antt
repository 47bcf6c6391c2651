-- One stream: slots and micro-deadlines, and how a call changes it.
-- Document 01's letters for a stream x: e is x.reserved, p is x.period, g is x.granted, r is x.release, d is x.deadline, c is x.charge. The number in a clock or a charge is read by .0.
use Rattle.std.specs.Prelude.{Bool, ◌&&◌, ◌||◌, List, [], ℕ, ◌+◌, ◌-◌, ◌*◌, ◌/◌, min, length, get_or, set, replicate, leb, ltb, eqb}
use Rattle.table.specs.Fold.{if, closed_up, all_to}
use Rattle.table.specs.Admission.{granted_of}
use Rattle.time.specs.Time.{session_end, duration_max, moment, disk_time}
use Rattle.time.specs.Exact.{Fraction}
use Rattle.time.specs.declared.Clock.{Clock}
use Rattle.stream.specs.declared.Job.{Job}
use Rattle.stream.specs.declared.Stream.{Stream}

-- "a queue of up to 16 places in order of arrival", and document 02, Req 07: "A queued request becomes a place with a tag of 32 bits." The tags stand beside the places, each at the index of its place.
abbrev pub queue_max : ℕ
queue_max = 16

-- "Per stream: release r = 0, deadline d = p, charge c = 0, expired count 0, a queue [...], and a record of the last closed job (charge, closing clock, deadline, expired count; all zero before the first)." What the open job started with (document 02, Req 03) is 0 as well.
unfoldable pub fresh_stream : ℕ → ℕ → ℕ → Stream
fresh_stream e p g =
    record {
      reserved = e;
      period = p;
      granted = disk_time g;
      release = moment 0;
      deadline = moment p;
      charge = disk_time 0;
      expired = 0;
      start = disk_time 0;
      queued = 0;
      places = replicate queue_max 0;
      tags = replicate queue_max 0;
      last = record { charge = disk_time 0; closed = moment 0; deadline = moment 0; expired = 0; start = disk_time 0 };
    }

-- "Slots of a stream: the number s of whole n ≥ 1 with (c + n × W) × p ≤ (h − r) × g." It is found by one division; that it is that number is the law `SlotsAreCounted`.
unfoldable pub slots : ℕ → ℕ → Stream → ℕ
slots worst h x = ((h - x.release.0) * x.granted.0 - x.charge.0 * x.period) / (worst * x.period)

-- "Filled slots: the smaller of s and the queue length; the first so many queued requests are the set (000's DSS)."
unfoldable pub filled : ℕ → ℕ → Stream → ℕ
filled worst h x = min (slots worst h x) x.queued

-- "The micro-deadline of slot n is r + (c + n × W) × p / g, a fraction, never rounded."
unfoldable pub micro_deadline : ℕ → Stream → ℕ → Fraction
micro_deadline worst x n =
    record { above = x.release.0 * x.granted.0 + (x.charge.0 + n * worst) * x.period; below = x.granted.0 }

-- "a request that took a < W pulls later micro-deadlines *earlier* by (W − a) × p / g": a micro-deadline so shifted, over the same g
unfoldable pub shifted : ℕ → ℕ → Stream → Fraction → Fraction
shifted worst a x m = record { above = m.above - (worst - a) * x.period; below = m.below }

-- the first part of "the remainder of a stream is (h − r) × g / p − c", times H: a whole number, since p divides H
abbrev pub part_of : ℕ → ℕ → Stream → ℕ
part_of span h x = (h - x.release.0) * x.granted.0 * (span / x.period)

-- what is read past the end of a list of streams; in a sound session nothing is
abbrev pub no_stream : Stream
no_stream =
    record {
      reserved = 0;
      period = 0;
      granted = disk_time 0;
      release = moment 0;
      deadline = moment 0;
      charge = disk_time 0;
      expired = 0;
      start = disk_time 0;
      queued = 0;
      places = [];
      tags = [];
      last = record { charge = disk_time 0; closed = moment 0; deadline = moment 0; expired = 0; start = disk_time 0 };
    }

-- a stream of a list, counted from 0
abbrev pub stream_in : List Stream → ℕ → Stream
stream_in streams i = get_or streams i no_stream

-- a stream with another charge, expired count and queue
abbrev pub worked : Stream → ℕ → ℕ → ℕ → List ℕ → List ℕ → Stream
worked x charge expired queued places tags =
    record {
      reserved = x.reserved;
      period = x.period;
      granted = x.granted;
      release = x.release;
      deadline = x.deadline;
      charge = disk_time charge;
      expired = expired;
      start = x.start;
      queued = queued;
      places = places;
      tags = tags;
      last = x.last;
    }

-- with another queue alone, and with another charge and expired count alone
abbrev pub with_queue : Stream → ℕ → List ℕ → List ℕ → Stream
with_queue x queued places tags = worked x x.charge.0 x.expired queued places tags

abbrev pub with_charge : Stream → ℕ → ℕ → Stream
with_charge x charge expired = worked x charge expired x.queued x.places x.tags

-- "put at the queue's end"; document 02, Req 07: "Arrival takes both"
unfoldable pub arrived : ℕ → ℕ → Stream → Stream
arrived place tag x = with_queue x (x.queued + 1) (set x.places x.queued place) (set x.tags x.queued tag)

-- "The request leaves its queue, the others keep their order": places and tags close up over one index, and the cell set free is 0
unfoldable pub without : ℕ → Stream → Stream
without j x = with_queue x (x.queued - 1) (closed_up 0 j x.places) (closed_up 0 j x.tags)

-- "clock and charge of the stream served both grow by a"
unfoldable pub charged : ℕ → Stream → Stream
charged a x = with_charge x (x.charge.0 + a) x.expired

-- "Its charge grows by W, its expired count by 1."
unfoldable pub lapsed : ℕ → Stream → Stream
lapsed worst x = with_charge x (x.charge.0 + worst) (x.expired + 1)

-- what a job hands on to the next one of its stream (document 02, Req 03): "the old charge less the granted budget, or zero if that is negative", which is how ℕ subtracts
abbrev pub carry : ℕ → ℕ → ℕ
carry charge budget = charge - budget

-- "closes its job: the record is written, r becomes d, d grows by p, [...] expired count become 0", and of the charge (document 02, Req 03): "the new job starts with the old charge less the granted budget, or zero if that is negative. The last-job record also keeps what the job started with."
unfoldable pub closed : Clock → Stream → Stream
closed now x =
    let carried = disk_time (carry x.charge.0 x.granted.0) in
    record {
      reserved = x.reserved;
      period = x.period;
      granted = x.granted;
      release = x.deadline;
      deadline = moment (x.deadline.0 + x.period);
      charge = carried;
      expired = 0;
      start = carried;
      queued = x.queued;
      places = x.places;
      tags = x.tags;
      last = record { charge = x.charge; closed = now; deadline = x.deadline; expired = x.expired; start = x.start };
    }

-- "Every stream with d = h closes its job [...] The others keep theirs."
unfoldable pub moved : Clock → ℕ → Stream → Stream
moved now h x = if (eqb x.deadline.0 h) (closed now x) x

-- 14 "a deadline in a move, would pass 1,000,000,000,000": that of a stream which closes its job
abbrev pub closes_past_end : ℕ → Stream → Bool
closes_past_end h x = eqb x.deadline.0 h && ltb session_end (x.deadline.0 + x.period)

-- "at most 16 places are queued"; "every unused cell is 0 (queue places past the length ..)". A row of a queue, its places or its tags, has sixteen cells.
unfoldable pub sound_row : List ℕ → ℕ → Bool
sound_row cells queued =
    eqb (length cells) queue_max
    && leb queued queue_max
    && all_to (λ j. ltb j queued || eqb (get_or cells j 0) 0) queue_max

-- both rows of a queue: "What a later request adds to the state joins this rule."
unfoldable pub sound_queue : List ℕ → List ℕ → ℕ → Bool
sound_queue places tags queued = sound_row places queued && sound_row tags queued

-- "d = r + p [...] for each stream; [...] all deadlines are at most 1,000,000,000,000; each charge is at most g + 10,000,000 and at least W × the expired count; at most 16 places are queued". That the cell for g holds the granted budget is part of it, and since "What a later request adds to the state joins this rule", a charge is at least what its job started with and W × the expired count.
unfoldable pub sound_cells : ℕ → ℕ → Stream → Bool
sound_cells worst k x =
    eqb x.granted.0 (granted_of worst k x.reserved)
    && eqb x.deadline.0 (x.release.0 + x.period)
    && leb x.deadline.0 session_end
    && leb x.charge.0 (x.granted.0 + duration_max)
    && leb (x.start.0 + worst * x.expired) x.charge.0
    && sound_queue x.places x.tags x.queued

-- "and r ≤ h for each stream"
unfoldable pub sound_stream : ℕ → ℕ → ℕ → Stream → Bool
sound_stream worst k h x = sound_cells worst k x && leb x.release.0 h

-- "a record of the last closed job (charge, closing clock, deadline, expired count; all zero before the first)", with what the job started with
unfoldable pub zero_job : Job → Bool
zero_job j =
    eqb j.charge.0 0 && eqb j.closed.0 0 && eqb j.deadline.0 0 && eqb j.expired 0 && eqb j.start.0 0

-- "every unused cell is 0 (.. streams past the count ..)"
unfoldable pub unused_stream : Stream → Bool
unused_stream x =
    eqb x.reserved 0
    && eqb x.period 0
    && eqb x.granted.0 0
    && eqb x.release.0 0
    && eqb x.deadline.0 0
    && eqb x.charge.0 0
    && eqb x.expired 0
    && eqb x.start.0 0
    && eqb x.queued 0
    && sound_queue x.places x.tags 0
    && zero_job x.last
