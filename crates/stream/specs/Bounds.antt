-- What a sound session says of the numbers of one of its streams, as facts. The inner functions of the code ask this of their callers; no entry point does.
use Rattle.std.specs.Prelude.{◌≡◌, ℕ, ◌+◌, ◌*◌, ◌≤◌}
use Rattle.table.specs.Ranges.{worst_max, period_min, period_max}
use Rattle.time.specs.Time.{session_end, duration_max}
use Rattle.stream.specs.Stream.{queue_max}
use Rattle.stream.specs.declared.Stream.{Stream}

pub record Bounded (worst h : ℕ) (x : Stream) : Type 0 where
  pub worst_low : 1 ≤ worst
  pub worst_high : worst ≤ worst_max
  pub period_low : period_min ≤ x.period
  pub period_high : x.period ≤ period_max
  pub budget_low : 1 ≤ x.granted.0
  pub budget_high : x.granted.0 ≤ x.period
  pub due : x.deadline.0 ≡ x.release.0 + x.period
  pub deadline_high : x.deadline.0 ≤ session_end
  pub released : x.release.0 ≤ h
  pub ahead : h ≤ x.deadline.0
  pub charge_high : x.charge.0 ≤ x.granted.0 + duration_max
  pub covered : x.start.0 + worst * x.expired ≤ x.charge.0
  pub queued_high : x.queued ≤ queue_max
