-- A foreign request that ends by the latest safe moment: the clock report after it is not late, whatever arrives before it.
use Rattle.std.proofs.Common.{Some}
use mathlib.Core.Bool.{true, false}
use mathlib.Core.List.{List, [], ◌∷◌}
use mathlib.Core.Path.{◌≡◌, refl, ◌∙◌, ap}
use Prim.Native.Nat.{ℕ, ◌+◌, ◌-◌, ◌≤◌}
use native.Mathlib.Omega.{arith}
use borrow.Author.Tests.{le-ltb}
use Rattle.table.specs.Fold.{if}
use Rattle.time.specs.Time.{session_end, moment}
use Rattle.time.specs.declared.Clock.{Clock}
use Rattle.calls.specs.declared.Call.{Call}
use Rattle.calls.specs.declared.Reply.{Reply}
use Rattle.session.specs.Session.{latest, asked, sound}
use Rattle.session.specs.Calls.{append, refusal, effect, verdict, apply, late, reply_to, answer_to, after}
use Rattle.session.specs.Laws.{arriving, ForeignRequestFits}
use Rattle.session.specs.Tags.{Request}
use Rattle.session.specs.declared.Session.{Session}
use Rattle.session.proofs.Latest.{told_is}
use Rattle.session.proofs.Answers.{clock_sets}
use Rattle.session.proofs.Grounds.{ruled_by}
use Rattle.session.proofs.Keeps.{calls_keep_sound}

-- the request at the disk, the clock and what is told are the same in two sessions
record Alike (s z : Session) : Type 0 where
  disk : z.served ≡ s.served
  clock : z.clock ≡ s.clock
  told : asked z ≡ asked s

-- as they are after an arrival, refused or not
arrival_alike : (s : Session) (n place tag : ℕ) → Alike s (answer_to s (Call.Arrival n place tag)).session
unfolding answer_to verdict effect apply
arrival_alike s n place tag =
    ruled_by (λ v. Alike s (apply s v)) (refusal s (Call.Arrival n place tag)) (append (n - 1) place tag)
    (record { disk = refl; clock = refl; told = refl })
    (λ z. record { disk = refl; clock = refl; told = refl })

not_late : (s : Session) (now : ℕ) → now ≤ latest s → late s now ≡ false
unfolding late
not_late s now le = rw (le-ltb (latest s) now le)

-- the report itself
in_time : (s : Session) (now : ℕ) (until : Clock) → sound s ≡ true → s.served ≡ 0 → asked s ≡ Some until → s.clock.0 ≤ now → now ≤ until.0 → now ≤ session_end
    → (answer_to s (Call.Clock now)).reply ≡ Reply.Clock (moment now)
unfolding answer_to reply_to if
in_time s now until ok idle told onward le in-session =
    let by : now ≤ latest s = rw (told_is s ok until told) at le in
    rw (clock_sets s now ok idle (le-ltb now s.clock.0 onward) (le-ltb session_end now in-session), not_late s now by)

module _ (now : ℕ) (until : Clock) (le : now ≤ until.0) (in-session : now ≤ session_end) where
  after_arrivals : (s : Session) (requests : List Request) → sound s ≡ true → s.served ≡ 0 → asked s ≡ Some until → s.clock.0 ≤ now
      → (answer_to (after s (arriving requests)) (Call.Clock now)).reply ≡ Reply.Clock (moment now)
  unfolding after
  after_arrivals s [] ok idle told onward = in_time s now until ok idle told onward le in-session
  after_arrivals s (r ∷ requests) ok idle told onward =
      let call = Call.Arrival r.stream r.place r.tag in
      let same = arrival_alike s r.stream r.place r.tag in
      let clock = ap (λ (c : Clock). c.0) same.clock in
      after_arrivals (answer_to s call).session requests (calls_keep_sound s call ok) (same.disk ∙ idle) (same.told ∙ told) (omega (arith, clock, onward))

pub foreign_request_fits : ForeignRequestFits
foreign_request_fits s until x meanwhile ok idle told le in-session =
    after_arrivals (s.clock.0 + x) until le in-session s meanwhile ok idle told (omega arith)
