-- The terms are those that the promise keeps.
use native.Mathlib.Omega.{arith}
use Rattle.table.specs.Admission.{reserved_at}
use Rattle.session.proofs.Promise.{promise}
use Rattle.session.specs.History.{history_of}
use Rattle.session.proofs.Within.{within_never}
use Rattle.session.proofs.Carried.{nothing_is_carried}
use Rattle.session.proofs.Served.{requests_served}
use Rattle.terms.specs.Terms.{terms_of}
use Rattle.terms.specs.Laws.{TermsAreKept}
use Rattle.terms.proofs.Laws.{nothing_cut}

pub terms_are_kept : TermsAreKept
unfolding terms_of
terms_are_kept t s calls new within later m earlier e i l closes =
    let p = promise t s calls new in
    let truly = p.0.closed_jobs later m earlier e i l closes in
    let on_time = (p.1 within).closed_jobs later m earlier e i l closes in
    record {
      in_time = omega (arith, on_time.in_time, truly.due);
      more = omega (arith, on_time.more_than, ((nothing_is_carried t s calls new (within_never (history_of s calls) within).0).1 later m earlier e i l closes).sum, nothing_cut t.worst t.padding (reserved_at t i));
      served = requests_served t s calls new within later m earlier e i l closes;
    }
