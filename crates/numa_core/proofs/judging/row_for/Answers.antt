use Rattle.std.proofs.Common.{◌≡◌, None, Some, sym, ap, subst, ◌∙◌, vec_len, arith, slice_get, map}
use Rattle.numa_core.specs.Seats.{core_of, busy_of}
use Rattle.numa_core.specs.Judging.{IsJudged, cause_at}
use Rattle.numa_core.proofs.TouchJudged.{idle-seat, judged-allowed, judged-listed, judged-refused}
use Rattle.numa_core.proofs.judging.row_for.Goals as goal

pub returns-in-Ok-clause-allowed : goal.returns-in-Ok-clause-allowed
returns-in-Ok-clause-allowed c space owners =
    let idle : slice_get (map busy_of c.args.seats.now.items) c.args.worker ≡ Some None =
    idle-seat c.args.seats.now.items (vec_len c.args.seats.now) c.args.worker c.index.result.now
    c.args.seats.now.ok.0 (omega (arith, c.in_ok-seated.ensures.ok)) c.index.ensures
    c.if-is_some.ensures in
    judged-allowed (core_of space c.args.plan.now c.args.seats.now.items owners) c.args.worker
    c.args.request c.in-Ok.row.now idle c.in-Ok.ensures.ok.0 c.in-Ok.ensures.ok.1

pub returns-in-Ok-clause-listed : goal.returns-in-Ok-clause-listed
returns-in-Ok-clause-listed c space owners =
    judged-listed (core_of space c.args.plan.now c.args.seats.now.items owners) c.args.request
    c.in-Ok.row.now c.in-Ok.ensures.ok.0 c.in-Ok.ensures.ok.1

pub returns-in-Err-clause-refused : goal.returns-in-Err-clause-refused
returns-in-Err-clause-refused c space owners =
    let idle : slice_get (map busy_of c.args.seats.now.items) c.args.worker ≡ Some None =
    idle-seat c.args.seats.now.items (vec_len c.args.seats.now) c.args.worker c.index.result.now
    c.args.seats.now.ok.0 (omega (arith, c.in_ok-seated.ensures.ok)) c.index.ensures
    c.if-is_some.ensures in
    let judged = judged-refused (core_of space c.args.plan.now c.args.seats.now.items owners)
    c.args.worker c.args.request c.in-Err.refusal idle c.in-Err.ensures.err in
    subst (λ cause. IsJudged (core_of space c.args.plan.now c.args.seats.now.items owners)
    c.args.worker c.args.request (Some cause))
    (ap (λ v. cause_at v c.in-Err.refusal) (sym c.version.ensures) ∙ sym c.cause_at.ensures)
    judged
