use Rattle.std.proofs.Common.{Bool, ℕ, Option, inl, inr, subst}
use Rattle.numa_host_script.specs.Sessions.{Session}
use Rattle.numa_play.specs.Deeds.{is_fault_in, lies_now}
use Rattle.numa_traces.specs.PlanReading.{CountsAccess}
use Rattle.numa_traces.proofs.Replays.{on-ok}
use Rattle.numa_traces.proofs.Stepped.{if-err}
use Rattle.numa_play.proofs.tracing.carry_out.Goals as goal

pub returns-in-Err-clause-err : goal.returns-in-Err-clause-err
returns-in-Err-clause-err c session stands = inl (c.in-Err.ensures.err session stands)

pub returns-clause-ok : goal.returns-clause-ok
returns-clause-ok c session stands =
    let access = c.args.access in
    let old = c.args.state.now in
    let new = c.count.new.self in
    let landed = c.in-Ok.ensures.ok session stands in
    let then : Session = landed.1 in
    on-ok c.count.result (λ counts. (
      landed.0,
      then,
      landed.2,
      landed.3,
      subst (λ (is : Bool). CountsAccess access (lies_now then c.args.process access.page) is old new)
          landed.5 (subst (λ (node : Option ℕ). CountsAccess access node
          c.in-Ok.landed.is_fault old new) landed.4 counts),
    )) c.count.ensures.counts

pub returns-clause-err : goal.returns-clause-err
returns-clause-err c session stands =
    if-err c.count.result (λ why fault. inr fault) c.count.ensures.err
