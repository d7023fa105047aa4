use Rattle.std.proofs.Common.{◌≡◌, ℕ, Option, None, Some, refl, subst, sym}
use Rattle.std.specs.Prelude.{IsSome, MatchOption, if◌then◌else◌}
use Rattle.std.specs.BTreeMap.{is_at}
use Rattle.std.specs.Ordering.{nat_cmp}
use Rattle.numa_plan.specs.Meaning.{place_refusal}
use Rattle.numa_traces.specs.Hosting.{Accepts, HostReplayed, IsHostReplay, process_of}
use Rattle.numa_traces.specs.declared.process.ProcessReplay.{ProcessReplay}
use Rattle.numa_traces.proofs.Hosts.{next-of-host}
use Rattle.numa_traces.proofs.Replays.{on-ok}
use Rattle.numa_traces.proofs.host.HostReplay.take.Goals as goal

pub returns-clause-accepted : goal.returns-clause-accepted
returns-clause-accepted c =
    let old : HostReplayed =
    record { processes = c.self.inside.processes.entries; free = c.self.inside.free.items } in
    let access = c.args.access in
    on-ok c.take_shared.result
    (λ allowed. subst (λ (met : HostReplayed). Accepts met c.args.process access) c.self.view_is
    (subst (λ (o : Option ProcessReplay). MatchOption o ⊥
    (λ one. place_refusal one.plan access.page access.cpu ≡ None)) c.in-Some.ensures.value allowed))
    c.take_shared.ensures.accepted

pub returns-clause-ok : goal.returns-clause-ok
returns-clause-ok c room plans trace was =
    let old : HostReplayed =
    record { processes = c.self.inside.processes.entries; free = c.self.inside.free.items } in
    let new : HostReplayed = record {
      processes = (c.get_mut.follows.lender c.take_shared.new.one).entries;
      free = c.take_shared.new.free.items;
    } in
    let found : process_of old.processes c.args.process ≡ Some c.in-Some.one.now =
    sym c.in-Some.ensures.value in
    let some : IsSome (process_of old.processes c.args.process) =
    subst (λ (o : Option ProcessReplay). IsSome o) (sym found) refl in
    let written : (other : ℕ) → process_of new.processes other
    ≡ if is_at (nat_cmp c.args.process) other then Some c.take_shared.new.one
    else process_of old.processes other =
    ((c.get_mut.follows.holds c.take_shared.new.one).3 some).0 in
    on-ok c.take_shared.result
    (λ next. next-of-host room plans trace c.args.process c.args.access old new c.in-Some.one.now
    c.take_shared.new.one found written c.take_shared.ensures.plan next
    (subst (λ (met : HostReplayed). IsHostReplay room plans trace met) (sym c.self.view_is) was))
    c.take_shared.ensures.next
