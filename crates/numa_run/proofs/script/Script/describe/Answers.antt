use Rattle.std.proofs.Common.{◌∙◌, ap, sym, subst, [], true, false}
use Rattle.numa_run.proofs.LineLemmas.{described, first_ready, first_bad, first_bad_list}
use Rattle.numa_run.proofs.LineLemmas.{core-starved}
use Rattle.numa_core.specs.Standing.{LeadsTo, setup_of}
use Rattle.numa_run.specs.States.{setup_with}
use Rattle.numa_run.specs.Machines.{first_fault, nodes_with_cpus}
use Rattle.numa_machine.specs.declared.fault.MachineFault.TheVariants as machine_fault
use Rattle.numa_page_state.specs.Outcomes.{Enough, Starved}
use Rattle.numa_run.proofs.script.Script.describe.Goals as goal

pub returns-in-Err : goal.returns-in-Err
returns-in-Err c =
    rw c.requires (first_bad_list c.args.self.now.settings c.args.said.now c.in-Err.fault
    c.in-Err.is)

pub returns-in-Err-build : goal.returns-in-Err-build
returns-in-Err-build c =
    let why = c.in-Err-build.ensures.err in
    rw c.requires (first_bad c.args.self.now.settings c.args.said.now c.in-Ok.memory why.0
    c.in-Err-build.fault c.in-Ok.is why.1)

pub returns-in-Err-new : goal.returns-in-Err-new
returns-in-Err-new c =
    let made = c.in-Ok-build.ensures.ok in
    let settings = c.args.self.now.settings in
    let cpus = nodes_with_cpus c.args.said.now.nodes settings.cpus in
    let sound = ap (first_fault Enough cpus) (sym made.0) ∙ made.1 in
    rw c.requires (first_bad settings c.args.said.now c.in-Ok.memory Starved machine_fault.NoMemory
    c.in-Ok.is
    (core-starved cpus (described c.args.said.now c.in-Ok.memory settings.rules settings.cpus)
    sound))

pub returns-in-Err-ready : goal.returns-in-Err-ready
returns-in-Err-ready c =
    let made = c.in-Ok-build.ensures.ok in
    let settings = c.args.self.now.settings in
    let cpus = nodes_with_cpus c.args.said.now.nodes settings.cpus in
    let sound = ap (first_fault Enough cpus) (sym made.0) ∙ made.1 in
    rw c.requires (first_bad settings c.args.said.now c.in-Ok.memory Starved machine_fault.NoMemory
    c.in-Ok.is
    (core-starved cpus (described c.args.said.now c.in-Ok.memory settings.rules settings.cpus)
    sound))

pub returns-in-Ok-ready : goal.returns-in-Ok-ready
returns-in-Ok-ready c =
    let made = c.in-Ok-build.ensures.ok in
    let settings = c.args.self.now.settings in
    let cpus = nodes_with_cpus c.args.said.now.nodes settings.cpus in
    let core = c.in-Ok-ready.ensures.core in
    let setup = ap setup_of core ∙ c.in-Ok-new.ensures.setup
    ∙ ap (λ machine. setup_with machine settings.limits) made.0 in
    rw c.replace.ensures.after
    (first_ready settings c.args.said.now c.in-Ok.memory c.in-Ok-ready.running c.in-Ok.is
    (ap (first_fault Enough cpus) (sym made.0) ∙ made.1) setup
    (subst (LeadsTo []) (sym core) c.in-Ok-new.ensures.opens)
    c.in-Ok-ready.ensures.resident c.in-Ok-ready.ensures.pages c.in-Ok-ready.ensures.huge)
