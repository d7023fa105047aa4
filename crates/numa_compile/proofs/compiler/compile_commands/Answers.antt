use Rattle.std.proofs.Common.{◌≡◌, ◌<◌, ◌∙◌, ℕ, [], List, subst}
use Rattle.std.proofs.lemmas.Result.{IfOk-weaker}
use Rattle.std.specs.Option.{ForSome}
use Rattle.numa_machine.specs.Machine.{Hardware}
use Rattle.numa_plan.specs.Meaning.{planned_list}
use Rattle.numa_requests.specs.declared.command.Command.{Command}
use Rattle.numa_space.specs.Policies.{allowed_nodes}
use Rattle.numa_space.specs.Standing.{SpaceState, StandsFor, IsNodeList, accepted_of}
use Rattle.numa_compile.specs.Standing.{PlanStandsFor}
use Rattle.numa_compile.proofs.compiler.compile_commands.Goals as goal

pub returns-clause-stands : goal.returns-clause-stands
returns-clause-stands c =
    let start : SpaceState = c.new-space.result in
    let end : SpaceState = c.apply_all.new.self in
    let machine : end.machine ≡ c.args.machine = c.apply_all.ensures.machine
    ∙ c.new-space.ensures.machine in
    let meant : accepted_of start.machine start.bounds c.args.commands.now []
    ≡ accepted_of c.args.machine c.args.limits c.args.commands.now [] =
    λ i. accepted_of (c.new-space.ensures.machine i) (c.new-space.ensures.bounds i)
    c.args.commands.now [] in
    IfOk-weaker c.compile-plan.result _ _
    (λ plan stands.
    subst (λ (m : Hardware).
    PlanStandsFor m plan (accepted_of c.args.machine c.args.limits c.args.commands.now []))
    machine (subst (λ (history : List Command). PlanStandsFor end.machine plan history) meant
    stands))
    (c.compile-plan.ensures.stands (accepted_of start.machine start.bounds c.args.commands.now [])
    (c.in-Ok.ensures.ok [] c.new-space.ensures.stands))

pub returns-clause-sound : goal.returns-clause-sound
returns-clause-sound c =
    let start : SpaceState = c.new-space.result in
    let end : SpaceState = c.apply_all.new.self in
    let machine : end.machine ≡ c.args.machine = c.apply_all.ensures.machine
    ∙ c.new-space.ensures.machine in
    let stands : StandsFor end (accepted_of start.machine start.bounds c.args.commands.now []) =
    c.in-Ok.ensures.ok [] c.new-space.ensures.stands in
    let allowed : end.allowed ≡ allowed_nodes c.args.machine
    (accepted_of c.args.machine c.args.limits c.args.commands.now []) =
    stands.allowed ∙ (λ i.
    allowed_nodes (machine i)
    (accepted_of (c.new-space.ensures.machine i) (c.new-space.ensures.bounds i)
    c.args.commands.now [])) in
    IfOk-weaker c.compile-plan.result _ _
    (λ plan sound. subst (λ (nodes : ℕ). (task page cpu : ℕ) → cpu < plan.nodes
    → ForSome (planned_list plan task page cpu) (IsNodeList nodes)) allowed sound)
    c.compile-plan.ensures.sound
