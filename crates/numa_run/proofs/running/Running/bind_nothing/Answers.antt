use Rattle.std.specs.Prelude.{◌≡◌, Bool, Ok, Err, true, false, if◌then◌else◌}
use Rattle.std.proofs.Common.{◌∙◌, ap, sym}
use Rattle.numa_machine.specs.Machine.{Hardware}
use Rattle.numa_machine.specs.Rules.{is_linux}
use Rattle.numa_space.specs.Standing.{SpaceState}
use Rattle.numa_requests.specs.declared.command.Command.{Command}
use Rattle.numa_page_state.specs.Outcomes.{Enough}
use Rattle.numa_script.specs.Lines.{empty_bind}
use Rattle.numa_script.specs.declared.reply.Reply.TheVariants as reply
use Rattle.numa_run.specs.Obeying.{accepted_outcome, bind_nothing, command_outcome}
use Rattle.numa_run.proofs.LineLemmas.{serves_as, serves_same}
use Rattle.numa_run.proofs.running.Running.bind_nothing.Goals as goal

pub returns-then-is_linux : goal.returns-then-is_linux
returns-then-is_linux c =
    let machine : Hardware = c.args.self.now.core.space.machine in
    let kernels : is_linux machine.rules ≡ true =
    ap (λ (s : SpaceState). is_linux s.machine.rules) (sym c.space.ensures.space)
    ∙ ap (λ (m : Hardware). is_linux m.rules) (sym c.machine.ensures)
    ∙ ap is_linux (sym c.rules.ensures) ∙ sym c.is_linux.ensures ∙ c.if-is_linux.true in
    serves_as c.args.self.now c.accept.new.self c.accept.result
    (λ lack machine state. accepted_outcome lack machine state c.empty_bind.result)
    (λ lack machine state. command_outcome lack machine state
    (bind_nothing machine.rules c.args.start c.args.fault)) c.accept.ensures
    (λ lack state.
    ap (λ (b : Bool). command_outcome lack machine state
    (if b then Ok (empty_bind c.args.start) else Err c.args.fault)) kernels
    ∙ sym (ap (λ (command : Command). accepted_outcome lack machine state command)
    c.empty_bind.ensures))

pub returns : goal.returns
returns c =
    let machine : Hardware = c.args.self.now.core.space.machine in
    let documents : is_linux machine.rules ≡ false =
    ap (λ (s : SpaceState). is_linux s.machine.rules) (sym c.space.ensures.space)
    ∙ ap (λ (m : Hardware). is_linux m.rules) (sym c.machine.ensures)
    ∙ ap is_linux (sym c.rules.ensures) ∙ sym c.is_linux.ensures ∙ c.if-is_linux.false in
    serves_same c.args.self.now (reply.BadWord c.args.fault)
    (λ lack machine state. command_outcome lack machine state
    (bind_nothing machine.rules c.args.start c.args.fault))
    (λ state stands.
    ap (λ (b : Bool). command_outcome Enough machine state
    (if b then Ok (empty_bind c.args.start) else Err c.args.fault)) documents)
