use Rattle.std.proofs.Common.{◌∙◌, sym, subst}
use Rattle.numa_host_script.specs.declared.running.RunningHost.{RunningHost}
use Rattle.numa_host_script.specs.Standing.{Takes, unboxed}
use Rattle.numa_host_script.proofs.Taken.{taken-alone, taken-begin, taken-foreign, taken-hosted}
use Rattle.numa_host_script.proofs.script.HostScript.take.Goals as goal

pub returns-then-is_begin : goal.returns-then-is_begin
returns-then-is_begin c = λ session stands.
    taken-begin c.args.self.now.script c.args.self.now.limits c.args.said.now c.begin.result
    c.begin.new.self.script c.begin.new.self.limits (unboxed c.begin.new.self.host) session
    (sym c.is_begin.ensures ∙ c.if-is_begin.true) (c.begin.ensures session stands)

pub returns-in-Some : goal.returns-in-Some
returns-in-Some c =
    rw c.in-Some.is
    (λ session stands.
    taken-hosted c.args.self.now.script c.args.self.now.limits c.args.said.now c.take.result
    c.in-Some.running.value c.take.new.running session
    (sym c.is_begin.ensures ∙ c.if-is_begin.false)
    (subst (λ (r : RunningHost). Takes r c.args.said.now c.take.result c.take.new.running)
    c.deref_mut.ensures.value c.take.ensures) stands)

pub returns-in-Some-process : goal.returns-in-Some-process
returns-in-Some-process c =
    rw c.in_default.is
    (λ session stands.
    taken-foreign c.args.self.now.script c.args.self.now.limits c.args.said.now
    c.in-Some-process.field-0 session (sym c.is_begin.ensures ∙ c.if-is_begin.false)
    c.in-Some-process.is stands)

pub returns : goal.returns
returns c =
    rw c.in_default.is
    (λ session stands.
    taken-alone c.args.self.now.script c.args.self.now.limits c.args.said.now c.take-2.result
    c.take-2.new.self c.limits_after-self.result session
    (sym c.is_begin.ensures ∙ c.if-is_begin.false) c.in_default-process.is
    c.limits_after-self.ensures c.take-2.ensures stands)
