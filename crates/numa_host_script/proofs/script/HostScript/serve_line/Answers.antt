use Rattle.std.proofs.Common.{Option, subst, sym}
use Rattle.std.specs.Global.{Global}
use Rattle.std.specs.Prelude.{Box}
use Rattle.numa_run.specs.declared.running.Taken.TheVariants as own
use Rattle.numa_host_script.specs.declared.taking.HostTaken.TheVariants as taken
use Rattle.numa_host_script.specs.Standing.{StandsIn, unboxed}
use Rattle.numa_host_script.specs.declared.running.RunningHost.{RunningHost}
use Rattle.numa_host_script.proofs.Left.{asked-left}
use Rattle.numa_host_script.proofs.Taken.{TakesAt, taken-alone}
use Rattle.numa_host_script.proofs.Written.{served-line}
use Rattle.numa_host_script.proofs.script.HostScript.serve_line.Goals as goal

pub returns-in-Some : goal.returns-in-Some
returns-in-Some g c = λ session stands.
    served-line g.W.Write.contents c.args.output.now c.write_own.new.output
    c.args.self.now.script c.args.self.now.limits (unboxed c.args.self.now.host)
    c.write_own.new.self.script c.write_own.new.self.limits (unboxed c.write_own.new.self.host)
    c.args.said.now (taken.Own (own.Question c.in-Some.question)) c.write_own.result session
    (asked-left c.args.self.now.script c.args.self.now.limits (unboxed c.args.self.now.host)
    session
    c.args.said.now c.in-Some.question c.in-Some.ensures stands) c.write_own.ensures

pub returns : goal.returns
returns g c = λ session stands.
    let own = c.is_wider.ensures c.if-is_wider.false in
    let script = c.args.self.now.script in
    let limits = c.args.self.now.limits in
    let said = c.args.said.now in
    let mid = c.take-taken.new.self in
    let mid_limits = c.limits_after-self.result in
    let took = subst (λ (host : Option (Box RunningHost Global)).
    StandsIn script limits (unboxed host) session → TakesAt script limits said
    (taken.Own c.take-taken.result) mid mid_limits (unboxed host) session) (sym own.2)
    (taken-alone script limits said c.take-taken.result mid mid_limits session own.0 own.1
    c.limits_after-self.ensures c.take-taken.ensures) stands in
    served-line g.W.Write.contents c.args.output.now c.write_own-2.new.output mid mid_limits
    (unboxed c.args.self.now.host) c.write_own-2.new.self.script c.write_own-2.new.self.limits
    (unboxed c.write_own-2.new.self.host) said (taken.Own c.take-taken.result)
    c.write_own-2.result session took c.write_own-2.ensures
