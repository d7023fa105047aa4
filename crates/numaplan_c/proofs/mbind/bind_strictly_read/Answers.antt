use Rattle.std.proofs.Common.{◌≡◌, ◌∙◌, ap}
use Rattle.numa_machine.specs.declared.rules.Rules.{Rules}
use Rattle.numa_script.specs.declared.page_line.BoundPages.TheVariants as pages
use Rattle.numaplan_c.specs.Bound.{bound_spec, host_rules_in}
use Rattle.numaplan_c.specs.Codes.{word_code}
use Rattle.numaplan_c.specs.Hosts.{reply_code}
use Rattle.numaplan_handles.specs.Handles.{host_in}
use Rattle.numaplan_handles.specs.Hosted.{Binds}
use Rattle.numaplan_c.proofs.Hosting.{told-bound}
use Rattle.numaplan_c.proofs.mbind.bind_strictly_read.Goals as goal

pub returns : goal.returns
returns c =
    told-bound reply_code (λ answer. Unit {0}) (Unit {0})
    (λ spec. Binds c.args.process c.args.start c.args.length spec pages.Strict) c.args.host.now
    c.host_rules-rules.new.host c.bind_strictly_in.new.host c.bind_strictly_in.result
    (bound_spec (host_rules_in (host_in c.args.host.now)) c.args.length c.args.said)
    c.in-Ok.value
    (λ fault. (c.bind_strictly_in.result ≡ word_code fault)
    × (host_in c.bind_strictly_in.new.host ≡ host_in c.args.host.now))
    (c.in-Ok.ensures
    ∙ ap (λ (rules : Rules). bound_spec rules c.args.length c.args.said)
    c.host_rules-rules.ensures.rules) c.host_rules-rules.ensures.same c.bind_strictly_in.ensures
