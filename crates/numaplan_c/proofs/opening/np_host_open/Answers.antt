use Rattle.std.proofs.Common.{◌∙◌, ap, sym}
use Rattle.std.proofs.lemmas.Bool.{both_ways}
use Rattle.std.specs.Prelude.{is_some}
use Rattle.numaplan_handles.specs.Handles.{host_in}
use Rattle.numaplan_c.proofs.Hosting.{none-kept, opened}
use Rattle.numaplan_c.proofs.opening.np_host_open.Goals as goal

pub returns-in-Ok-new-clause-opens : goal.returns-in-Ok-new-clause-opens
returns-in-Ok-new-clause-opens c =
    opened c.in-Ok-new.running c.open.result (host_in c.args.host.now) (host_in c.open.new.self)
    c.memory_code.result
    (none-kept c.args.host.now.handle.held.kept (sym c.is_open.ensures ∙ c.if-is_open.false))
    c.open.ensures c.memory_code.ensures

pub returns-in-Ok-new-clause-open : goal.returns-in-Ok-new-clause-open
returns-in-Ok-new-clause-open c = λ there.
    absurd (both_ways (is_some (host_in c.args.host.now))
    (ap is_some (none-kept c.args.host.now.handle.held.kept
    (sym c.is_open.ensures ∙ c.if-is_open.false))) there)
