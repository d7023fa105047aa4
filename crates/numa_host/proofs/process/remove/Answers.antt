use Rattle.std.proofs.Common.{not, eqb, rules, tests}
use Rattle.std.proofs.lemmas.Fn.{filter_same}
use Rattle.numa_host.specs.declared.process.Process.{Process}
use Rattle.numa_host.proofs.process.remove.Goals as goal

pub returns : goal.returns
returns c = filter_same _ (λ (p : Process). not (eqb p.id c.args.id)) _
    (λ x b f' k. search (rules, tests)) _ _ c.retain.ensures.filtered
