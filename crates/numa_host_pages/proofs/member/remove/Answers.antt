use Rattle.std.proofs.Common.{not, eqb, rules, tests}
use Rattle.std.proofs.lemmas.Fn.{filter_same}
use Rattle.numa_host_pages.specs.declared.member.Member.{Member}
use Rattle.numa_host_pages.proofs.member.remove.Goals as goal

pub returns-clause-items : goal.returns-clause-items
returns-clause-items c = filter_same _ (λ (m : Member). not (eqb m.id c.args.process)) _
    (λ x b f' k. search (rules, tests)) _ _ c.retain.ensures.filtered
