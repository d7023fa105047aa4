use Rattle.std.proofs.Common.{refl}
use Rattle.numa_host_pages.proofs.Obeyed.{stays-by}
use Rattle.numa_host_pages.proofs.obeying.obey.Goals as goal

pub returns-in-NewGroup : goal.returns-in-NewGroup
returns-in-NewGroup c = stays-by c.args.host.now c.args.pages.now c.args.command.now _
    c.apply.result c.apply.new.self c.in-NewGroup.is (λ lacks history at. refl) (λ history. refl)
    (λ history. refl) c.apply.ensures

pub returns-in-In : goal.returns-in-In
returns-in-In c = stays-by c.args.host.now c.args.pages.now c.args.command.now _
    c.apply-in-In.result c.apply-in-In.new.self c.in-In.is (λ lacks history at. refl)
    (λ history. refl) (λ history. refl) c.apply-in-In.ensures

pub returns-in-SetWeight : goal.returns-in-SetWeight
returns-in-SetWeight c = stays-by c.args.host.now c.args.pages.now c.args.command.now _
    c.apply-in-SetWeight.result c.apply-in-SetWeight.new.self c.in-SetWeight.is
    (λ lacks history at. refl) (λ history. refl) (λ history. refl) c.apply-in-SetWeight.ensures
