use Rattle.std.proofs.Common.{List, subst}
use Rattle.numa_host.specs.declared.process.Process.{Process}
use Rattle.numa_words.specs.Touching.{IsTold, told_each, told_from}
use Rattle.numa_words.proofs.Touched.{told-none}
use Rattle.numa_words.proofs.touching.from_shared.Goals as goal

pub returns : goal.returns
returns c = λ at lies.
    let none = told-none c.no_pages-said.result c.new-lying.result at c.no_pages-said.ensures.on
    c.no_pages-said.ensures.exhausted c.new-lying.ensures.items in
    subst (λ (all : List Process). IsTold c.add_each.new.touched
    (told_each c.args.process c.args.touch c.args.there.now all (told_from at)))
    c.processes-all.ensures.processes
    (c.in-Ok-add_each.ensures (told_from at) (c.in-Ok.ensures at lies) none).1
