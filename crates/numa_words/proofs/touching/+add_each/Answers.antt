use Rattle.std.proofs.Common.{List, subst, sym}
use Rattle.std.proofs.lemmas.List.{nil_from_length}
use Rattle.std.proofs.lemmas.Result.{on_ok_weaker}
use Rattle.numa_host.specs.declared.process.Process.{Process}
use Rattle.numa_host_huge.specs.Standing.{HugeLies}
use Rattle.numa_words.specs.Touching.{IsTold, told_each, told_if}
use Rattle.numa_words.proofs.touching.+add_each.Goals as goal

pub returns-in_default : goal.returns-in_default
returns-in_default t c = λ told lies so.
    let each = told_each c.args.process c.args.touch c.args.there.now in
    subst (λ (all : List Process). HugeLies c.args.huge.now (each all told).at
    × IsTold c.args.touched.now (each all told))
    (sym (nil_from_length c.args.processes.now c.in_default.ensures.cases)) (lies, so)

pub returns : goal.returns
returns t c = λ told lies so.
    let each = told_each c.args.process c.args.touch c.args.there.now in
    let one = c.in-Some.one.now in
    let here = c.in-Ok.ensures told lies so in
    on_ok_weaker c.add_each.result (λ done.
    subst (λ (all : List Process). HugeLies c.add_each.new.huge (each all told).at
    × IsTold c.add_each.new.touched (each all told)) (sym c.in-Some.ensures.cases.0) done)
    (c.add_each.ensures (told_if c.args.process c.args.touch c.args.there.now one told) here.0
    here.1)
