use Rattle.std.proofs.Common.{sym, subst, ◌∙◌}
use Rattle.std.proofs.lemmas.Result.{on_ok_weaker}
use Rattle.numa_host_huge.specs.Standing.{HugeLies}
use Rattle.numa_words.specs.Touching.{IsTold, Told}
use Rattle.numa_words.proofs.Touched.{asked-not, asked-so}
use Rattle.numa_words.proofs.touching.add_asked.Goals as goal

pub returns-then-not-is_asked : goal.returns-then-not-is_asked
returns-then-not-is_asked c = λ told lies so.
    subst (λ (t : Told). HugeLies c.args.huge.now t.at × IsTold c.args.touched.now t)
    (asked-not c.args.process c.args.touch c.args.there.now c.args.one.now told
    (sym c.is_asked.ensures ∙ c.if-not-is_asked.true)) (lies, so)

pub returns : goal.returns
returns c = λ told lies so.
    on_ok_weaker c.add_touched.result (λ done.
    subst (λ (t : Told). HugeLies c.add_touched.new.huge t.at × IsTold c.add_touched.new.touched t)
    (asked-so c.args.process c.args.touch c.args.there.now c.args.one.now told
    (sym c.is_asked.ensures ∙ c.if-not-is_asked.false)) done) (c.add_touched.ensures told lies so)
