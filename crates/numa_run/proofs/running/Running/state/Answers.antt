use Rattle.numa_script.specs.declared.page_line.PageLine.TheVariants as page
use Rattle.numa_run.specs.PageLines.{changed}
use Rattle.numa_run.proofs.Paged.{there-plain, there-refused}
use Rattle.numa_run.proofs.running.Running.state.Goals as goal

pub returns-then-has_huge : goal.returns-then-has_huge
returns-then-has_huge c =
    there-refused c.args.self.now _ _ (λ lack machine state. changed lack machine state
    (page.At c.args.start c.args.length c.args.node)) c.has_huge.result c.has_huge.ensures
    c.if-has_huge.true

pub returns : goal.returns
returns c =
    there-plain c.args.self.now _ _ (λ lack machine state. changed lack machine state
    (page.At c.args.start c.args.length c.args.node)) c.has_huge.result c.has_huge.ensures
    c.reply_of.new.self c.reply_of.result c.if-has_huge.false c.reply_of.ensures.serves
