use Rattle.std.proofs.Common.{Option, sym, subst}
use Rattle.numa_lines.proofs.Adding.{said_same}
use Rattle.numa_page_state.specs.Lying.{Lying}
use Rattle.numa_page_state.specs.Standing.{LastAs, Lies}
use Rattle.numa_page_state.specs.declared.last.Last.TheVariants as went
use Rattle.numa_page_state.specs.declared.state.PageState.{PageState}
use Rattle.numa_run.proofs.Flows.{added-told}
use Rattle.numa_run.proofs.moved.say_both.Goals as goal

pub returns-in-Some : goal.returns-in-Some
returns-in-Some g c = λ lying told lies has.
    said_same g.W.Write.contents c.args.output.now c.say_added.new.output _ _
    (added-told c.args.version c.last.result.now lying.last c.args.huge.now told
    (c.last.ensures.lies lying (subst (λ (p : Option PageState). Lies p lying) c.in-Some.is lies))
    has) c.say_added.ensures

pub returns-in-None : goal.returns-in-None
returns-in-None g c = λ lying told lies has.
    let none = subst (λ (p : Option PageState). Lies p lying) c.in-None.is lies in
    let tells : LastAs (went.Nodes c.still.result) lying.last =
    subst (λ (l : Lying). LastAs (went.Nodes c.still.result) l.last) (sym none) c.still.ensures in
    said_same g.W.Write.contents c.args.output.now c.say_added-in-None.new.output _ _
    (added-told c.args.version (went.Nodes c.still.result) lying.last c.args.huge.now told tells
    has) c.say_added-in-None.ensures
