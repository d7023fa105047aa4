use Rattle.std.proofs.Common.{Bool, subst, sym}
use Rattle.numa_huge.proofs.Keeping.{keeps-same}
use Rattle.numa_huge.specs.Tallies.{IsMemory}
use Rattle.numa_huge.specs.declared.last.HugeLast.TheVariants as went
use Rattle.numa_page_state.specs.Huge.{huge_followed}
use Rattle.numa_page_state.proofs.HugeMoved.{followed-so}
use Rattle.numa_page_state.proofs.huge.follow_huge.Goals as goal

pub returns-then-not-follows-clause-follows : goal.returns-then-not-follows-clause-follows
returns-then-not-follows-clause-follows c memory stands =
    subst (λ (b : Bool). IsMemory c.rest.new.self
    (huge_followed b c.args.old.now c.args.new.now memory)) (sym c.if-not-follows.true)
    (c.rest.ensures.memory memory stands)

pub returns-clause-follows : goal.returns-clause-follows
returns-clause-follows c memory stands =
    subst (λ (b : Bool). IsMemory (record {
      places = c.follow-told.new.self;
      last = went.Nodes c.follow-told.result;
      arrived = c.args.huge.now.arrived;
    }) (huge_followed b c.args.old.now c.args.new.now memory)) (sym c.if-not-follows.false)
    (followed-so c.args.huge.now c.follow-told.new.self c.follow-told.result memory c.args.old.now
    c.args.new.now stands c.follow-told.ensures.pages c.follow-told.ensures.told)

pub returns-then-not-follows-clause-keeps : goal.returns-then-not-follows-clause-keeps
returns-then-not-follows-clause-keeps c =
    keeps-same c.args.huge.now.places c.rest.new.self.places c.rest.ensures.places

pub returns-clause-keeps : goal.returns-clause-keeps
returns-clause-keeps c = c.follow-told.ensures.keeps
