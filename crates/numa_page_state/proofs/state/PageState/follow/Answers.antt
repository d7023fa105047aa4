use Rattle.std.proofs.Common.{refl}
use Rattle.numa_page_state.proofs.Follows.{followed-so}
use Rattle.numa_page_state.proofs.state.PageState.follow.Goals as goal

pub returns : goal.returns
returns c = λ lying kept lies by.
    followed-so c.args.self.now (record {
      placed = c.follow_telling.new.placed;
      rooms = c.follow_telling.new.rooms;
      follows = c.args.self.now.follows;
      last = c.follow_telling.new.last;
      arrived = c.args.self.now.arrived;
    }) lying lies c.args.old.now c.args.new.now kept c.if-not-self.false _
    c.follow_telling.ensures.0 c.follow_telling.ensures.1 c.follow_telling.ensures.2 by refl refl
