-- The plan, and its copy, lack what the command changed.
use Rattle.tests_of_parts.proofs.tests.recompiling.follow_beside.Goals as goal

pub edit-requires : goal.edit-requires
edit-requires g c = record {
  command = c.args.command.now;
  behind = record {
    before = c.args.space.now;
    step = c.in-Ok.ensures.applied.step;
    follows = c.requires.follows;
  };
  told = c.in-Ok.ensures.change;
}

pub edit_copy-requires : goal.edit_copy-requires
edit_copy-requires g c = rw c.requires.same (record {
  command = c.args.command.now;
  behind = record {
    before = c.args.space.now;
    step = c.in-Ok.ensures.applied.step;
    follows = c.requires.follows;
  };
  told = c.in-Ok.ensures.change;
})
