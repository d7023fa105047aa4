use Rattle.numa_page_state.proofs.huge.huge_move.Goals as goal

pub returns-in-Ok-clause-moves : goal.returns-in-Ok-clause-moves
returns-in-Ok-clause-moves c memory stands =
    c.in-Ok.ensures.goes c.args.huge.now.last c.args.huge.now.arrived memory stands

pub returns-in-Err-clause-moves : goal.returns-in-Err-clause-moves
returns-in-Err-clause-moves c memory stands =
    c.in-Err.ensures.goes c.args.huge.now.last c.args.huge.now.arrived memory stands

pub returns-in-Ok-clause-keeps : goal.returns-in-Ok-clause-keeps
returns-in-Ok-clause-keeps c = c.huge_goes.ensures.keeps

pub returns-in-Err-clause-keeps : goal.returns-in-Err-clause-keeps
returns-in-Err-clause-keeps c = c.huge_goes.ensures.keeps
