use Rattle.std.proofs.Common.{[], refl}
use Rattle.std.proofs.lemmas.Result.{err_from_is_err_and}
use Rattle.numa_page_state.specs.Lying.{ground_in}
use Rattle.numa_page_state.specs.Outcomes.{held_cause}
use Rattle.numa_page_state.proofs.Served.{stays-denied, stays-there}
use Rattle.numa_page_state.proofs.state.PageState.stay.Goals as goal

pub returns-clause-does : goal.returns-clause-does
returns-clause-does c = λ lying lies.
    stays-there c.args.self.now (record {
      placed = c.args.self.now.placed;
      rooms = c.args.self.now.rooms;
      follows = c.args.self.now.follows;
      last = c.keep.new.last;
      arrived = c.args.self.now.arrived;
    }) lying lies
    (held_cause (ground_in c.args.space.now []) c.args.page c.args.node c.args.from)
    c.still.result c.in_ok-judge_held.ensures refl refl refl refl c.still.ensures
    c.keep.ensures

pub returns-in_err-judge_held-clause-does : goal.returns-in_err-judge_held-clause-does
returns-in_err-judge_held-clause-does c =
    let exit = err_from_is_err_and c.from_residual.result c.from_residual.ensures.1 in
    rw (exit.1, exit.2) (λ lying lies.
    stays-denied c.args.self.now c.args.self.now lying lies
    (held_cause (ground_in c.args.space.now []) c.args.page c.args.node c.args.from)
    c.in_err-judge_held.field-0.0 c.in_err-judge_held.ensures refl)
