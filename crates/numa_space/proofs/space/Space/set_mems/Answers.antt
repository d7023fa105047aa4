use Rattle.std.proofs.Common.{◌+◌, Ok, refl, rules}
use Rattle.numa_space.specs.Inside.{shown_of}
use Rattle.numa_space.specs.Steps.{IsAnswer}
use Rattle.numa_requests.specs.declared.command.Command.TheVariants.{SetMems}
use Rattle.numa_space.specs.declared.space.Space.TheInside.{Inside}
use Rattle.numa_space.proofs.Kept.{kept-answer}
use Rattle.numa_space.proofs.space.Space.set_mems.Goals as goal

pub invariant_of-self : goal.invariant_of-self
invariant_of-self c =
    let new : Inside =
    record c.self.inside {
      allowed = c.in-Some.allowed;
      pages = c.rebind.new.self;
      tasks =
          c.rebind-2.new.self;
      version = c.self.inside.version + 1;
    } in
    let answer : IsAnswer (shown_of c.self.inside) (SetMems c.args.mask.now) (Ok (tt {0})) (shown_of new) =
    search rules in
    kept-answer c.self.inside new (SetMems c.args.mask.now) (Ok (tt {0})) c.self.invariant
    c.rebind.ensures.limit refl (λ none. (none, refl)) answer
