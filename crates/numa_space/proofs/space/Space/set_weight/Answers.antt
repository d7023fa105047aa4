use Rattle.std.proofs.Common.{◌+◌, Ok, refl, rules}
use Rattle.numa_space.specs.Inside.{shown_of}
use Rattle.numa_space.specs.Steps.{IsAnswer}
use Rattle.numa_requests.specs.declared.command.Command.TheVariants.{SetWeight}
use Rattle.numa_space.specs.declared.space.Space.TheInside.{Inside}
use Rattle.numa_space.proofs.Kept.{kept-answer}
use Rattle.numa_space.proofs.space.Space.set_weight.Goals as goal

pub invariant_of-self-2 : goal.invariant_of-self-2
invariant_of-self-2 c =
    let new : Inside =
    record c.self.inside { weights = c.set.new.self; version = c.self.inside.version + 1 } in
    let answer : IsAnswer (shown_of c.self.inside) (SetWeight c.args.node c.args.weight) (Ok (tt {0}))
    (shown_of new) = search rules in
    kept-answer c.self.inside new (SetWeight c.args.node c.args.weight) (Ok (tt {0})) c.self.invariant
    refl c.set.ensures.nodes (λ none. (none, refl)) answer
