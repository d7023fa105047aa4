use Rattle.std.proofs.Common.{◌≡◌, ◌++◌, [], ◌∷◌, ◌+◌, false, List, take, sym, ap, ◌∙◌, subst}
use Rattle.std.proofs.Common.{rules}
use Rattle.std.proofs.lemmas.List.{take_more}
use Rattle.numa_space.specs.Standing.{SpaceState, StandsFor, accepted_of}
use Rattle.numa_requests.specs.declared.command.Command.{Command}
use Rattle.numa_space.proofs.Accepted.{wanted_memory, applied-more, stops-at}
use Rattle.numa_space.proofs.space.Space.apply_all.Goals as goal

pub loop-done-preserved : goal.loop-done-preserved
loop-done-preserved c =
    let old : SpaceState = c.args.self.now in
    let command : Command = c.index-commands-done.result in
    let before : List Command = take c.loop-done.done c.args.commands.now in
    let more : take (c.loop-done.done + 1) c.args.commands.now ≡ before ++ command ∷ [] =
    take_more c.args.commands.now c.loop-done.done command c.loop-done-test.true
    ∙ ap (λ x. before ++ x ∷ []) (sym c.index-commands-done.is) in
    let fed : wanted_memory c.apply.result ≡ false = search rules in
    record {
      stands = λ history stood.
          let middle : List Command = accepted_of old.machine old.bounds before history in
          let stands : StandsFor c.loop-done.self middle =
          c.loop-done.invariant.stands history stood in
          let P : List Command → Type 0 = λ commands.
          StandsFor c.apply.new.self (accepted_of old.machine old.bounds commands history) in
          subst P (sym more)
          (applied-more old.machine old.bounds c.loop-done.self c.apply.new.self before history
          command c.apply.result c.loop-done.invariant.machine c.loop-done.invariant.bounds
          stands
          (c.apply.ensures.applied.ok middle stands) (c.apply.ensures.applied.err middle stands)
          c.apply.ensures.applied.unchanged fed);
      machine = c.apply.ensures.applied.machine ∙ c.loop-done.invariant.machine;
      bounds = c.apply.ensures.applied.bounds ∙ c.loop-done.invariant.bounds;
    }

pub returns-in-Err-NoMemory-clause-stop : goal.returns-in-Err-NoMemory-clause-stop
returns-in-Err-NoMemory-clause-stop c history stood =
    let old : SpaceState = c.args.self.now in
    let middle : List Command =
    accepted_of old.machine old.bounds (take c.loop-done.done c.args.commands.now) history in
    let stands : StandsFor c.loop-done.self middle = c.loop-done.invariant.stands history stood in
    stops-at old.machine old.bounds c.loop-done.self c.args.commands.now history c.loop-done.done
    c.index-commands-done.result c.apply.result c.in-Err-NoMemory.field-0
    c.loop-done.invariant.machine c.loop-done.invariant.bounds
    c.loop-done-test.true c.index-commands-done.is (c.apply.ensures.applied.err middle stands)
    c.apply.ensures.applied.room c.in-Err-NoMemory.is c.in-Err-NoMemory.field-0-is
