use Rattle.std.proofs.Common.{Ok, Some, refl, sym, subst, List}
use Rattle.numa_requests.specs.declared.command.Command.{Command}
use Rattle.numa_space.specs.Standing.{StandsFor}
use Rattle.numa_huge.specs.Tallies.{IsWalk}
use Rattle.numa_pages.specs.Changes.{Answers, Moving, PagesState, walk_of}
use Rattle.numa_pages.proofs.Moves.{Found, gone}
use Rattle.numa_pages.proofs.pages.Pages.rebind.Goals as goal

pub returns-in-Ok : goal.returns-in-Ok
returns-in-Ok c =
    let moving : Moving = record { said = c.args.said; toucher = c.args._toucher } in
    rw (← c.self.view_is) (gone moving c.args.strict
    (record { core = c.self.inside.core; state = c.self.inside.state; huge = c.self.inside.huge })
    (record { core = c.accept.new.self; state = c.settle.new.state; huge = c.replace.new.dest })
    c.args.sent c.args.places c.args.flows
    (record { bound = c.bound_of-bound.result; errno = c.late_errno-errno.result })
    (subst (λ (p : PagesState). Found moving p (Ok (Some c.args.sent))) (sym c.self.view_is)
    c.requires.small)
    (subst (λ (p : PagesState). (history : List Command) → StandsFor p.core.space history
    → IsWalk (walk_of p history moving) c.args.places c.args.flows) (sym c.self.view_is)
    c.requires.huge) c.in-Ok.field-0.version
    (subst (λ (k : Command). Answers c.self.inside.core k (Ok c.in-Ok.field-0.version)
    c.accept.new.self) c.command_of.ensures c.in-Ok.ensures.executions) c.in-Ok.ensures.setup
    c.settle.ensures c.replace.ensures.after c.bound_of-bound.ensures.moved
    c.bound_of-bound.ensures.left c.late_errno-errno.ensures)
