use Rattle.std.proofs.Common.{List, Ok, Some, refl, sym, subst, ap, ◌∙◌}
use Rattle.numa_requests.specs.declared.command.Command.{Command}
use Rattle.numa_space.specs.Standing.{StandsFor}
use Rattle.numa_huge.specs.Tallies.{IsWalk}
use Rattle.numa_pages.specs.Changes.{Moving, PagesState, walk_of}
use Rattle.numa_pages.proofs.Moves.{Found, walk-so}
use Rattle.numa_pages.proofs.pages.Pages.bind_both.Goals as goal

pub rebind-requires-clause-huge : goal.rebind-requires-clause-huge
rebind-requires-clause-huge c =
    let moving : Moving = record { said = c.args.said; toucher = c.args.toucher } in
    let pages : PagesState = record {
      core = c.self.inside.core;
      state = c.self.inside.state;
      huge = c.self.inside.huge;
    } in
    subst (λ (p : PagesState). (history : List Command) → StandsFor p.core.space history
    → IsWalk (walk_of p history moving) c.in-Ok-Some.done.0 c.in-Ok-Some.done.1) c.self.view_is
    (walk-so moving pages c.space-space.result.now c.args.sent c.in-Ok-Some.done.0
    c.in-Ok-Some.done.1 c.huge_sent_from.result c.space-space.ensures.space
    (c.in-Ok-Some.is ∙ ap Ok c.in-Ok-Some.field-0-is)
    (subst (λ (p : PagesState). Found moving p (Ok (Some c.args.sent))) (sym c.self.view_is)
    c.requires) c.huge_sent_from.ensures.sent)
