use Rattle.std.proofs.Common.{subst}
use Rattle.numa_requests.specs.declared.command.Command.TheVariants.{SetMems}
use Rattle.numa_pages.specs.Changes.{Accepted, PagesState}
use Rattle.numa_pages.proofs.pages.Pages.move_within.Goals as goal

pub follow-requires-clause-accepted : goal.follow-requires-clause-accepted
follow-requires-clause-accepted c =
    subst (λ (p : PagesState). Accepted p.core (SetMems c.args.mask) c.in-Ok.after) c.self.view_is
    c.in-Ok.ensures.core
