use Rattle.std.proofs.Common.{Option, sym, subst}
use Rattle.numa_space.specs.History.{page_of}
use Rattle.numa_requests.specs.declared.placement.Placement.{Placement}
use Rattle.numa_page_state.specs.Lying.{ground_in}
use Rattle.numa_page_state.specs.Outcomes.{move_where}
use Rattle.numa_page_state.specs.Standing.{DoesAs}
use Rattle.numa_page_state.proofs.Served.{move_lack}
use Rattle.numa_page_state.proofs.state.PageState.move_page.Goals as goal

pub returns-in-Some-clause-does : goal.returns-in-Some-clause-does
returns-in-Some-clause-does c =
    subst (λ (p : Option Placement). DoesAs c.args.self.now c.stay.result c.stay.new.self
    move_lack (λ lack at. move_where p lack (ground_in c.args.space.now c.args.resident.now)
    (page_of c.args.address) c.args.node at)) (sym c.in-Some.ensures.kept) c.stay.ensures.does

pub returns-in-None-clause-does : goal.returns-in-None-clause-does
returns-in-None-clause-does c =
    subst (λ (p : Option Placement). DoesAs c.args.self.now c.send.result c.send.new.self
    move_lack (λ lack at. move_where p lack (ground_in c.args.space.now c.args.resident.now)
    (page_of c.args.address) c.args.node at)) (sym c.in-None.ensures.kept) c.send.ensures.does
