use Rattle.std.proofs.Common.{◌≡◌, false, refl, sym, subst}
use Rattle.numa_huge.specs.Huge.{fits}
use Rattle.numa_page_state.specs.Pooling.{mapped_first, mapped_pages}
use Rattle.numa_pages.specs.Changes.{Answers, PagesState, huge_in}
use Rattle.numa_pages.specs.PoolCalls.{Lacking}
use Rattle.numa_requests.specs.declared.command.Command.{Command}
use Rattle.numa_pages.proofs.Mapped.{map-done, map-refused, misfit-is}
use Rattle.numa_pages.proofs.pages.Pages.map_plain.Goals as goal

pub returns : goal.returns
returns c =
    let before : PagesState = record {
      core = c.self.inside.core;
      state = c.self.inside.state;
      huge = c.self.inside.huge;
    } in
    rw (← c.self.view_is) (map-done c.args.said.now before
    (record {
      core = c.carried_out.new.core;
      state = c.self.inside.state;
      huge = c.self.inside.huge;
    }) c.in-Ok.version (subst (Lacking false c.args.said.now) (sym c.self.view_is)
    c.requires.enough)
    (rw c.command_of.ensures at c.in-Ok.ensures.answers) c.in-Ok.ensures.setup refl
    (misfit-is c.args.said.now (huge_in before) (subst (λ (p : PagesState).
    fits (huge_in p).spots (mapped_first c.args.said.now.start)
    (mapped_pages c.args.said.now.length) ≡ false) (sym c.self.view_is) c.requires.fits)))

pub returns-in-Err : goal.returns-in-Err
returns-in-Err c =
    rw (← c.self.view_is) (map-refused c.args.said.now
    (record { core = c.self.inside.core; state = c.self.inside.state; huge = c.self.inside.huge })
    (record {
      core = c.carried_out.new.core;
      state = c.self.inside.state;
      huge = c.self.inside.huge;
    }) c.in-Err.refusal (rw c.command_of.ensures at c.in-Err.ensures.answers)
    c.in-Err.ensures.unchanged refl refl)
