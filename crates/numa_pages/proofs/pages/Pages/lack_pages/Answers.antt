use Rattle.std.proofs.Common.{◌≡◌, false, true, refl, sym, subst, ap, ◌∙◌, List}
use Rattle.numa_requests.specs.declared.command.Command.{Command}
use Rattle.numa_space.specs.Refusals.{refusal_of}
use Rattle.numa_space.specs.Standing.{SpaceState, StandsFor}
use Rattle.numa_page_state.specs.Strict.{is_late}
use Rattle.numa_pages.specs.Changes.{PagesState}
use Rattle.numa_pages.specs.PoolCalls.{Lacking, command_in}
use Rattle.numa_pages.proofs.Mapped.{late-so, map-lacks, stands-so}
use Rattle.numa_pages.proofs.Refusing.{Stands, not-accepted}
use Rattle.numa_pages.proofs.pages.Pages.lack_pages.Goals as goal

pub unreachable-requires : goal.unreachable-requires
unreachable-requires c =
    let pages : PagesState = record {
      core = c.self.inside.core;
      state = c.self.inside.state;
      huge = c.self.inside.huge;
    } in
    not-accepted pages c.command_of-command.result c.in-Ok-accept.field-0.version
    c.published.ensures.past
    (subst (Stands pages) (sym c.command_of-command.ensures)
    (stands-so c.args.said.now pages c.in-Ok.late
    (late-so c.args.said.now pages c.space.result.now c.command_of-command.result
    c.in-Ok.late c.space.ensures.space c.command_of-command.ensures c.in-Ok.ensures)
    c.if-late.false)) (λ world of. (c.in-Ok-accept.ensures.answer world of).0)

pub returns-then-late : goal.returns-then-late
returns-then-late c =
    let pages : PagesState = record {
      core = c.self.inside.core;
      state = c.self.inside.state;
      huge = c.self.inside.huge;
    } in
    rw (← c.self.view_is) (map-lacks c.args.said.now pages
    (record { core = c.self.inside.core; state = c.self.inside.state; huge = c.refuse.new.self })
    c.args.pages (subst (Lacking true c.args.said.now) (sym c.self.view_is) c.requires.lacks)
    (λ history of. sym (late-so c.args.said.now pages c.space.result.now
    c.command_of-command.result c.in-Ok.late c.space.ensures.space
    c.command_of-command.ensures c.in-Ok.ensures history of) ∙ c.if-late.true)
    c.requires.pages refl refl c.refuse.ensures.pools c.refuse.ensures.runs)
