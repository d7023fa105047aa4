use Rattle.std.proofs.Common.{◌≡◌, false, refl, sym, subst, ap, ◌∙◌}
use Rattle.numa_huge.specs.Huge.{HugePlaced, places_of}
use Rattle.numa_pages.specs.Changes.{PagesState, huge_in}
use Rattle.numa_pages.specs.PoolCalls.{Lacking}
use Rattle.numa_pages.specs.Sizes.{with_mapping}
use Rattle.numa_pages.proofs.Mapped.{map-done, map-refused}
use Rattle.numa_pages.proofs.pages.Pages.map_by.Goals as goal

pub returns-in-Ok : goal.returns-in-Ok
returns-in-Ok c =
    let before : PagesState = record {
      core = c.self.inside.core;
      state = c.self.inside.state;
      huge = c.self.inside.huge;
    } in
    rw (← c.self.view_is) (map-done c.args.said.now before
    (record {
      core = c.carried_out.new.core;
      state = c.self.inside.state;
      huge = c.replace.new.dest;
    }) c.in-Ok.version (subst (Lacking false c.args.said.now) (sym c.self.view_is)
    c.requires.enough)
    (rw c.command_of.ensures at c.in-Ok.ensures.answers) c.in-Ok.ensures.setup refl
    (ap places_of c.replace.ensures.after ∙ subst (λ (p : PagesState). places_of c.args.after
    ≡ with_mapping c.args.said.now.start c.args.said.now.length c.args.said.now.reserves
    (huge_in p)) (sym c.self.view_is) c.requires.after))

pub returns-in-Err : goal.returns-in-Err
returns-in-Err c =
    rw (← c.self.view_is) (map-refused c.args.said.now
    (record { core = c.self.inside.core; state = c.self.inside.state; huge = c.self.inside.huge })
    (record {
      core = c.carried_out.new.core;
      state = c.self.inside.state;
      huge = c.self.inside.huge;
    }) c.in-Err.refusal (rw c.command_of.ensures at c.in-Err.ensures.answers)
    c.in-Err.ensures.unchanged refl refl)
