use Rattle.std.proofs.Common.{◌≡◌, ℕ, Bool, false, eqb, sym, ◌∙◌, subst, refl}
use Rattle.numa_page_state.specs.Outcomes.{Lack}
use Rattle.numa_page_state.specs.Standing.{HaveRoom}
use Rattle.numa_host_pages.specs.Homes.{pages_followed}
use Rattle.numa_host_pages.specs.Standing.{Sits}
use Rattle.numa_host_pages.proofs.following.follow_home.Goals as goal

pub returns : goal.returns
returns c = λ home room is have.
    let other : eqb c.args.member.now.allowed c.args.nodes.now ≡ false =
    sym c.eq.ensures ∙ c.if-eq.false in
    let here : eqb home.allowed c.args.nodes.now ≡ false = rw (← is.allowed) other in
    let done = subst (λ (old : ℕ). (lack : Lack) × Sits c.follow_pages.new.pages
    (pages_followed lack c.args.follows old c.args.nodes.now home.lying room).0
    × HaveRoom c.follow_pages.new.rooms
    (pages_followed lack c.args.follows old c.args.nodes.now home.lying room).1) is.allowed
    (c.follow_pages.ensures home.lying room is.pages have) in
    rw here (
      done.0,
      record {
        id = is.id;
        group = is.group;
        allowed = refl;
        pages = done.1;
        along = refl;
      },
      done.2,
    )
