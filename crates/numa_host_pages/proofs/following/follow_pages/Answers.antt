use Rattle.std.proofs.Common.{refl, sym, subst, []}
use Rattle.numa_page_state.specs.Standing.{LiesAs}
use Rattle.numa_page_state.specs.declared.state.PageState.{PageState}
use Rattle.numa_host_pages.specs.Homes.{lent}
use Rattle.numa_page_state.specs.Outcomes.{followed}
use Rattle.numa_host_pages.proofs.Walked.{some-lying}
use Rattle.numa_host_pages.proofs.following.follow_pages.Goals as goal

pub returns : goal.returns
returns c = λ lying room sits have.
    let has = some-lying c.in-Some.state lying (rw (← c.in-Some.is) sits) in
    let had = lent has.1 has.2 has.0 in
    let now = c.lend.ensures had room
    (subst (λ (s : PageState). LiesAs s had) (sym c.deref_mut.ensures.value) has.4) have in
    let done = c.follow.ensures (lent room c.args.follows has.0) []
    (subst (λ (s : PageState). LiesAs s (lent room c.args.follows has.0))
    (sym c.deref_mut-2.ensures.value) now) refl in
    let is = followed done.0 c.args.old.now c.args.new.now [] (lent room c.args.follows has.0) in
    rw has.3 (
      done.0,
      (is.room, is.follows, done.1),
      c.rooms_left.ensures _
          (subst (λ (s : PageState). LiesAs s is) (sym c.deref.ensures) done.1),
    )
