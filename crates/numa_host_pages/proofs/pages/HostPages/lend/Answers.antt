use Rattle.std.proofs.Common.{Bool, List, None, sym, subst, ◌∙◌}
use Rattle.numa_page_state.specs.Standing.{LiesAs}
use Rattle.numa_page_state.specs.declared.state.PageState.{PageState}
use Rattle.numa_host_pages.specs.Homes.{lent, pages_in, with_pages}
use Rattle.numa_host_pages.specs.Standing.{AreHomes}
use Rattle.numa_host_pages.specs.declared.member.Member.{Member}
use Rattle.numa_host_pages.proofs.Places.{homes-length, pages-length, put-items}
use Rattle.numa_host_pages.proofs.Walked.{some-lying}
use Rattle.numa_host_pages.proofs.pages.HostPages.lend.Goals as goal

pub returns : goal.returns
returns c = λ at lies.
    let process = c.args.process in
    let taken = c.in_ok-state.ensures at.homes
    (subst (λ (ms : List Member). AreHomes ms at.homes) (sym c.deref_mut.ensures.value)
    lies.homes) in
    let has = some-lying c.in_ok-state.state (pages_in process at.homes) taken.0 in
    let had = lent has.1 has.2 has.0 in
    let now = c.lend.ensures had at.room
    (subst (λ (s : PageState). LiesAs s had) (sym c.deref_mut-2.ensures.value) has.4) lies.room in (
      rw has.3 (subst (λ (f : Bool). LiesAs c.lend.new.self (lent at.room f has.0)) lies.follows
          now),
      record {
        room = lies.room;
        follows = lies.follows;
        homes = put-items c.args.self.now.members c.take_pages.new.members
            (with_pages process None at.homes) taken.1
            (pages-length process None at.homes
            ∙ sym (homes-length c.args.self.now.members.items at.homes lies.homes));
        huge = lies.huge;
        places = lies.places;
      },
    )
