use Rattle.std.proofs.Common.{List, sym, subst, ◌∙◌}
use Rattle.std.specs.Vec.{with_items}
use Rattle.numa_host.specs.Groups.{effective_mems}
use Rattle.numa_host_pages.specs.Homes.{all_still}
use Rattle.numa_host_pages.specs.Standing.{AreHomes}
use Rattle.numa_host_pages.specs.TopDown.{top_down}
use Rattle.numa_host_pages.specs.declared.member.Member.{Member}
use Rattle.numa_host_pages.proofs.Along.{still-count}
use Rattle.numa_host_pages.proofs.Places.{each-length, homes-length, put-items}
use Rattle.numa_host_pages.proofs.pages.HostPages.follow.Goals as goal

pub returns : goal.returns
returns c = λ at lies.
    let had = c.args.self.now.members in
    let quiet = put-items had c.still_all.new.members (all_still at).homes
    (c.still_all.ensures at.homes (subst (λ (ms : List Member). AreHomes ms at.homes)
    (sym c.deref_mut.ensures.value) lies.homes))
    (still-count at.homes ∙ sym (homes-length had.items at.homes lies.homes)) in
    let told = c.follow_below.ensures (all_still at)
    (subst (λ (ms : List Member). AreHomes ms (all_still at).homes)
    (sym c.deref_mut-2.ensures.value) quiet) lies.room lies.huge lies.follows in (
      told.0,
      told.1,
      record {
        room = told.3;
        follows = told.5;
        homes = put-items (with_items had c.still_all.new.members) c.follow_below.new.members
            told.0.homes told.2 (each-length (effective_mems c.args.memory c.args.groups.now)
            (top_down c.args.groups.now) (all_still at) told.0 told.1
            ∙ sym (homes-length (with_items had c.still_all.new.members).items
            (all_still at).homes quiet));
        huge = told.4;
        places = lies.places;
      },
    )
