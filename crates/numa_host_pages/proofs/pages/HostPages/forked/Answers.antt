use Rattle.numa_host_huge.specs.Sharing.{forked}
use Rattle.numa_host_pages.proofs.pages.HostPages.forked.Goals as goal

pub returns : goal.returns
returns c = λ at parent lies small child.
    c.born-2.ensures (record at { huge = forked parent c.args.child at.huge }) (record {
      room = lies.room;
      follows = lies.follows;
      homes = lies.homes;
      huge = c.born.ensures at.huge parent lies.huge child;
      places = lies.places;
    }) small
