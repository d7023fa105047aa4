use Rattle.std.proofs.Common.{◌≡◌, drop}
use Rattle.numa_host_script.specs.Sessions.{Session}
use Rattle.numa_host_script.specs.Taking.{SessionStandsFor}
use Rattle.numa_play.specs.Deeds.{IsRoom}
use Rattle.numa_play.proofs.handing.say_each.Given as goal

-- what is said of the nodes that are left leads on from here
abbrev pub invariant-loop-pages : goal.invariant-loop-pages
invariant-loop-pages l = record {
  node : l.node ≡ l.pages-index;
  said : (session : Session) → SessionStandsFor l.fn.script session
      → (mid : Session) × SessionStandsFor l.script mid
      × ((end : Session) → IsRoom l.node (drop l.pages-index l.room) mid end
      → IsRoom 0 l.room session end);
}
