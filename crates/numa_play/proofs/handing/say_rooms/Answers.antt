use Rattle.std.proofs.Common.{ℕ, List, OnOk, arith, subst}
use Rattle.numa_host_script.specs.Sessions.{Session}
use Rattle.numa_host_script.specs.Taking.{SessionStandsFor}
use Rattle.numa_play.specs.Deeds.{IsRoom}
use Rattle.numa_play.proofs.Handed.{take-few}
use Rattle.numa_play.proofs.handing.say_rooms.Goals as goal

pub returns : goal.returns
returns c session stands =
    subst (λ (room : List ℕ). OnOk c.say_each.result ((then : Session)
    × SessionStandsFor c.say_each.new.script then × IsRoom 0 room session then))
    (take-few c.args.room.now c.min-few.result 256 (omega (arith, c.min-few.ensures)))
    (c.say_each.ensures session stands)
