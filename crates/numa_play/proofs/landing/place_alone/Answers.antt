use Rattle.numa_play.proofs.Landed.{none-at, own-at}
use Rattle.numa_play.proofs.landing.place_alone.Goals as goal

pub returns-in_default : goal.returns-in_default
returns-in_default c session stands =
    none-at session c.args.page (c.in_default.ensures session stands)

pub returns : goal.returns
returns c session stands = own-at c.in-Some.own.now session c.args.page c.place_in.result
    c.place_in.ensures.none c.place_in.ensures.place (c.in-Some.ensures session stands)
