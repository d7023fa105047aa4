use Rattle.std.proofs.Common.{◌∙◌, ℕ, Option, ap, sym}
use Rattle.numa_play.specs.Deeds.{place_now}
use Rattle.numa_play.proofs.Landed.{named-at}
use Rattle.numa_play.proofs.landing.place_now.Goals as goal

pub returns-in-Some : goal.returns-in-Some
returns-in-Some c session stands =
    named-at c.args.script.now c.in-Some.process c.args.page c.place_of_process.result
    c.place_of_process.ensures.alone c.place_of_process.ensures.place session stands
    ∙ ap (λ (process : Option ℕ). place_now session process c.args.page) (sym c.in-Some.is)

pub returns-in-None : goal.returns-in-None
returns-in-None c session stands = c.place_alone.ensures session stands
    ∙ ap (λ (process : Option ℕ). place_now session process c.args.page) (sym c.in-None.is)
