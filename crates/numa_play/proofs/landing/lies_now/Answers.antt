use Rattle.std.proofs.Common.{◌∙◌, Option, ap, sym}
use Rattle.std.specs.Option.{option_map}
use Rattle.numa_subjects.specs.declared.page_place.PagePlace.{PagePlace}
use Rattle.numa_play.proofs.landing.lies_now.Goals as goal

pub returns-in-Some : goal.returns-in-Some
returns-in-Some c session stands =
    ap (λ (found : Option PagePlace). option_map (λ (it : PagePlace). it.node) found)
    (sym c.in-Some.is ∙ c.place_now.ensures session stands)

pub returns-in-None : goal.returns-in-None
returns-in-None c session stands =
    ap (λ (found : Option PagePlace). option_map (λ (it : PagePlace). it.node) found)
    (sym c.in-None.is ∙ c.place_now.ensures session stands)
