use Rattle.std.proofs.Common.{Option, ap, sym}
use Rattle.std.specs.Option.{option_map}
use Rattle.numa_host_huge.specs.Sharing.{HugeHome, lent}
use Rattle.numa_words.specs.Touching.{spots_if}
use Rattle.numa_words.proofs.Touched.{spots-apart}
use Rattle.numa_words.proofs.touching.places_in.Goals as goal

pub returns-in-Some : goal.returns-in-Some
returns-in-Some c = λ at lies.
    spots-apart c.in-Some.kept.now at c.args.process (c.in-Some.ensures.home at lies)

pub returns-in-None : goal.returns-in-None
returns-in-None c = λ at lies.
    sym (ap (λ (h : Option HugeHome). spots_if (option_map (lent at.pools) h))
    (c.in-None.ensures.home at lies))
