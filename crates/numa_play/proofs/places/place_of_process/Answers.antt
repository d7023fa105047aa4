use Rattle.std.proofs.Common.{ap, sym, ◌∙◌}
use Rattle.numa_placed.specs.Spots.{node_of, spot_at}
use Rattle.numa_placed.specs.declared.spot.Spot.{Spot}
use Rattle.numa_host_script.specs.Sessions.{Hosted}
use Rattle.numa_play.specs.Places.{place_on}
use Rattle.numa_play.proofs.places.place_of_process.Goals as goal

pub returns-in_default-clause-place : goal.returns-in_default-clause-place
returns-in_default-clause-place c = λ at stands.
    sym (ap (λ (s : Spot). place_on (node_of s))
    (c.in_default.ensures (Hosted at) stands c.args.page))

pub returns-in_default-node-clause-place : goal.returns-in_default-node-clause-place
returns-in_default-node-clause-place c = λ at stands.
    ap place_on (sym c.in_default-node.is ∙ c.node.ensures ∙ ap node_of (c.at.ensures
    ∙ ap (λ p. spot_at p c.args.page) c.placed.ensures.same
    ∙ c.in-Some.ensures (Hosted at) stands c.args.page))

pub returns-clause-place : goal.returns-clause-place
returns-clause-place c = λ at stands.
    ap place_on (sym c.in-Some-node.is ∙ c.node.ensures ∙ ap node_of (c.at.ensures
    ∙ ap (λ p. spot_at p c.args.page) c.placed.ensures.same
    ∙ c.in-Some.ensures (Hosted at) stands c.args.page))
