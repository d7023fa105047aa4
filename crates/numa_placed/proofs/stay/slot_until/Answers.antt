use Rattle.std.proofs.Common.{◌≡◌, ◌∙◌, ap, sym}
use Rattle.std.specs.Prelude.{unwrap_or}
use Rattle.std.proofs.lemmas.Bool.{both_ways}
use Rattle.numa_placed.specs.Exact.{spot-exact}
use Rattle.numa_placed.specs.Spots.{node_of}
use Rattle.numa_placed.specs.Turns.{slot_spot, turn_node}
use Rattle.numa_placed.specs.contracts.spot.SpotPartialEq.TheImpl as spot_test
use Rattle.numa_placed.specs.contracts.spot.SpotEq.TheImpl.Laws as spot_law
use Rattle.numa_placed.specs.declared.spot.Spot.{Spot}
use Rattle.numa_placed.specs.declared.spot.Spot.TheVariants.{Nowhere, Stated}
use Rattle.numa_placed.proofs.stay.slot_until.Goals as goal

pub returns-then-eq-clause-alike : goal.returns-then-eq-clause-alike
returns-then-eq-clause-alike c p low high =
    ap (slot_spot c.args.nodes.now p) c.in-Lies.is
    ∙ spot-exact c.in-Lies.other c.args.spot (sym c.eq.ensures ∙ c.if-eq.true)

pub returns-else-eq-clause-ends : goal.returns-else-eq-clause-ends
returns-else-eq-clause-ends c near same =
    let other = c.in-Lies.other in
    let is : other ≡ c.args.spot =
    sym (ap (slot_spot c.args.nodes.now c.args.page) c.in-Lies.is) ∙ same in
    both_ways (spot_test.ghosts.eq other c.args.spot) (sym c.eq.ensures ∙ c.if-eq.false)
    (ap (spot_test.ghosts.eq other) (sym is) ∙ spot_law.laws-law.refl other)

pub returns-in-Nowhere-clause-ends : goal.returns-in-Nowhere-clause-ends
returns-in-Nowhere-clause-ends c near same =
    let odd : Stated (turn_node c.args.nodes.now c.in-InTurn.turn c.args.page) ≡ Nowhere =
    sym (ap (slot_spot c.args.nodes.now c.args.page) c.in-InTurn.is) ∙ same ∙ c.in-Nowhere.is in
    absurd (cc)

pub returns-in-Stated-clause-alike : goal.returns-in-Stated-clause-alike
returns-in-Stated-clause-alike c p low high =
    ap (slot_spot c.args.nodes.now p) c.in-InTurn.is
    ∙ ap Stated (c.turn_until.ensures.alike p low high) ∙ sym c.in-Stated.is

pub returns-in-Stated-clause-ends : goal.returns-in-Stated-clause-ends
returns-in-Stated-clause-ends c near same =
    c.turn_until.ensures.ends near (ap (λ (s : Spot). unwrap_or (node_of s) 0)
    (sym (ap (slot_spot c.args.nodes.now c.turn_until.result) c.in-InTurn.is) ∙ same
    ∙ c.in-Stated.is))
