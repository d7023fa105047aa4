use Rattle.std.proofs.Common.{ℕ, List, ap, arith, subst, ◌∙◌}
use Rattle.std.specs.Prelude.{slice_index}
use Rattle.numa_pools.specs.Turns.{less}
use Rattle.numa_pools.proofs.Each.{on-out, sum-on}
use Rattle.numa_pools.proofs.Taking.{AreTaken, in-turn-is}
use Rattle.numa_pools.proofs.shares.in_turn.Goals as goal

pub take_turns-mark-requires-clause-outside : goal.take_turns-mark-requires-clause-outside
take_turns-mark-requires-clause-outside c = λ node out.
    ap (λ (xs : List ℕ). slice_index xs node) c.on-room.ensures
    ∙ on-out c.args.nodes.now c.args.room.now node out

pub take_turns-mark-requires-clause-fits : goal.take_turns-mark-requires-clause-fits
take_turns-mark-requires-clause-fits c =
    rw c.on-room.ensures
    (omega (arith, c.requires.fits, sum-on c.args.nodes.now c.args.room.now))

pub returns-clause-shares : goal.returns-clause-shares
returns-clause-shares c =
    let left : List ℕ = c.take_turns-mark.new.room in
    let those : AreTaken c.args.nodes.now c.args.mark c.args.times c.on-room.result left
    c.take_turns-mark.result =
    record { left = c.take_turns-mark.ensures.room; after = c.take_turns-mark.ensures.mark } in
    in-turn-is c.args.times c.args.nodes.now c.args.mark c.args.room.now left c.take_each.new.xs
    c.take_turns-mark.result
    (subst (λ (xs : List ℕ). AreTaken c.args.nodes.now c.args.mark c.args.times xs left
    c.take_turns-mark.result) c.on-room.ensures those)
    (c.take_each.ensures ∙ ap (λ (xs : List ℕ). less xs left) c.on-room.ensures)
