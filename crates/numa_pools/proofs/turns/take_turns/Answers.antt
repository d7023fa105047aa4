use Rattle.std.proofs.Common.{◌≡◌, arith, length, rules}
use Rattle.numa_pools.proofs.Taking.{taken-empty, taken-many, taken-none}
use Rattle.numa_pools.proofs.turns.take_turns.Goals as goal

pub returns-then-times-eq0-clause-room : goal.returns-then-times-eq0-clause-room
returns-then-times-eq0-clause-room c =
    (taken-none c.args.nodes.now c.args.mark c.args.times c.args.room.now c.if-times-eq0.true).left

pub returns-then-times-eq0-clause-mark : goal.returns-then-times-eq0-clause-mark
returns-then-times-eq0-clause-mark c =
    (taken-none c.args.nodes.now c.args.mark c.args.times c.args.room.now c.if-times-eq0.true).after

pub returns-then-all-eq0-clause-room : goal.returns-then-all-eq0-clause-room
returns-then-all-eq0-clause-room c =
    (taken-empty c.args.nodes.now c.args.mark c.args.times c.next_node-first.result
    c.args.room.now (omega (arith, c.if-times-eq0.false))
    (omega (arith, c.sum_of-all.ensures, c.if-all-eq0.true)) c.next_node-first.ensures.next).left

pub returns-then-all-eq0-clause-mark : goal.returns-then-all-eq0-clause-mark
returns-then-all-eq0-clause-mark c =
    (taken-empty c.args.nodes.now c.args.mark c.args.times c.next_node-first.result
    c.args.room.now (omega (arith, c.if-times-eq0.false))
    (omega (arith, c.sum_of-all.ensures, c.if-all-eq0.true)) c.next_node-first.ensures.next).after

pub full_rounds-rounds-requires-clause-some : goal.full_rounds-rounds-requires-clause-some
full_rounds-rounds-requires-clause-some c =
    omega (arith, c.min-times.ensures, c.if-times-eq0.false, c.if-all-eq0.false)

pub full_rounds-rounds-requires-clause-room : goal.full_rounds-rounds-requires-clause-room
full_rounds-rounds-requires-clause-room c =
    omega (arith, c.min-times.ensures, c.sum_of-all.ensures)

pub returns-clause-room : goal.returns-clause-room
returns-clause-room c =
    let long : length c.args.room.now ≡ 256 = search rules in
    (taken-many c.args.nodes.now c.args.mark c.args.times c.min-times.result
    c.full_rounds-rounds.result c.turns_within-taken.result c.next_node-first.result
    c.args.room.now c.lower.new.xs c.last_round.new.room c.last_round.result c.requires.mark long
    c.requires.outside (omega (arith, c.if-times-eq0.false))
    (omega (arith, c.sum_of-all.ensures, c.if-all-eq0.false))
    (omega (arith, c.min-times.ensures, c.sum_of-all.ensures)) c.full_rounds-rounds.ensures.left
    c.full_rounds-rounds.ensures.most c.turns_within-taken.ensures.turns c.lower.ensures
    c.next_node-first.ensures.next c.last_round.ensures.room c.last_round.ensures.next).left

pub returns-clause-mark : goal.returns-clause-mark
returns-clause-mark c =
    let long : length c.args.room.now ≡ 256 = search rules in
    (taken-many c.args.nodes.now c.args.mark c.args.times c.min-times.result
    c.full_rounds-rounds.result c.turns_within-taken.result c.next_node-first.result
    c.args.room.now c.lower.new.xs c.last_round.new.room c.last_round.result c.requires.mark long
    c.requires.outside (omega (arith, c.if-times-eq0.false))
    (omega (arith, c.sum_of-all.ensures, c.if-all-eq0.false))
    (omega (arith, c.min-times.ensures, c.sum_of-all.ensures)) c.full_rounds-rounds.ensures.left
    c.full_rounds-rounds.ensures.most c.turns_within-taken.ensures.turns c.lower.ensures
    c.next_node-first.ensures.next c.last_round.ensures.room c.last_round.ensures.next).after
