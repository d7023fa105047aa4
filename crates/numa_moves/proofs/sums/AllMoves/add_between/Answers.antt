use Rattle.std.proofs.Common.{◌∙◌, ◌+◌, ◌*◌, ℕ, List, ap, arith, length, length-set, slice_index}
use Rattle.numa_moves.proofs.Totals.{entry-raised}
use Rattle.numa_moves.proofs.sums.AllMoves.add_between.Goals as goal

pub add_entry-requires : goal.add_entry-requires
add_entry-requires c = record { inside = omega (arith, c.requires.whole) }

pub returns-clause-whole : goal.returns-clause-whole
returns-clause-whole c =
    ap (λ (l : List ℕ). length l) c.add_entry.ensures ∙ length-set _ _ _ ∙ c.requires.whole

pub returns-clause-flows : goal.returns-clause-flows
returns-clause-flows c = λ node other n o.
    ap (λ (l : List ℕ). slice_index l (node * 256 + other)) c.add_entry.ensures
    ∙ entry-raised c.args.self.now.table.items c.args.from c.args.to c.args.pages node other
    (omega arith) (omega arith) n o c.requires.whole
