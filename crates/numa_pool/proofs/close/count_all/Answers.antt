use Rattle.std.proofs.Common.{◌≡◌, ◌∙◌, sym, ap, refl, arith, get_or-set_other, length-set, length}
use Rattle.std.proofs.Common.{replicate}
use Rattle.std.specs.Prelude.{slice_index}
use Rattle.std.specs.Mem.Slots.{slots_items}
use Rattle.std.proofs.lemmas.Grind.{get_or-set_at}
use Rattle.std.proofs.lemmas.List.{get_or_past}
use mathlib.Core.Logic.{dite}
use native.Mathlib.Decide.{ℕ_discrete, dec_le}
use Rattle.numa_pool.specs.Frames.{set_below}
use Rattle.numa_pool.proofs.Marking.{blank_at}
use Rattle.numa_pool.proofs.close.count_all.Goals as goal

pub loop-node-init : goal.loop-node-init
loop-node-init c = record {
  wide = refl;
  done = λ n l. absurd (omega arith);
  rest =
      λ n l. blank_at 256 (replicate 256 0) refl n;
}

pub loop-node-preserved : goal.loop-node-preserved
loop-node-preserved c =
    let i = c.loop-node.invariant in
    record {
      wide = length-set c.loop-node.taken c.loop-node.node c.count_node.result ∙ i.wide;
      done = λ n l. dite (ℕ_discrete n c.loop-node.node)
          (λ e. get_or-set_at c.loop-node.taken c.loop-node.node n c.count_node.result 0 e
          (omega arith) ∙ c.count_node.ensures
          ∙ sym
          (ap (λ m. set_below (slots_items c.args.rest.now.words) m
          (slice_index c.args.frames.now m)) e))
          (λ d. get_or-set_other c.loop-node.taken c.loop-node.node n c.count_node.result 0 d
          ∙ i.done n (omega arith));
      rest = λ n l. get_or-set_other c.loop-node.taken c.loop-node.node n c.count_node.result 0
          (λ e. omega arith) ∙ i.rest n (omega arith);
    }

pub returns : goal.returns
returns c n =
    let i = c.loop-node.invariant in
    dite (dec_le (length c.args.frames.now) n)
    (λ past.
    let none : slice_index c.args.frames.now n ≡ 0 = get_or_past c.args.frames.now n 0 past in
    i.rest n (omega arith) ∙ sym (ap (set_below (slots_items c.args.rest.now.words) n) none))
    (λ here. i.done n (omega arith))
