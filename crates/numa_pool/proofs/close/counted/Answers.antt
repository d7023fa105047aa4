use Rattle.std.proofs.Common.{ℕ, List, ◌∷◌, ◌≡◌, ◌<◌, subst}
use Rattle.std.specs.Prelude.{slice_index}
use Rattle.std.specs.Mem.Slots.{slots_items}
use Rattle.numa_pool.specs.Frames.{times, bit_in}
use Rattle.numa_pool.specs.Order.{IsLedTo}
use Rattle.numa_pool.specs.Seats.{IsLast}
use Rattle.numa_pool.specs.Steps.{past_of}
use Rattle.numa_pool.proofs.Counting.{all_marked}
use Rattle.numa_pool.proofs.close.counted.Goals as goal

pub returns-clause-end : goal.returns-clause-end
returns-clause-end c =
    let last = slots_items c.close-rest.result.words in
    let held = c.args.token.view.held in
    let e = c.close-rest.ensures in
    let shape = c.requires.shape in
    let a = all_marked c.args.words.table.words c.args.frames.now last c.args.bits.now held
    shape.2.low c.requires.marks in (
      last,
      subst (λ (fs : List ℕ). IsLast fs held last) shape.1 e.last,
      subst (λ (fs : List ℕ). (n k : ℕ) → 0 < times n k held → (k < slice_index fs n)
          × (bit_in last n k ≡ 1)) shape.1 e.held,
      c.count_all-taken.ensures,
      ((λ t. a.0 (c.is_alone-alone.ensures.0 t)), (λ h. c.is_alone-alone.ensures.1 (a.1 h))),
    )

pub returns-clause-order : goal.returns-clause-order
returns-clause-order c =
    let last = slots_items c.close-rest.result.words in
    let view = c.args.token.view in
    let e = c.close-rest.ensures in (
      last,
      subst (λ (fs : List ℕ). IsLedTo fs (past_of view.log view.unlogged ∷ view.unlogged.past) last)
          c.requires.shape.1 e.order,
      c.count_all-taken.ensures,
    )
