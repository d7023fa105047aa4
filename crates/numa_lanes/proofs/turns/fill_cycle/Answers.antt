use Rattle.std.proofs.Common.{◌≡◌, ◌≢◌, ◌<◌, ◌+◌, ◌%◌, ℕ, List, get_or, length, arith, sym, ap}
use Rattle.std.proofs.Common.{subst, ◌∙◌, below_more, get_or-set_other, get_or-set_same}
use Rattle.numa_lanes.specs.Turns.{IsTable}
use Rattle.numa_lanes.proofs.CycleLemmas.{turn_next, turn_of_front}
use Rattle.numa_lanes.proofs.turns.fill_cycle.Goals as goal

pub fill_vectors-done-requires : goal.fill_vectors-done-requires
fill_vectors-done-requires c = subst (λ table. IsTable c.cycle.inside.len table)
    (sym c.as_slice-table.ensures.value) c.cycle.invariant

pub loop-page-preserved : goal.loop-page-preserved
loop-page-preserved c =
    let len : ℕ = c.cycle.inside.len in
    let s : ℕ = c.args.start in
    let e : s + c.loop-page.page + 1 ≡ s + (c.loop-page.page + 1) = omega arith in
    let table : List ℕ = c.as_slice-table.result.now in
    record {
      turn = c.advance-turn.ensures ∙ ap (λ p. (p + 1 % len) % len) c.loop-page.invariant.turn
          ∙ turn_next (s + c.loop-page.page) 1 len ∙ ap (λ n. n % len) e;
      done = below_more _ _
          (λ k h. let ne : k ≢ c.loop-page.page = omega arith in
          rw get_or-set_other (c.loop-page.invariant.done k h))
          (let lt : c.loop-page.page < length c.loop-page.out = omega arith in
          rw get_or-set_same (ap (λ n. get_or table n 0) c.loop-page.invariant.turn));
    }

pub returns : goal.returns
returns c k lt =
    let table : List ℕ = c.as_slice-table.result.now in
    let is : table ≡ c.cycle.inside.table.items = c.as_slice-table.ensures.value in
    c.loop-page.invariant.done k (omega arith)
    ∙ ap (λ l. get_or l ((c.args.start + k) % c.cycle.inside.len) 0) is
    ∙ turn_of_front c.cycle.inside.table.items c.args.cycle.now c.cycle.inside.len
    (c.args.start + k) c.cycle.invariant.some c.cycle.invariant.long c.cycle.view_is
