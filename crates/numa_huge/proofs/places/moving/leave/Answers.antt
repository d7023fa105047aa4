use Rattle.std.proofs.Common.{◌≡◌, ◌<◌, ℕ, ◌+◌, ◌-◌, ◌∙◌, Bool, refl, sym, ap, arith, suc}
use Rattle.std.proofs.Common.{inl, inr, length, length-set, true, set, List}
use Rattle.std.specs.Prelude.{slice_index, if◌then◌else◌}
use Rattle.std.proofs.lemmas.Bool.{cases_eq}
use Rattle.std.proofs.lemmas.List.{get_or-set_other, get_or-set_same}
use Rattle.numa_mask.specs.NodeSet.{has}
use Rattle.numa_placed.proofs.Shared.{count-le}
use Rattle.numa_pools.specs.Moves.{moving}
use Rattle.numa_pools.specs.Pools.{PoolCounts}
use Rattle.numa_huge.specs.Moves.{count_on, leaving}
use Rattle.numa_huge.proofs.Leaving.{count-less, less, none-next, none-wait, pooled-first}
use Rattle.numa_huge.proofs.Leaving.{pooled-goes, pooled-last}
use Rattle.numa_huge.proofs.Sourcing.{first-may, leaving-end, leaving-next, leaving-none}
use Rattle.numa_huge.proofs.Sourcing.{may-other, may-waits, waits-less}
use Rattle.numa_huge.proofs.places.moving.leave.Goals as goal

pub loop-turn-init : goal.loop-turn-init
loop-turn-init c = record {
  goes = λ go count are on. (
    has c.args.from.now,
    c.waiting-waits.ensures,
    refl,
    omega (arith, count-le (has c.args.from.now) 0 256),
    λ others spots leave. pooled-first go (has c.args.from.now) spots others c.args.pools.now
        leave.nodes leave.stay leave.pooled,
  );
  there = λ node small one. c.requires node small;
  kept = c.keep.ensures;
  long = omega arith;
}

pub returns-in_default-clause-pools : goal.returns-in_default-clause-pools
returns-in_default-clause-pools c go count are on =
    let so = c.loop-turn.invariant.goes go count are on in
    let none = sym (c.next_source.ensures go so.0 are so.1) ∙ c.in_default.is in
    sym (leaving-none go count (256 - c.loop-turn.turn) so.0 c.loop-turn.pools none) ∙ so.2

pub returns-in_default-clause-pooled : goal.returns-in_default-clause-pooled
returns-in_default-clause-pooled c others go spots are leave =
    let so = c.loop-turn.invariant.goes go (count_on spots) are leave.on in
    let none = sym (c.next_source.ensures go so.0 are so.1) ∙ c.in_default.is in
    pooled-last go so.0 spots others c.loop-turn.pools leave.nodes (none-next go so.0 none)
    (so.4 others spots leave)

-- what is known of the next node
pub go_over-requires-clause-other : goal.go_over-requires-clause-other
go_over-requires-clause-other c =
    let go : ℕ → ℕ = slice_index c.args.targets.now in
    let count : ℕ → ℕ = slice_index c.args.counts.now in
    let so = c.loop-turn.invariant.goes go count (λ node small. refl) (λ node small. refl) in
    let some = sym (c.next_source.ensures go so.0 (λ node small. refl) so.1) ∙ c.in-Some.is in
    may-other go so.0 c.in-Some.source (first-may go so.0 c.in-Some.source some)

pub go_over-requires-clause-used : goal.go_over-requires-clause-used
go_over-requires-clause-used c =
    let go : ℕ → ℕ = slice_index c.args.targets.now in
    let count : ℕ → ℕ = slice_index c.args.counts.now in
    let source : ℕ = c.in-Some.source in
    let so = c.loop-turn.invariant.goes go count (λ node small. refl) (λ node small. refl) in
    let some = sym (c.next_source.ensures go so.0 (λ node small. refl) so.1) ∙ c.in-Some.is in
    let waits : so.0 source ≡ true =
    may-waits go so.0 source (first-may go so.0 source some) in
    c.loop-turn.invariant.there source (omega arith)
    (so.1 source (omega arith) ∙ ap (λ (b : Bool). if b then 1 else 0) waits)

pub loop-turn-preserved : goal.loop-turn-preserved
loop-turn-preserved c =
    let source : ℕ = c.in-Some.source in
    let small : source < 256 = omega arith in
    let turn : ℕ = c.loop-turn.turn in
    let waits : List ℕ = c.loop-turn.waits in
    let within : source < length waits = omega (arith, c.loop-turn.invariant.long) in
    record {
      goes = λ go count are on.
          let so = c.loop-turn.invariant.goes go count are on in
          let some = sym (c.next_source.ensures go so.0 are so.1) ∙ c.in-Some.is in
          let size : 256 - turn ≡ suc (256 - (turn + 1)) =
          omega (arith, c.loop-turn-test.true) in
          let may = first-may go so.0 source some in
          let waiting = may-waits go so.0 source may in
          let went : c.go_over.new.pools
          ≡ moving c.loop-turn.pools source (go source) (count source) =
          c.go_over.ensures.pools
          ∙ ap (λ (t : ℕ). moving c.loop-turn.pools source t
          (slice_index c.args.counts.now source)) (are source small)
          ∙ ap (λ (n : ℕ). moving c.loop-turn.pools source (go source) n) (on source small) in (
            less so.0 source,
            waits-less so.0 waits source within so.1,
            ap (λ (p : PoolCounts). leaving (256 - (turn + 1)) go count (less so.0 source) p) went
                ∙ sym (leaving-next go count (256 - (turn + 1)) (256 - turn) source so.0
                c.loop-turn.pools size some) ∙ so.2,
            omega (arith, so.3, count-less so.0 source small waiting),
            λ others spots leave. pooled-goes go so.0 source small
                (omega (arith, c.go_over.ensures.near, are source small)) waiting
                (may-other go so.0 source may) spots others c.loop-turn.pools
                c.loop-turn.invariant.kept (so.4 others spots leave) c.go_over.new.pools
                c.go_over.ensures.kept
                (went ∙ ap (λ (n : ℕ). moving c.loop-turn.pools source (go source) n)
                (sym (on source small) ∙ leave.on source small)),
          );
      there = λ node l one. elim (cases_eq node source) [
        | inl e ↦
            let here : slice_index (set waits source 0) node ≡ 0 =
            ap (λ (k : ℕ). slice_index (set waits source 0) k) e
            ∙ get_or-set_same waits source 0 0 within in
            absurd (omega (arith, here, one))
        | inr ne ↦
            let was : slice_index waits node ≡ 1 =
            sym (get_or-set_other waits source node 0 0 ne) ∙ one in
            omega (
              arith,
              c.loop-turn.invariant.there node l was,
              c.go_over.ensures.others node ne,
            )
      ];
      kept = c.go_over.ensures.kept;
      long = length-set waits source 0 ∙ c.loop-turn.invariant.long;
    }

pub returns-clause-pools : goal.returns-clause-pools
returns-clause-pools c go count are on =
    let so = c.loop-turn.invariant.goes go count are on in
    let none : 256 - c.loop-turn.turn ≡ 0 = omega (arith, c.loop-turn-test.false) in
    sym (ap (λ (n : ℕ). leaving n go count so.0 c.loop-turn.pools) none
    ∙ leaving-end go count so.0 c.loop-turn.pools) ∙ so.2

pub returns-clause-pooled : goal.returns-clause-pooled
returns-clause-pooled c others go spots are leave =
    let so = c.loop-turn.invariant.goes go (count_on spots) are leave.on in
    pooled-last go so.0 spots others c.loop-turn.pools leave.nodes
    (none-wait go so.0 c.loop-turn.turn (omega (arith, c.loop-turn-test.false)) so.3)
    (so.4 others spots leave)
