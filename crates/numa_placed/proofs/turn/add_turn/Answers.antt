use Rattle.std.proofs.Common.{◌≡◌, ◌+◌, ◌<◌, ◌∙◌, ℕ, ap, arith, get_or, inl, inr, length, refl}
use Rattle.std.proofs.Common.{length-set, set, slice_index, sym}
use Rattle.std.specs.Prelude.{◌==◌}
use Rattle.std.proofs.lemmas.Bool.{cases_eq, eq-eqb, ne_eqb}
use Rattle.std.proofs.lemmas.List.{get_or-set_same, get_or-set_other}
use Rattle.numa_placed.specs.Spots.{pages_if}
use Rattle.numa_placed.specs.Turns.{pages_at_place}
use Rattle.numa_placed.proofs.Cycles.{before-le, before-next, before-none}
use Rattle.numa_placed.proofs.turn.add_turn.Goals as goal

pub loop-place-init : goal.loop-place-init
loop-place-init c = record {
  long = omega arith;
  counts = λ node small. omega (
    arith,
    before-none c.args.nodes.now c.args.turn node c.args.first c.args.pages,
  );
}

pub overflow_add-counts : goal.overflow_add-counts
overflow_add-counts c =
    let nodes = c.args.nodes.now in
    let place = c.loop-place.place in
    let at = slice_index nodes (c.args.turn.from + place) in
    let small : at < 256 = omega arith in
    let counted : c.pages_at_place-more.result
    ≡ pages_at_place c.args.turn.count place c.args.first c.args.pages =
    c.pages_at_place-more.ensures ∙ (λ i. pages_at_place (c.from-in-loop-place.ensures i)
    (c.from.ensures i) c.args.first c.args.pages) in
    let here : pages_if (at == at)
    (pages_at_place c.args.turn.count place c.args.first c.args.pages)
    ≡ pages_at_place c.args.turn.count place c.args.first c.args.pages =
    ap (λ b. pages_if b (pages_at_place c.args.turn.count place c.args.first c.args.pages))
    (eq-eqb at at refl) in
    omega (
      arith,
      here,
      before-next nodes c.args.turn at c.args.first c.args.pages place,
      before-le nodes c.args.turn at c.args.first c.args.pages (place + 1),
      c.loop-place.invariant.counts at small,
      c.requires.room at small,
      counted,
    )

pub loop-place-preserved : goal.loop-place-preserved
loop-place-preserved c =
    let nodes = c.args.nodes.now in
    let place = c.loop-place.place in
    let counts = c.loop-place.counts in
    let at = slice_index nodes (c.args.turn.from + place) in
    let more = c.pages_at_place-more.result in
    let sum = get_or counts at 0 + more in
    let all = pages_at_place c.args.turn.count place c.args.first c.args.pages in
    let counted : c.pages_at_place-more.result
    ≡ pages_at_place c.args.turn.count place c.args.first c.args.pages =
    c.pages_at_place-more.ensures ∙ (λ i. pages_at_place (c.from-in-loop-place.ensures i)
    (c.from.ensures i) c.args.first c.args.pages) in
    let here : at < length counts = omega (arith, c.loop-place.invariant.long) in
    record {
      long = length-set _ _ _ ∙ c.loop-place.invariant.long;
      counts = λ node small.
          let next = before-next nodes c.args.turn node c.args.first c.args.pages place in
          elim (cases_eq at node) [
            | inl is ↦
                let set_so : get_or (set counts at sum) node 0 ≡ get_or counts node 0 + more =
                ap (λ (k : ℕ). get_or (set counts at sum) k 0) (sym is)
                ∙ get_or-set_same counts at sum 0 here
                ∙ ap (λ (k : ℕ). get_or counts k 0 + more) is in
                let passes : pages_if (at == node) all ≡ all =
                ap (λ b. pages_if b all) (eq-eqb at node is) in
                omega (
                  arith,
                  set_so,
                  next,
                  passes,
                  counted,
                  c.loop-place.invariant.counts node small,
                )
            | inr other ↦
                let set_so : get_or (set counts at sum) node 0 ≡ get_or counts node 0 =
                get_or-set_other counts at node sum 0 (λ e. other (sym e)) in
                let passes : pages_if (at == node) all ≡ 0 =
                ap (λ b. pages_if b all) (ne_eqb at node other) in
                omega (arith, set_so, next, passes, c.loop-place.invariant.counts node small)
          ];
    }
