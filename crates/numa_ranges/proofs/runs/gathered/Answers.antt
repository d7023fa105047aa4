-- One more run is gathered.
use Rattle.std.proofs.Common.{◌∷◌, [], ◌++◌, length, length-append, append_assoc, append-nil, sym}
use Rattle.std.proofs.Common.{ap, ◌∙◌, arith}
use Rattle.numa_ranges.proofs.runs.gathered.Goals as goal

pub loop-run-init : goal.loop-run-init
loop-run-init g c = record {
  whole = ap (λ l. l ++ c.into_iter-run-iterator.result) c.in-Ok.ensures.items
      ∙ (c.into_iter-run-iterator.ensures.into_iter_gives ∙ c.iter-run-items.ensures);
  room =
      omega (
        arith,
        ap length c.in-Ok.ensures.items,
        ap length (c.into_iter-run-iterator.ensures.into_iter_gives ∙ c.iter-run-items.ensures),
        c.in-Ok.ensures.capacity,
        c.len.ensures.len,
      );
}

pub push_reserved-requires : goal.push_reserved-requires
push_reserved-requires g c =
    omega (arith, c.loop-run.invariant.room, ap length c.in-Some.ensures.steps, c.loop-run.all.ok.0)

pub loop-run-preserved : goal.loop-run-preserved
loop-run-preserved g c = record {
  whole = ap (λ l. l ++ c.next.new.self) c.push_reserved.ensures.items
      ∙ (append_assoc c.loop-run.all.items (c.in-Some.run' ∷ []) c.next.new.self
      ∙ (ap (λ l. c.loop-run.all.items ++ l) (sym c.in-Some.ensures.steps)
      ∙ c.loop-run.invariant.whole));
  room = omega (
    arith,
    c.push_reserved.ensures.capacity,
    ap length c.push_reserved.ensures.items,
    length-append c.loop-run.all.items (c.in-Some.run' ∷ []),
    ap length c.in-Some.ensures.steps,
    c.loop-run.invariant.room,
  );
}

pub returns : goal.returns
returns g c = sym (append-nil c.loop-run.all.items)
    ∙ (ap (λ l. c.loop-run.all.items ++ l) (sym c.in-None.ensures.steps.0)
    ∙ c.loop-run.invariant.whole)
