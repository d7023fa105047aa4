use Rattle.std.proofs.Common.{◌≡◌, ◌+◌, [], ◌∷◌, ◌++◌, length, ap, subst, ◌∙◌, arith, append_assoc}
use Rattle.std.proofs.Common.{length-append}
use Rattle.std.proofs.lemmas.Grind.{common_steps}
use Rattle.numa_fault.specs.Fault.{Places}
use Rattle.numa_fault.specs.Span.{request_at}
use Rattle.numa_fault.proofs.Spanning.{page-stands, places-more}
use Rattle.numa_fault.proofs.span.place_each.Goals as goal

pub overflow_add-request : goal.overflow_add-request
overflow_add-request c = let low = c.requires.stands.low c.loop-k.k (omega arith) in omega arith

pub place_page-requires-clause-stands : goal.place_page-requires-clause-stands
place_page-requires-clause-stands c = page-stands c.args.view.now.desk.machine
    c.args.view.now.history (request_at c.args.span c.loop-k.k) c.requires.stands.cpu_known
    (c.requires.stands.mapped c.loop-k.k (omega arith))

pub loop-k-preserved : goal.loop-k-preserved
loop-k-preserved c =
    let i = c.loop-k.invariant in
    let ps = i.placed.0 in
    let p = c.in-Some.placement in
    let e = c.in-Ok.ensures in
    let served =
    subst (λ n. Places c.args.pools.now.frames c.args.view.now.desk.machine
    c.args.view.now.history (request_at c.args.span n) p c.loop-k.seat c.place_page.new.seat)
    (let here : c.loop-k.k ≡ 0 + length ps = omega (arith, i.placed.1) in here)
    c.in-Some.ensures.served in
    record {
      table = c.in-Some.ensures.table ∙ i.table;
      room = (first_of (omega arith, grind (arith, common_steps)));
      full = (first_of (omega arith, grind (arith, common_steps)));
      placed = (
        ps ++ p ∷ [],
        length-append ps (p ∷ []) ∙ ap (λ n. n + 1) i.placed.1,
        e.items ∙ ap (λ l. l ++ p ∷ []) i.placed.2 ∙ append_assoc c.args.out.now.items ps (p ∷ []),
        places-more c.args.pools.now.frames c.args.view.now.desk.machine c.args.view.now.history
            c.args.span 0 c.args.seat.now c.loop-k.seat c.place_page.new.seat ps p i.placed.3
            served,
      );
    }
