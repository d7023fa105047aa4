use Rattle.std.proofs.Common.{◌≡◌, ℕ, ◌+◌, ◌∙◌, Some, ap, arith, inl, inr, length, slice_index}
use Rattle.std.proofs.Common.{sym}
use Rattle.std.proofs.lemmas.Bool.{cases_lt}
use Rattle.numa_placed.specs.Binds.{first_with_room, nodes_in}
use Rattle.numa_placed.specs.Periods.{page_with}
use Rattle.numa_placed.proofs.Heads.{pushed-at, pushed-before, pushed-size}
use Rattle.numa_placed.proofs.cycle.push_cycle.Goals as goal

pub loop-place-preserved : goal.loop-place-preserved
loop-place-preserved c =
    let items = c.loop-place.nodes.items in
    let new = c.push.new.self.items in
    let node = c.in-Some.node in
    let long = length c.args.nodes.now.items in
    let at = c.loop-place.place in
    let is = c.in-Ok.ensures.items in
    let size = c.loop-place.invariant.size in
    record {
      size = omega (arith, size, pushed-size items new node is);
      before = λ place lt. pushed-before items new node is place (omega (arith, size, lt))
          ∙ c.loop-place.invariant.before place lt;
      heads = λ room are place lt. elim (cases_lt place at) [
        | inl l ↦
            c.loop-place.invariant.heads room are place l
            ∙ ap (λ (n : ℕ). Some n)
            (sym (pushed-before items new node is (long + place) (omega (arith, size, l))))
        | inr g ↦
            let same : place ≡ at = omega (arith, lt, g) in
            let here : first_with_room room (nodes_in c.args.space.now c.args.touch.task
            c.args.touch.cpu (page_with c.args.count c.args.page at)) ≡ Some node =
            ap (λ (q : ℕ). first_with_room room (nodes_in c.args.space.now c.args.touch.task
            c.args.touch.cpu q)) (sym c.page_with-here.ensures.page)
            ∙ sym (c.node_with_room.ensures.first room are) ∙ c.in-Some.is in
            let there : slice_index new (long + at) ≡ node =
            ap (λ (n : ℕ). slice_index new n) (sym size) ∙ pushed-at items new node is in
            ap (λ (q : ℕ). first_with_room room (nodes_in c.args.space.now c.args.touch.task
            c.args.touch.cpu (page_with c.args.count c.args.page q))) same
            ∙ here ∙ ap (λ (n : ℕ). Some n) (sym there)
            ∙ ap (λ (q : ℕ). Some (slice_index new (long + q))) (sym same)
      ];
    }
