use Rattle.std.proofs.Common.{◌≡◌, ◌<◌, ℕ, ◌+◌, ◌∙◌, ap, arith, inl, inr, length, slice_index, sym}
use Rattle.std.proofs.lemmas.Bool.{cases_lt}
use Rattle.std.proofs.lemmas.List.{get_or_read}
use Rattle.numa_placed.proofs.Heads.{pushed-at, pushed-before, pushed-size}
use Rattle.numa_placed.proofs.filling.push_sent.Goals as goal

pub loop-place-preserved : goal.loop-place-preserved
loop-place-preserved c =
    let items = c.loop-place.nodes.items in
    let old = c.args.nodes.now.items in
    let new = c.push.new.self.items in
    let at = c.loop-place.place in
    let long = length old in
    let is = c.in-Ok.ensures.items in
    let size = c.loop-place.invariant.size in
    record {
      size = omega (arith, size, pushed-size items new _ is);
      before = λ place lt. pushed-before items new _ is place (omega (arith, size, lt))
          ∙ c.loop-place.invariant.before place lt;
      sent = λ place lt. elim (cases_lt place at) [
        | inl l ↦ pushed-before items new _ is (long + place) (omega (arith, size, l))
            ∙ c.loop-place.invariant.sent place l
        | inr g ↦
            let same : place ≡ at = omega (arith, lt, g) in
            let end : long + place ≡ length items = omega (arith, size, same) in
            let short : at < length items = omega (arith, size) in
            let read : c.index-node.result.now ≡ slice_index items at =
            get_or_read items at c.index-node.result.now short c.index-node.ensures 0 in
            ap (λ (n : ℕ). slice_index new n) end ∙ pushed-at items new _ is
            ∙ ap (λ (n : ℕ). slice_index c.args.targets.now n) read
            ∙ ap (λ (n : ℕ). slice_index c.args.targets.now n)
            (c.loop-place.invariant.before at (omega arith))
            ∙ ap (λ (n : ℕ). slice_index c.args.targets.now (slice_index old n)) (sym same)
      ];
    }
