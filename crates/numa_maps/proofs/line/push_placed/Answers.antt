use Rattle.std.proofs.Common.{ℕ, Bool, true, false, ◌++◌, slice_index, ap, cond, ◌∙◌, sym}
use Rattle.numa_maps.specs.Listing.{counted_in, lowest_from, placed_in, placed_text}
use Rattle.numa_maps.specs.Residents.{Kept}
use Rattle.numa_maps.proofs.Lines.{counted-same}
use Rattle.numa_maps.proofs.line.push_placed.Goals as goal

pub returns-then-is_part-clause-bytes : goal.returns-then-is_part-clause-bytes
returns-then-is_part-clause-bytes c =
    let placed : Kept = lowest_from 0 (placed_in c.args.resident.now c.args.range.now) in
    let huge = sym (sym c.is_part.ensures ∙ c.if-is_part.true) in
    c.push_counts.ensures.bytes
    ∙ ap (λ x. c.args.text.now.bytes ++ x) (counted-same true c.huge_in-count.result
    (λ node. slice_index c.huge_by_node.result node) placed c.huge_in-count.ensures.count
    c.huge_by_node.ensures)
    ∙ ap (λ (b : Bool). c.args.text.now.bytes
    ++ placed_text b (cond b placed (placed_in c.args.resident.now c.args.range.now))) huge

pub returns-clause-bytes : goal.returns-clause-bytes
returns-clause-bytes c =
    let placed : Kept = placed_in c.args.resident.now c.args.range.now in
    let small = sym (sym c.is_part.ensures ∙ c.if-is_part.false) in
    c.push_counts-2.ensures.bytes
    ∙ ap (λ x. c.args.text.now.bytes ++ x) (counted-same false c.count_in-count.result
    (λ node. slice_index c.pages_by_node.result node) placed c.count_in-count.ensures.count
    c.pages_by_node.ensures)
    ∙ ap (λ (b : Bool). c.args.text.now.bytes
    ++ placed_text b (cond b (lowest_from 0 placed) placed)) small
