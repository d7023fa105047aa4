use Rattle.std.proofs.Common.{◌≡◌, ℕ, List, ◌+◌, ◌<◌, ◌≤◌, arith, sym, ap, subst, ◌∙◌, length}
use Rattle.std.proofs.Common.{slice_index}
use Rattle.numa_core.specs.Standing.{frames_before}
use Rattle.numa_core.proofs.InARow.{any_default, before-mono}
use Rattle.numa_core.proofs.places.Places.first.Goals as goal

first-is : (c : goal.After-row_known-1) → c.index.result.now ≡ frames_before c.args.self.now
    c.args.node
first-is c =
    let low : c.args.node < length c.self.inside.frames.items =
    subst (λ (fs : List ℕ). c.args.node < length fs) (sym c.self.view_is) c.requires in
    c.index.ensures ∙ any_default c.self.inside.before.items c.args.node c.index.result.now 0
    (omega (arith, c.self.invariant.as_long)) ∙ c.self.invariant.sums c.args.node low
    ∙ ap (λ fs. frames_before fs c.args.node) c.self.view_is

pub returns-clause-first : goal.returns-clause-first
returns-clause-first c = first-is c

pub returns-clause-within : goal.returns-clause-within
returns-clause-within c =
    let first = first-is c in
    let all : frames_before c.args.self.now c.args.node + slice_index c.args.self.now c.args.node
    ≤ frames_before c.args.self.now (length c.args.self.now) =
    before-mono c.args.self.now c.args.node (length c.args.self.now) c.requires in
    omega arith

pub returns-clause-at_most : goal.returns-clause-at_most
returns-clause-at_most c =
    let first = first-is c in
    let all : frames_before c.args.self.now c.args.node + slice_index c.args.self.now c.args.node
    ≤ frames_before c.args.self.now (length c.args.self.now) =
    before-mono c.args.self.now c.args.node (length c.args.self.now) c.requires in
    let total : c.self.inside.total ≡ frames_before c.args.self.now (length c.args.self.now) =
    c.self.invariant.total_is ∙ ap (λ (fs : List ℕ). frames_before fs (length fs))
    c.self.view_is in
    omega (arith, c.self.invariant.small)
