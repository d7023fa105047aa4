-- What a set has in common with the allowed nodes is allowed.
use Rattle.std.proofs.Common.{◌≡◌, ◌∙◌, ap, sym}
use Rattle.std.proofs.lemmas.Bool.{and_parts}
use Rattle.numa_mask.specs.NodeSet.{both, has}
use Rattle.numa_mask.proofs.Images.{has-both}
use Rattle.numa_space.proofs.NodeLists.{within-both}
use Rattle.numa_space.proofs.space.Space.usable.Goals as goal

pub returns-clause-inside : goal.returns-clause-inside
returns-clause-inside c =
    let allowed = ap (λ v. v.allowed) c.self.view_is in
    let is : both c.args.set.now c.args.self.now.allowed ≡ c.and-both.result =
    ap (both c.args.set.now) (sym allowed) ∙ sym c.and-both.ensures in
    within-both c.and-both.result c.args.self.now.allowed
    (λ node member. (and_parts (has c.args.set.now node) (has c.args.self.now.allowed node)
    (sym (has-both c.args.set.now c.args.self.now.allowed node) ∙ ap (λ s. has s node) is
    ∙ member)).1)
