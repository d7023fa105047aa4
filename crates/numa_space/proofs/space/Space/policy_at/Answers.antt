use Rattle.std.proofs.Common.{◌∙◌, IfSome, Option, sym, subst, true, ◌≡◌}
use Rattle.numa_mode.specs.Policy.{PolicyRecord, is_live}
use Rattle.numa_space.specs.Standing.{IsInForce}
use Rattle.numa_space.proofs.Lists.{policy-same}
use Rattle.numa_space.proofs.Looked.{policy-kept}
use Rattle.numa_space.proofs.space.Space.policy_at.Goals as goal

pub returns-clause-meaning : goal.returns-clause-meaning
returns-clause-meaning c history stands = c.policy_of_page.ensures
    ∙ policy-same c.args.self.now history c.args.task c.args.page stands

pub returns-clause-in_force : goal.returns-clause-in_force
returns-clause-in_force c =
    let P : Option PolicyRecord → Type 0 =
    λ o. IfSome o (λ r. IsInForce c.args.self.now.machine c.args.self.now.allowed r
    × (is_live r ≡ true)) in
    subst P (sym c.policy_of_page.ensures)
    (policy-kept c.self.inside c.args.self.now c.self.invariant c.self.view_is c.args.task
    c.args.page)
