use Rattle.std.proofs.Common.{List, ℕ, sym, subst}
use Rattle.numa_space.specs.Policies.{allowed_nodes}
use Rattle.numa_space.specs.Standing.{IsNodeList}
use Rattle.numa_space.proofs.Meant.{meant-list}
use Rattle.numa_compile.proofs.Replies.{choice-meant, refusal-meant, fill-meant, counts-meant}
use Rattle.numa_compile.proofs.Replies.{span-meant}
use Rattle.numa_compile.proofs.laws.every_plan.Goals as goal

pub returns-clause-choice : goal.returns-clause-choice
returns-clause-choice c machine plan history task page cpu nodes stands lt is =
    choice-meant machine plan history stands task page cpu nodes lt is

pub returns-clause-refusal : goal.returns-clause-refusal
returns-clause-refusal c machine plan history page cpu stands =
    refusal-meant machine plan history stands page cpu

pub returns-clause-fill : goal.returns-clause-fill
returns-clause-fill c machine plan history task page cpu node stands lt is =
    fill-meant machine plan history stands task page cpu node lt is

pub returns-clause-counts : goal.returns-clause-counts
returns-clause-counts c machine plan history task first pages cpu node stands lt =
    counts-meant machine plan history stands task first pages cpu node lt

pub returns-clause-span : goal.returns-clause-span
returns-clause-span c machine plan history first pages cpu refusal stands =
    span-meant machine plan history stands first pages cpu refusal

pub returns-clause-sound : goal.returns-clause-sound
returns-clause-sound c machine bounds plan history task page cpu nodes some small accepted stands lt
    is =
    subst (λ (list : List ℕ). IsNodeList (allowed_nodes machine history) list)
    (sym (choice-meant machine plan history stands task page cpu nodes lt is).2)
    (meant-list machine bounds some small history task page cpu accepted)
