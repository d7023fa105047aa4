use Rattle.std.proofs.Common.{List, Option, ℕ, sym, subst}
use Rattle.numa_plan.specs.Meaning.{PlanData}
use Rattle.numa_compile.specs.Windows.{WereAdded}
use Rattle.numa_compile.proofs.GrownLemmas.{grown-last}
use Rattle.numa_compile.proofs.recompiler.home.take_all_back.Goals as goal

pub take_back-requires : goal.take_back-requires
take_back-requires c =
    let space = c.requires.0 in
    let before = c.requires.1.0 in
    let were =
    subst (λ (numbers : List (Option ℕ)). WereAdded space before numbers c.loop-number.plan)
    c.in-Some.ensures.items (c.loop-number.invariant space before c.requires.1.1) in
    let last = grown-last space before c.loop-number.plan c.pop.new.self.items c.in-Some.number
    were in
    (space, (last.0, last.2))

pub loop-number-preserved : goal.loop-number-preserved
loop-number-preserved c = λ space before all.
    let were =
    subst (λ (numbers : List (Option ℕ)). WereAdded space before numbers c.loop-number.plan)
    c.in-Some.ensures.items (c.loop-number.invariant space before all) in
    let last = grown-last space before c.loop-number.plan c.pop.new.self.items c.in-Some.number
    were in
    subst (λ (p : PlanData). WereAdded space before c.pop.new.self.items p)
    (sym (c.take_back.ensures space last.0 last.2)) last.1
