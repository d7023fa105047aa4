use Rattle.std.proofs.Common.{Bool, Option, ap, not, refl, subst, sym, ◌∙◌}
use Rattle.std.specs.Prelude.{Box, is_some}
use Rattle.std.specs.Global.{Global}
use Rattle.numa_host_pages.specs.Homes.{lent, lent_or_new, pages_in}
use Rattle.numa_host_pages.specs.Standing.{IsLent}
use Rattle.numa_page_state.specs.Lying.{Lying}
use Rattle.numa_page_state.specs.Standing.{LiesAs}
use Rattle.numa_page_state.specs.declared.state.PageState.{PageState}
use Rattle.numa_host_script.proofs.Lent.{none-in, none-lent, some-lent}
use Rattle.numa_host_script.proofs.lending.lend.Goals as goal

pub returns-in-Some-clause-lent : goal.returns-in-Some-clause-lent
returns-in-Some-clause-lent c = λ at lies.
    let out = c.in-Some.ensures at lies in
    let had = some-lent c.in-Some.state (pages_in c.args.process at.homes) at out.0 in (
      ap (λ (o : Option Lying). not (is_some o)) (sym had.1),
      subst (λ (o : Option Lying). LiesAs c.in-Some.state.value (lent_or_new at.room at.follows o))
          (sym had.1) had.2,
      out.1,
    )

pub returns-in_default-begin-clause-lacks : goal.returns-in_default-begin-clause-lacks
returns-in_default-begin-clause-lacks c = λ at lies.
    let out = c.in_default.ensures at lies in
    let none = none-lent (pages_in c.args.process at.homes) at out.0 in
    (none, none-in c.lend.new.self c.args.process at none out.1)

pub returns-clause-lent : goal.returns-clause-lent
returns-clause-lent c = λ at lies.
    let out = c.in_default.ensures at lies in
    let none = none-lent (pages_in c.args.process at.homes) at out.0 in (
      ap (λ (o : Option Lying). not (is_some o)) (sym none),
      subst (λ (o : Option Lying). LiesAs c.in-Ok.state.value (lent_or_new at.room at.follows o))
          (sym none) (c.in-Ok.ensures at (none-in c.lend.new.self c.args.process at none out.1)),
      out.1,
    )
