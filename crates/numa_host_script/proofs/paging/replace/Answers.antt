use Rattle.std.proofs.Common.{Option, ap, is_some, refl, subst, sym}
use Rattle.std.proofs.lemmas.Bool.{both_ways}
use Rattle.numa_host_pages.specs.Homes.{given_back, lent, pages_in}
use Rattle.numa_host_pages.specs.Standing.{HostLies}
use Rattle.numa_page_state.specs.Lying.{Lying, with_spots}
use Rattle.numa_page_state.specs.Standing.{LiesAs}
use Rattle.numa_page_state.specs.declared.state.PageState.{PageState}
use Rattle.numa_host_script.proofs.Lent.{lent-some, none-lent, some-lent}
use Rattle.numa_host_script.proofs.paging.replace.Goals as goal

pub returns-in_default : goal.returns-in_default
returns-in_default c = λ at spots lies there same.
    let none = none-lent (pages_in c.args.process at.homes) at (c.in_default.ensures at lies).0 in
    absurd (both_ways (is_some (pages_in c.args.process at.homes))
    (ap (λ (o : Option Lying). is_some o) none) there)

pub returns : goal.returns
returns c = λ at spots lies there same.
    let out = c.in-Some.ensures at lies in
    let had = some-lent c.in-Some.state (pages_in c.args.process at.homes) at out.0 in
    let from : Lying = lent at.room at.follows had.0 in
    subst (λ (l : Lying). HostLies c.give_back.new.self
    (given_back c.args.process (with_spots spots l) at))
    (sym (lent-some c.args.process at had.0 had.1))
    (c.give_back.ensures at (with_spots spots from) out.1
    (c.replace.ensures from spots (subst (λ (s : PageState). LiesAs s from)
    (sym c.deref_mut.ensures.value) had.2) refl same))
