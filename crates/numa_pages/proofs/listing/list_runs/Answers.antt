use Rattle.std.proofs.Common.{ℕ, ◌-◌, ◌++◌, List, arith, subst, sym, ◌∙◌}
use Rattle.numa_pages.specs.Listing.{AreListed}
use Rattle.numa_pages.specs.declared.listing.PageRun.{PageRun}
use Rattle.numa_pages.proofs.Listed.{all-listed, next-listed, nowhere-listed, run-listed}
use Rattle.numa_pages.proofs.listing.list_runs.Goals as goal

pub loop-page-init : goal.loop-page-init
loop-page-init c = record {
  near = omega arith;
  listed = λ spots are rest listed. subst (λ (l : List PageRun).
      AreListed spots 0 (l ++ rest)) (sym c.new-list.ensures.items) listed;
}

pub loop-page-preserved-in_ok-push : goal.loop-page-preserved-in_ok-push
loop-page-preserved-in_ok-push c =
    let page = c.loop-page.page in
    let end = c.stay_in-stay.result.end in
    let node = c.in-Stated.node in
    let run : PageRun = record { first = page; pages = end - page; node = node } in
    record {
      near = c.stay_in-stay.ensures.within;
      listed = λ spots are rest listed.
          let stay = c.stay_in-stay.ensures.spot spots are in
          subst (λ (l : List PageRun). AreListed spots 0 (l ++ rest))
          (sym c.in_ok-push.ensures.items)
          (next-listed spots c.loop-page.list.items run page
          (c.loop-page.invariant.listed spots are) end
          (λ runs behind. run-listed spots page end node runs c.stay_in-stay.ensures.rises
          c.stay_in-stay.ensures.within (λ p low high. stay.0 p low high ∙ c.in-Stated.is)
          (λ below is. stay.1 below (is ∙ sym c.in-Stated.is)) behind) rest listed);
    }

pub loop-page-preserved : goal.loop-page-preserved
loop-page-preserved c =
    let page = c.loop-page.page in
    let end = c.stay_in-stay.result.end in
    record {
      near = c.stay_in-stay.ensures.within;
      listed = λ spots are rest listed. c.loop-page.invariant.listed spots are rest
          (nowhere-listed spots page end rest
          (omega (arith, c.stay_in-stay.ensures.rises))
          (λ p low high. (c.stay_in-stay.ensures.spot spots are).0 p low high ∙ c.in_default.is)
          listed);
    }

pub returns : goal.returns
returns c spots are =
    all-listed spots c.loop-page.list.items c.loop-page.page
    (omega (arith, c.loop-page.invariant.near, c.loop-page-test.false))
    (c.loop-page.invariant.listed spots are)
