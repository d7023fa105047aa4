use Rattle.std.proofs.Common.{◌+◌, ◌-◌, ◌*◌, ℕ, List, arith}
use Rattle.numa_placed.specs.Binds.{nodes_in}
use Rattle.numa_huge.specs.Huge.{places_of}
use Rattle.numa_huge.specs.Moves.{touch_from, touched_pages}
use Rattle.numa_huge.proofs.Keeping.{keeps-same, keeps-then}
use Rattle.numa_huge.proofs.Touched.{few-more, few-none, touching-end, touching-next}
use Rattle.numa_huge.proofs.Touched.{touching-passed, touching-start}
use Rattle.numa_huge.proofs.places.HugePlaces.populated.Goals as goal

pub loop-page-init : goal.loop-page-init
loop-page-init c =
    let nodes : ℕ → List ℕ =
    λ page. nodes_in c.args.space.now c.args.task c.args.cpu (page * 512) in
    let first : ℕ = c.args.first in
    let pages : ℕ = c.args.pages in
    let page : ℕ = c.next_mapped-page.result in
    let rises = c.next_mapped-page.ensures.rises in
    let within = c.next_mapped-page.ensures.within in
    record {
      high = within;
      keeps = keeps-same c.args.self.now c.in-Ok.touched c.in-Ok.ensures;
      few = few-none c.new-arrived.result page (places_of c.args.self.now)
          (c.new-arrived.ensures (places_of c.args.self.now));
      so = touching-passed nodes
          (touched_pages nodes first pages (touch_from (places_of c.args.self.now))) first page
          (first + pages - page) (first + pages - first) c.in-Ok.touched c.new-arrived.result
          rises (omega (arith, rises, within)) c.next_mapped-page.ensures.passed
          (touching-start nodes first pages (first + pages - first) c.in-Ok.touched
          c.args.self.now c.new-arrived.result (omega arith) c.in-Ok.ensures
          (c.new-arrived.ensures (places_of c.args.self.now)));
    }

pub touch_page-requires-clause-page : goal.touch_page-requires-clause-page
touch_page-requires-clause-page c = omega (arith, c.loop-page-test.true, c.requires)

pub touch_page-requires-clause-few : goal.touch_page-requires-clause-few
touch_page-requires-clause-few c = c.loop-page.invariant.few

pub loop-page-preserved : goal.loop-page-preserved
loop-page-preserved c =
    let nodes : ℕ → List ℕ =
    λ page. nodes_in c.args.space.now c.args.task c.args.cpu (page * 512) in
    let page : ℕ = c.loop-page.page in
    let next : ℕ = c.next_mapped-page-in-loop-page.result in
    let end : ℕ = c.args.first + c.args.pages in
    let all = touched_pages nodes c.args.first c.args.pages
    (touch_from (places_of c.args.self.now)) in
    let so = c.loop-page.invariant.so in
    let rises = c.next_mapped-page-in-loop-page.ensures.rises in
    let within = c.next_mapped-page-in-loop-page.ensures.within in
    record {
      high = within;
      keeps = keeps-then (places_of c.args.self.now) (places_of c.loop-page.touched)
          (places_of c.touch_page.new.self) c.loop-page.invariant.keeps c.touch_page.ensures.keeps;
      few = few-more c.touch_page.new.arrived (page + 1) next rises c.touch_page.ensures.few;
      so = touching-passed nodes all (page + 1) next (end - next) (end - (page + 1))
          c.touch_page.new.self c.touch_page.new.arrived rises (omega (arith, rises, within))
          c.next_mapped-page-in-loop-page.ensures.passed
          (touching-next nodes all page (end - (page + 1)) (end - page) c.loop-page.touched
          c.touch_page.new.self c.loop-page.arrived c.touch_page.new.arrived
          (omega (arith, c.loop-page-test.true)) so
          (c.in-Ok-touch_page.ensures.touched so.told so.has));
    }

pub returns-clause-keeps : goal.returns-clause-keeps
returns-clause-keeps c = c.loop-page.invariant.keeps

pub returns-clause-touched : goal.returns-clause-touched
returns-clause-touched c =
    let nodes : ℕ → List ℕ =
    λ page. nodes_in c.args.space.now c.args.task c.args.cpu (page * 512) in
    touching-end nodes (touched_pages nodes c.args.first c.args.pages
    (touch_from (places_of c.args.self.now))) c.loop-page.page
    (c.args.first + c.args.pages - c.loop-page.page) c.loop-page.touched c.loop-page.arrived
    (omega (arith, c.loop-page-test.false, c.loop-page.invariant.high)) c.loop-page.invariant.so
