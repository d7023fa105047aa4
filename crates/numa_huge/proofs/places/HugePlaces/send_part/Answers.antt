use Rattle.std.proofs.Common.{◌*◌, ◌+◌, ◌-◌, ℕ, List, arith, refl}
use Rattle.numa_huge.specs.Huge.{places_of}
use Rattle.numa_huge.specs.Moves.{named_in, sent_pages}
use Rattle.numa_huge.proofs.Keeping.{keeps-same, keeps-then}
use Rattle.numa_huge.proofs.Where.{sending-end, sending-next}
use Rattle.numa_huge.proofs.places.HugePlaces.send_part.Goals as goal

pub loop-page-init : goal.loop-page-init
loop-page-init c = record {
  sending = λ told has. record { told = told; has = has; all_is = refl };
  few = omega arith;
  high = omega (arith, c.requires.rises);
  keeps = keeps-same c.args.self.now c.args.self.now refl;
}

pub send_page-requires-clause-page : goal.send_page-requires-clause-page
send_page-requires-clause-page c = omega (arith, c.loop-page-test.true, c.requires.within)

pub send_page-requires-clause-left : goal.send_page-requires-clause-left
send_page-requires-clause-left c = omega (
  arith,
  c.loop-page-test.true,
  c.requires.within,
  c.requires.left,
  c.loop-page.invariant.few,
)

pub loop-page-preserved : goal.loop-page-preserved
loop-page-preserved c =
    let nodes : ℕ → List ℕ =
    λ page. named_in c.args.space.now c.args.task c.args.cpu (page * 512) in
    let page : ℕ = c.loop-page.page in
    record {
      sending = λ told has.
          let so = c.loop-page.invariant.sending told has in
          sending-next c.args.said.now nodes (sent_pages c.args.said.now nodes c.args.from
          (c.args.to - c.args.from) (record { huge = places_of c.args.self.now; told = told }))
          page (c.args.to - (page + 1)) (c.args.to - page) c.loop-page.self c.send_page.new.self
          c.loop-page.flows c.send_page.new.flows (omega (arith, c.loop-page-test.true)) so
          (c.in-Ok.ensures.sent so.told so.has);
      few = omega (arith, c.send_page.ensures.left, c.loop-page.invariant.few);
      high = omega (arith, c.loop-page-test.true);
      keeps = keeps-then (places_of c.args.self.now) (places_of c.loop-page.self)
          (places_of c.send_page.new.self) c.loop-page.invariant.keeps c.send_page.ensures.keeps;
    }

pub returns-in_default-clause-left : goal.returns-in_default-clause-left
returns-in_default-clause-left c = omega (
  arith,
  c.send_page.ensures.left,
  c.loop-page.invariant.few,
  c.loop-page-test.true,
)

pub returns-clause-left : goal.returns-clause-left
returns-clause-left c = omega (arith, c.loop-page.invariant.few, c.loop-page.invariant.high)

pub returns-clause-sent : goal.returns-clause-sent
returns-clause-sent c told has =
    let nodes : ℕ → List ℕ =
    λ page. named_in c.args.space.now c.args.task c.args.cpu (page * 512) in
    sending-end c.args.said.now nodes (sent_pages c.args.said.now nodes c.args.from
    (c.args.to - c.args.from) (record { huge = places_of c.args.self.now; told = told }))
    c.loop-page.page (c.args.to - c.loop-page.page) c.loop-page.self c.loop-page.flows
    (omega (arith, c.loop-page-test.false)) (c.loop-page.invariant.sending told has)

pub returns-in_default-clause-keeps : goal.returns-in_default-clause-keeps
returns-in_default-clause-keeps c = keeps-then (places_of c.args.self.now)
    (places_of c.loop-page.self) (places_of c.send_page.new.self) c.loop-page.invariant.keeps
    c.send_page.ensures.keeps

pub returns-clause-keeps : goal.returns-clause-keeps
returns-clause-keeps c = c.loop-page.invariant.keeps
