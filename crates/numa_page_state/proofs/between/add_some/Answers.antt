use Rattle.std.proofs.Common.{◌-◌, arith}
use Rattle.numa_placed.specs.Spots.{is_on, pages_within, spot_at}
use Rattle.numa_placed.proofs.Shared.{count-le}
use Rattle.numa_placed.proofs.Summed.{pages_if-le}
use Rattle.numa_page_state.proofs.Flows.{none-went, stay-went}
use Rattle.numa_page_state.proofs.between.add_some.Goals as goal

pub returns-then-alike-page-clause-flow : goal.returns-then-alike-page-clause-flow
returns-then-alike-page-clause-flow c to small apart =
    omega (
      arith,
      none-went (spot_at c.args.before.now) (spot_at c.args.after.now) c.args.from to c.args.page
          (c.alike_with-alike.result - c.args.page) apart
          (λ p low high. c.alike_with-alike.ensures.alike p low
          (omega (arith, high, c.alike_with-alike.ensures.rises))),
    )

pub returns-then-alike-page-clause-few : goal.returns-then-alike-page-clause-few
returns-then-alike-page-clause-few c to small =
    omega (arith, c.requires.few to small, c.alike_with-alike.ensures.rises)

pub add_stay-requires : goal.add_stay-requires
add_stay-requires c = record {
  rises = omega (arith, c.stay_at-stay.ensures.rises);
  within = c.stay_at-stay.ensures.within;
  room = λ to small. omega (arith, c.requires.few to small, c.requires.near);
}

pub returns-clause-few : goal.returns-clause-few
returns-clause-few c to small =
    let n = c.stay_at-stay.result.end - c.args.page in
    let here = pages_within (is_on to) (spot_at c.args.after.now) c.args.page n in
    omega (
      arith,
      c.requires.few to small,
      c.add_stay.ensures to small,
      c.stay_at-stay.ensures.rises,
      pages_if-le (is_on c.args.from c.stay_at-stay.result.spot) here,
      count-le (λ p. is_on to (spot_at c.args.after.now p)) c.args.page n,
    )

pub returns-clause-flow : goal.returns-clause-flow
returns-clause-flow c to small apart =
    let n = c.stay_at-stay.result.end - c.args.page in
    omega (
      arith,
      c.add_stay.ensures to small,
      stay-went (spot_at c.args.before.now) (spot_at c.args.after.now) c.args.from to
          c.stay_at-stay.result.spot c.args.page n
          (λ p low high. c.stay_at-stay.ensures.alike p low
          (omega (arith, high, c.stay_at-stay.ensures.rises))),
    )
