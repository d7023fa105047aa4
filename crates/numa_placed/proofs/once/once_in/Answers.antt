use Rattle.std.proofs.Common.{◌≡◌, ◌+◌, ◌-◌, ◌<◌, ◌≤◌, ℕ, arith}
use Rattle.numa_placed.proofs.once.once_in.Goals as goal

pub returns-then-page-end-clause-go : goal.returns-then-page-end-clause-go
returns-then-page-end-clause-go c = record {
  low = c.first_to_go-page.ensures.low;
  high = omega (arith, c.first_to_go-page.ensures.high, c.requires.rises);
  before = c.first_to_go-page.ensures.stay;
  behind = λ p low high. absurd (omega (arith, low, high, c.if-page-end.true, c.requires.rises));
  nowhere = λ p low high. absurd (omega (arith, low, high));
  wanted = λ p low high. absurd (omega (arith, low, high));
  alike = λ p low high. absurd (omega (arith, low, high));
  goal = λ some. absurd (omega (arith, some));
}

pub returns-clause-go : goal.returns-clause-go
returns-clause-go c =
    let page = c.first_to_go-page.result in
    let to = c.in-Some.to in
    let seam : page + (to - page) ≡ to = omega (arith, c.in-Some.ensures.rises) in
    record {
      low = c.first_to_go-page.ensures.low;
      high = omega (arith, seam, c.in-Some.ensures.within, c.requires.rises);
      before = c.first_to_go-page.ensures.stay;
      behind = λ p low high. c.first_to_go-behind.ensures.stay p (omega (arith, low, seam))
          (omega (arith, high, c.requires.rises, c.if-behind-end.false));
      nowhere = λ p low high. c.in-Some.ensures.nowhere p low (omega (arith, high, seam));
      wanted = λ p low high. c.in-Some.ensures.wanted p low (omega (arith, high, seam));
      alike = λ p low high. c.in-Some.ensures.alike c.args.touch.cpu p low
          (omega (arith, high, seam));
      goal = λ some room are. c.in-Some-goal_of.ensures.first room are;
    }
