use Rattle.std.proofs.Common.{◌≡◌, ◌+◌, ℕ, Bool, ◌∙◌, refl, subst, arith}
use Rattle.numa_placed.specs.Binds.{nodes_in, wants_of}
use Rattle.numa_placed.specs.Standing.{Sends}
use Rattle.numa_placed.specs.Turns.{spots_of}
use Rattle.numa_placed.proofs.Sending.{sends-append, sends-none}
use Rattle.numa_placed.proofs.touched.send_pages.Goals as goal

pub loop-page-init : goal.loop-page-init
loop-page-init c =
    let test : ℕ → Bool = λ page. wants_of c.args.wants.now page c.args.spot in
    record {
      kept = c.requires.kept;
      limit = refl;
      rises = omega arith;
      within = omega arith;
      few = omega arith;
      sent = sends-none test (nodes_in c.args.space.now c.args.touch.task c.args.touch.cpu)
          c.args.spot c.args.from c.args.from (spots_of c.args.places.now) c.args.walk.now
          (omega arith) (λ page low high. absurd (omega arith));
    }

pub loop-page-preserved : goal.loop-page-preserved
loop-page-preserved c =
    let test : ℕ → Bool = λ page. wants_of c.args.wants.now page c.args.spot in
    let inv = c.loop-page.invariant in
    let low = inv.rises in
    record {
      kept = c.in-Ok.ensures.kept;
      limit = c.send_wanted.ensures.limit ∙ inv.limit;
      rises = omega (arith, low);
      within = omega arith;
      few = omega (arith, inv.few, c.in-Ok.ensures.few, low);
      sent = sends-append test (nodes_in c.args.space.now c.args.touch.task c.args.touch.cpu)
          c.args.spot c.args.from c.loop-page.page (c.loop-page.page + 1)
          (spots_of c.args.places.now) (spots_of c.loop-page.places)
          (spots_of c.send_wanted.new.places) c.args.walk.now c.loop-page.walk
          c.send_wanted.new.walk low (omega arith) inv.sent c.in-Ok.ensures.sent;
    }

pub returns-clause-sent : goal.returns-clause-sent
returns-clause-sent c =
    let over : c.loop-page.page ≡ c.args.to = omega (arith, c.loop-page.invariant.within) in
    subst (λ (page : ℕ). Sends (λ p. wants_of c.args.wants.now p c.args.spot)
    (nodes_in c.args.space.now c.args.touch.task c.args.touch.cpu) c.args.spot c.args.from page
    (spots_of c.args.places.now) (spots_of c.loop-page.places) c.args.walk.now
    c.loop-page.walk) over c.loop-page.invariant.sent
