use Rattle.std.proofs.Common.{◌≡◌, ◌+◌, ℕ, Bool, false, arith, subst, sym, ◌∙◌}
use Rattle.numa_placed.specs.Binds.{nodes_in, wants_of}
use Rattle.numa_placed.specs.Turns.{spots_of}
use Rattle.numa_placed.proofs.Sending.{sends-none, sends-one}
use Rattle.numa_placed.proofs.touched.send_wanted.Goals as goal

pub returns-then-not-takes-clause-sent : goal.returns-then-not-takes-clause-sent
returns-then-not-takes-clause-sent c =
    let test : ℕ → Bool = λ p. wants_of c.args.wants.now p c.args.spot in
    sends-none test (nodes_in c.args.space.now c.args.touch.task c.args.touch.cpu) c.args.spot
    c.args.page (c.args.page + 1) (spots_of c.args.places.now) c.args.walk.now (omega arith)
    (λ p low high.
    let same : c.args.page ≡ p = omega arith in
    subst (λ (q : ℕ). test q ≡ false) same (sym c.takes.ensures ∙ c.if-not-takes.true))

pub returns-clause-sent : goal.returns-clause-sent
returns-clause-sent c =
    let test : ℕ → Bool = λ p. wants_of c.args.wants.now p c.args.spot in
    sends-one test (nodes_in c.args.space.now c.args.touch.task c.args.touch.cpu) c.args.spot
    c.args.page (spots_of c.args.places.now) (spots_of c.send_page.new.places) c.args.walk.now
    c.send_page.new.walk (sym c.takes.ensures ∙ c.if-not-takes.false) c.in-Ok.ensures.spots
    c.in-Ok.ensures.moved c.in-Ok.ensures.left c.in-Ok.ensures.room
