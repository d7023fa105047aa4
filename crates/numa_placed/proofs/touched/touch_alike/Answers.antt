use Rattle.std.proofs.Common.{◌≡◌, ◌≢◌, ◌+◌, ℕ, Bool, arith, subst, sym}
use Rattle.numa_placed.specs.Binds.{nodes_in, wants_of}
use Rattle.numa_placed.specs.Standing.{Sends}
use Rattle.numa_placed.specs.Turns.{spots_of}
use Rattle.numa_placed.specs.declared.bind.Walk.{Walk}
use Rattle.numa_placed.specs.declared.spot.Spot.{Spot}
use Rattle.numa_placed.specs.declared.spot.Spot.TheVariants.{Nowhere}
use Rattle.numa_placed.proofs.Sending.{all, sends-same}
use Rattle.numa_placed.proofs.touched.touch_alike.Goals as goal

pub returns-then-end-page-clause-sent : goal.returns-then-end-page-clause-sent
returns-then-end-page-clause-sent c =
    let next : c.args.page + 1 ≡ c.stretch_end-end.result = omega arith in
    subst (λ (end : ℕ). Sends (λ p. wants_of c.args.wants.now p c.args.spot)
    (nodes_in c.args.space.now c.args.touch.task c.args.touch.cpu) c.args.spot c.args.page end
    (spots_of c.args.places.now) (spots_of c.send_wanted.new.places) c.args.walk.now
    c.send_wanted.new.walk) next c.in-Ok.ensures.sent

pub returns-in_default-clause-sent : goal.returns-in_default-clause-sent
returns-in_default-clause-sent c =
    let nodes = nodes_in c.args.space.now c.args.touch.task c.args.touch.cpu in
    let test : ℕ → Bool = λ p. wants_of c.args.wants.now p c.args.spot in
    let page = c.args.page in
    let next = c.in-Ok-send_alike.next in
    let old = spots_of c.args.places.now in
    let new = spots_of c.send_alike.new.places in
    let many : c.stretch_end-end.result ≢ page + 1 = λ is. omega (arith, is) in
    subst (λ (spot : Spot). Sends test nodes spot page next old new c.args.walk.now
    c.send_alike.new.walk) (sym (c.stretch_end-end.ensures.nowhere many))
    (sends-same test nodes Nowhere all page next old new c.args.walk.now c.send_alike.new.walk
    (λ p low high. c.stretch_end-end.ensures.wanted many p low
    (omega (arith, high, c.in-Ok-send_alike.ensures.end))) c.in-Ok-send_alike.ensures.sent)

pub returns-then-next-page-clause-sent : goal.returns-then-next-page-clause-sent
returns-then-next-page-clause-sent c =
    let nodes = nodes_in c.args.space.now c.args.touch.task c.args.touch.cpu in
    let test : ℕ → Bool = λ p. wants_of c.args.wants.now p c.args.spot in
    let page = c.args.page in
    let next = c.in-Ok-send_turns.next in
    let old = spots_of c.args.places.now in
    let new = spots_of c.send_turns.new.places in
    subst (λ (spot : Spot). Sends test nodes spot page next old new c.args.walk.now
    c.send_turns.new.walk) (sym c.in-Some.ensures.nowhere)
    (sends-same test nodes Nowhere all page next old new c.args.walk.now c.send_turns.new.walk
    (λ p low high. c.in-Some.ensures.wanted p low
    (omega (arith, high, c.in-Ok-send_turns.ensures.high)))
    (c.in-Ok-send_turns.ensures.sent c.if-next-page.true))

pub returns-clause-sent : goal.returns-clause-sent
returns-clause-sent c =
    let nodes = nodes_in c.args.space.now c.args.touch.task c.args.touch.cpu in
    let test : ℕ → Bool = λ p. wants_of c.args.wants.now p c.args.spot in
    let page = c.args.page in
    let period = c.args.page + c.in-Some.count in
    let new = spots_of c.send_pages.new.places in
    let same : spots_of c.send_turns.new.places ≡ spots_of c.args.places.now =
    λ i p. c.in-Ok-send_turns.ensures.still c.if-next-page.false p i in
    let walked : c.send_turns.new.walk ≡ c.args.walk.now =
    c.in-Ok-send_turns.ensures.walked c.if-next-page.false in
    subst (λ (old : ℕ → Spot). Sends test nodes c.args.spot page period old new c.args.walk.now
    c.send_pages.new.walk) same
    (subst (λ (walk : Walk). Sends test nodes c.args.spot page period
    (spots_of c.send_turns.new.places) new walk c.send_pages.new.walk) walked
    c.in-Ok-send_pages.ensures.sent)
