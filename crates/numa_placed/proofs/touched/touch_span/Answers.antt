use Rattle.std.proofs.Common.{◌≡◌, ℕ, ◌+◌, ◌-◌, ◌∙◌, arith, subst}
use Rattle.numa_placed.specs.Binds.{IsBound, asked_by, bound_spots}
use Rattle.numa_placed.specs.Refusals.{IsLack}
use Rattle.numa_placed.specs.Turns.{spots_of}
use Rattle.numa_placed.specs.Walks.{GoOnce}
use Rattle.numa_placed.specs.declared.spot.Spot.{Spot}
use Rattle.numa_placed.proofs.touched.touch_span.Goals as goal

pub returns-in-Some-clause-bound : goal.returns-in-Some-clause-bound
returns-in-Some-clause-bound c room are =
    let size : c.args.first + c.args.pages - c.args.first ≡ c.args.pages = omega arith in
    c.send_once.ensures.bound (asked_by c.args.space.now c.args.wants.now c.args.first c.args.pages
    c.args.touch.task c.args.touch.cpu) room are c.requires.within
    (subst (λ (n : ℕ). GoOnce (asked_by c.args.space.now c.args.wants.now c.args.first n
    c.args.touch.task c.args.touch.cpu) (spots_of c.args.places.now) c.args.rooms.now
    c.in-Some.once) size c.in-Some.ensures.go)

pub returns-in-Some-clause-lack : goal.returns-in-Some-clause-lack
returns-in-Some-clause-lack c room are =
    let size : c.args.first + c.args.pages - c.args.first ≡ c.args.pages = omega arith in
    c.send_once.ensures.lack (asked_by c.args.space.now c.args.wants.now c.args.first c.args.pages
    c.args.touch.task c.args.touch.cpu) room are c.requires.within
    (subst (λ (n : ℕ). GoOnce (asked_by c.args.space.now c.args.wants.now c.args.first n
    c.args.touch.task c.args.touch.cpu) (spots_of c.args.places.now) c.args.rooms.now
    c.in-Some.once) size c.in-Some.ensures.go)

pub returns-in-Ok-put_places-clause-bound : goal.returns-in-Ok-put_places-clause-bound
returns-in-Ok-put_places-clause-bound c room are =
    let size : c.args.first + c.args.pages - c.args.first ≡ c.args.pages = omega arith in
    let copied : spots_of c.in-Ok.next ≡ spots_of c.args.places.now =
    λ i page. c.in-Ok.ensures.spots page i in
    let bound = subst (λ (spots : ℕ → Spot). IsBound (asked_by c.args.space.now c.args.wants.now
    c.args.first c.args.pages c.args.touch.task c.args.touch.cpu) spots room
    (spots_of c.touch_pages.new.places) c.touch_pages.new.walk.rooms c.touch_pages.new.walk.told)
    copied (subst (λ (n : ℕ). IsBound (asked_by c.args.space.now c.args.wants.now
    c.args.first n c.args.touch.task c.args.touch.cpu) (spots_of c.in-Ok.next) room
    (spots_of c.touch_pages.new.places) c.touch_pages.new.walk.rooms c.touch_pages.new.walk.told)
    size (c.in-Ok-touch_pages.ensures.bound room are)) in
    record {
      pages = λ page. c.in-Ok-put_places.ensures.edit.ok page ∙ bound.pages page;
      room = bound.room;
      moved = bound.moved;
      left = bound.left;
    }

pub returns-in-Err-clause-lack : goal.returns-in-Err-clause-lack
returns-in-Err-clause-lack c room are =
    let size : c.args.first + c.args.pages - c.args.first ≡ c.args.pages = omega arith in
    let asked = asked_by c.args.space.now c.args.wants.now c.args.first c.args.pages
    c.args.touch.task c.args.touch.cpu in
    let copied : spots_of c.in-Ok.next ≡ spots_of c.args.places.now =
    λ i page. c.in-Ok.ensures.spots page i in
    let bound = subst (λ (spots : ℕ → Spot). IsBound asked spots room
    (spots_of c.touch_pages.new.places) c.touch_pages.new.walk.rooms c.touch_pages.new.walk.told)
    copied (subst (λ (n : ℕ). IsBound (asked_by c.args.space.now c.args.wants.now
    c.args.first n c.args.touch.task c.args.touch.cpu) (spots_of c.in-Ok.next) room
    (spots_of c.touch_pages.new.places) c.touch_pages.new.walk.rooms c.touch_pages.new.walk.told)
    size (c.in-Ok-touch_pages.ensures.bound room are)) in
    let alike : spots_of c.touch_pages.new.places ≡ bound_spots asked
    (spots_of c.args.places.now) room = λ i page. bound.pages page i in
    subst (λ (after : ℕ → Spot). IsLack after c.in-Err.lack) alike c.in-Err.ensures.edit.lack
