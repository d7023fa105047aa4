use Rattle.std.proofs.Common.{◌≡◌, ◌<◌, ℕ, Option, subst}
use Rattle.std.specs.Prelude.{IfSome}
use Rattle.numa_placed.specs.Refusals.{IsLack}
use Rattle.numa_placed.specs.Turns.{spots_of}
use Rattle.numa_placed.specs.Walks.{Fits}
use Rattle.numa_placed.specs.declared.spot.Spot.{Spot}
use Rattle.numa_placed.proofs.AtOnce.{bound-lacking, bound-so, bound-to}
use Rattle.numa_placed.proofs.once.send_once.Goals as goal

pub returns-in_default-clause-bound : goal.returns-in_default-clause-bound
returns-in_default-clause-bound c asked room are near go =
    bound-lacking asked (spots_of c.args.places.now) room c.args.rooms.now c.args.once are near go
    c.in_default.is

pub returns-clause-bound : goal.returns-clause-bound
returns-clause-bound c asked room are near go =
    let is = c.in-Some.is in
    let pages = c.args.once.pages in
    let many = subst (λ (o : Option ℕ). IfSome o (λ n. 0 < pages)) is c.requires.some in
    let fit = subst (λ (o : Option ℕ). IfSome o (λ n. Fits c.args.rooms.now n pages)) is
    c.requires.fits in
    bound-to asked (spots_of c.args.places.now) room c.args.rooms.now c.args.once are near go
    c.in-Some.node c.look.ensures is many fit (spots_of c.edit_places.new.places)
    c.in_default-edit_places.ensures.edit.ok c.take.new.self c.take.ensures

pub returns-in-Err-clause-lack : goal.returns-in-Err-clause-lack
returns-in-Err-clause-lack c asked room are near go =
    let is = c.in-Some.is in
    let pages = c.args.once.pages in
    let many = subst (λ (o : Option ℕ). IfSome o (λ n. 0 < pages)) is c.requires.some in
    let fit = subst (λ (o : Option ℕ). IfSome o (λ n. Fits c.args.rooms.now n pages)) is
    c.requires.fits in
    let so = bound-so asked (spots_of c.args.places.now) room c.args.rooms.now c.args.once are near
    go c.in-Some.node c.look.ensures is many fit c.take.new.self c.take.ensures in
    subst (λ (after : ℕ → Spot). IsLack after c.in-Err.lack) (λ i p. so p i)
    c.in-Err.ensures.edit.lack
