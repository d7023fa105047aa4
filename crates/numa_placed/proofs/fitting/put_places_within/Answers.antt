use Rattle.std.proofs.Common.{◌≡◌, ℕ, Bool, true, false, sym, ◌∙◌, subst}
use Rattle.numa_placed.specs.Refusals.{IsShort}
use Rattle.numa_placed.specs.Shifts.{AreRooms, is_short, rooms_between}
use Rattle.numa_placed.specs.Turns.{spots_of}
use Rattle.numa_placed.specs.declared.spot.Spot.{Spot}
use Rattle.numa_requests.specs.declared.page_refusal.PlacedRefusal.TheVariants.{NoRoom}
use Rattle.numa_placed.proofs.fitting.put_places_within.Goals as goal

pub returns-then-is_short-clause-edit : goal.returns-then-is_short-clause-edit
returns-then-is_short-clause-edit c room are =
    let old = spots_of c.args.places.now in
    let next = spots_of c.args.next in
    let short : is_short room old next c.args.node ≡ true =
    sym (c.is_short.ensures room old next are c.count_each-before.ensures.pages
    c.count_each-after.ensures.pages) ∙ c.if-is_short.true in
    record {
      ok = tt;
      fits = tt;
      taken = tt;
      lack = subst (λ (b : Bool). IsShort b next NoRoom) (sym short) tt;
    }

pub returns-in-Ok-clause-edit : goal.returns-in-Ok-clause-edit
returns-in-Ok-clause-edit c room are =
    let old = spots_of c.args.places.now in
    let next = spots_of c.args.next in
    let fits : is_short room old next c.args.node ≡ false =
    sym (c.is_short.ensures room old next are c.count_each-before.ensures.pages
    c.count_each-after.ensures.pages) ∙ c.if-is_short.false in
    let put : next ≡ spots_of c.put_places.new.places =
    λ i page. sym (c.in-Ok.ensures.edit.ok page) i in
    record {
      ok = c.in-Ok.ensures.edit.ok;
      fits = subst (λ (s : ℕ → Spot). is_short room old s c.args.node ≡ false) put fits;
      taken = subst (λ (s : ℕ → Spot). AreRooms c.between-left.result (rooms_between room old s))
          put (c.between-left.ensures room old next are c.count_each-before.ensures.pages
          c.count_each-after.ensures.pages);
      lack = tt;
    }

pub returns-in-Err-clause-edit : goal.returns-in-Err-clause-edit
returns-in-Err-clause-edit c room are =
    let old = spots_of c.args.places.now in
    let next = spots_of c.args.next in
    let fits : is_short room old next c.args.node ≡ false =
    sym (c.is_short.ensures room old next are c.count_each-before.ensures.pages
    c.count_each-after.ensures.pages) ∙ c.if-is_short.false in
    record {
      ok = tt;
      fits = tt;
      taken = tt;
      lack = subst (λ (b : Bool). IsShort b next c.in-Err.lack) (sym fits)
          c.in-Err.ensures.edit.lack;
    }
