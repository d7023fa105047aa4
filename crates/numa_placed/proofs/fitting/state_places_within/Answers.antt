use Rattle.std.proofs.Common.{◌≡◌, ℕ, Bool, true, false, sym, ◌∙◌, subst}
use Rattle.numa_placed.specs.Refusals.{IsShort}
use Rattle.numa_placed.specs.Shifts.{ArePages, AreRooms, is_short, rooms_between, stated_on}
use Rattle.numa_placed.specs.Spots.{changed_spots, stated_spot}
use Rattle.numa_placed.specs.Turns.{spots_of}
use Rattle.numa_placed.specs.declared.spot.Spot.{Spot}
use Rattle.numa_requests.specs.declared.page_refusal.PlacedRefusal.TheVariants.{NoRoom}
use Rattle.numa_placed.proofs.Spanned.{between-span, short-span}
use Rattle.numa_placed.proofs.fitting.state_places_within.Goals as goal

pub returns-then-is_short-clause-edit : goal.returns-then-is_short-clause-edit
returns-then-is_short-clause-edit c room are =
    let old = spots_of c.args.places.now in
    let next = changed_spots c.args.first c.args.pages (stated_spot c.args.node) old in
    let short : is_short room old next c.args.node ≡ true =
    sym (short-span c.args.first c.args.pages c.requires.span.within old c.args.node
    c.count_places-before.result c.all_on-after.result c.count_places-before.ensures.counts
    c.all_on-after.ensures room c.is_short.result (λ b a. c.is_short.ensures room _ _ are b a))
    ∙ c.if-is_short.true in
    record {
      ok = tt;
      fits = tt;
      taken = tt;
      lack = subst (λ (b : Bool). IsShort b next NoRoom) (sym short) tt;
    }

pub returns-clause-edit : goal.returns-clause-edit
returns-clause-edit c room are =
    let old = spots_of c.args.places.now in
    let next = changed_spots c.args.first c.args.pages (stated_spot c.args.node) old in
    let fits : is_short room old next c.args.node ≡ false =
    sym (short-span c.args.first c.args.pages c.requires.span.within old c.args.node
    c.count_places-before.result c.all_on-after.result c.count_places-before.ensures.counts
    c.all_on-after.ensures room c.is_short.result (λ b a. c.is_short.ensures room _ _ are b a))
    ∙ c.if-is_short.false in
    let put : next ≡ spots_of c.edit_places.new.places =
    λ i page. sym (c.in_default.ensures.edit.ok page) i in
    record {
      ok = c.in_default.ensures.edit.ok;
      fits = subst (λ (s : ℕ → Spot). is_short room old s c.args.node ≡ false) put fits;
      taken = subst (λ (s : ℕ → Spot). AreRooms c.between-left.result (rooms_between room old s))
          put (between-span c.args.first c.args.pages c.requires.span.within old c.args.node
          c.count_places-before.result c.all_on-after.result
          c.count_places-before.ensures.counts c.all_on-after.ensures room c.between-left.result
          (λ b a. c.between-left.ensures room _ _ are b a));
      lack = tt;
    }

pub returns-in-Err-clause-edit : goal.returns-in-Err-clause-edit
returns-in-Err-clause-edit c room are =
    let old = spots_of c.args.places.now in
    let next = changed_spots c.args.first c.args.pages (stated_spot c.args.node) old in
    let fits : is_short room old next c.args.node ≡ false =
    sym (short-span c.args.first c.args.pages c.requires.span.within old c.args.node
    c.count_places-before.result c.all_on-after.result c.count_places-before.ensures.counts
    c.all_on-after.ensures room c.is_short.result (λ b a. c.is_short.ensures room _ _ are b a))
    ∙ c.if-is_short.false in
    record {
      ok = tt;
      fits = tt;
      taken = tt;
      lack = subst (λ (b : Bool). IsShort b next c.in-Err.lack) (sym fits)
          c.in-Err.ensures.edit.lack;
    }
