use Rattle.std.proofs.Common.{◌≡◌, ℕ, ◌<◌, ◌∙◌, arith, refl, slice_index, subst, sym, ap}
use Rattle.std.specs.Prelude.{nat_lt, if◌then◌else◌}
use Rattle.numa_placed.specs.Moves.{moved_node, moved_spot}
use Rattle.numa_placed.specs.Refusals.{IsLack}
use Rattle.numa_placed.specs.Shifts.{going_from, room_of, shift_of, shifted, shifted_spots}
use Rattle.numa_placed.specs.Shifts.{stated_on, stay_on}
use Rattle.numa_placed.specs.Standing.{target_from}
use Rattle.numa_placed.specs.Turns.{spots_of}
use Rattle.numa_placed.specs.declared.spot.Spot.{Spot}
use Rattle.numa_placed.proofs.Going.{all-go, listed-cut, none-gone, sent-apart, target-same}
use Rattle.numa_placed.proofs.Owned.{kept-near}
use Rattle.numa_placed.proofs.Sources.{same-split, stay-same, steps-few, steps-one, sum-zero}
use Rattle.numa_placed.proofs.filling.fill_places.Goals as goal

pub tell-told-requires-clause-fewer : goal.tell-told-requires-clause-fewer
tell-told-requires-clause-fewer c node small =
    let go = moved_node c.args.old.now c.args.new.now in
    let count = stated_on (spots_of c.args.places.now) in
    let room = room_of c.args.rooms.now in
    let goes = c.course_of-course.ensures go count room c.targets-targets.ensures
    c.count_each-counts.ensures.pages (λ n lt. refl) in
    omega (
      arith,
      goes.gone node small,
      steps-few go count 256 (going_from c.args.old.now room) (λ n. omega arith) node,
      c.count_each-counts.ensures.pages node small,
      c.count_each-counts.ensures.few node small,
    )

pub returns-then-told-eq0-clause-stored : goal.returns-then-told-eq0-clause-stored
returns-then-told-eq0-clause-stored c = c.requires.stored

pub returns-then-told-eq0-clause-moved : goal.returns-then-told-eq0-clause-moved
returns-then-told-eq0-clause-moved c room rooms =
    let spots = spots_of c.args.places.now in
    let go = moved_node c.args.old.now c.args.new.now in
    let goes = c.course_of-course.ensures go (stated_on spots) room c.targets-targets.ensures
    c.count_each-counts.ensures.pages rooms in
    let gone = (shift_of spots c.args.old.now c.args.new.now room).gone in
    let tally = c.tell-told.ensures spots gone c.count_each-counts.ensures.pages goes.gone in
    record {
      pages = none-gone go gone spots c.count_each-counts.ensures.nodes
          (sum-zero 256 gone (sym tally.moved ∙ c.if-told-eq0.true));
      room = goes.room;
      tally = tally;
    }

pub returns-then-stay-eq0-clause-stored : goal.returns-then-stay-eq0-clause-stored
returns-then-stay-eq0-clause-stored c = record {
  kept = c.send_places.ensures.kept;
  few = omega (arith, c.send_places.ensures.few, c.requires.stored.few);
  limit = c.send_places.ensures.limit ∙ c.requires.stored.limit;
}

pub returns-then-stay-eq0-clause-moved : goal.returns-then-stay-eq0-clause-moved
returns-then-stay-eq0-clause-moved c room rooms =
    let spots = spots_of c.args.places.now in
    let go = moved_node c.args.old.now c.args.new.now in
    let count = stated_on spots in
    let goes = c.course_of-course.ensures go count room c.targets-targets.ensures
    c.count_each-counts.ensures.pages rooms in
    let gone = (shift_of spots c.args.old.now c.args.new.now room).gone in
    let lists = stay_on (slice_index c.targets-targets.result)
    (slice_index c.count_each-counts.result) (slice_index c.course_of-course.result.gone) in
    let none : (node : ℕ) → node < 256 → stay_on go count gone node ≡ 0 = λ node small.
    sym (stay-same (slice_index c.targets-targets.result) go
    (slice_index c.count_each-counts.result) count
    (slice_index c.course_of-course.result.gone) gone node (c.targets-targets.ensures node small)
    (c.count_each-counts.ensures.pages node small) (goes.gone node small))
    ∙ sum-zero 256 lists (sym c.stay.ensures.sum ∙ omega (arith, c.if-stay-eq0.true)) node small in
    record {
      pages = λ page. c.send_places.ensures.spots go c.targets-targets.ensures page
          ∙ sym (all-go go gone spots c.count_each-counts.ensures.nodes
          (λ p n. kept-near c.args.places.now.nodes.items c.args.places.now.map.runs p n
          c.iter.ensures.rising) none page);
      room = goes.room;
      tally = c.tell-told.ensures spots gone c.count_each-counts.ensures.pages goes.gone;
    }

pub cut_page-cut-requires-clause-alone : goal.cut_page-cut-requires-clause-alone
cut_page-cut-requires-clause-alone c = λ node other small small' here there.
    let spots = spots_of c.args.places.now in
    let go = moved_node c.args.old.now c.args.new.now in
    let count = stated_on spots in
    let room = room_of c.args.rooms.now in
    let goes = c.course_of-course.ensures go count room c.targets-targets.ensures
    c.count_each-counts.ensures.pages (λ n lt. refl) in
    let gone = (shift_of spots c.args.old.now c.args.new.now room).gone in
    let same = λ (n : ℕ) (lt : n < 256).
    same-split count (slice_index c.count_each-counts.result) gone
    (slice_index c.course_of-course.result.gone) n
    (sym (c.count_each-counts.ensures.pages n lt)) (sym (goes.gone n lt)) in
    steps-one go count 256 (going_from c.args.old.now room) (λ n. refl) node other
    (same node small ∙ here) (same other small' ∙ there)

pub returns-in-Ok-put_places-clause-moved : goal.returns-in-Ok-put_places-clause-moved
returns-in-Ok-put_places-clause-moved c room rooms =
    let spots = spots_of c.args.places.now in
    let go = moved_node c.args.old.now c.args.new.now in
    let count = stated_on spots in
    let goes = c.course_of-course.ensures go count room c.targets-targets.ensures
    c.count_each-counts.ensures.pages rooms in
    let gone = (shift_of spots c.args.old.now c.args.new.now room).gone in
    let cut = c.cut_page-cut.result in
    let below = target_from go (λ node. 1) gone in
    let behind = target_from go count gone in
    let sent : (page : ℕ) → spots_of c.send_apart.new.places page
    ≡ shifted_spots go gone spots page = λ page.
    c.in-Ok-send_apart.ensures.spots below behind
    (λ node small. c.targets_from-below.ensures node small
    ∙ target-same (slice_index c.targets-targets.result) go (slice_index c.ones.result)
    (λ n. 1) (slice_index c.course_of-course.result.gone) gone node
    (c.targets-targets.ensures node small) (c.ones.ensures node small) (goes.gone node small))
    (λ node small. c.targets_from-behind.ensures node small
    ∙ target-same (slice_index c.targets-targets.result) go
    (slice_index c.count_each-counts.result) count
    (slice_index c.course_of-course.result.gone) gone node
    (c.targets-targets.ensures node small) (c.count_each-counts.ensures.pages node small)
    (goes.gone node small)) page
    ∙ ap (λ (s : Spot). if nat_lt page cut then moved_spot below s else moved_spot behind s)
    (c.in-Ok.ensures.spots page)
    ∙ sent-apart go gone spots cut
    (λ p n low is. c.count_each-counts.ensures.nodes p n is)
    (λ p n. kept-near c.args.places.now.nodes.items c.args.places.now.map.runs p n
    c.iter.ensures.rising)
    (listed-cut spots cut c.count_each-counts.result c.course_of-course.result.gone gone
    c.count_each-counts.ensures.pages goes.gone c.cut_page-cut.ensures.cut)
    c.cut_page-cut.ensures.end page in
    record {
      pages = λ page. c.in-Ok-put_places.ensures.edit.ok page ∙ sent page;
      room = goes.room;
      tally = c.tell-told.ensures spots gone c.count_each-counts.ensures.pages goes.gone;
    }

pub returns-in-Err-clause-lack : goal.returns-in-Err-clause-lack
returns-in-Err-clause-lack c room rooms =
    let spots = spots_of c.args.places.now in
    let go = moved_node c.args.old.now c.args.new.now in
    let count = stated_on spots in
    let goes = c.course_of-course.ensures go count room c.targets-targets.ensures
    c.count_each-counts.ensures.pages rooms in
    let gone = (shift_of spots c.args.old.now c.args.new.now room).gone in
    let cut = c.cut_page-cut.result in
    let below = target_from go (λ node. 1) gone in
    let behind = target_from go count gone in
    let sent : (page : ℕ) → spots_of c.send_apart.new.places page
    ≡ shifted_spots go gone spots page = λ page.
    c.in-Ok-send_apart.ensures.spots below behind
    (λ node small. c.targets_from-below.ensures node small
    ∙ target-same (slice_index c.targets-targets.result) go (slice_index c.ones.result)
    (λ n. 1) (slice_index c.course_of-course.result.gone) gone node
    (c.targets-targets.ensures node small) (c.ones.ensures node small) (goes.gone node small))
    (λ node small. c.targets_from-behind.ensures node small
    ∙ target-same (slice_index c.targets-targets.result) go
    (slice_index c.count_each-counts.result) count
    (slice_index c.course_of-course.result.gone) gone node
    (c.targets-targets.ensures node small) (c.count_each-counts.ensures.pages node small)
    (goes.gone node small)) page
    ∙ ap (λ (s : Spot). if nat_lt page cut then moved_spot below s else moved_spot behind s)
    (c.in-Ok.ensures.spots page)
    ∙ sent-apart go gone spots cut
    (λ p n low is. c.count_each-counts.ensures.nodes p n is)
    (λ p n. kept-near c.args.places.now.nodes.items c.args.places.now.map.runs p n
    c.iter.ensures.rising)
    (listed-cut spots cut c.count_each-counts.result c.course_of-course.result.gone gone
    c.count_each-counts.ensures.pages goes.gone c.cut_page-cut.ensures.cut)
    c.cut_page-cut.ensures.end page in
    let alike : spots_of c.send_apart.new.places
    ≡ shifted spots c.args.old.now c.args.new.now room = λ i page. sent page i in
    subst (λ (after : ℕ → Spot). IsLack after c.in-Err.lack) alike c.in-Err.ensures.edit.lack
