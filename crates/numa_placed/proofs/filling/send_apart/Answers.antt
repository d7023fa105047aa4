use Rattle.std.proofs.Common.{◌≡◌, ◌<◌, ◌≤◌, ◌-◌, ◌^◌, ◌+◌, ◌∙◌, ℕ, ap, arith, length, refl}
use Rattle.std.proofs.Common.{slice_index, subst}
use Rattle.numa_ranges.specs.Maps.{Shows, changed_span}
use Rattle.numa_ranges.specs.Runs.{page_at}
use Rattle.numa_placed.specs.Cuts.{shifted_slot}
use Rattle.numa_placed.proofs.Cutting.{named-apart, spots-apart, whole-apart}
use Rattle.numa_placed.proofs.filling.send_apart.Goals as goal

pub returns-clause-kept : goal.returns-clause-kept
returns-clause-kept c =
    let go = slice_index c.args.below.now in
    let stay = slice_index c.args.behind.now in
    let nodes = c.args.places.now.nodes.items in
    let new = c.send_first.new.nodes.items in
    let cut = c.args.cut in
    let old = c.args.places.now.map.runs in
    let mid = c.send_slots.new.map.runs in
    let last = c.send_slots-2.new.map.runs in
    let count = c.length_of-count.ensures in
    let few : length nodes ≤ 16777216 = omega (arith, count) in
    let size = c.send_first.ensures.same ∙ c.in-Ok.ensures.size in
    let first : (place : ℕ) → place < length nodes
    → slice_index new place ≡ go (slice_index nodes place) = λ place lt.
    c.send_first.ensures.sent go (λ node small. refl) place (omega (arith, lt, count))
    ∙ ap go (c.push_sent.ensures.before place lt) in
    let second : (place : ℕ) → place < length nodes
    → slice_index new (length nodes + place) ≡ stay (slice_index nodes place) = λ place lt.
    c.send_first.ensures.ahead (length nodes + place) (omega (arith, count))
    ∙ c.in-Ok.ensures.sent stay (λ node small. refl) place lt in
    let below = c.in-Ok-send_slots.ensures.shows go (λ node small. refl) in
    let behind = subst (λ (k : ℕ). Shows last (changed_span cut (2 ^ 35 - cut)
    (shifted_slot stay k) (page_at mid))) count
    (c.in-Ok-send_slots-2.ensures.shows stay (λ node small. refl)) in
    record {
      whole = whole-apart go stay nodes new cut old mid last c.requires.kept.whole
          c.requires.kept.named c.iter.ensures.rising few size first second c.requires.end below
          behind;
      named = named-apart go stay nodes new cut old mid last c.requires.kept.whole
          c.requires.kept.named c.iter.ensures.rising few size first second c.requires.end below
          behind;
    }

pub returns-clause-spots : goal.returns-clause-spots
returns-clause-spots c go stay are are' page =
    let nodes = c.args.places.now.nodes.items in
    let new = c.send_first.new.nodes.items in
    let cut = c.args.cut in
    let old = c.args.places.now.map.runs in
    let mid = c.send_slots.new.map.runs in
    let last = c.send_slots-2.new.map.runs in
    let count = c.length_of-count.ensures in
    let few : length nodes ≤ 16777216 = omega (arith, count) in
    let size = c.send_first.ensures.same ∙ c.in-Ok.ensures.size in
    let first : (place : ℕ) → place < length nodes
    → slice_index new place ≡ go (slice_index nodes place) = λ place lt.
    c.send_first.ensures.sent go are place (omega (arith, lt, count))
    ∙ ap go (c.push_sent.ensures.before place lt) in
    let second : (place : ℕ) → place < length nodes
    → slice_index new (length nodes + place) ≡ stay (slice_index nodes place) = λ place lt.
    c.send_first.ensures.ahead (length nodes + place) (omega (arith, count))
    ∙ c.in-Ok.ensures.sent stay are' place lt in
    let below = c.in-Ok-send_slots.ensures.shows go are in
    let behind = subst (λ (k : ℕ). Shows last (changed_span cut (2 ^ 35 - cut)
    (shifted_slot stay k) (page_at mid))) count
    (c.in-Ok-send_slots-2.ensures.shows stay are') in
    spots-apart go stay nodes new cut old mid last c.requires.kept.whole c.requires.kept.named
    c.iter.ensures.rising few size first second c.requires.end below behind page
