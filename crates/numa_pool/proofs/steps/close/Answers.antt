use Rattle.std.proofs.Common.{ℕ, List, ◌≡◌, ◌<◌, ◌∷◌, length, ◌∙◌, ap, sym, subst, refl, arith}
use Rattle.std.specs.Prelude.{slice_index}
use Rattle.std.specs.Mem.Slots.{slots_items}
use Rattle.numa_pool.specs.declared.view.View.{View}
use Rattle.numa_pool.specs.Frames.{times, bit_in}
use Rattle.numa_pool.specs.Rule.{Counted}
use Rattle.numa_pool.specs.Seats.{IsLast}
use Rattle.numa_pool.specs.Order.{IsLedTo}
use Rattle.numa_pool.specs.Steps.{past_of}
use Rattle.numa_pool.proofs.Ordering.{leads_to}
use Rattle.numa_pool.proofs.Ruling.{means, held_bits}
use Rattle.numa_pool.proofs.steps.close.Goals as goal

pub close_with-requires : goal.close_with-requires
close_with-requires c = ap (λ t. t.table) c.token.view_is ∙ c.requires
    ∙ sym (ap (λ w. w.table) c.words.view_is)

pub returns-clause-words : goal.returns-clause-words
returns-clause-words c =
    let e = c.close_with.ensures in
    let wide = c.words.invariant.words in
    let none = c.words.invariant.slots in
    let nodes = ap (λ w. length w.frames) c.words.view_is in
    let counts = e.counts.0 in
    (e.values.0, omega arith, e.counts.1 ∙ none)

pub returns-clause-last : goal.returns-clause-last
returns-clause-last c =
    let f = c.close_with.ensures.values.2 in
    let last = slots_items c.close_with.result.words in
    let frames = c.words.inside.table.shared.key.items in
    let view = c.token.inside.seat.me.0 in
    let counts = subst (λ (ws : List ℕ). Counted frames ws f.0.views) f.2 f.1.0.counts in
    subst (λ (q : List ℕ × View). IsLast q.0 q.1.held last)
    (λ i. ((c.words.view_is i).frames, (c.token.view_is i).view)) (
      f.0.views,
      c.token.inside.seat.id,
      view,
      means frames last f.0.views c.words.invariant.low
          counts,
      f.1.1,
      refl,
    )

pub returns-clause-held : goal.returns-clause-held
returns-clause-held c =
    let f = c.close_with.ensures.values.2 in
    let last = slots_items c.close_with.result.words in
    let frames = c.words.inside.table.shared.key.items in
    let view = c.token.inside.seat.me.0 in
    let counts = subst (λ (ws : List ℕ). Counted frames ws f.0.views) f.2 f.1.0.counts in
    subst (λ (q : List ℕ × View). (n k : ℕ) → 0 < times n k q.1.held → (k < slice_index q.0 n)
    × (bit_in last n k ≡ 1)) (λ i. ((c.words.view_is i).frames, (c.token.view_is i).view))
    (held_bits frames last f.0.views c.words.invariant.low counts c.token.inside.seat.id view f.1.1)

pub returns-clause-order : goal.returns-clause-order
returns-clause-order c =
    let f = c.close_with.ensures.values.2 in
    let last = slots_items c.close_with.result.words in
    let frames = c.words.inside.table.shared.key.items in
    let view = c.token.inside.seat.me.0 in
    subst (λ (q : List ℕ × View).
    IsLedTo q.0 (past_of q.1.log q.1.unlogged ∷ q.1.unlogged.past) last)
    (λ i. ((c.words.view_is i).frames, (c.token.view_is i).view))
    (subst (λ (ws : List ℕ).
    IsLedTo frames (past_of view.log view.unlogged ∷ view.unlogged.past) ws) f.2
    (leads_to frames f.0.words f.0.views c.token.inside.seat.id view f.1.1 c.token.invariant.1
    f.1.0.in_order))
