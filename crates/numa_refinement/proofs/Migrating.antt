-- The steps of a migration, as they fall, are a search for a frame of a node, and a Give.
use Rattle.std.proofs.Common.{◌≡◌, ℕ, ◌<◌, ◌==◌, Option, Some, None, Err, is_some, List, [], ◌∷◌}
use Rattle.std.proofs.Common.{refl, sym, subst, ◌∙◌, arith, nat_le, false, inl}
use Rattle.std.specs.Prelude.{slice_index}
use Rattle.std.proofs.lemmas.Bool.{eq-eqb, leb-false}
use Rattle.std.proofs.lemmas.Bool.Decides.{nat_tests}
use Rattle.std.proofs.lemmas.List.{append_cancel_right}
use Rattle.numa_machine.specs.declared.frame.Frame.{Frame}
use Rattle.numa_requests.specs.declared.placement.Placement.{Placement}
use Rattle.numa_requests.specs.declared.event.Event.TheVariants.{Give, Seek}
use Rattle.numa_requests.specs.declared.event.CoreReply.{CoreReply}
use Rattle.numa_requests.specs.declared.event.CoreReply.TheVariants.{Full}
use Rattle.numa_requests.specs.declared.event.CoreRefusal.TheVariants.{NoSuchWorker, Busy}
use Rattle.numa_requests.specs.declared.event.CoreRefusal.TheVariants.{NoSuchNode}
use Rattle.numa_core.specs.World.{Setup, World, FrameSearch, frame_search_of, owner_of}
use Rattle.numa_core.specs.Steps.{answer_of, effect_of}
use Rattle.numa_core.proofs.Answered.{replied, three_rows}
use Rattle.numa_fault.specs.Fault.{Walks}
use Rattle.numa_fault.specs.Migration.{Migrated}
use Rattle.numa_pool.specs.Seats.{SeatView}
use Rattle.numa_pool.specs.Walk.{IsWalk}
use Rattle.numa_pool.specs.declared.view.Entry.{Entry}
use Rattle.numa_pool.specs.declared.view.Entry.TheVariants.{Gave}
use Rattle.numa_refinement.specs.FrameSearches.{IsNodeSearch, TakesTurns, Turn, steps_of}
use Rattle.numa_refinement.specs.Migrations.{FallsOn, SearchesAndGives, sought_world}
use Rattle.numa_refinement.specs.Moves.{Makes}
use Rattle.numa_refinement.specs.WalkSteps.{IsCoreStep, MaySeek, event_of}
use Rattle.numa_refinement.proofs.Allowed.{no_less}
use Rattle.numa_refinement.proofs.Falling.{walk-owner}
use Rattle.numa_refinement.proofs.FrameSearching.{seeks-on}
use Rattle.numa_refinement.proofs.Keeping.{give-core_step}

-- nobody owns a frame that was given
pub given-none : (s : Setup) (w : ℕ) (world : World) (f : Frame)
    → owner_of (effect_of s world 0 (Give w f)) f ≡ None
given-none s w world f = rw (eq-eqb f.node f.node refl, eq-eqb f.number f.number refl) refl

module _ (s : Setup) (w version node : ℕ) (first : World) (before after : SeatView)
    (turns : List Turn) (falls : FallsOn s w version node first before after turns) where
  abbrev begun : World
  begun = sought_world s w version node first

  pub exhausts : Walks s.machine.frames (node ∷ []) None before after
      → IsNodeSearch s w first version node Full turns
  exhausts walks =
      let same : walks.steps.0 ≡ steps_of turns = append_cancel_right walks.steps.0 (steps_of turns)
      before.log (sym walks.steps.1 ∙ falls.gained) in
      let walk = subst (λ (es : List Entry). IsWalk s.machine.frames (node ∷ []) None es) same
      walks.steps.2 in
      let end = seeks-on s w version node first falls.may None turns falls.taken walk in
      subst (λ reply. IsNodeSearch s w first version node reply turns) end.0.1 end.0.2

  module _ (old new : Frame) (es : List Entry)
      (walk : IsWalk s.machine.frames (node ∷ []) (Some new) es) where
    -- the steps that the turns are begin with the return
    split : (ts : List Turn) → TakesTurns s w begun ts → Gave old ∷ es ≡ steps_of ts
        → SearchesAndGives s w version node first old new ts
    split [] taken same = absurd (cc)
    split (t ∷ earlier) taken same =
        let gave : Gave old ≡ t.step = cc in
        let rest : es ≡ steps_of earlier = cc in
        let its = subst (λ (steps : List Entry). IsWalk s.machine.frames (node ∷ []) (Some new)
        steps) rest walk in
        let end = seeks-on s w version node first falls.may (Some new) earlier taken.0 its in
        let idle : frame_search_of t.world w ≡ None = taken.3 ∙ end.1 in
        let makes = subst (λ (e : Entry). Makes e w t.before t.after) (sym gave) taken.2 in
        record {
          give = t;
          walk = earlier;
          turns_are = refl;
          searches = subst (λ reply. IsNodeSearch s w first version node reply earlier)
              end.0.1 end.0.2;
          owned = walk-owner s w (node ∷ []) new begun earlier taken.0 its;
          gives = give-core_step s t.world t.before t.after w 0 old taken.1 idle makes;
          ownerless = subst (λ (e : Entry). owner_of (effect_of s t.world 0 (event_of w e)) old
              ≡ None) gave (given-none s w t.world old);
        }

  pub wins : (placement moved : Placement)
      → Migrated s.machine.frames node placement before after moved
      → SearchesAndGives s w version node first placement.frame moved.frame turns
  wins placement moved done =
      let es = done.steps.0 in
      let same : Gave placement.frame ∷ es ≡ steps_of turns =
      append_cancel_right (Gave placement.frame ∷ es) (steps_of turns) before.log
      (sym done.steps.1 ∙ falls.gained) in
      split placement.frame moved.frame es done.steps.2 turns falls.taken same

-- a migration that is refused is refused as a Seek
pub refused : (s : Setup) (w version node : ℕ) (first : World) → w < s.workers
    → frame_search_of first w ≡ None → slice_index s.machine.frames node ≡ 0
    → answer_of s first version (Seek w node) ≡ Err NoSuchNode
refused s w version node first low idle none =
    rw (no_less s.workers w low, idle, none) refl

idle-then : (o : Option FrameSearch) → is_some o ≡ false → o ≡ None
idle-then None e = refl
idle-then (Some frame_search) e = absurd (cc)

positive : (n : ℕ) → (n == 0) ≡ false → 0 < n
positive n e = grind (arith, nat_tests)

-- a Seek that wasn't refused was one that its worker may make
pub may-seek : (s : Setup) (w version node : ℕ) (first : World) (reply : CoreReply)
    → IsCoreStep s first version (Seek w node) reply → MaySeek s first w version node
may-seek s w version node first reply step =
    let rows = three_rows (nat_le s.workers w) (is_some (frame_search_of first w))
    (slice_index s.machine.frames node == 0) NoSuchWorker Busy NoSuchNode
    (replied s first version (Seek w node) reply (inl (sym step.1))).0 in
    let there = leb-false s.workers w rows.0 in
    record {
      there = omega arith;
      idle = idle-then (frame_search_of first w) rows.1;
      some = positive (slice_index s.machine.frames node) rows.2;
      published = step.0.0;
      not_older = step.0.1;
    }
