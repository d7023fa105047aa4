-- A step of a search that a worker has to do.
use Rattle.std.proofs.Common.{◌≡◌, ◌≢◌, ◌⊎◌, ℕ, ◌<◌, ◌≤◌, List, [], ◌∷◌, ◌++◌}
use Rattle.std.proofs.Common.{inl, inr, refl, sym, ap, subst}
use Rattle.std.proofs.Common.{◌∙◌, arith, Option, Some, None, Ok, append-nil, append_assoc}
use Rattle.std.proofs.Common.{length-set, ⊎_elim}
use Rattle.std.specs.Prelude.{slice_index, slice_get, unwrap_or}
use mathlib.Core.Option.{some}
use lib.ListN.{get_elem?}
use Rattle.numa_machine.specs.declared.frame.Frame.{Frame}
use Rattle.numa_requests.specs.declared.command.Command.{Command}
use Rattle.numa_requests.specs.declared.placement.Placement.{Placement}
use Rattle.numa_requests.specs.declared.event.Event.TheVariants.{Try}
use Rattle.numa_requests.specs.declared.event.CoreReply.{CoreReply}
use Rattle.numa_requests.specs.declared.event.CoreReply.TheVariants.{Won as replied_won}
use Rattle.numa_core.specs.World.{Setup, World, Worker, FrameSearch, frame_search_of, last_of}
use Rattle.numa_core.specs.Steps.{answer_of, effect_of, goes_on, placement_of}
use Rattle.numa_core.specs.Steps.{with_owner}
use Rattle.numa_core.specs.Executions.{CoreStep, world_of}
use Rattle.numa_pool.specs.declared.view.Entry.{Entry}
use Rattle.numa_pool.specs.declared.view.Entry.TheVariants.{Load, Won, Lost, Gave}
use Rattle.numa_pool.specs.declared.view.View.{View}
use Rattle.numa_pool.specs.Order.{written, Finds}
use Rattle.numa_pool.specs.Walk.{IsWalk}
use Rattle.numa_refinement.specs.Agendas.{Errand, found_by, IsAmong, AreDue, Ends}
use Rattle.numa_refinement.specs.Agendas.{IsAnswered}
use Rattle.numa_refinement.specs.FrameSearches.{IsPlaced}
use Rattle.numa_refinement.specs.WalkSteps.{IsCoreStep, MayCome, event_of}
use Rattle.numa_refinement.specs.Moves.{PoolState, Makes}
use Rattle.numa_refinement.specs.Plays.{Done, by_seat, IsNextOf, MayStep}
use Rattle.numa_refinement.specs.Plays.{execution_of, since_of, pools_of}
use Rattle.numa_refinement.specs.Tie.{HasMet}
use Rattle.numa_refinement.proofs.Allowed.{won-effect}
use Rattle.numa_refinement.proofs.Among.{its-worker}
use Rattle.numa_refinement.proofs.Beside.{workers}
use Rattle.numa_refinement.proofs.Current.{is-at, still, over}
use Rattle.numa_refinement.proofs.Falling.{one-placement, step-last}
use Rattle.numa_refinement.proofs.FrameSearching.{goes, own-frame_search}
use Rattle.numa_refinement.proofs.Keeping.{free-of, there-of, won-core_step}
use Rattle.numa_refinement.proofs.Making.{makes_so, stepped_on, entered, walk_at, current_of}
use Rattle.numa_refinement.proofs.Playing.{plays, Stands}
use Rattle.numa_refinement.proofs.Todo.{Base as BaseOf, State as StateOf, Going as GoingOf}
use Rattle.numa_refinement.proofs.Todo.{BusyWith as BusyWithOf, IsIdle as IsIdleOf, At as AtOf}
use Rattle.numa_refinement.proofs.Todo.{from_end, Publics, publics_stay, leads_to, put_here}
use Rattle.numa_refinement.proofs.Todo.{put_else, searching_for, later_answer, moved, at_place}

module _ (s : Setup) (few : (n : ℕ) → slice_index s.machine.frames n ≤ 4096)
    (some_worker : 0 < s.workers) (first : PoolState) (count : ℕ) (published : List ℕ)
    (history : List Command) (agenda : ℕ → List Errand) where
  abbrev Base : List Done → List ℕ → Type 0
  Base = BaseOf s few some_worker first count published history agenda

  abbrev State : List CoreStep → Worker → List Entry → ℕ → List Entry → Type 0
  State = StateOf s few some_worker first count published history agenda

  abbrev Going : List Done → List ℕ → ℕ → List Entry → Entry → Type 0
  Going = GoingOf s few some_worker first count published history agenda

  abbrev BusyWith : Worker → List Entry → List Errand → List Entry → Type 0
  BusyWith = BusyWithOf s few some_worker first count published history agenda

  abbrev IsIdle : Worker → List Errand → List Entry → Type 0
  IsIdle = IsIdleOf s few some_worker first count published history agenda

  abbrev At : List Done → ℕ → List Entry → Type 0
  At = AtOf s few some_worker first count published history agenda

  module _ (done : List Done) (words : List ℕ) (id : ℕ) (later : List Entry) (e : Entry)
      (g : Going done words id later e) (inside : id < count)
      (found : Finds s.machine.frames words e) where
    abbrev past : List CoreStep
    past = execution_of s done

    abbrev world : World
    world = world_of s past

    abbrev part : List Entry
    part = since_of s done id

    abbrev old : PoolState
    old = pools_of s first done

    abbrev search_now : FrameSearch
    search_now = searching_for g.x g.seen

    stands : Stands s past old (since_of s done)
    stands = plays s few some_worker first done g.base.play

    met_now : HasMet search_now part
    met_now = stands.met id search_now g.busy

    pub its_view : (v : View) × (get_elem? old.views id ≡ some v)
    its_view = at_place old.views id (let n = g.base.seats in omega arith)

    abbrev new : PoolState
    new = stepped_on old id its_view.0 e

    walk : IsWalk s.machine.frames g.x.nodes (found_by g.x) (g.rest ++ e ∷ part)
    walk = subst (λ (es : List Entry). IsWalk s.machine.frames g.x.nodes (found_by g.x) es)
        g.its_steps g.due.walk

    may : MayCome s.machine.frames g.x.nodes part e
    may = (walk_at s.machine.frames g.x.nodes (found_by g.x) g.rest e part walk).1

    makes : Makes e id old new
    makes = makes_so s.machine.frames few old id its_view.0 its_view.1 stands.tied.rule e
        (subst (λ (ws : List ℕ). Finds s.machine.frames ws e) (sym g.base.words_are) found)
        g.x.nodes part may

    may_step : (d : Entry) → IsNextOf s world (since_of s done) id d
        → MayStep s world (since_of s done) id d
    may_step (Load n w x) h = h
    may_step (Won f) h = h
    may_step (Lost f) h = h
    may_step (Gave f) h = absurd h.2

    abbrev core_step : CoreStep
    core_step = record {
      event = event_of id e;
      version = 0;
      answer = answer_of s world 0 (event_of id e);
    }

    abbrev effect : World
    effect = effect_of s world 0 (event_of id e)

    -- the worker after the step
    record After : Type 0 where
      reply : CoreReply
      is_step : IsCoreStep s world 0 (event_of id e) reply
      left : List Errand
      stage : IsIdle (effect.worker id) left later ⊎ BusyWith (effect.worker id) (e ∷ part) left
          later
      answered : (y : Errand) → IsAmong y (g.x ∷ g.todo)
          → IsAmong y left ⊎ IsAnswered (core_step ∷ past) id y

    last_now : last_of effect id ≡ g.x.version
    last_now = step-last s id world e ∙ g.last

    amid : (r : List Entry) (d : Entry) → g.rest ≡ r ++ d ∷ [] → After
    amid r d is =
        let two = walk_at s.machine.frames g.x.nodes (found_by g.x) r d (e ∷ part)
        (subst (λ (es : List Entry). IsWalk s.machine.frames g.x.nodes (found_by g.x) es)
        (ap (λ es. es ++ e ∷ part) is ∙ append_assoc r (d ∷ []) (e ∷ part)) walk) in
        let next = goes s id g.x.version (Some g.x.request) g.x.nodes world old new e part g.seen
        stands.tied makes met_now g.busy two.0 in
        let at = current_of s.machine.frames g.x.nodes d (e ∷ part) two.1 in
        let on = still s (searching_for g.x next.0) (e ∷ part) next.1.0 at.0 at.1 in
        record {
          reply = goes_on s (searching_for g.x next.0);
          is_step = next.2;
          left = g.x ∷ g.todo;
          stage = inr record {
            rest = r;
            next = d;
            newer = g.newer;
            steps_are = g.later_is ∙ ap (λ es. g.newer ++ es) is;
            its_steps = g.its_steps ∙ ap (λ es. es ++ e ∷ part) is
                ∙ append_assoc r (d ∷ []) (e ∷ part);
            due = g.due;
            seen = next.0;
            busy = next.1.1 ∙ on.1;
            last = last_now;
            others = g.others;
          };
          answered = λ y among. inl among;
        }

    module _ (none : g.rest ≡ []) where
      abbrev whole : List Entry
      whole = e ∷ part

      ended : (o : Option Placement) → g.x.placement ≡ o
          → IsWalk s.machine.frames g.x.nodes (found_by (record g.x { placement = o })) whole
      ended o is = subst (λ (q : Option Placement × List Entry).
          IsWalk s.machine.frames g.x.nodes (found_by (record g.x { placement = q.0 })) q.1)
          (λ c. (is c, none c ++ e ∷ part)) walk

      idle_then : (effect.worker id).frame_search ≡ None → IsIdle (effect.worker id) g.todo later
      idle_then over_now = (
        over_now,
        subst (λ (q : ℕ × List Entry). AreDue s published history q.0 g.todo q.1)
            (λ c. (
              sym last_now c,
              sym (g.later_is ∙ ap (λ es. g.newer ++ es) none ∙ append-nil g.newer) c,
            )) g.others,
      )

      exhausted : g.x.placement ≡ None → After
      exhausted is =
          let all = ended None is in
          let next = goes s id g.x.version (Some g.x.request) g.x.nodes world old new e part g.seen
          stands.tied makes met_now g.busy all.0 in
          let end = over s (searching_for g.x next.0) whole next.1.0 all.1 in
          record {
            reply = goes_on s (searching_for g.x next.0);
            is_step = next.2;
            left = g.todo;
            stage = inl (idle_then (next.1.1 ∙ end.1));
            answered = λ y among. ⊎_elim
                (λ same. inr (subst (λ (z : Errand). IsAnswered (core_step ∷ past) id z) (sym same)
                (subst (λ (o : Option Placement). Ends (core_step ∷ past) id g.x.version o)
                (sym is) (inl (its-worker id e, next.2.1 ∙ ap Ok end.0)))))
                (λ h. inl h) among;
          }

      wins_by : (p : Placement) → g.x.placement ≡ Some p → (d : Entry) → e ≡ d → (f : Frame)
          → d ≡ Won f → f ≡ p.frame → After
      wins_by p is (Won h) same f won its =
          let frames_same : h ≡ p.frame = cc in
          let walked = ended (Some p) is in
          let makes_h = subst (λ (d : Entry). Makes d id old new) same makes in
          let next_h : MayCome s.machine.frames g.x.nodes part (Won h) =
          subst (λ (d : Entry). MayCome s.machine.frames g.x.nodes part d) same may in
          let there = there-of s world old new id stands.tied its_view.0 its_view.1 in
          let free = free-of s world old new id stands.tied h next_h.1 makes_h.0 in
          let at = is-at s search_now part met_now h.node next_h.0 in
          let step_h = won-core_step s world id 0 search_now part old new stands.tied g.busy met_now
          h makes_h next_h in
          let placed : IsPlaced g.x.version g.x.request g.x.nodes h
          (placement_of s search_now h g.x.request) =
          record {
            version_is = refl;
            task = refl;
            page = refl;
            frame_is = refl;
            node = refl;
            rank = ap (λ o. slice_get g.x.nodes (unwrap_or o 0)) at.1 ∙ at.2;
          } in
          let its_placed = subst (λ (k : Frame). IsPlaced g.x.version g.x.request g.x.nodes k p)
          (sym frames_same) (g.due.placed p is) in
          let one = one-placement g.x.version g.x.request g.x.nodes h
          (placement_of s search_now h g.x.request)
          p g.due.distinct placed its_placed in
          let over_h : frame_search_of (effect_of s world 0 (Try id h)) id ≡ None =
          ap (λ v. frame_search_of v id) (won-effect s world 0 id there h free)
          ∙ own-frame_search (with_owner world h (Some id)) id (last_of world id) None in
          record {
            reply = replied_won (placement_of s search_now h g.x.request);
            is_step = subst (λ (d : Entry). IsCoreStep s world 0 (event_of id d)
                (replied_won (placement_of s search_now h g.x.request))) (sym same) step_h;
            left = g.todo;
            stage = inl (idle_then (subst (λ (d : Entry).
                frame_search_of (effect_of s world 0 (event_of id d)) id ≡ None) (sym same)
                over_h));
            answered = λ y among. ⊎_elim
                (λ same_y. inr (subst (λ (z : Errand). IsAnswered (core_step ∷ past) id z)
                (sym same_y) (subst (λ (o : Option Placement).
                Ends (core_step ∷ past) id g.x.version o) (sym is) (inl (
                  ap (event_of id) same ∙ ap (Try id) frames_same,
                  ap (λ (d : Entry). answer_of s world 0 (event_of id d)) same ∙ step_h.1
                      ∙ ap (λ (z : Placement). Ok (replied_won z)) one,
                )))))
                (λ h. inl h) among;
          }
      wins_by p is (Load n w x) same f won its = absurd (cc)
      wins_by p is (Lost h) same f won its = absurd (cc)
      wins_by p is (Gave h) same f won its = absurd (cc)

      ends_with : (o : Option Placement) → g.x.placement ≡ o → After
      ends_with None is = exhausted is
      ends_with (Some p) is = wins_by p is e refl p.frame (ended (Some p) is).0 refl

    after : After
    after = ⊎_elim (λ none. ends_with none g.x.placement refl) (λ more. amid more.0 more.1 more.2)
        (from_end g.rest)

    abbrev pub now : List Done
    now = by_seat id e new ∷ done

    world_now : world_of s (execution_of s now) ≡ effect
    world_now = leads_to s world 0 (event_of id e) after.reply after.is_step

    pub base_now : Base now (written e words)
    base_now = record {
      play = (g.base.play, (may_step e (search_now, g.busy, may), makes));
      words_are = ap (written e) g.base.words_are;
      seats = length-set old.views id (entered its_view.0 e) ∙ g.base.seats;
      publics = ap Publics world_now ∙ publics_stay s world id e ∙ g.base.publics;
    }

    pub mine_now : At now id later
    mine_now = subst (λ (q : Worker × List Entry). State (core_step ∷ past) q.0 q.1 id later)
        (λ c. (
          (sym world_now c).worker id,
          sym (put_here (since_of s done) id (e ∷ part)) c,
        )) record {
          left = after.left;
          stage = after.stage;
          answered = λ y among. ⊎_elim (λ h. after.answered y h)
              (λ h. inr (later_answer s few some_worker first count published history agenda past
              core_step id y h)) (g.answered y among);
        }

    pub others_now : (j : ℕ) → j ≢ id → (steps : List Entry) → At done j steps → At now j steps
    others_now j apart steps st =
        moved s few some_worker first count published history agenda past core_step
        (world.worker j) ((world_of s (execution_of s now)).worker j)
        (since_of s done j) (since_of s now j) j steps
        (workers s world 0 (event_of id e) (answer_of s world 0 (event_of id e)) id j
        (its-worker id e) (λ same. apart (sym same)))
        (put_else (since_of s done) id j (e ∷ part) (λ same. apart (sym same))) st
