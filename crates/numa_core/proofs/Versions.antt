-- Versions: a worker's last one never falls, and is the one that a reply tells it.
use Rattle.std.proofs.Common.{◌≡◌, ℕ, ◌≤◌, ◌==◌, ◌||◌, Bool, true, false, Option, Some, None}
use Rattle.std.proofs.Common.{Result, Ok, Err, is_some, is_ok, List, [], ◌∷◌, ◌++◌, length, refl}
use Rattle.std.proofs.Common.{sym, ap, subst, ◌∙◌, arith, if◌then◌else◌}
use Rattle.std.specs.List.{list_any}
use Rattle.std.specs.Option.{option_map_or}
use Rattle.std.proofs.lemmas.Bool.{eq-eqb, eqb-true}
use Rattle.numa_machine.specs.declared.frame.Frame.{Frame}
use Rattle.numa_requests.specs.declared.event.Event.{Event}
use Rattle.numa_requests.specs.declared.event.Event.TheVariants.{Accept, Publish, Begin, Seek, Look}
use Rattle.numa_requests.specs.declared.event.Event.TheVariants.{Try, Give}
use Rattle.numa_requests.specs.declared.event.CoreReply.{CoreReply}
use Rattle.numa_requests.specs.declared.event.CoreReply.TheVariants.{Still, Exhausted, Won}
use Rattle.numa_requests.specs.declared.event.CoreReply.TheVariants.{Found, Full}
use Rattle.numa_requests.specs.declared.request.Request.{Request}
use Rattle.numa_requests.specs.declared.event.CoreRefusal.{CoreRefusal}
use Rattle.numa_core.specs.World.{Setup, FrameSearch, Worker, World, is_published, last_of}
use Rattle.numa_core.specs.World.{frame_search_of, owner_of, current_rank, new_frame_search}
use Rattle.numa_core.specs.World.{frame_search_after_look, frame_search_past, seeking}
use Rattle.numa_core.specs.Steps.{reply_of, effect_of, goes_on, going_on, placement_of, IsAnswer}
use Rattle.numa_core.specs.Steps.{MayTake, won_by}
use Rattle.numa_core.specs.Executions.{CoreStep, world_of, IsExecution, version_told, worker_of}
use Rattle.numa_core.proofs.Answered.{legal_before, replied}

-- each published version is of accepted commands, each worker's last one too, and a frame search is
-- by the last one
pub record IsSound (world : World) : Type 0 where
  pub published : (v : ℕ) → is_published world v ≡ true → v ≤ length world.history
  pub lasts : (w : ℕ) → last_of world w ≤ length world.history
  pub frame_searches : (w : ℕ) (frame_search : FrameSearch)
      → frame_search_of world w ≡ Some frame_search → frame_search.version ≡ last_of world w

-- the frame search that goes on is the one that there was
pub going_on-is : (s : Setup) (old new : FrameSearch) → going_on s old ≡ Some new → new ≡ old
going_on-is s old new = go (current_rank s old)
  where
    go : (o : Option ℕ) → (if is_some o then Some old else None) ≡ Some new → new ≡ old
    go None e = absurd (cc)
    go (Some rank) e = cc

-- the same, where there was one before
pub went_on : (s : Setup) (o : Option FrameSearch) (f : FrameSearch → FrameSearch)
    (new : FrameSearch) → option_map_or (λ frame_search. going_on s (f frame_search)) o None
    ≡ Some new → (old : FrameSearch) × (o ≡ Some old) × (new ≡ f old)
went_on s None f new e = absurd (cc)
went_on s (Some old) f new e = (old, refl, going_on-is s (f old) new e)

-- by the worker itself, or by another
pub by_itself : {X : Type 0} (P : X → Type 0) (v w : ℕ) (x y : X) → (v ≡ w → P x) → P y
    → P (if v == w then x else y)
by_itself P v w x y mine other = go (v == w) refl
  where
    go : (b : Bool) → (v == w) ≡ b → P (if b then x else y)
    go true e = mine (eqb-true v w e)
    go false e = other

sound-step : (s : Setup) (world : World) (version : ℕ) (event : Event) → MayTake world version event
    → IsSound world → IsSound (effect_of s world version event)
sound-step s world version (Accept command) may sound = record {
  published = λ v h. let low : v ≤ length world.history = sound.published v h in omega arith;
  lasts = λ w. let low : last_of world w ≤ length world.history = sound.lasts w in omega arith;
  frame_searches = sound.frame_searches;
}
sound-step s world version Publish may sound = record {
  published = λ v h. go v h;
  lasts = sound.lasts;
  frame_searches = sound.frame_searches;
}
  where
    go : (v : ℕ) → ((length world.history == v) || list_any (λ u. u == v) world.published) ≡ true
        → v ≤ length world.history
    go v h = pick (length world.history == v) refl h
      where
        pick : (b : Bool) → (length world.history == v) ≡ b
            → (b || list_any (λ u. u == v) world.published) ≡ true → v ≤ length world.history
        pick true e h = omega (arith, eqb-true (length world.history) v e)
        pick false e h = sound.published v h
sound-step s world version (Begin v request) may sound = record {
  published = sound.published;
  lasts = λ w. by_itself (λ (worker : Worker). worker.last ≤ length world.history) v w _
      (world.worker w) (λ e. sound.published version may.0) (sound.lasts w);
  frame_searches = λ w frame_search.
      by_itself (λ (worker : Worker). worker.frame_search ≡ Some frame_search
      → frame_search.version ≡ worker.last) v w _ (world.worker w)
      (λ e is. ap (λ (h : FrameSearch). h.version)
      (going_on-is s (new_frame_search s world version request) frame_search is))
      (sound.frame_searches w frame_search);
}
sound-step s world version (Seek v node) may sound = record {
  published = sound.published;
  lasts = λ w. by_itself (λ (worker : Worker). worker.last ≤ length world.history) v w _
      (world.worker w) (λ e. sound.published version may.0) (sound.lasts w);
  frame_searches = λ w frame_search.
      by_itself (λ (worker : Worker). worker.frame_search ≡ Some frame_search
      → frame_search.version ≡ worker.last) v w _ (world.worker w)
      (λ e is. ap (λ (h : FrameSearch). h.version)
      (going_on-is s (seeking version node) frame_search is))
      (sound.frame_searches w frame_search);
}
sound-step s world version (Look v word) may sound = record {
  published = sound.published;
  lasts = λ w. by_itself (λ (worker : Worker). worker.last ≤ length world.history) v w _
      (world.worker w) (λ e. sound.lasts v) (sound.lasts w);
  frame_searches = λ w frame_search.
      by_itself (λ (worker : Worker). worker.frame_search ≡ Some frame_search
      → frame_search.version ≡ worker.last) v w _ (world.worker w)
      (λ e is. let old = went_on s (frame_search_of world v) (frame_search_after_look s world word)
      frame_search is in ap (λ (h : FrameSearch). h.version) old.2
      ∙ sound.frame_searches v old.0 old.1)
      (sound.frame_searches w frame_search);
}
sound-step s world version (Try v frame) may sound = go (owner_of world frame) refl
  where
    go : (owner : Option ℕ) → owner_of world frame ≡ owner
        → IsSound (effect_of s world version (Try v frame))
    go (Some u) is = rw is record {
      published = sound.published;
      lasts = λ w. by_itself (λ (worker : Worker). worker.last ≤ length world.history) v w _
          (world.worker w) (λ e. sound.lasts v) (sound.lasts w);
      frame_searches = λ w frame_search.
          by_itself (λ (worker : Worker). worker.frame_search ≡ Some frame_search
          → frame_search.version ≡ worker.last) v w _ (world.worker w)
          (λ e is. let old = went_on s (frame_search_of world v) (frame_search_past frame)
          frame_search is in ap (λ (h : FrameSearch). h.version) old.2
          ∙ sound.frame_searches v old.0 old.1)
          (sound.frame_searches w frame_search);
    }
    go None is = rw is record {
      published = sound.published;
      lasts = λ w. by_itself (λ (worker : Worker). worker.last ≤ length world.history) v w _
          (world.worker w) (λ e. sound.lasts v) (sound.lasts w);
      frame_searches = λ w frame_search.
          by_itself (λ (worker : Worker). worker.frame_search ≡ Some frame_search
          → frame_search.version ≡ worker.last) v w _ (world.worker w) (λ e is. absurd (cc))
          (sound.frame_searches w frame_search);
    }
sound-step s world version (Give v frame) may sound =
    record {
      published = sound.published;
      lasts = sound.lasts;
      frame_searches =
          sound.frame_searches;
    }

-- every execution leads to a sound world
pub sound : (s : Setup) (past : List CoreStep) → IsExecution s past → IsSound (world_of s past)
sound s [] legal = record {
  published = λ v h. go v h;
  lasts = λ w. omega arith;
  frame_searches = λ w frame_search e. absurd (cc);
}
  where
    go : (v : ℕ) → ((0 == v) || false) ≡ true → v ≤ 0
    go v h = pick (0 == v) refl h
      where
        pick : (b : Bool) → (0 == v) ≡ b → (b || false) ≡ true → v ≤ 0
        pick true e h = omega (arith, eqb-true 0 v e)
        pick false e h = absurd (cc)
sound s (m ∷ past) legal = go m.answer (sound s past legal.0)
  where
    go : (answer : Result CoreReply CoreRefusal) → IsSound (world_of s past)
        → IsSound (if is_ok answer then effect_of s (world_of s past) m.version m.event
        else world_of s past)
    go (Ok reply) h = sound-step s (world_of s past) m.version m.event legal.1 h
    go (Err refusal) h = h

rises-step : (s : Setup) (world : World) (version w : ℕ) (event : Event)
    → MayTake world version event → last_of world w ≤ last_of (effect_of s world version event) w
rises-step s world version w (Accept command) may = omega arith
rises-step s world version w Publish may = omega arith
rises-step s world version w (Begin v request) may =
    by_itself (λ (worker : Worker). last_of world w ≤ worker.last) v w _ (world.worker w)
    (λ e. subst (λ u. last_of world u ≤ version) e may.1) (omega arith)
rises-step s world version w (Seek v node) may =
    by_itself (λ (worker : Worker). last_of world w ≤ worker.last) v w _ (world.worker w)
    (λ e. subst (λ u. last_of world u ≤ version) e may.1) (omega arith)
rises-step s world version w (Look v word) may =
    by_itself (λ (worker : Worker). last_of world w ≤ worker.last) v w _ (world.worker w)
    (λ e. subst (λ u. last_of world u ≤ last_of world v) e (omega arith)) (omega arith)
rises-step s world version w (Try v frame) may = go (owner_of world frame) refl
  where
    go : (owner : Option ℕ) → owner_of world frame ≡ owner
        → last_of world w ≤ last_of (effect_of s world version (Try v frame)) w
    go (Some u) is =
        rw is (by_itself (λ (worker : Worker). last_of world w ≤ worker.last) v w _ (world.worker w)
        (λ e. subst (λ u. last_of world u ≤ last_of world v) e (omega arith)) (omega arith))
    go None is =
        rw is (by_itself (λ (worker : Worker). last_of world w ≤ worker.last) v w _ (world.worker w)
        (λ e. subst (λ u. last_of world u ≤ last_of world v) e (omega arith)) (omega arith))
rises-step s world version w (Give v frame) may = omega arith

-- a worker's last version never falls
pub rises : (s : Setup) (between past : List CoreStep) (w : ℕ) → IsExecution s (between ++ past)
    → last_of (world_of s past) w ≤ last_of (world_of s (between ++ past)) w
rises s [] past w legal = omega arith
rises s (m ∷ between) past w legal = go m.answer (rises s between past w legal.0)
  where
    go : (answer : Result CoreReply CoreRefusal) → last_of (world_of s past) w
        ≤ last_of (world_of s (between ++ past)) w → last_of (world_of s past) w
        ≤ last_of (if is_ok answer then effect_of s (world_of s (between ++ past)) m.version m.event
        else world_of s (between ++ past)) w
    go (Ok reply) h = let more : last_of (world_of s (between ++ past)) w
        ≤ last_of (effect_of s (world_of s (between ++ past)) m.version m.event) w =
        rises-step s (world_of s (between ++ past)) m.version w m.event legal.1 in omega arith
    go (Err refusal) h = h

same_number : (v w : ℕ) → ◌≡◌ {A = Option ℕ} (Some v) (Some w) → v ≡ w
same_number v w e = cc

-- the reply is to the worker
own : (v w : ℕ) → ◌≡◌ {A = Option ℕ} (Some v) (Some w) → (v == w) ≡ true
own v w e = eq-eqb v w (same_number v w e)

told-goes_on : (s : Setup) (frame_search : FrameSearch) (a : ℕ)
    → version_told (Ok (goes_on s frame_search)) ≡ Some a → frame_search.version ≡ a
told-goes_on s frame_search a = go (current_rank s frame_search) frame_search.request
  where
    go : (o : Option ℕ) (request : Option Request)
        → version_told (Ok (if is_some o then Still
        else option_map_or (λ r. Exhausted frame_search.version) request Full)) ≡ Some a
        → frame_search.version ≡ a
    go None (Some r) e = cc
    go None None e = absurd (cc)
    go (Some rank) request e = absurd (cc)

told-frame_search : (s : Setup) (o : Option FrameSearch) (f : FrameSearch → FrameSearch) (a : ℕ)
    → version_told (Ok (option_map_or (λ frame_search. goes_on s (f frame_search)) o Still))
    ≡ Some a → (frame_search : FrameSearch) × (o ≡ Some frame_search)
    × ((f frame_search).version ≡ a)
told-frame_search s None f a e = absurd (cc)
told-frame_search s (Some frame_search) f a e =
    (frame_search, refl, told-goes_on s (f frame_search) a e)

told-won : (s : Setup) (o : Option FrameSearch) (frame : Frame) (a : ℕ)
    → version_told (Ok (option_map_or (λ frame_search. won_by s frame_search frame) o Still))
    ≡ Some a
    → (frame_search : FrameSearch) × (o ≡ Some frame_search) × (frame_search.version ≡ a)
told-won s None frame a e = absurd (cc)
told-won s (Some frame_search) frame a e = (frame_search, refl, go frame_search.request e)
  where
    go : (o : Option Request)
        → version_told (Ok (option_map_or (λ r. Won (placement_of s frame_search frame r)) o
        (Found frame))) ≡ Some a → frame_search.version ≡ a
    go None e = absurd (cc)
    go (Some r) e = cc

by_true : (P : Worker → Type 0) (b : Bool) (x y : Worker) → b ≡ true → P x → P (if b then x else y)
by_true P true x y e h = h
by_true P false x y e h = absurd (cc)

told-step : (s : Setup) (world : World) (version : ℕ) (event : Event) (w a : ℕ) → IsSound world
    → worker_of event ≡ Some w → version_told (Ok (reply_of s world version event)) ≡ Some a
    → last_of (effect_of s world version event) w ≡ a
told-step s world version (Accept command) w a sound own_step e = absurd (cc)
told-step s world version Publish w a sound own_step e = absurd (cc)
told-step s world version (Begin v request) w a sound own_step e =
    by_true (λ worker. worker.last ≡ a) (v == w) _ (world.worker w) (own v w own_step)
    (told-goes_on s (new_frame_search s world version request) a e)
told-step s world version (Seek v node) w a sound own_step e =
    by_true (λ worker. worker.last ≡ a) (v == w) _ (world.worker w) (own v w own_step)
    (told-goes_on s (seeking version node) a e)
told-step s world version (Look v word) w a sound own_step e =
    let frame_search = told-frame_search s (frame_search_of world v)
    (frame_search_after_look s world word) a e in
    by_true (λ worker. worker.last ≡ a) (v == w) _ (world.worker w) (own v w own_step)
    (sym (sound.frame_searches v frame_search.0 frame_search.1) ∙ frame_search.2)
told-step s world version (Try v frame) w a sound own_step e = go (owner_of world frame) refl e
  where
    go : (owner : Option ℕ) → owner_of world frame ≡ owner
        → version_told
        (Ok (if is_some owner then option_map_or
        (λ frame_search. goes_on s (frame_search_past frame frame_search)) (frame_search_of world v)
        Still else option_map_or (λ frame_search. won_by s frame_search frame)
        (frame_search_of world v) Still)) ≡ Some a
        → last_of (effect_of s world version (Try v frame)) w ≡ a
    go (Some u) is e = let frame_search = told-frame_search s (frame_search_of world v)
        (frame_search_past frame) a e in
        rw is (by_true (λ worker. worker.last ≡ a) (v == w) _ (world.worker w) (own v w own_step)
        (sym (sound.frame_searches v frame_search.0 frame_search.1) ∙ frame_search.2))
    go None is e = let frame_search = told-won s (frame_search_of world v) frame a e in
        rw is (by_true (λ worker. worker.last ≡ a) (v == w) _ (world.worker w) (own v w own_step)
        (sym (sound.frame_searches v frame_search.0 frame_search.1) ∙ frame_search.2))
told-step s world version (Give v frame) w a sound own_step e = absurd (cc)

-- the version that a reply tells the worker is its last one then
pub told_is_last : (s : Setup) (past : List CoreStep) (m : CoreStep) (w a : ℕ)
    → IsExecution s (m ∷ past) → worker_of m.event ≡ Some w → version_told m.answer ≡ Some a
    → last_of (world_of s (m ∷ past)) w ≡ a
told_is_last s past m w a legal own_step e = go m.answer legal.2 e
  where
    go : (answer : Result CoreReply CoreRefusal) → IsAnswer s (world_of s past) m.version m.event
        answer → version_told answer ≡ Some a
        → last_of (if is_ok answer then effect_of s (world_of s past) m.version m.event
        else world_of s past) w ≡ a
    go (Ok reply) answer e =
        let same = (replied s (world_of s past) m.version m.event reply answer).1 in
        told-step s (world_of s past) m.version m.event w a (sound s past legal.0) own_step
        (sym (ap (λ r. version_told (Ok r)) same) ∙ e)
    go (Err refusal) answer e = absurd (none e)
      where
        none : ◌≡◌ {A = Option ℕ} None (Some a) → ⊥
        none e = cc

pub never_falls : (s : Setup) (between earlier : List CoreStep) (old new : CoreStep) (w a b : ℕ)
    → IsExecution s (new ∷ (between ++ old ∷ earlier)) → worker_of old.event ≡ Some w
    → worker_of new.event ≡ Some w → version_told old.answer ≡ Some a
    → version_told new.answer ≡ Some b → a ≤ b
never_falls s between earlier old new w a b legal old_step new_step first second =
    let one : last_of (world_of s (old ∷ earlier)) w ≡ a =
    told_is_last s earlier old w a (legal_before s between (old ∷ earlier) legal.0) old_step
    first in
    let two : last_of (world_of s (new ∷ (between ++ old ∷ earlier))) w ≡ b =
    told_is_last s (between ++ old ∷ earlier) new w b legal new_step second in
    let up : last_of (world_of s (old ∷ earlier)) w
    ≤ last_of (world_of s (new ∷ (between ++ old ∷ earlier))) w =
    rises s (new ∷ between) (old ∷ earlier) w legal in
    subst (λ n. n ≤ b) one (subst (λ n. last_of (world_of s (old ∷ earlier)) w ≤ n) two up)
