-- A frame search is that of the worker's last Begin or Seek, and what it met was found owned since.
use Rattle.std.proofs.Common.{suc, ◌≡◌, ℕ, ◌-◌, ◌/◌, ◌≤◌, ◌==◌, ◌&&◌, ◌||◌, Bool, true, false}
use Rattle.std.proofs.Common.{Option, Some, None, Result, Ok, Err, is_some, is_ok, List, [], ◌∷◌}
use Rattle.std.proofs.Common.{length, refl, sym, ap, subst, ◌∙◌, arith, if◌then◌else◌}
use Rattle.std.specs.Option.{option_map_or, option_or}
use Rattle.std.proofs.lemmas.Bool.{eqb-true}
use Rattle.numa_requests.specs.declared.request.Request.{Request}
use Rattle.numa_machine.specs.declared.frame.Frame.{Frame}
use Rattle.numa_requests.specs.declared.event.Event.{Event}
use Rattle.numa_requests.specs.declared.event.Event.TheVariants.{Accept, Publish, Begin, Seek, Look}
use Rattle.numa_requests.specs.declared.event.Event.TheVariants.{Try, Give}
use Rattle.numa_requests.specs.declared.event.CoreReply.{CoreReply}
use Rattle.numa_requests.specs.declared.event.CoreRefusal.{CoreRefusal}
use Rattle.numa_core.specs.World.{Setup, FrameSearch, Worker, World, is_frame, is_published}
use Rattle.numa_core.specs.World.{frame_search_of, owner_of, first_commands, list_at, at_current}
use Rattle.numa_core.specs.World.{new_frame_search, frame_search_after_look, frame_search_past}
use Rattle.numa_core.specs.World.{seeking}
use Rattle.numa_core.specs.Steps.{refusal_of, effect_of, going_on, IsAnswer, MayTake}
use Rattle.numa_core.specs.Executions.{CoreStep, Begun, world_of, IsExecution, begun_at, last_begin}
use Rattle.numa_core.specs.Executions.{or_else, sought_at, last_seek, finds, found_owned}
use Rattle.numa_core.proofs.Answered.{replied, one_frame}
use Rattle.numa_requests.specs.declared.command.Command.{Command}
use Rattle.numa_machine.specs.Machine.{Hardware}
use Rattle.numa_space.specs.Lists.{node_list}
use Rattle.numa_space.specs.Pages.{is_mapped}
use Rattle.numa_core.proofs.Answered.{begin_means}
use Rattle.numa_core.proofs.Versions.{IsSound, sound, went_on, going_on-is}

-- further commands don't change what the first ones are
pub first_commands-more : (version : ℕ) (command : Command) (history : List Command)
    → version ≤ length history → first_commands version (command ∷ history) ≡ first_commands version
    history
first_commands-more version command history low =
    let e : length (command ∷ history) - version ≡ suc (length history - version) = omega arith in
    rw e refl

list_at-more : (machine : Hardware) (version : ℕ) (command : Command) (history : List Command)
    (request : Request) → version ≤ length history → list_at machine (command ∷ history) version
    request ≡ list_at machine history version request
unfolding list_at
list_at-more machine version command history request low =
    ap (λ h. if is_mapped h request.page then Some
    (node_list machine h request.task request.page request.cpu) else None)
    (first_commands-more version command history low)

-- a search with this request, version and list is that of the worker's last Begin
pub record IsBegun (s : Setup) (past : List CoreStep) (w : ℕ) (asked : Request) (taken : ℕ)
    (nodes : List ℕ) : Type 0 where
  pub begun : Begun
  pub is_last : last_begin w past ≡ Some begun
  pub request : asked ≡ begun.request
  pub version : taken ≡ begun.version
  pub published : is_published (world_of s begun.before) begun.version ≡ true
  pub listed : list_at s.machine (world_of s past).history begun.version begun.request ≡ Some nodes

-- one that looks in these nodes is that of the worker's last Seek
pub record IsSought (past : List CoreStep) (w : ℕ) (nodes : List ℕ) : Type 0 where
  pub node : ℕ
  pub is_last : last_seek w past ≡ Some node
  pub alone : nodes ≡ node ∷ []

-- whichever it is
abbrev pub IsLast : Setup → List CoreStep → ℕ → Option Request → ℕ → List ℕ → Type 0
IsLast s past w (Some request) version nodes = IsBegun s past w request version nodes
IsLast s past w None version nodes = IsSought past w nodes

-- the frame search is that of the worker's last Begin or Seek
pub record Tracked (s : Setup) (past : List CoreStep) (w : ℕ) (frame_search : FrameSearch) :
    Type 0 where
  pub last : IsLast s past w frame_search.request frame_search.version frame_search.nodes
  pub met : (n k : ℕ) → frame_search.met n k ≡ found_owned s w past n k
  pub fits : frame_search.version ≤ length (world_of s past).history

regrouped : (a b c : Bool) → (a && (b && c)) ≡ ((a && b) && c)
regrouped true b c = refl
regrouped false b c = refl

-- an owned frame is found with an owner where it is tried
found-tried : (world : World) (frame : Frame) (u n k : ℕ) → owner_of world frame ≡ Some u
    → is_frame frame n k ≡ (is_frame frame n k && is_some (world.owner n k))
found-tried world frame u n k is = go (is_frame frame n k) refl
  where
    go : (b : Bool) → is_frame frame n k ≡ b → b ≡ (b && is_some (world.owner n k))
    go false other = refl
    go true same =
        let at = one_frame frame n k same in
        let here : world.owner n k ≡ Some u = ap (λ n. world.owner n k) at.0
        ∙ ap (λ k. world.owner frame.node k) at.1 ∙ is in
        sym (ap is_some here)

-- a step that is no Begin and no Seek of the worker, and keeps what lists mean
module _ (s : Setup) (m : CoreStep) (past : List CoreStep) (w version : ℕ)
    (none : begun_at w m past ≡ None) (no_seek : sought_at w m ≡ None)
    (listed : (request : Request) → list_at s.machine (world_of s (m ∷ past)).history version
    request ≡ list_at s.machine (world_of s past).history version request) where
  still-last : (o : Option Request) (nodes : List ℕ) → IsLast s past w o version nodes
      → IsLast s (m ∷ past) w o version nodes
  still-last (Some request) nodes t = record {
    begun = t.begun;
    is_last = ap (λ o. or_else o (last_begin w past)) none ∙ t.is_last;
    request = t.request;
    version = t.version;
    published = t.published;
    listed = ap (λ v. list_at s.machine (world_of s (m ∷ past)).history v t.begun.request)
        (sym t.version) ∙ listed t.begun.request
        ∙ ap (λ v. list_at s.machine (world_of s past).history v t.begun.request) t.version
        ∙ t.listed;
  }
  still-last None nodes t = record {
    node = t.node;
    is_last = ap (λ o. option_or o (last_seek w past)) no_seek ∙ t.is_last;
    alone = t.alone;
  }

tracked_on : (s : Setup) (m : CoreStep) (past : List CoreStep) (w : ℕ) (old new : FrameSearch)
    → begun_at w m past ≡ None → sought_at w m ≡ None → new.request ≡ old.request
    → new.version ≡ old.version → new.nodes ≡ old.nodes
    → ((request : Request) → list_at s.machine (world_of s (m ∷ past)).history old.version request
    ≡ list_at s.machine (world_of s past).history old.version request)
    → length (world_of s past).history ≤ length (world_of s (m ∷ past)).history
    → ((n k : ℕ) → new.met n k ≡ ((is_ok m.answer && finds s (world_of s past) w m.event n k)
    || old.met n k)) → Tracked s past w old → Tracked s (m ∷ past) w new
tracked_on s m past w old new none no_seek request version nodes listed longer met t = record {
  last = subst (λ (q : Option Request × ℕ × List ℕ). IsLast s (m ∷ past) w q.0 q.1 q.2)
      (λ c. (sym request c, sym version c, sym nodes c))
      (still-last s m past w old.version none no_seek listed old.request old.nodes t.last);
  met = λ n k. met n k ∙ ap (λ b. (is_ok m.answer && finds s (world_of s past) w m.event n k) || b)
      (t.met n k)
      ∙ sym
      (ap (λ (q : Option Begun × Option ℕ).
      if is_some q.0 || is_some q.1 then false
      else ((is_ok m.answer && finds s (world_of s past) w m.event n k)
      || found_owned s w past n k)) (λ c. (none c, no_seek c)));
  fits = subst (λ v. v ≤ length (world_of s (m ∷ past)).history) (sym version)
      (let low : old.version ≤ length (world_of s past).history = t.fits in omega arith);
}

-- a search for a page is that of the worker's last Begin
pub page-begun : (s : Setup) (past : List CoreStep) (w : ℕ) (frame_search : FrameSearch)
    (request : Request) → frame_search.request ≡ Some request → Tracked s past w frame_search
    → IsBegun s past w request frame_search.version frame_search.nodes
page-begun s past w frame_search request is t =
    subst (λ o. IsLast s past w o frame_search.version frame_search.nodes) is t.last

-- and one that seeks a node is that of its last Seek
pub node-sought : (s : Setup) (past : List CoreStep) (w : ℕ) (frame_search : FrameSearch)
    → frame_search.request ≡ None → Tracked s past w frame_search
    → IsSought past w frame_search.nodes
node-sought s past w frame_search is t =
    subst (λ o. IsLast s past w o frame_search.version frame_search.nodes) is t.last

abbrev pub world_kept : Setup → List CoreStep → Event → ℕ → Type 0
world_kept s past event version = (effect_of s (world_of s past) version event).history
    ≡ (world_of s past).history

asked_kept : (s : Setup) (past : List CoreStep) (event : Event) (version : ℕ)
    (frame_search : FrameSearch) → world_kept s past event version → (request : Request)
    → list_at s.machine (effect_of s (world_of s past) version event).history frame_search.version
    request ≡ list_at s.machine (world_of s past).history frame_search.version request
asked_kept s past event version frame_search kept request =
    ap (λ h. list_at s.machine h frame_search.version request) kept

abbrev pub core_step : Event → ℕ → Result CoreReply CoreRefusal → CoreStep
core_step event version answer = record { event = event; version = version; answer = answer }

-- the frame search of a worker that begins, whether it goes on or is over at once
pub tracked-begun : (s : Setup) (past : List CoreStep) (version v w : ℕ) (request : Request)
    (reply : CoreReply) → IsSound (world_of s past)
    → MayTake (world_of s past) version (Begin v request)
    → refusal_of s (world_of s past) version (Begin v request) ≡ None → (v == w) ≡ true
    → Tracked s (core_step (Begin v request) version (Ok reply) ∷ past) w
    (new_frame_search s (world_of s past) version request)
tracked-begun s past version v w request reply sound may ok same = record {
  last = record {
    begun = record { request = request; version = version; before = past };
    is_last = rw same refl;
    request = refl;
    version = refl;
    published = may.0;
    listed = begin_means s (world_of s past) version v request ok;
  };
  met = λ n k. rw same refl;
  fits = sound.published version may.0;
}

-- the same of a worker that seeks a node
pub tracked-sought : (s : Setup) (past : List CoreStep) (version v w node : ℕ) (reply : CoreReply)
    → IsSound (world_of s past) → MayTake (world_of s past) version (Seek v node)
    → (v == w) ≡ true
    → Tracked s (core_step (Seek v node) version (Ok reply) ∷ past) w (seeking version node)
tracked-sought s past version v w node reply sound may same = record {
  last = record { node = node; is_last = rw same refl; alone = refl };
  met = λ n k. rw same refl;
  fits = sound.published version may.0;
}

-- the same of a worker that looks
pub tracked-looked : (s : Setup) (past : List CoreStep) (version v w word : ℕ) (reply : CoreReply)
    (old : FrameSearch) → (v == w) ≡ true → frame_search_of (world_of s past) w ≡ Some old
    → Tracked s past w old → Tracked s (core_step (Look v word) version (Ok reply) ∷ past) w
    (frame_search_after_look s (world_of s past) word old)
tracked-looked s past version v w word reply old same here t =
    tracked_on s (core_step (Look v word) version (Ok reply)) past w old
    (frame_search_after_look s (world_of s past) word old) refl refl refl refl refl (λ r. refl)
    (omega arith)
    (λ n k.
    rw (same, here)
    (ap (λ b. b || old.met n k)
    (regrouped (at_current s old (λ m. n == m)) (k / 64 == word)
    (is_some ((world_of s past).owner n k))))) t

-- the same of a worker that tries a frame and misses it
pub tracked-missed : (s : Setup) (past : List CoreStep) (version v w u : ℕ) (frame : Frame)
    (reply : CoreReply) (old : FrameSearch) → owner_of (world_of s past) frame ≡ Some u
    → (v == w) ≡ true → Tracked s past w old
    → Tracked s (core_step (Try v frame) version (Ok reply) ∷ past) w (frame_search_past frame old)
tracked-missed s past version v w u frame reply old is same t =
    let kept : world_kept s past (Try v frame) version = rw is refl in
    tracked_on s (core_step (Try v frame) version (Ok reply)) past w old
    (frame_search_past frame old) refl refl refl refl refl
    (asked_kept s past (Try v frame) version old kept)
    (subst (λ h. length (world_of s past).history ≤ length h) (sym kept) (omega arith))
    (λ n k. rw same (ap (λ b. b || old.met n k) (found-tried (world_of s past) frame u n k is))) t

tracked-step : (s : Setup) (past : List CoreStep) (version : ℕ) (event : Event) (reply : CoreReply)
    → IsSound (world_of s past) → MayTake (world_of s past) version event
    → refusal_of s (world_of s past) version event ≡ None
    → ((w : ℕ) (frame_search : FrameSearch) → frame_search_of (world_of s past) w
    ≡ Some frame_search → Tracked s past w frame_search)
    → (w : ℕ) (frame_search : FrameSearch)
    → frame_search_of (effect_of s (world_of s past) version event) w ≡ Some frame_search
    → Tracked s (core_step event version (Ok reply) ∷ past) w frame_search
tracked-step s past version (Accept command) reply sound may ok ih w frame_search e =
    let t = ih w frame_search e in
    tracked_on s (core_step (Accept command) version (Ok reply)) past w frame_search frame_search
    refl refl refl refl refl
    (λ r. list_at-more s.machine frame_search.version command (world_of s past).history r t.fits)
    (omega arith) (λ n k. refl) t
tracked-step s past version Publish reply sound may ok ih w frame_search e =
    tracked_on s (core_step Publish version (Ok reply)) past w frame_search frame_search refl refl
    refl refl refl (λ r. refl) (omega arith) (λ n k. refl) (ih w frame_search e)
tracked-step s past version (Give v frame) reply sound may ok ih w frame_search e =
    tracked_on s (core_step (Give v frame) version (Ok reply)) past w frame_search frame_search refl
    refl refl refl refl (λ r. refl) (omega arith) (λ n k. refl) (ih w frame_search e)
tracked-step s past version (Begin v request) reply sound may ok ih w frame_search e =
    go (v == w) refl e
  where
    go : (b : Bool) → (v == w) ≡ b
        → (if b
        then (let x : Worker =
        record {
          last = version;
          frame_search =
              going_on s (new_frame_search s (world_of s past) version request);
        } in x)
        else (world_of s past).worker w).frame_search ≡ Some frame_search
        → Tracked s (core_step (Begin v request) version (Ok reply) ∷ past) w frame_search
    go true same e =
        subst (λ h. Tracked s (core_step (Begin v request) version (Ok reply) ∷ past) w h)
        (sym (going_on-is s (new_frame_search s (world_of s past) version request) frame_search e))
        (tracked-begun s past version v w request reply sound may ok same)
    go false different e = tracked_on s (core_step (Begin v request) version (Ok reply)) past w
        frame_search frame_search (rw different refl) refl refl refl refl (λ r. refl) (omega arith)
        (λ n k. refl) (ih w frame_search e)
tracked-step s past version (Seek v node) reply sound may ok ih w frame_search e =
    go (v == w) refl e
  where
    go : (b : Bool) → (v == w) ≡ b
        → (if b
        then (let x : Worker =
        record {
          last = version;
          frame_search =
              going_on s (seeking version node);
        } in x)
        else (world_of s past).worker w).frame_search ≡ Some frame_search
        → Tracked s (core_step (Seek v node) version (Ok reply) ∷ past) w frame_search
    go true same e =
        subst (λ h. Tracked s (core_step (Seek v node) version (Ok reply) ∷ past) w h)
        (sym (going_on-is s (seeking version node) frame_search e))
        (tracked-sought s past version v w node reply sound may same)
    go false different e = tracked_on s (core_step (Seek v node) version (Ok reply)) past w
        frame_search frame_search refl (rw different refl) refl refl refl (λ r. refl) (omega arith)
        (λ n k. refl) (ih w frame_search e)
tracked-step s past version (Look v word) reply sound may ok ih w frame_search e =
    go (v == w) refl e
  where
    go : (b : Bool) → (v == w) ≡ b
        → (if b
        then (let x : Worker = record {
          last = ((world_of s past).worker v).last;
          frame_search =
              option_map_or (λ frame_search.
              going_on s (frame_search_after_look s (world_of s past) word frame_search))
              (frame_search_of (world_of s past) v) None;
        } in x) else (world_of s past).worker
        w).frame_search ≡ Some frame_search
        → Tracked s (core_step (Look v word) version (Ok reply) ∷ past) w frame_search
    go true same e =
        let old = went_on s (frame_search_of (world_of s past) v)
        (frame_search_after_look s (world_of s past) word) frame_search e in
        let here : frame_search_of (world_of s past) w ≡ Some old.0 =
        subst (λ u. frame_search_of (world_of s past) u ≡ Some old.0) (eqb-true v w same)
        old.1 in
        subst (λ h. Tracked s (core_step (Look v word) version (Ok reply) ∷ past) w h) (sym old.2)
        (tracked-looked s past version v w word reply old.0 same here (ih w old.0 here))
    go false different e = tracked_on s (core_step (Look v word) version (Ok reply)) past w
        frame_search frame_search refl refl refl refl refl (λ r. refl) (omega arith)
        (λ n k. rw different refl) (ih w frame_search e)
tracked-step s past version (Try v frame) reply sound may ok ih w frame_search e =
    pick (owner_of (world_of s past) frame) refl
  where
    lost : (u : ℕ) → owner_of (world_of s past) frame ≡ Some u → (b : Bool) → (v == w) ≡ b
        → (if b
        then (let x : Worker = record {
          last = ((world_of s past).worker v).last;
          frame_search =
              option_map_or (λ frame_search. going_on s (frame_search_past frame frame_search))
              (frame_search_of (world_of s past) v) None;
        } in x) else (world_of s past).worker
        w).frame_search ≡ Some frame_search → world_kept s past (Try v frame) version
        → Tracked s (core_step (Try v frame) version (Ok reply) ∷ past) w frame_search
    lost u is true same e kept =
        let old = went_on s (frame_search_of (world_of s past) v) (frame_search_past frame)
        frame_search e in
        let here : frame_search_of (world_of s past) w ≡ Some old.0 =
        subst (λ u. frame_search_of (world_of s past) u ≡ Some old.0) (eqb-true v w same)
        old.1 in
        subst (λ h. Tracked s (core_step (Try v frame) version (Ok reply) ∷ past) w h) (sym old.2)
        (tracked-missed s past version v w u frame reply old.0 is same (ih w old.0 here))
    lost u is false different e kept = tracked_on s (core_step (Try v frame) version (Ok reply))
        past w frame_search frame_search refl refl refl refl refl
        (asked_kept s past (Try v frame) version frame_search kept)
        (subst (λ h. length (world_of s past).history ≤ length h) (sym kept) (omega arith))
        (λ n k. rw different refl) (ih w frame_search e)

    free : owner_of (world_of s past) frame ≡ None → (b : Bool) → (v == w) ≡ b
        → (if b
        then (let x : Worker = record {
          last = ((world_of s past).worker v).last;
          frame_search =
              None;
        } in x) else (world_of s past).worker w).frame_search ≡ Some frame_search
        → world_kept s past (Try v frame) version
        → Tracked s (core_step (Try v frame) version (Ok reply) ∷ past) w frame_search
    free is true same e kept = absurd (cc)
    free is false different e kept = tracked_on s (core_step (Try v frame) version (Ok reply)) past
        w frame_search frame_search refl refl refl refl refl
        (asked_kept s past (Try v frame) version frame_search kept)
        (subst (λ h. length (world_of s past).history ≤ length h) (sym kept) (omega arith))
        (λ n k. rw different refl) (ih w frame_search e)

    pick : (owner : Option ℕ) → owner_of (world_of s past) frame ≡ owner
        → Tracked s (core_step (Try v frame) version (Ok reply) ∷ past) w frame_search
    pick (Some u) is = lost u is (v == w) refl (rw is at e) (rw is refl)
    pick None is = free is (v == w) refl (rw is at e) (rw is refl)

-- each frame search of an execution is tracked
pub tracked : (s : Setup) (past : List CoreStep) → IsExecution s past
    → (w : ℕ) (frame_search : FrameSearch) → frame_search_of (world_of s past) w ≡ Some frame_search
    → Tracked s past w frame_search
tracked s [] legal w frame_search e = absurd (cc)
tracked s (m ∷ past) legal w frame_search e = go m.answer legal.2 (tracked s past legal.0) e
  where
    go : (answer : Result CoreReply CoreRefusal) → IsAnswer s (world_of s past) m.version m.event
        answer → ((w : ℕ) (frame_search : FrameSearch) → frame_search_of (world_of s past) w
        ≡ Some frame_search → Tracked s past w frame_search)
        → frame_search_of (if is_ok answer then effect_of s (world_of s past) m.version m.event
        else world_of s past) w ≡ Some frame_search
        → Tracked s (core_step m.event m.version answer ∷ past) w frame_search
    go (Ok reply) answer ih e = tracked-step s past m.version m.event reply (sound s past legal.0)
        legal.1 (replied s (world_of s past) m.version m.event reply answer).0 ih w frame_search e
    go (Err refusal) answer ih e = tracked_on s (core_step m.event m.version (Err refusal)) past w
        frame_search frame_search refl refl refl refl refl (λ r. refl) (omega arith) (λ n k. refl)
        (ih w frame_search e)
