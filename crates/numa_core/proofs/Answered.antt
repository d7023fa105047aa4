-- What an answer says of its step.
use Rattle.std.proofs.Common.{◌≡◌, ℕ, ◌==◌, ◌⊎◌, inl, inr, Bool, true, false, Option, Some, None}
use Rattle.std.proofs.Common.{Result, Ok, Err, is_some, List, [], ◌∷◌, ◌++◌, refl, sym, ap, ◌∙◌}
use Rattle.std.proofs.Common.{arith, subst, nat_le, not, is_none, unwrap_or, if◌then◌else◌}
use Rattle.std.specs.Option.{option_map_or}
use Rattle.std.proofs.lemmas.Bool.Decides.{nat_tests}
use Rattle.numa_requests.specs.declared.request.Request.{Request}
use Rattle.numa_machine.specs.declared.frame.Frame.{Frame}
use Rattle.numa_requests.specs.declared.placement.Placement.{Placement}
use Rattle.numa_requests.specs.declared.event.Event.{Event}
use Rattle.numa_requests.specs.declared.event.Event.TheVariants.{Accept, Publish, Begin, Seek, Look}
use Rattle.numa_requests.specs.declared.event.Event.TheVariants.{Try, Give}
use Rattle.numa_requests.specs.declared.event.CoreReply.{CoreReply}
use Rattle.numa_requests.specs.declared.event.CoreReply.TheVariants.{Still, Exhausted, Won}
use Rattle.numa_requests.specs.declared.event.CoreReply.TheVariants.{Found, Full}
use Rattle.numa_requests.specs.declared.event.CoreRefusal.{CoreRefusal}
use Rattle.numa_requests.specs.declared.event.CoreRefusal.TheVariants.{Command as Because}
use Rattle.numa_requests.specs.declared.event.CoreRefusal.TheVariants.{NoSuchWorker, Busy, Idle}
use Rattle.numa_requests.specs.declared.event.CoreRefusal.TheVariants.{BadTry, NotOwned, BadCpu}
use Rattle.numa_requests.specs.declared.event.CoreRefusal.TheVariants.{Unmapped}
use Rattle.numa_requests.specs.declared.refusal.Refusal.TheVariants.{NoMemory as NoRoom}
use Rattle.numa_core.specs.World.{Setup, FrameSearch, World, frame_search_of, owner_of, is_frame}
use Rattle.numa_core.specs.World.{list_at, current_rank, frame_search_after_look, frame_search_past}
use Rattle.numa_core.specs.World.{may_try, new_frame_search, seeking}
use Rattle.numa_core.specs.Steps.{first_refusal, refusal_of, reply_of, refused_or, goes_on}
use Rattle.numa_core.specs.Steps.{placement_of, won_by, owns, IsAnswer, IsOutOfMemory}
use Rattle.numa_core.specs.Executions.{CoreStep, IsExecution}

-- what came earlier is an execution
pub legal_before : (s : Setup) (later rest : List CoreStep) → IsExecution s (later ++ rest)
    → IsExecution s rest
legal_before s [] rest legal = legal
legal_before s (m ∷ later) rest legal = legal_before s later rest legal.0

not_ok : (event : Event) (reply : CoreReply) → IsOutOfMemory event (Ok reply) → ⊥
not_ok (Accept command) reply h = let odd : ◌≡◌ {A = Result CoreReply CoreRefusal} (Ok reply)
    (Err (Because NoRoom)) = h.0 in cc
not_ok Publish reply h = cc
not_ok (Begin w request) reply h = h
not_ok (Seek w node) reply h = h
not_ok (Look w word) reply h = h
not_ok (Try w frame) reply h = h
not_ok (Give w frame) reply h = h

same_reply : (a b : CoreReply) → ◌≡◌ {A = Result CoreReply CoreRefusal} (Ok a) (Ok b) → a ≡ b
same_reply a b e = cc

no_refusal : (a : CoreReply) (b : CoreRefusal) → ◌≡◌ {A = Result CoreReply CoreRefusal} (Ok a)
    (Err b) → ⊥
no_refusal a b e = cc

-- a reply says that nothing refused the event, and is the one that the world gives
pub replied : (s : Setup) (world : World) (version : ℕ) (event : Event) (reply : CoreReply)
    → IsAnswer s world version event (Ok reply) → (refusal_of s world version event ≡ None)
    × (reply ≡ reply_of s world version event)
replied s world version event reply answer = go (refusal_of s world version event) answer
  where
    go : (o : Option CoreRefusal)
        → (◌≡◌ {A = Result CoreReply CoreRefusal} (Ok reply)
        (refused_or o (reply_of s world version event)))
        ⊎ ((o ≡ None) × IsOutOfMemory event (Ok reply)) → (o ≡ None)
        × (reply ≡ reply_of s world version event)
    go None (inl e) = (refl, same_reply reply (reply_of s world version event) e)
    go (Some refusal) (inl e) = absurd (no_refusal reply refusal e)
    go o (inr h) = absurd (not_ok event reply h.1)

not_false : (b : Bool) → not b ≡ false → b ≡ true
not_false true e = refl
not_false false e = absurd (cc)

-- where four conditions refuse nothing, none of them holds
pub four_rows : (a b c d : Bool) (x y z t : CoreRefusal)
    → first_refusal ((a, x) ∷ (b, y) ∷ (c, z) ∷ (d, t) ∷ []) ≡ None → (a ≡ false) × (b ≡ false)
    × (c ≡ false) × (d ≡ false)
four_rows true b c d x y z t h = absurd (cc)
four_rows false true c d x y z t h = absurd (cc)
four_rows false false true d x y z t h = absurd (cc)
four_rows false false false true x y z t h = absurd (cc)
four_rows false false false false x y z t h = (refl, refl, refl, refl)

-- where three conditions refuse nothing, none of them holds
pub three_rows : (a b c : Bool) (x y z : CoreRefusal)
    → first_refusal ((a, x) ∷ (b, y) ∷ (c, z) ∷ []) ≡ None → (a ≡ false) × (b ≡ false) × (c ≡ false)
three_rows true b c x y z h = absurd (cc)
three_rows false true c x y z h = absurd (cc)
three_rows false false true x y z h = absurd (cc)
three_rows false false false x y z h = (refl, refl, refl)

-- a Begin that isn't refused has a list
pub begin_means : (s : Setup) (world : World) (version w : ℕ) (request : Request)
    → refusal_of s world version (Begin w request) ≡ None
    → list_at s.machine world.history version request
    ≡ Some (new_frame_search s world version request).nodes
begin_means s world version w request h = go (list_at s.machine world.history version request)
    (four_rows (nat_le s.workers w) (is_some (frame_search_of world w))
    (nat_le s.machine.nodes request.cpu) (is_none (list_at s.machine world.history version request))
    NoSuchWorker Busy BadCpu (Unmapped version) h).3
  where
    go : (o : Option (List ℕ)) → is_none o ≡ false → o ≡ Some (unwrap_or o [])
    go None e = absurd (cc)
    go (Some nodes) e = refl

-- a Give that isn't refused is by the owner
pub give_means : (s : Setup) (world : World) (version w : ℕ) (frame : Frame)
    → refusal_of s world version (Give w frame) ≡ None → owner_of world frame ≡ Some w
give_means s world version w frame h =
    go (owner_of world frame) (three_rows (nat_le s.workers w) (is_some (frame_search_of world w))
    (not (owns world w frame)) NoSuchWorker Busy NotOwned h).2
  where
    go : (o : Option ℕ) → not (option_map_or (λ v. v == w) o false) ≡ false → o ≡ Some w
    go None e = absurd (cc)
    go (Some v) e = ap Some (same v w e)
      where
        same : (v w : ℕ) → not (v == w) ≡ false → v ≡ w
        same v w e = grind (arith, nat_tests)

-- a Try that isn't refused is of an unmet frame of the current node
pub try_means : (s : Setup) (world : World) (version w : ℕ) (frame : Frame)
    (frame_search : FrameSearch) → refusal_of s world version (Try w frame) ≡ None
    → frame_search_of world w ≡ Some frame_search → may_try s frame_search frame ≡ true
try_means s world version w frame frame_search h is =
    not_false _
    (sym (ap (λ o. not (option_map_or (λ frame_search. may_try s frame_search frame) o false)) is)
    ∙ (three_rows (nat_le s.workers w) (is_none (frame_search_of world w))
    (not (option_map_or (λ frame_search. may_try s frame_search frame) (frame_search_of world w)
    false)) NoSuchWorker Idle BadTry h).2)

-- two frames are one where the test says so
pub one_frame : (frame : Frame) (n k : ℕ) → is_frame frame n k ≡ true → (n ≡ frame.node)
    × (k ≡ frame.number)
one_frame frame n k h = grind (arith, nat_tests)

-- a frame search that goes on, or is over, has won nothing
abbrev pub IsNoWin : CoreReply → Type 0
IsNoWin reply = (((placement : Placement) → Won placement ≡ reply → ⊥)
    × ((frame : Frame) → Found frame ≡ reply → ⊥))

goes_on-no_win : (s : Setup) (frame_search : FrameSearch) → IsNoWin (goes_on s frame_search)
goes_on-no_win s frame_search = go (current_rank s frame_search) frame_search.request
  where
    go : (o : Option ℕ) (request : Option Request) → IsNoWin (if is_some o then Still
        else option_map_or (λ r. Exhausted frame_search.version) request Full)
    go None None = (λ placement e. cc, λ frame e. cc)
    go None (Some r) = (λ placement e. cc, λ frame e. cc)
    go (Some rank) request = (λ placement e. cc, λ frame e. cc)

looked-no_win : (s : Setup) (o : Option FrameSearch) (f : FrameSearch → FrameSearch)
    → IsNoWin (option_map_or (λ frame_search. goes_on s (f frame_search)) o Still)
looked-no_win s None f = (λ placement e. cc, λ frame e. cc)
looked-no_win s (Some frame_search) f = goes_on-no_win s (f frame_search)

-- a reply to a Try that won: what the frame search is answered that won
pub won_means : (s : Setup) (world : World) (w version : ℕ) (frame : Frame) (reply : CoreReply)
    → (IsNoWin reply → ⊥) → reply ≡ reply_of s world version (Try w frame)
    → (frame_search : FrameSearch)
    × (frame_search_of world w ≡ Some frame_search) × (owner_of world frame ≡ None)
    × (reply ≡ won_by s frame_search frame)
won_means s world w version frame reply wins = go (owner_of world frame) (frame_search_of world w)
  where
    go : (owner : Option ℕ) (o : Option FrameSearch)
        → reply
        ≡ (if is_some owner then option_map_or
        (λ frame_search. goes_on s (frame_search_past frame frame_search)) o Still
        else option_map_or (λ frame_search. won_by s frame_search frame) o Still)
        → (frame_search : FrameSearch) × (o ≡ Some frame_search) × (owner ≡ None)
        × (reply ≡ won_by s frame_search frame)
    go (Some v) o e = absurd (wins (subst IsNoWin (sym e)
        (looked-no_win s o (frame_search_past frame))))
    go None None e = absurd (wins (subst IsNoWin (sym e) (λ placement e. cc, λ frame e. cc)))
    go None (Some frame_search) e = (frame_search, refl, refl, e)

-- a Won is of a frame search for a page
pub page_won : (s : Setup) (frame_search : FrameSearch) (frame : Frame) (placement : Placement)
    → Won placement ≡ won_by s frame_search frame → (request : Request)
    × (frame_search.request ≡ Some request)
    × (placement ≡ placement_of s frame_search frame request)
page_won s frame_search frame placement = go frame_search.request
  where
    go : (o : Option Request)
        → Won placement
        ≡ option_map_or (λ r. Won (placement_of s frame_search frame r)) o (Found frame)
        → (request : Request) × (o ≡ Some request)
        × (placement ≡ placement_of s frame_search frame request)
    go None e = absurd (cc)
    go (Some request) e = (request, refl, cc)

-- a Found is of a frame search for a node, and tells its frame
pub node_won : (s : Setup) (frame_search : FrameSearch) (frame found : Frame)
    → Found found ≡ won_by s frame_search frame
    → (frame_search.request ≡ None) × (found ≡ frame)
node_won s frame_search frame found = go frame_search.request
  where
    go : (o : Option Request)
        → Found found
        ≡ option_map_or (λ r. Won (placement_of s frame_search frame r)) o (Found frame)
        → (o ≡ None) × (found ≡ frame)
    go None e = (refl, cc)
    go (Some request) e = absurd (cc)

-- only a Try wins
won_by_some_try : (s : Setup) (world : World) (version : ℕ) (event : Event) (reply : CoreReply)
    → (IsNoWin reply → ⊥) → reply ≡ reply_of s world version event
    → (w : ℕ) × (frame : Frame) × (event ≡ Try w frame)
won_by_some_try s world version (Accept command) reply wins e =
    absurd (wins (subst IsNoWin (sym e) (λ placement e. cc, λ frame e. cc)))
won_by_some_try s world version Publish reply wins e =
    absurd (wins (subst IsNoWin (sym e) (λ placement e. cc, λ frame e. cc)))
won_by_some_try s world version (Begin w request) reply wins e =
    absurd (wins (subst IsNoWin (sym e)
    (goes_on-no_win s (new_frame_search s world version request))))
won_by_some_try s world version (Seek w node) reply wins e =
    absurd (wins (subst IsNoWin (sym e) (goes_on-no_win s (seeking version node))))
won_by_some_try s world version (Look w word) reply wins e =
    absurd (wins (subst IsNoWin (sym e) (looked-no_win s (frame_search_of world w)
    (frame_search_after_look s world word))))
won_by_some_try s world version (Try w frame) reply wins e = (w, frame, refl)
won_by_some_try s world version (Give w frame) reply wins e =
    absurd (wins (subst IsNoWin (sym e) (λ placement e. cc, λ frame e. cc)))

pub is_won : (placement : Placement) → IsNoWin (Won placement) → ⊥
is_won placement none = none.0 placement refl

pub is_found : (frame : Frame) → IsNoWin (Found frame) → ⊥
is_found frame none = none.1 frame refl

-- and the frame that it tried
pub won_by_try : (s : Setup) (world : World) (version : ℕ) (event : Event) (placement : Placement)
    → Won placement ≡ reply_of s world version event → (w : ℕ) × (event ≡ Try w placement.frame)
won_by_try s world version event placement e =
    let tried = won_by_some_try s world version event (Won placement) (is_won placement) e in
    let win = won_means s world tried.0 version tried.1 (Won placement) (is_won placement)
    (subst (λ x. Won placement ≡ reply_of s world version x) tried.2 e) in
    let page = page_won s win.0 tried.1 placement win.3 in
    (tried.0, tried.2 ∙ ap (λ f. Try tried.0 f) (sym (ap (λ (p : Placement). p.frame) page.2)))

pub found_by_try : (s : Setup) (world : World) (version : ℕ) (event : Event) (frame : Frame)
    → Found frame ≡ reply_of s world version event → (w : ℕ) × (event ≡ Try w frame)
found_by_try s world version event frame e =
    let tried = won_by_some_try s world version event (Found frame) (is_found frame) e in
    let win = won_means s world tried.0 version tried.1 (Found frame) (is_found frame)
    (subst (λ x. Found frame ≡ reply_of s world version x) tried.2 e) in
    let node = node_won s win.0 tried.1 frame win.3 in
    (tried.0, tried.2 ∙ ap (λ f. Try tried.0 f) (sym node.1))
