-- A placement is right: what stands before the current node was met.
use Rattle.std.proofs.Common.{zero, suc, ◌≡◌, ℕ, ◌+◌, ◌<◌, ◌==◌, ◌&&◌, ◌||◌, ◌⊎◌, inl, inr, Bool}
use Rattle.std.proofs.Common.{true, false, not, Option, Some, None, Ok, List, [], ◌∷◌, length, refl}
use Rattle.std.proofs.Common.{sym, ap, subst, ◌∙◌, arith, nat_lt, if◌then◌else◌, unwrap_or}
use Rattle.std.proofs.Common.{slice_index}
use Rattle.std.specs.Option.{option_map_or}
use Rattle.std.proofs.lemmas.Bool.{eqb-true, ltb-true}
use Rattle.std.proofs.lemmas.Bool.Decides.{eqb_tells}
use Rattle.numa_machine.specs.Machine.{frames_of}
use Rattle.numa_requests.specs.declared.request.Request.{Request}
use Rattle.numa_machine.specs.declared.frame.Frame.{Frame}
use Rattle.numa_requests.specs.declared.placement.Placement.{Placement}
use Rattle.numa_requests.specs.declared.event.Event.TheVariants.{Try}
use Rattle.numa_requests.specs.declared.event.CoreReply.{CoreReply}
use Rattle.numa_requests.specs.declared.event.CoreReply.TheVariants.{Won, Found}
use Rattle.numa_core.specs.World.{Setup, FrameSearch, owner_of, any_below, first_place, one_further}
use Rattle.numa_core.specs.World.{current_rank, at_current, has_unmet}
use Rattle.numa_core.specs.Steps.{refusal_of, reply_of, placement_of, won_by, IsAnswer}
use Rattle.numa_core.specs.Executions.{CoreStep, world_of, IsExecution, IsRightPlacement}
use Rattle.numa_core.specs.Executions.{IsRightFrame}
use Rattle.numa_core.proofs.Answered.{IsNoWin, replied, try_means, won_means, page_won, node_won}
use Rattle.numa_core.proofs.Answered.{is_won, is_found, won_by_try, found_by_try}
use Rattle.numa_core.proofs.Tracking.{Tracked, tracked, page-begun, node-sought}

nat_eq_or : (k n : ℕ) → k < suc n → (k ≡ n) ⊎ (k < n)
nat_eq_or k n h = elim (eqb_tells k n) [ inl e ↦ inl e.1 | inr e ↦ inr (omega arith) ]

neither : (a b : Bool) → (a || b) ≡ false → (a ≡ false) × (b ≡ false)
neither true b h = absurd (cc)
neither false b h = (refl, h)

pub any_below-none : (test : ℕ → Bool) (count k : ℕ) → any_below test count ≡ false → k < count
    → test k ≡ false
any_below-none test zero k h low = absurd (omega arith)
any_below-none test (suc n) k h low =
    go (nat_eq_or k n (omega arith))
    (λ less. any_below-none test n k (neither (test n) (any_below test n) h).1 less)
  where
    go : (k ≡ n) ⊎ (k < n) → (k < n → test k ≡ false) → test k ≡ false
    go (inl e) ih = ap test e ∙ (neither (test n) (any_below test n) h).0
    go (inr less) ih = ih less

one_further-some : (o : Option ℕ) (rank : ℕ) → one_further o ≡ Some rank → (before : ℕ)
    × (o ≡ Some before) × (rank ≡ before + 1)
one_further-some None rank e = absurd (cc)
one_further-some (Some before) rank e = (before, refl, cc)

-- the first place is one of the list, and the test fails at those before it
pub first_place-some : (test : ℕ → Bool) (ns : List ℕ) (rank : ℕ) → first_place test ns ≡ Some rank
    → (rank < length ns) × ((i : ℕ) → i < rank → test (slice_index ns i) ≡ false)
first_place-some test [] rank e = absurd (cc)
first_place-some test (n ∷ ns) rank e = go (test n) refl e (first_place-some test ns)
  where
    go : (b : Bool) → test n ≡ b → (if b then Some 0 else one_further (first_place test ns))
        ≡ Some rank
        → ((rank : ℕ) → first_place test ns ≡ Some rank → (rank < length ns)
        × ((i : ℕ) → i < rank → test (slice_index ns i) ≡ false)) → (rank < length (n ∷ ns))
        × ((i : ℕ) → i < rank → test (slice_index (n ∷ ns) i) ≡ false)
    go true here e ih = let zero_rank : 0 ≡ rank = cc in
        (omega arith, λ i low. absurd (omega arith))
    go false not_here e ih =
        let before = one_further-some (first_place test ns) rank e in
        let more = ih before.0 before.1 in
        let up : rank ≡ before.0 + 1 = before.2 in
        let within : before.0 < length ns = more.0 in
        (omega arith, λ i low. each i (subst (λ r. i < r) up low) more.1)
      where
        each : (i : ℕ) {top : ℕ} → i < top + 1
            → ((i : ℕ) → i < top → test (slice_index ns i) ≡ false) → test (slice_index (n ∷ ns) i)
            ≡ false
        each zero low all = not_here
        each (suc i) low all = all i (omega arith)

one_further-none : (o : Option ℕ) → one_further o ≡ None → o ≡ None
one_further-none None e = refl
one_further-none (Some before) e = absurd (cc)

-- without a first place the test fails at every place
pub first_place-none : (test : ℕ → Bool) (ns : List ℕ) → first_place test ns ≡ None → (i : ℕ)
    → i < length ns → test (slice_index ns i) ≡ false
first_place-none test [] e i low = absurd (omega arith)
first_place-none test (n ∷ ns) e i low = go (test n) refl e (first_place-none test ns) i low
  where
    go : (b : Bool) → test n ≡ b → (if b then Some 0 else one_further (first_place test ns)) ≡ None
        → (first_place test ns ≡ None → (i : ℕ) → i < length ns → test (slice_index ns i) ≡ false)
        → (i : ℕ) → i < length (n ∷ ns) → test (slice_index (n ∷ ns) i) ≡ false
    go true here e ih i low = absurd (cc)
    go false not_here e ih zero low = not_here
    go false not_here e ih (suc i) low = ih (one_further-none (first_place test ns) e) i
        (omega arith)

-- where the test holds of the current node, there is one
at_current-means : (s : Setup) (frame_search : FrameSearch) (test : ℕ → Bool)
    → at_current s frame_search test ≡ true → (rank : ℕ) × (current_rank s frame_search ≡ Some rank)
    × (test (slice_index frame_search.nodes rank) ≡ true)
at_current-means s frame_search test = go (current_rank s frame_search)
  where
    go : (o : Option ℕ) → option_map_or (λ rank. test (slice_index frame_search.nodes rank)) o false
        ≡ true → (rank : ℕ) × (o ≡ Some rank) × (test (slice_index frame_search.nodes rank) ≡ true)
    go None e = absurd (cc)
    go (Some rank) e = (rank, refl, e)

all_three : (a b c : Bool) → (a && (b && c)) ≡ true → (a ≡ true) × (b ≡ true) × (c ≡ true)
all_three true true true e = (refl, refl, refl)
all_three true true false e = absurd (cc)
all_three true false c e = absurd (cc)
all_three false b c e = absurd (cc)

pub not_false-is : (b : Bool) → not b ≡ false → b ≡ true
not_false-is true e = refl
not_false-is false e = absurd (cc)

-- an unmet frame of the current node
abbrev IsTried : Setup → FrameSearch → Frame → ℕ → Type 0
IsTried s frame_search frame rank =
    ((slice_index frame_search.nodes rank == frame.node) ≡ true)
    × (nat_lt frame.number (frames_of s.machine (slice_index frame_search.nodes rank)) ≡ true)
    × (not (frame_search.met (slice_index frame_search.nodes rank) frame.number) ≡ true)

placed : (s : Setup) (past : List CoreStep) (w : ℕ) (frame : Frame) (frame_search : FrameSearch)
    (placement : Placement) (request : Request) → frame_search.request ≡ Some request
    → Tracked s past w frame_search → owner_of (world_of s past) frame
    ≡ None → placement ≡ placement_of s frame_search frame request → (rank : ℕ)
    → current_rank s frame_search ≡ Some rank → IsTried s frame_search frame rank
    → IsRightPlacement s w placement past
placed s past w frame frame_search placement request page t free is rank current tried =
    let last = page-begun s past w frame_search request page t in
    let spot = first_place-some (has_unmet s frame_search) frame_search.nodes rank current in
    let here : slice_index frame_search.nodes rank ≡ frame.node = eqb-true _ _ tried.0 in
    let ranked : unwrap_or (current_rank s frame_search) 0 ≡ rank =
    ap (λ o. unwrap_or o 0) current in
    subst (λ p. IsRightPlacement s w p past) (sym is) record {
      begun = last.begun;
      nodes = frame_search.nodes;
      is_last = last.is_last;
      version = last.version;
      published = last.published;
      task = ap (λ (r : Request). r.task) last.request;
      page = ap (λ (r : Request). r.page) last.request;
      listed = last.listed;
      rank = subst (λ r. r < length frame_search.nodes) (sym ranked) spot.0;
      node = ap (λ r. slice_index frame_search.nodes r) ranked ∙ here;
      frame_node = refl;
      frame_number = subst (λ n. frame.number < frames_of s.machine n) here (ltb-true _ _ tried.1);
      free = free;
      earlier = λ i k low few. sym (t.met (slice_index frame_search.nodes i) k)
          ∙ not_false-is _
          (any_below-none (λ k. not (frame_search.met (slice_index frame_search.nodes i) k))
          (frames_of s.machine (slice_index frame_search.nodes i)) k
          (spot.1 i (subst (λ r. i < r) ranked low)) few);
    }

-- a frame of a node that is sought
found-right : (s : Setup) (past : List CoreStep) (w : ℕ) (frame : Frame)
    (frame_search : FrameSearch) → frame_search.request ≡ None → Tracked s past w frame_search
    → owner_of (world_of s past) frame ≡ None → (rank : ℕ)
    → current_rank s frame_search ≡ Some rank → IsTried s frame_search frame rank
    → IsRightFrame s w frame past
found-right s past w frame frame_search none t free rank current tried =
    let last = node-sought s past w frame_search none t in
    let spot = first_place-some (has_unmet s frame_search) frame_search.nodes rank current in
    let long : length frame_search.nodes ≡ 1 = ap length last.alone in
    let low : rank < length frame_search.nodes = spot.0 in
    let first : rank ≡ 0 = omega arith in
    let here : slice_index frame_search.nodes rank ≡ frame.node = eqb-true _ _ tried.0 in
    let its : last.node ≡ frame.node =
    sym (ap (λ (q : List ℕ × ℕ). slice_index q.0 q.1) (λ c. (last.alone c, first c))) ∙ here in
    record {
      sought = last.is_last ∙ ap Some its;
      frame_number = subst (λ n. frame.number < frames_of s.machine n) here (ltb-true _ _ tried.1);
      free = free;
    }

-- what a Try that won tells
record WonSo (s : Setup) (past : List CoreStep) (w : ℕ) (frame : Frame) (reply : CoreReply) :
    Type 0 where
  frame_search : FrameSearch
  search_tracked : Tracked s past w frame_search
  free : owner_of (world_of s past) frame ≡ None
  is : reply ≡ won_by s frame_search frame
  rank : ℕ
  current : current_rank s frame_search ≡ Some rank
  tried : IsTried s frame_search frame rank

won_so : (s : Setup) (past : List CoreStep) (w version : ℕ) (frame : Frame)
    (reply : CoreReply) → (IsNoWin reply → ⊥) → IsExecution s past
    → refusal_of s (world_of s past) version (Try w frame) ≡ None
    → reply ≡ reply_of s (world_of s past) version (Try w frame)
    → WonSo s past w frame reply
won_so s past w version frame reply wins legal ok is =
    let win = won_means s (world_of s past) w version frame reply wins is in
    let tried =
    at_current-means s win.0
    (λ n. (n == frame.node)
    && (nat_lt frame.number (frames_of s.machine n) && not (win.0.met n frame.number)))
    (try_means s (world_of s past) version w frame win.0 ok win.1) in
    record {
      frame_search = win.0;
      search_tracked = tracked s past legal w win.0 win.1;
      free = win.2;
      is = win.3;
      rank = tried.0;
      current = tried.1;
      tried = all_three _ _ _ tried.2;
    }

-- each reply Won answers a Try of its frame, and its placement is right
pub right : (s : Setup) (past : List CoreStep) (m : CoreStep) (placement : Placement)
    → IsExecution s (m ∷ past) → m.answer ≡ Ok (Won placement)
    → (w : ℕ) × (m.event ≡ Try w placement.frame) × IsRightPlacement s w placement past
right s past m placement legal e =
    let answer = replied s (world_of s past) m.version m.event (Won placement)
    (subst (λ a. IsAnswer s (world_of s past) m.version m.event a) e legal.2) in
    let attempt = won_by_try s (world_of s past) m.version m.event placement answer.1 in
    let so = won_so s past attempt.0 m.version placement.frame (Won placement) (is_won placement)
    legal.0 (subst (λ x. refusal_of s (world_of s past) m.version x ≡ None) attempt.1 answer.0)
    (subst (λ x. Won placement ≡ reply_of s (world_of s past) m.version x) attempt.1 answer.1) in
    let page = page_won s so.frame_search placement.frame placement so.is in (
      attempt.0,
      attempt.1,
      placed s past attempt.0 placement.frame so.frame_search placement page.0 page.1
          so.search_tracked so.free page.2 so.rank so.current so.tried,
    )

-- each reply Found answers a Try of its frame, which is right
pub found : (s : Setup) (past : List CoreStep) (m : CoreStep) (frame : Frame)
    → IsExecution s (m ∷ past) → m.answer ≡ Ok (Found frame)
    → (w : ℕ) × (m.event ≡ Try w frame) × IsRightFrame s w frame past
found s past m frame legal e =
    let answer = replied s (world_of s past) m.version m.event (Found frame)
    (subst (λ a. IsAnswer s (world_of s past) m.version m.event a) e legal.2) in
    let attempt = found_by_try s (world_of s past) m.version m.event frame answer.1 in
    let so = won_so s past attempt.0 m.version frame (Found frame) (is_found frame)
    legal.0 (subst (λ x. refusal_of s (world_of s past) m.version x ≡ None) attempt.1 answer.0)
    (subst (λ x. Found frame ≡ reply_of s (world_of s past) m.version x) attempt.1 answer.1) in
    let node = node_won s so.frame_search frame frame so.is in (
      attempt.0,
      attempt.1,
      found-right s past attempt.0 frame so.frame_search node.0 so.search_tracked so.free so.rank
          so.current so.tried,
    )
