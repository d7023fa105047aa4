-- What a seat shows before and after an event.
use Rattle.std.proofs.Common.{◌≡◌, ◌≢◌, ℕ, ◌*◌, ◌/◌, ◌<◌, ◌≤◌, ◌==◌, ◌&&◌, ◌||◌, ◌⊎◌, inl, inr}
use Rattle.std.proofs.Common.{Bool, true, false, not, Option, Some, None, Result, Ok, Err, is_some}
use Rattle.std.proofs.Common.{List, refl, sym, ap, subst, ◌∙◌, nat_lt, slice_index, MatchBool}
use Rattle.std.proofs.Common.{MatchOption, unwrap_or}
use Rattle.std.specs.Option.{option_map_or}
use Rattle.std.proofs.lemmas.Bool.{eq-eqb}
use Rattle.std.proofs.lemmas.Bool.Decides.{eqb_tells}
use Rattle.numa_requests.specs.declared.request.Request.{Request}
use Rattle.numa_machine.specs.declared.frame.Frame.{Frame}
use Rattle.numa_requests.specs.declared.placement.Placement.{Placement}
use Rattle.numa_requests.specs.declared.event.CoreReply.{CoreReply}
use Rattle.numa_requests.specs.declared.event.CoreReply.TheVariants.{Won, Found}
use Rattle.numa_requests.specs.declared.event.CoreRefusal.{CoreRefusal}
use Rattle.numa_requests.specs.declared.event.CoreRefusal.TheVariants.{BadTry, Idle}
use Rattle.numa_core.specs.declared.seat.Cursor.{Cursor}
use Rattle.numa_core.specs.declared.seat.OngoingSearch.{OngoingSearch}
use Rattle.numa_core.specs.declared.seat.WorkerSeat.{WorkerSeat}
use Rattle.numa_core.specs.World.{Setup, FrameSearch, World, current_rank, may_try}
use Rattle.numa_core.specs.World.{frame_search_after_look, frame_search_past, is_frame}
use Rattle.numa_core.specs.Steps.{goes_on, going_on, placement_of, won_by}
use Rattle.numa_core.specs.Standing.{place_in, is_met, owner_at, met_at, frame_search_in}
use Rattle.numa_core.specs.World.{fresh}
use Rattle.numa_core.specs.Seats.{busy_at, seat_frame_search, JobStands, IsPassed, IsCursor}
use Rattle.numa_core.specs.Seats.{SeatLooks, SeatTries}
use Rattle.numa_core.proofs.Cursors.{rank-at}
use Rattle.numa_core.proofs.InARow.{is_lt, not_lt, place-not}

-- a busy seat's cursor
pub cursor-of : (frames : List ℕ) (o : Option OngoingSearch) (job : OngoingSearch)
    (nodes words : List ℕ) → o ≡ Some job → JobStands frames o nodes words
    → IsCursor frames nodes words job.at.rank job.at.next
cursor-of frames o job nodes words is stands = subst (λ o. JobStands frames o nodes words) is stands

-- what is met stays met
pub passed-keeps : (frames nodes old new : List ℕ) (rank next : ℕ)
    → ((n k : ℕ) → met_at frames old n k ≡ true → met_at frames new n k ≡ true)
    → IsPassed frames nodes old rank next → IsPassed frames nodes new rank next
passed-keeps frames nodes old new rank next stays passed = record {
  earlier = λ i k low few. stays (slice_index nodes i) k (passed.earlier i k low few);
  lower = λ k low few. stays (slice_index nodes rank) k (passed.lower k low few);
}

pub or_met : (a b c : Bool) → a ≡ (b || c) → c ≡ true → a ≡ true
or_met a true c e h = e
or_met a false c e h = e ∙ h

same_frame_search : (request : Option Request) (version : ℕ) (nodes : List ℕ) (f g : ℕ → ℕ → Bool)
    → ((n k : ℕ) → f n k ≡ g n k)
    → ◌≡◌ {A = FrameSearch} record { request = request; version = version; nodes = nodes; met = f }
    record { request = request; version = version; nodes = nodes; met = g }
same_frame_search request version nodes f g each =
    ap (λ (met : ℕ → ℕ → Bool). let h : FrameSearch =
    record { request = request; version = version; nodes = nodes; met = met } in h)
    (λ i n k. each n k i)

pub fresh-is : (frames : List ℕ) (request : Option Request) (version : ℕ) (at : Cursor)
    (nodes row words : List ℕ) → nodes ≡ row → ((p : ℕ) → is_met words (Some p) ≡ false)
    → frame_search_in frames (busy_at (record { request = request; version = version; at = at })
    nodes words) ≡ fresh request version row
fresh-is frames request version at nodes row words is none =
    ap (λ ns.
    frame_search_in frames (busy_at (record { request = request; version = version; at = at }) ns
    words)) is ∙ same_frame_search request version row (met_at frames words) (λ n k. false)
    (λ n k. go (place_in frames n k))
  where
    go : (o : Option ℕ) → is_met words o ≡ false
    go None = refl
    go (Some p) = none p

matched : (a b : Bool) (P Q : Type 0) → a ≡ b → MatchBool b P Q → MatchBool a P Q
matched a b P Q e h = subst (λ x. MatchBool x P Q) (sym e) h

-- ---- a Look

module _ (s : Setup) (world : World) (word : ℕ) (frames : List ℕ) (old new : WorkerSeat)
    (job : OngoingSearch) (node : ℕ) (same : frames ≡ s.machine.frames) (busy : old.job ≡ Some job)
    (cursor : IsCursor frames old.nodes.items old.met.items job.at.rank job.at.next)
    (at : node ≡ slice_index old.nodes.items job.at.rank) where
  current : current_rank s (frame_search_in frames (busy_at job old.nodes.items old.met.items))
      ≡ Some job.at.rank
  current = rank-at s frames (busy_at job old.nodes.items old.met.items) job.at.rank job.at.next
      same cursor

  looks : (result : Result CoreReply CoreRefusal) (b : Bool)
      → nat_lt (64 * word) (slice_index frames node) ≡ b
      → MatchBool b
      ((result ≡ Ok
      (goes_on s
      (frame_search_after_look s world word
      (frame_search_in frames (busy_at job old.nodes.items old.met.items)))))
      × (seat_frame_search frames new
      ≡ going_on s
      (frame_search_after_look s world word
      (frame_search_in frames (busy_at job old.nodes.items old.met.items))))) (result ≡ Err BadTry)
      → SeatLooks frames s world word old result new
  looks result b test h =
      rw busy
      (matched _ b _ _
      (ap (λ o.
      option_map_or (λ r.
      nat_lt (64 * word) (slice_index s.machine.frames (slice_index old.nodes.items r))) o false)
      current ∙ ap (λ n. nat_lt (64 * word) (slice_index s.machine.frames n)) (sym at)
      ∙ ap (λ fs. nat_lt (64 * word) (slice_index fs node)) (sym same) ∙ test) h)

  -- past the node's words
  pub looks-past : slice_index frames node ≤ 64 * word
      → SeatLooks frames s world word old (Err BadTry) new
  looks-past past = looks (Err BadTry) false (not_lt (64 * word) (slice_index frames node) past)
      refl

  -- at one of them
  pub looks-at : (owners : List (Option ℕ)) (words : List ℕ) (reply : CoreReply)
      → 64 * word < slice_index frames node
      → ((n k : ℕ) → world.owner n k ≡ owner_at owners (place_in frames n k))
      → ((n k : ℕ)
      → met_at frames words n k
      ≡ (((n == node) && ((k / 64 == word) && is_some (owner_at owners (place_in frames n k))))
      || met_at frames old.met.items n k))
      → reply ≡ goes_on s (frame_search_in frames (busy_at job old.nodes.items words))
      → seat_frame_search frames new
      ≡ going_on s (frame_search_in frames (busy_at job old.nodes.items words))
      → SeatLooks frames s world word old (Ok reply) new
  looks-at owners words reply within owner met answer frame_search =
      looks (Ok reply) true (is_lt (64 * word) (slice_index frames node) within)
      (ap Ok (answer ∙ ap (goes_on s) is), frame_search ∙ ap (going_on s) is)
    where
      each : (n k : ℕ)
          → met_at frames words n k
          ≡ (frame_search_after_look s world word
          (frame_search_in frames (busy_at job old.nodes.items old.met.items))).met n k
      each n k = met n k
          ∙ ap
          (λ m. ((n == m) && ((k / 64 == word) && is_some (owner_at owners (place_in frames n k))))
          || met_at frames old.met.items n k) at
          ∙ ap
          (λ o. ((n == slice_index old.nodes.items job.at.rank) && ((k / 64 == word) && is_some o))
          || met_at frames old.met.items n k) (sym (owner n k))
          ∙ ap
          (λ o. (option_map_or (λ r. n == slice_index old.nodes.items r) o false
          && ((k / 64 == word) && is_some (world.owner n k))) || met_at frames old.met.items n k)
          (sym current)

      is : frame_search_in frames (busy_at job old.nodes.items words) ≡ frame_search_after_look s
          world word (frame_search_in frames (busy_at job old.nodes.items old.met.items))
      is = same_frame_search job.request job.version old.nodes.items (met_at frames words)
          (frame_search_after_look s world word
          (frame_search_in frames (busy_at job old.nodes.items old.met.items))).met each

-- ---- a Try

-- the frame is an unmet one of the node
abbrev pub is_next : List ℕ → List ℕ → ℕ → Frame → Bool
is_next frames words node frame = (node == frame.node)
    && (nat_lt frame.number (slice_index frames node)
    && not (met_at frames words node frame.number))

and_false : (a : Bool) → (a && false) ≡ false
and_false true = refl
and_false false = refl

all_three : (a b c : Bool) → a ≡ true → b ≡ true → c ≡ false → (a && (b && not c)) ≡ true
all_three a b c e f g = rw (e, f, g) refl

pub next-true : (frames words : List ℕ) (node : ℕ) (frame : Frame) → node ≡ frame.node
    → frame.number < slice_index frames frame.node → met_at frames words frame.node frame.number
    ≡ false → is_next frames words node frame ≡ true
next-true frames words node frame same low unmet = subst (λ n. is_next frames words n frame ≡ true)
    (sym same)
    (all_three (frame.node == frame.node) (nat_lt frame.number (slice_index frames frame.node))
    (met_at frames words frame.node frame.number) (eq-eqb frame.node frame.node refl)
    (is_lt frame.number (slice_index frames frame.node) low) unmet)

pub next-other : (frames words : List ℕ) (node : ℕ) (frame : Frame) → (node ≡ frame.node → ⊥)
    → is_next frames words node frame ≡ false
next-other frames words node frame other = go (eqb_tells node frame.node)
  where
    go : ((node == frame.node ≡ true) × (node ≡ frame.node))
        ⊎ ((node == frame.node ≡ false) × (node ≢ frame.node)) → is_next frames words node frame
        ≡ false
    go (inl e) = absurd (other e.1)
    go (inr e) = rw e.0 refl

module _ (s : Setup) (frames : List ℕ) (owned : Bool) (frame : Frame) (old new : WorkerSeat)
    (job : OngoingSearch) (node : ℕ) (same : frames ≡ s.machine.frames) (busy : old.job ≡ Some job)
    (cursor : IsCursor frames old.nodes.items old.met.items job.at.rank job.at.next)
    (at : node ≡ slice_index old.nodes.items job.at.rank) where
  current' : current_rank s (frame_search_in frames (busy_at job old.nodes.items old.met.items))
      ≡ Some job.at.rank
  current' = rank-at s frames (busy_at job old.nodes.items old.met.items) job.at.rank job.at.next
      same cursor

  tries : (result : Result CoreReply CoreRefusal) (b : Bool)
      → is_next frames old.met.items node frame ≡ b
      → MatchBool b (MatchBool owned
      ((result ≡ Ok
      (goes_on s
      (frame_search_past frame
      (frame_search_in frames (busy_at job old.nodes.items old.met.items)))))
      × (seat_frame_search frames new
      ≡ going_on s
      (frame_search_past frame
      (frame_search_in frames (busy_at job old.nodes.items old.met.items)))))
      ((result ≡ Ok
      (won_by s (frame_search_in frames (busy_at job old.nodes.items old.met.items))
      frame)) × (seat_frame_search frames new ≡ None))) (result ≡ Err BadTry)
      → SeatTries frames s owned frame old result new
  tries result b test h = rw busy (matched _ b _ _
      (ap (λ o. option_map_or (λ r. (slice_index old.nodes.items r == frame.node)
      && (nat_lt frame.number (slice_index s.machine.frames (slice_index old.nodes.items r))
      && not (met_at frames old.met.items (slice_index old.nodes.items r) frame.number))) o
      false) current'
      ∙ ap
      (λ n. (n == frame.node)
      && (nat_lt frame.number (slice_index s.machine.frames n)
      && not (met_at frames old.met.items n frame.number))) (sym at)
      ∙ ap
      (λ fs. (node == frame.node)
      && (nat_lt frame.number (slice_index fs node)
      && not (met_at frames old.met.items node frame.number))) (sym same) ∙ test) h)

  pub tries-bad : is_next frames old.met.items node frame ≡ false
      → SeatTries frames s owned frame old (Err BadTry) new
  tries-bad test = tries (Err BadTry) false test refl

  pub tries-owned : (words : List ℕ) (reply : CoreReply) → is_next frames old.met.items node frame
      ≡ true → owned ≡ true
      → ((n k : ℕ)
      → met_at frames words n k ≡ (is_frame frame n k || met_at frames old.met.items n k))
      → reply ≡ goes_on s (frame_search_in frames (busy_at job old.nodes.items words))
      → seat_frame_search frames new
      ≡ going_on s (frame_search_in frames (busy_at job old.nodes.items words))
      → SeatTries frames s owned frame old (Ok reply) new
  tries-owned words reply test is met answer frame_search =
      tries (Ok reply) true test
      (matched owned true _ _ is (
        ap Ok (answer ∙ ap (goes_on s) missed-is),
        frame_search
            ∙ ap (going_on s) missed-is,
      ))
    where
      missed-is : frame_search_in frames (busy_at job old.nodes.items words) ≡ frame_search_past
          frame (frame_search_in frames (busy_at job old.nodes.items old.met.items))
      missed-is = same_frame_search job.request job.version old.nodes.items (met_at frames words)
          (λ n k. is_frame frame n k || met_at frames old.met.items n k) met

  pub tries-free : (reply : CoreReply) → is_next frames old.met.items node frame ≡ true
      → owned ≡ false → seat_frame_search frames new ≡ None
      → reply ≡ option_map_or (λ request. Won (record {
        version = job.version;
        task = request.task;
        page = request.page;
        node = frame.node;
        frame = frame;
        rank = job.at.rank;
      })) job.request (Found frame) → SeatTries frames s owned frame old (Ok reply) new
  tries-free reply test is idle won =
      tries _ true test (matched owned false _ _ is (ap Ok (won ∙ won_so job.request), idle))
    where
      won_so : (o : Option Request) → option_map_or (λ request. Won (record {
        version = job.version;
        task = request.task;
        page = request.page;
        node = frame.node;
        frame = frame;
        rank = job.at.rank;
      })) o (Found frame) ≡ option_map_or (λ request. Won (placement_of s
          (frame_search_in frames (busy_at job old.nodes.items old.met.items)) frame request)) o
          (Found frame)
      won_so None = refl
      won_so (Some request) = ap (λ (r : Option ℕ). let p : Placement =
          record {
            version = job.version;
            task = request.task;
            page = request.page;
            node = frame.node;
            frame = frame;
            rank = unwrap_or r 0;
          } in Won p) (sym current')

-- a frame that the machine lacks
pub tries-nowhere : (s : Setup) (frames : List ℕ) (owned : Bool) (frame : Frame)
    (old new : WorkerSeat) (refusal : CoreRefusal) → frames ≡ s.machine.frames
    → place_in frames frame.node frame.number ≡ None
    → MatchOption old.job (refusal ≡ Idle) (λ job. refusal ≡ BadTry)
    → SeatTries frames s owned frame old (Err refusal) new
tries-nowhere s frames owned frame old new refusal same nowhere why = go old.job refl why
  where
    none : (frame_search : FrameSearch) → may_try s frame_search frame ≡ false
    none frame_search = pick (current_rank s frame_search)
      where
        here : (n : ℕ) → ((n == frame.node ≡ true) × (n ≡ frame.node))
            ⊎ ((n == frame.node ≡ false) × (n ≢ frame.node))
            → ((n == frame.node)
            && (nat_lt frame.number (slice_index s.machine.frames n)
            && not (frame_search.met n frame.number))) ≡ false
        here n (inr e) = rw e.0 refl
        here n (inl e) =
            subst (λ m.
            ((m == frame.node)
            && (nat_lt frame.number (slice_index s.machine.frames m)
            && not (frame_search.met m frame.number))) ≡ false) (sym e.1)
            (rw (subst (λ fs. nat_lt frame.number (slice_index fs frame.node) ≡ false) same
            (place-not frames frame.node frame.number nowhere))
            (and_false (frame.node == frame.node)))

        pick : (o : Option ℕ)
            → option_map_or (λ rank. (slice_index frame_search.nodes rank == frame.node)
            && (nat_lt frame.number
            (slice_index s.machine.frames (slice_index frame_search.nodes rank))
            && not (frame_search.met (slice_index frame_search.nodes rank) frame.number))) o false
            ≡ false
        pick None = refl
        pick (Some rank) = here (slice_index frame_search.nodes rank)
            (eqb_tells (slice_index frame_search.nodes rank) frame.node)

    go : (o : Option OngoingSearch) → old.job ≡ o
        → MatchOption o (refusal ≡ Idle) (λ job. refusal ≡ BadTry)
        → SeatTries frames s owned frame old (Err refusal) new
    go None is why = rw is (ap Err why)
    go (Some job) is why =
        rw is
        (matched _ false _ _
        (none (frame_search_in frames (busy_at job old.nodes.items old.met.items))) (ap Err why))
