-- What an event of a worker is answered, by what the worker's frame search allows.
use Rattle.std.proofs.Common.{◌≡◌, ◌==◌, ℕ, ◌<◌, Bool, true, false, not, Option, Some, None}
use Rattle.std.proofs.Common.{Result, Ok, Err, is_some, is_none, is_ok, List, [], refl, sym, ap}
use Rattle.std.proofs.Common.{◌∙◌, inl, if◌then◌else◌, MatchBool, MatchOption, unwrap_or}
use Rattle.std.specs.Option.{option_map_or}
use Rattle.std.proofs.lemmas.Bool.{eq-eqb}
use Rattle.numa_requests.specs.declared.request.Request.{Request}
use Rattle.numa_machine.specs.Machine.{frames_of}
use Rattle.numa_machine.specs.declared.frame.Frame.{Frame}
use Rattle.numa_requests.specs.declared.event.Event.{Event}
use Rattle.numa_requests.specs.declared.event.Event.TheVariants.{Begin, Seek, Look, Try, Give}
use Rattle.numa_requests.specs.declared.event.CoreReply.{CoreReply}
use Rattle.numa_requests.specs.declared.event.CoreReply.TheVariants.{Still, Given}
use Rattle.numa_requests.specs.declared.event.CoreRefusal.{CoreRefusal}
use Rattle.numa_requests.specs.declared.event.CoreRefusal.TheVariants.{Idle, BadTry}
use Rattle.numa_core.specs.World.{Setup, FrameSearch, World, frame_search_of, owner_of, list_at}
use Rattle.numa_core.specs.World.{may_look, may_try, frame_search_after_look, frame_search_past}
use Rattle.numa_core.specs.World.{new_frame_search, fresh, seeking}
use Rattle.numa_core.specs.Steps.{refusal_of, reply_of, goes_on, going_on, won_by}
use Rattle.numa_core.specs.Steps.{refused_or, IsAnswer}
use Rattle.numa_core.proofs.InARow.{not_le}

pub answered : (s : Setup) (world : World) (version : ℕ) (event : Event) (o : Option CoreRefusal)
    (result : Result CoreReply CoreRefusal) → refusal_of s world version event ≡ o
    → result ≡ refused_or o (reply_of s world version event) → IsAnswer s world version event result
answered s world version event o result is e =
    inl (e ∙ ap (λ r. refused_or r (reply_of s world version event)) (sym is))

-- nothing is said of a refused event's frame search
none_said : (result : Result CoreReply CoreRefusal) (refusal : CoreRefusal) (X : Type 0)
    → result ≡ Err refusal → is_ok result ≡ true → X
none_said result refusal X is ok = absurd (let odd : false ≡ true = sym (ap is_ok is) ∙ ok in cc)

-- why a step of a frame search is refused: there is none, or it may not be made
abbrev refusal_by : (FrameSearch → Bool) → Option FrameSearch → Option CoreRefusal
refusal_by may o = if is_none o then Some Idle
    else (if not (option_map_or may o false) then Some BadTry else None)

module _ (s : Setup) (world : World) (version w : ℕ) (result : Result CoreReply CoreRefusal)
    (new : Option FrameSearch) (low : w < s.workers) where
  -- what a Look that may be made answers, and the frame search after it
  abbrev LookAnswers : FrameSearch → ℕ → Type 0
  LookAnswers search word = (result ≡ Ok (goes_on s (frame_search_after_look s world word search)))
      × (new ≡ going_on s (frame_search_after_look s world word search))

  abbrev LookIs : ℕ → Type 0
  LookIs word = IsAnswer s world version (Look w word) result × (is_ok result ≡ true
      → new ≡ option_map_or (λ search. going_on s (frame_search_after_look s world word search))
      (frame_search_of world w) None)

  look_refusal : (word : ℕ) (o : Option FrameSearch) → frame_search_of world w ≡ o
      → refusal_of s world version (Look w word) ≡ refusal_by (λ search. may_look s search word) o
  look_refusal word o is = rw (not_le s.workers w low, is) refl

  look_some : (word : ℕ) (search : FrameSearch) → frame_search_of world w ≡ Some search
      → (may : Bool) → may_look s search word ≡ may
      → MatchBool may (LookAnswers search word) (result ≡ Err BadTry) → LookIs word
  look_some word search is true may h = (
    answered s world version (Look w word) None result (look_refusal word (Some search) is
        ∙ ap (λ b. if not b then Some BadTry else None) may) (h.0 ∙ ap (λ o. Ok (option_map_or
        (λ search. goes_on s (frame_search_after_look s world word search)) o Still)) (sym is)),
    λ ok. h.1 ∙ ap (λ o. option_map_or
        (λ search. going_on s (frame_search_after_look s world word search)) o None) (sym is),
  )
  look_some word search is false may h = (
    answered s world version (Look w word) (Some BadTry) result (look_refusal word (Some search) is
        ∙ ap (λ b. if not b then Some BadTry else None) may) h,
    none_said result BadTry _ h,
  )

  pub look_answer : (word : ℕ) (old : Option FrameSearch) → frame_search_of world w ≡ old
      → MatchOption old (result ≡ Err Idle) (λ search. MatchBool (may_look s search word)
      (LookAnswers search word) (result ≡ Err BadTry)) → LookIs word
  look_answer word None is h = (
    answered s world version (Look w word) (Some Idle) result (look_refusal word None is) h,
    none_said result Idle _ h,
  )
  look_answer word (Some search) is h = look_some word search is (may_look s search word) refl h

  -- what a Try that may be made answers, of a frame with an owner or without, and the frame search
  -- after it
  abbrev TryAnswers : FrameSearch → Frame → Bool → Type 0
  TryAnswers search frame owned = MatchBool owned
      ((result ≡ Ok (goes_on s (frame_search_past frame search)))
      × (new ≡ going_on s (frame_search_past frame search)))
      ((result ≡ Ok (won_by s search frame)) × (new ≡ None))

  abbrev TryIs : Frame → Bool → Type 0
  TryIs frame owned = IsAnswer s world version (Try w frame) result × (is_ok result ≡ true → new
      ≡ (if owned then option_map_or (λ search. going_on s (frame_search_past frame search))
      (frame_search_of world w) None else None))

  try_refusal : (frame : Frame) (o : Option FrameSearch) → frame_search_of world w ≡ o
      → refusal_of s world version (Try w frame) ≡ refusal_by (λ search. may_try s search frame) o
  try_refusal frame o is = rw (not_le s.workers w low, is) refl

  -- the reply to a Try
  abbrev try_reply : Frame → Option FrameSearch → Bool → CoreReply
  try_reply frame o owned = if owned
      then option_map_or (λ search. goes_on s (frame_search_past frame search)) o Still
      else option_map_or (λ search. won_by s search frame) o Still

  try_some : (frame : Frame) (search : FrameSearch) → frame_search_of world w ≡ Some search
      → (may owned : Bool) → may_try s search frame ≡ may
      → (is_ok result ≡ true → is_some (owner_of world frame) ≡ owned)
      → MatchBool may (TryAnswers search frame owned) (result ≡ Err BadTry) → TryIs frame owned
  try_some frame search is true true may own h = (
    answered s world version (Try w frame) None result (try_refusal frame (Some search) is
        ∙ ap (λ b. if not b then Some BadTry else None) may) (h.0
        ∙ ap (λ o. Ok (try_reply frame o true)) (sym is)
        ∙ ap (λ b. Ok (try_reply frame (frame_search_of world w) b)) (sym (own (ap is_ok h.0)))),
    λ ok. h.1 ∙ ap (λ o. option_map_or (λ search. going_on s (frame_search_past frame search)) o
        None) (sym is),
  )
  try_some frame search is true false may own h = (
    answered s world version (Try w frame) None result (try_refusal frame (Some search) is
        ∙ ap (λ b. if not b then Some BadTry else None) may) (h.0
        ∙ ap (λ o. Ok (try_reply frame o false)) (sym is)
        ∙ ap (λ b. Ok (try_reply frame (frame_search_of world w) b)) (sym (own (ap is_ok h.0)))),
    λ ok. h.1,
  )
  try_some frame search is false owned may own h = (
    answered s world version (Try w frame) (Some BadTry) result
        (try_refusal frame (Some search) is ∙ ap (λ b. if not b then Some BadTry else None) may) h,
    none_said result BadTry _ h,
  )

  pub try_answer : (frame : Frame) (owned : Bool) (old : Option FrameSearch)
      → frame_search_of world w ≡ old
      → (is_ok result ≡ true → is_some (owner_of world frame) ≡ owned)
      → MatchOption old (result ≡ Err Idle) (λ search. MatchBool (may_try s search frame)
      (TryAnswers search frame owned) (result ≡ Err BadTry)) → TryIs frame owned
  try_answer frame owned None is own h = (
    answered s world version (Try w frame) (Some Idle) result (try_refusal frame None is) h,
    none_said result Idle _ h,
  )
  try_answer frame owned (Some search) is own h =
      try_some frame search is (may_try s search frame) owned refl own h

pub give_answer : (s : Setup) (world : World) (version w : ℕ) (frame : Frame) → w < s.workers
    → frame_search_of world w ≡ None → owner_of world frame ≡ Some w
    → IsAnswer s world version (Give w frame) (Ok Given)
give_answer s world version w frame low idle owner = answered s world version (Give w frame) None
    (Ok Given) (rw (not_le s.workers w low, idle, owner, eq-eqb w w refl) refl) refl

pub seek_answer : (s : Setup) (world : World) (version w node : ℕ) (reply : CoreReply)
    → w < s.workers → frame_search_of world w ≡ None → frames_of s.machine node == 0 ≡ false
    → reply ≡ goes_on s (seeking version node)
    → IsAnswer s world version (Seek w node) (Ok reply)
seek_answer s world version w node reply low idle some is =
    answered s world version (Seek w node) None (Ok reply)
    (rw (not_le s.workers w low, idle, some) refl) (ap Ok is)

module _ (s : Setup) (world : World) (version w : ℕ) (request : Request) (row : List ℕ)
    (listed : list_at s.machine world.history version request ≡ Some row) where
  pub begin_answer : (reply : CoreReply) → refusal_of s world version (Begin w request) ≡ None
      → reply ≡ goes_on s (fresh (Some request) version row)
      → IsAnswer s world version (Begin w request) (Ok reply)
  begin_answer reply allowed is = answered s world version (Begin w request) None (Ok reply) allowed
      (ap Ok (is
      ∙ ap (λ o. goes_on s (fresh (Some request) version (unwrap_or o []))) (sym listed)))

  pub begin_frame_search : going_on s (fresh (Some request) version row)
      ≡ going_on s (new_frame_search s world version request)
  begin_frame_search =
      ap (λ o. going_on s (fresh (Some request) version (unwrap_or o []))) (sym listed)
