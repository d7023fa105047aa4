-- A frame that was won is given back before it is won again.
use Rattle.std.proofs.Common.{◌≡◌, ℕ, ◌&&◌, ◌||◌, ◌⊎◌, inl, inr, Bool, true, false, Option, Some}
use Rattle.std.proofs.Common.{None, Result, Ok, Err, is_ok, List, [], ◌∷◌, ◌++◌, refl, sym, ap, ◌∙◌}
use Rattle.std.proofs.Common.{arith, subst, if◌then◌else◌}
use Rattle.std.specs.List.{list_any}
use Rattle.std.proofs.lemmas.Bool.{eq-eqb}
use Rattle.std.proofs.lemmas.Bool.Decides.{nat_tests}
use Rattle.numa_machine.specs.declared.frame.Frame.{Frame}
use Rattle.numa_requests.specs.declared.event.Event.{Event}
use Rattle.numa_requests.specs.declared.event.Event.TheVariants.{Accept, Publish, Begin, Seek, Look}
use Rattle.numa_requests.specs.declared.event.Event.TheVariants.{Try, Give}
use Rattle.numa_requests.specs.declared.event.CoreReply.{CoreReply}
use Rattle.numa_requests.specs.declared.event.CoreReply.TheVariants.{Won, Found}
use Rattle.numa_requests.specs.declared.event.CoreRefusal.{CoreRefusal}
use Rattle.numa_core.specs.World.{Setup, World, owner_of, is_frame}
use Rattle.numa_core.specs.Steps.{refusal_of, reply_of, effect_of, IsAnswer}
use Rattle.numa_core.specs.Executions.{CoreStep, world_of, IsExecution, IsWin, worker_of}
use Rattle.numa_core.specs.Executions.{WinsFrame, gives_back, gives_event}
use Rattle.numa_core.proofs.Answered.{IsNoWin, replied, give_means, one_frame, won_means, is_won}
use Rattle.numa_core.proofs.Answered.{won_by_try, is_found, found_by_try}

-- a frame that the worker has stays with it, but for a Give by the worker
keeps : (s : Setup) (world : World) (w version : ℕ) (frame : Frame) (event : Event)
    → refusal_of s world version event ≡ None → owner_of world frame ≡ Some w
    → gives_event w frame event ≡ false → owner_of (effect_of s world version event) frame ≡ Some w
keeps s world w version frame (Accept command) ok e g = e
keeps s world w version frame Publish ok e g = e
keeps s world w version frame (Begin v request) ok e g = e
keeps s world w version frame (Seek v node) ok e g = e
keeps s world w version frame (Look v word) ok e g = e
keeps s world w version frame (Try v tried) ok e g = go (owner_of world tried) refl
  where
    go : (owner : Option ℕ) → owner_of world tried ≡ owner
        → owner_of (effect_of s world version (Try v tried)) frame ≡ Some w
    go (Some u) is = rw is e
    go None is = rw is (still (is_frame tried frame.node frame.number) refl is)
      where
        still : (b : Bool) → is_frame tried frame.node frame.number ≡ b
            → owner_of world tried ≡ None → (if b then Some v else owner_of world frame) ≡ Some w
        still true same is =
            let at = one_frame tried frame.node frame.number same in
            let here : owner_of world frame ≡ owner_of world tried =
            ap (λ n. world.owner n frame.number) at.0 ∙ ap (λ k. world.owner tried.node k)
            at.1 in
            absurd (let odd : None ≡ Some w = sym is ∙ sym here ∙ e in cc)
        still false same is = e
keeps s world w version frame (Give v given) ok e g = go (is_frame given frame.node frame.number)
    refl
  where
    go : (b : Bool) → is_frame given frame.node frame.number ≡ b
        → (if b then None else owner_of world frame) ≡ Some w
    go true same =
        let at = one_frame given frame.node frame.number same in
        let here : owner_of world frame ≡ owner_of world given =
        ap (λ n. world.owner n frame.number) at.0 ∙ ap (λ k. world.owner given.node k) at.1 in
        let owner : Some v ≡ Some w = sym (give_means s world version v given ok) ∙ sym here ∙ e in
        let one : v ≡ w = cc in
        absurd (let both : true ≡ false =
        sym (ap (λ b. b && is_frame given frame.node frame.number) (eq-eqb v w one) ∙ same)
        ∙ g in cc)
    go false same = e

same_number : (a b : ℕ) → ◌≡◌ {A = Option ℕ} (Some a) (Some b) → a ≡ b
same_number a b e = cc

-- a win is a Try of a frame that nobody owns
pub win_means : (s : Setup) (past : List CoreStep) (w : ℕ) (frame : Frame) (m : CoreStep)
    → IsExecution s (m ∷ past) → IsWin w frame m → (m.event ≡ Try w frame)
    × (owner_of (world_of s past) frame ≡ None)
win_means s past w frame m legal win = go win.wins
  where
    -- a Try of a frame that this reply says was won
    means : (reply : CoreReply) → (IsNoWin reply → ⊥)
        → reply ≡ reply_of s (world_of s past) m.version m.event → m.event ≡ Try w frame
        → (m.event ≡ Try w frame) × (owner_of (world_of s past) frame ≡ None)
    means reply wins is event = (
      event,
      (won_means s (world_of s past) w m.version frame reply wins
          (subst (λ x. reply ≡ reply_of s (world_of s past) m.version x) event is)).2,
    )

    mine : (v : ℕ) (tried : Frame) → m.event ≡ Try v tried → tried ≡ frame → m.event ≡ Try w frame
    mine v tried is same =
        let own : v ≡ w = same_number v w (sym (ap worker_of is) ∙ win.worker) in
        is ∙ ap (λ u. Try u tried) own ∙ ap (λ f. Try w f) same

    go : WinsFrame frame m.answer → (m.event ≡ Try w frame)
        × (owner_of (world_of s past) frame ≡ None)
    go (inl found) =
        let answer = replied s (world_of s past) m.version m.event (Found frame)
        (subst (λ a. IsAnswer s (world_of s past) m.version m.event a) found legal.2) in
        let attempt = found_by_try s (world_of s past) m.version m.event frame answer.1 in
        means (Found frame) (is_found frame) answer.1 (mine attempt.0 frame attempt.1 refl)
    go (inr won) =
        let answer = replied s (world_of s past) m.version m.event (Won won.0)
        (subst (λ a. IsAnswer s (world_of s past) m.version m.event a) won.1 legal.2) in
        let attempt = won_by_try s (world_of s past) m.version m.event won.0 answer.1 in
        means (Won won.0) (is_won won.0) answer.1 (mine attempt.0 won.0.frame attempt.1 won.2)

-- a Try of a free frame makes it the worker's
takes : (s : Setup) (world : World) (w version : ℕ) (frame : Frame) → owner_of world frame ≡ None
    → owner_of (effect_of s world version (Try w frame)) frame ≡ Some w
takes s world w version frame free =
    rw free (rw (eq-eqb frame.node frame.node refl, eq-eqb frame.number frame.number refl) refl)

win_is_ok : (frame : Frame) (answer : Result CoreReply CoreRefusal) → WinsFrame frame answer
    → is_ok answer ≡ true
win_is_ok frame answer (inl found) = ap is_ok found
win_is_ok frame answer (inr won) = ap is_ok won.1

-- after a win the frame is the worker's
pub has_won : (s : Setup) (past : List CoreStep) (w : ℕ) (frame : Frame) (m : CoreStep)
    → IsExecution s (m ∷ past) → IsWin w frame m → owner_of (world_of s (m ∷ past)) frame ≡ Some w
has_won s past w frame m legal win =
    let means = win_means s past w frame m legal win in
    subst (λ b.
    owner_of (if b then effect_of s (world_of s past) m.version m.event else world_of s
    past) frame ≡ Some w) (sym (win_is_ok frame m.answer win.wins))
    (subst (λ x. owner_of (effect_of s (world_of s past) m.version x) frame ≡ Some w) (sym means.0)
    (takes s (world_of s past) w m.version frame means.1))

-- one step more
core_step_keeps : (s : Setup) (past : List CoreStep) (m : CoreStep) (w : ℕ) (frame : Frame)
    → IsExecution s (m ∷ past) → owner_of (world_of s past) frame ≡ Some w
    → gives_back w frame m ≡ false → owner_of (world_of s (m ∷ past)) frame ≡ Some w
core_step_keeps s past m w frame legal e g = go m.answer legal.2 g
  where
    go : (answer : Result CoreReply CoreRefusal) → IsAnswer s (world_of s past) m.version m.event
        answer → (is_ok answer && gives_event w frame m.event) ≡ false
        → owner_of (if is_ok answer then effect_of s (world_of s past) m.version m.event
        else world_of s past) frame ≡ Some w
    go (Ok reply) answer g = keeps s (world_of s past) w m.version frame m.event
        (replied s (world_of s past) m.version m.event reply answer).0 e g
    go (Err refusal) answer g = e

-- what one step changes
further : (s : Setup) (past : List CoreStep) (m : CoreStep) (w : ℕ) (frame : Frame) (gave : Bool)
    → IsExecution s (m ∷ past) → (gave ≡ true) ⊎ (owner_of (world_of s past) frame ≡ Some w)
    → ((gives_back w frame m || gave) ≡ true) ⊎ (owner_of (world_of s (m ∷ past)) frame ≡ Some w)
further s past m w frame gave legal (inl g) = inl (grind (arith, nat_tests))
further s past m w frame gave legal (inr has) = go (gives_back w frame m) refl
  where
    go : (b : Bool) → gives_back w frame m ≡ b → ((b || gave) ≡ true)
        ⊎ (owner_of (world_of s (m ∷ past)) frame ≡ Some w)
    go true g = inl refl
    go false g = inr (core_step_keeps s past m w frame legal has g)

-- either the worker gave the frame back, or it still has it
pub gave_or_has : (s : Setup) (between earlier : List CoreStep) (w : ℕ) (frame : Frame)
    (first : CoreStep) → IsExecution s (between ++ first ∷ earlier) → IsWin w frame first
    → (list_any (gives_back w frame) between ≡ true)
    ⊎ (owner_of (world_of s (between ++ first ∷ earlier)) frame ≡ Some w)
gave_or_has s [] earlier w frame first legal win = inr (has_won s earlier w frame first legal win)
gave_or_has s (m ∷ between) earlier w frame first legal win = further s (between ++ first ∷ earlier)
    m w frame (list_any (gives_back w frame) between) legal
    (gave_or_has s between earlier w frame first legal.0 win)

pub given_back : (s : Setup) (between earlier : List CoreStep) (first second : CoreStep) (v w : ℕ)
    (frame : Frame) → IsExecution s (second ∷ (between ++ first ∷ earlier)) → IsWin v frame first
    → IsWin w frame second → list_any (gives_back v frame) between ≡ true
given_back s between earlier first second v w frame legal old new =
    go (gave_or_has s between earlier v frame first legal.0 old)
  where
    free : owner_of (world_of s (between ++ first ∷ earlier)) frame ≡ None
    free = (win_means s (between ++ first ∷ earlier) w frame second legal new).1

    go : (list_any (gives_back v frame) between ≡ true)
        ⊎ (owner_of (world_of s (between ++ first ∷ earlier)) frame ≡ Some v)
        → list_any (gives_back v frame) between ≡ true
    go (inl g) = g
    go (inr has) = absurd (let odd : None ≡ Some v = sym free ∙ has in cc)
