-- What is left to do for workers whose seats each go through an agenda.
use Rattle.std.proofs.Common.{◌≡◌, ◌≢◌, ◌⊎◌, ℕ, ◌<◌, ◌≤◌, List, [], ◌∷◌, ◌++◌, zero, suc}
use Rattle.std.proofs.Common.{length, Bool, inl, inr, refl, sym, ap, subst}
use Rattle.std.proofs.Common.{arith, Option, Some, None}
use Rattle.std.proofs.Common.{eq-eqb, ne_eqb, if◌then◌else◌, ⊎_elim}
use Rattle.std.specs.Prelude.{slice_index}
use mathlib.Core.Option.{some}
use lib.ListN.{get_elem?}
use Rattle.numa_requests.specs.declared.command.Command.{Command}
use Rattle.numa_requests.specs.declared.placement.Placement.{Placement}
use Rattle.numa_requests.specs.declared.event.Event.{Event}
use Rattle.numa_requests.specs.declared.event.Event.TheVariants.{Try}
use Rattle.numa_requests.specs.declared.event.CoreReply.{CoreReply}
use Rattle.numa_core.specs.World.{Setup, World, Worker, FrameSearch, frame_search_of, last_of}
use Rattle.numa_core.specs.World.{owner_of}
use Rattle.numa_core.specs.Steps.{answer_of, effect_of}
use Rattle.numa_core.specs.Steps.{world_after}
use Rattle.numa_core.specs.Steps.{put}
use Rattle.numa_core.specs.Executions.{CoreStep, world_of}
use Rattle.numa_pool.specs.declared.view.Entry.{Entry}
use Rattle.numa_pool.specs.declared.view.Entry.TheVariants.{Load, Won, Lost, Gave}
use Rattle.numa_refinement.specs.Agendas.{Errand, IsAmong, IsDue, AreDue, Ends}
use Rattle.numa_refinement.specs.Agendas.{IsAnswered}
use Rattle.numa_refinement.specs.WalkSteps.{IsCoreStep, event_of}
use Rattle.numa_refinement.specs.Moves.{PoolState}
use Rattle.numa_refinement.specs.Plays.{Done}
use Rattle.numa_refinement.specs.Plays.{IsPlay, execution_of, since_of, pools_of}

pub at_place : {A : Type 0} (l : List A) (i : ℕ) → i < length l → (a : A) × (get_elem? l i ≡ some a)
at_place [] i inside = absurd (omega arith)
at_place (x ∷ xs) zero inside = (x, refl)
at_place (x ∷ xs) (suc i) inside = at_place xs i (omega arith)

pub from_end : (es : List Entry) → (es ≡ [])
    ⊎ ((r : List Entry) × (d : Entry) × (es ≡ r ++ d ∷ []))
from_end [] = inl refl
from_end (e ∷ es) = inr (⊎_elim
    (λ none. ([], e, ap (λ xs. e ∷ xs) none))
    (λ more. (e ∷ more.0, more.1, ap (λ xs. e ∷ xs) more.2))
    (from_end es))

-- what seats do leaves commands and publications as they are
abbrev pub Publics : World → List Command × List ℕ
Publics world = (world.history, world.published)

pub publics_stay : (s : Setup) (world : World) (id : ℕ) (e : Entry)
    → Publics (effect_of s world 0 (event_of id e)) ≡ Publics world
publics_stay s world id (Load n w x) = refl
publics_stay s world id (Gave f) = refl
publics_stay s world id (Won f) = go (owner_of world f) refl
  where
    go : (o : Option ℕ) → owner_of world f ≡ o → Publics (effect_of s world 0 (Try id f))
        ≡ Publics world
    go (Some u) is = rw is refl
    go None is = rw is refl
publics_stay s world id (Lost f) = go (owner_of world f) refl
  where
    go : (o : Option ℕ) → owner_of world f ≡ o → Publics (effect_of s world 0 (Try id f))
        ≡ Publics world
    go (Some u) is = rw is refl
    go None is = rw is refl

pub leads_to : (s : Setup) (world : World) (version : ℕ) (event : Event) (reply : CoreReply)
    → IsCoreStep s world version event reply
    → world_after s world version event (answer_of s world version event)
    ≡ effect_of s world version event
leads_to s world version event reply m = ap (world_after s world version event) m.1

pub put_here : {X : Type 0} (f : ℕ → X) (w : ℕ) (x : X) → put f w x w ≡ x
put_here f w x = ap (λ (b : Bool). if b then x else f w) (eq-eqb w w refl)

pub put_else : {X : Type 0} (f : ℕ → X) (w v : ℕ) (x : X) → w ≢ v → put f w x v ≡ f v
put_else f w v x apart = ap (λ (b : Bool). if b then x else f v) (ne_eqb w v apart)

abbrev pub searching_for : Errand → (ℕ → ℕ → Bool) → FrameSearch
searching_for x seen =
    record { request = Some x.request; version = x.version; nodes = x.nodes; met = seen }

later_end : (past : List CoreStep) (m : CoreStep) (j version : ℕ) (o : Option Placement)
    → Ends past j version o → Ends (m ∷ past) j version o
later_end past m j version None h = inr h
later_end past m j version (Some p) h = inr h

module _ (s : Setup) (few : (n : ℕ) → slice_index s.machine.frames n ≤ 4096)
    (some_worker : 0 < s.workers) (first : PoolState) (count : ℕ) (published : List ℕ)
    (history : List Command) (agenda : ℕ → List Errand) where
  -- these deeds left the pools these words
  pub record Base (done : List Done) (words : List ℕ) : Type 0 where
    pub play : IsPlay s first done
    pub words_are : (pools_of s first done).words ≡ words
    pub seats : length (pools_of s first done).views ≡ count
    pub publics : Publics (world_of s (execution_of s done)) ≡ (history, published)

  -- a worker is amid a search, and then has these to do
  pub record IsBusy
      (worker : Worker) (since : List Entry) (x : Errand) (todo : List Errand)
      (steps : List Entry) : Type 0 where
    pub rest : List Entry
    pub next : Entry
    pub newer : List Entry
    pub steps_are : steps ≡ newer ++ (rest ++ next ∷ [])
    pub its_steps : x.steps ≡ rest ++ next ∷ since
    pub due : IsDue s published history x
    pub seen : ℕ → ℕ → Bool
    pub busy : worker.frame_search ≡ Some (searching_for x seen)
    pub last : worker.last ≡ x.version
    pub others : AreDue s published history x.version todo newer

  abbrev pub BusyWith : Worker → List Entry → List Errand → List Entry → Type 0
  BusyWith worker since [] steps = ⊥
  BusyWith worker since (x ∷ todo) steps = IsBusy worker since x todo steps

  abbrev pub IsIdle : Worker → List Errand → List Entry → Type 0
  IsIdle worker left steps = (worker.frame_search ≡ None)
      × AreDue s published history worker.last left steps

  -- what is left for a worker, whose seat will make these steps; the others were answered
  pub record State
      (past : List CoreStep) (worker : Worker) (since : List Entry) (j : ℕ)
      (steps : List Entry) : Type 0 where
    pub left : List Errand
    pub stage : IsIdle worker left steps ⊎ BusyWith worker since left steps
    pub answered : (x : Errand) → IsAmong x (agenda j) → IsAmong x left ⊎ IsAnswered past j x

  abbrev pub At : List Done → ℕ → List Entry → Type 0
  At done j steps =
      State (execution_of s done) ((world_of s (execution_of s done)).worker j) (since_of s done j)
      j steps

  pub later_answer : (past : List CoreStep) (m : CoreStep) (j : ℕ) (x : Errand)
      → IsAnswered past j x
      → IsAnswered (m ∷ past) j x
  later_answer past m j x h = later_end past m j x.version x.placement h

  pub moved : (past : List CoreStep) (m : CoreStep) (worker now : Worker) (since later : List Entry)
      (j : ℕ) (steps : List Entry) → now ≡ worker → later ≡ since
      → State past worker since j steps → State (m ∷ past) now later j steps
  moved past m worker now since later j steps same_worker same_since st =
      subst (λ (q : Worker × List Entry). State (m ∷ past) q.0 q.1 j steps)
      (λ c. (sym same_worker c, sym same_since c)) record {
        left = st.left;
        stage = st.stage;
        answered = λ x among.
            ⊎_elim (λ h. inl h) (λ h. inr (later_answer past m j x h)) (st.answered x among);
      }

  -- worker id is amid a search of which this step comes next, and then has these to make
  pub record Going
      (done : List Done) (words : List ℕ) (id : ℕ) (later : List Entry) (e : Entry) : Type 0 where
    pub base : Base done words
    pub x : Errand
    pub todo : List Errand
    pub rest : List Entry
    pub newer : List Entry
    pub later_is : later ≡ newer ++ rest
    pub its_steps : x.steps ≡ rest ++ e ∷ since_of s done id
    pub due : IsDue s published history x
    pub seen : ℕ → ℕ → Bool
    pub busy : frame_search_of (world_of s (execution_of s done)) id ≡ Some (searching_for x seen)
    pub last : last_of (world_of s (execution_of s done)) id ≡ x.version
    pub others : AreDue s published history x.version todo newer
    pub answered : (y : Errand) → IsAmong y (agenda id)
        → IsAmong y (x ∷ todo) ⊎ IsAnswered (execution_of s done) id y
