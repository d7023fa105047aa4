-- A trace, one step later.
use Rattle.std.proofs.Common.{◌≡◌, ◌∙◌, ℕ, Option, Some, None, List, [], ◌∷◌, ◌++◌, refl, ap}
use Rattle.std.proofs.Common.{Result, Ok, Err, IfErr}
use Rattle.std.specs.Prelude.{if◌then◌else◌}
use Rattle.numa_plan.specs.Meaning.{PlanData}
use Rattle.numa_traces.specs.Accesses.{access_of, mark_of}
use Rattle.numa_traces.specs.Phases.{Closes, IsTrace, Marked, Step, Touches}
use Rattle.numa_traces.specs.PlanReading.{said_for, step_by, step_of, touch_of}
use Rattle.numa_traces.specs.Placing.{Frames, node_of}
use Rattle.numa_traces.specs.Replaying.{IsNext, Replayed, frames_with_access, is_first, route_from}
use Rattle.numa_traces.specs.Resting.{found, laid, laid_by}
use Rattle.numa_traces.specs.Tallies.{Tallied, is_route, tally_at, with_accesses}
use Rattle.numa_traces.specs.declared.access.Access.{Access}
use Rattle.numa_traces.specs.declared.fault.ReplayError.{ReplayError}

pub if-err : {A E : Type 0} {P Q : E → Type 0} (result : Result A E) → ((why : E) → P why → Q why)
    → IfErr result P → IfErr result Q
if-err (Ok value) from p = tt
if-err (Err why) from p = from why p

-- ---- where pages lie

-- a page that lies nowhere before the trace is as the trace has it
pub laid-none : (at : Option ℕ) (frames : Frames) (page : ℕ) → laid_by at frames page None ≡ frames
laid-none None frames page = refl
laid-none (Some node) frames page = refl

pub found-none : (there : ℕ → Option ℕ) (met : Replayed) (page : ℕ) → there page ≡ None
    → found there met page ≡ met
found-none there met page none =
    let same : laid there met.frames page ≡ met.frames =
    ap (λ (lies : Option ℕ). laid_by (node_of met.frames.pages page) met.frames page lies) none
    ∙ laid-none (node_of met.frames.pages page) met.frames page in
    λ i. record { frames = same i; tallies = met.tallies }

pub found-lies : (there : ℕ → Option ℕ) (met : Replayed) (page node : ℕ) → there page ≡ Some node
    → found there met page ≡ record {
      frames = laid_by (node_of met.frames.pages page) met.frames page (Some node);
      tallies = met.tallies;
    }
found-lies there met page node lies = λ i. record {
  frames = laid_by (node_of met.frames.pages page) met.frames page (lies i);
  tallies = met.tallies;
}

-- ---- a line

pub marked-line : (own : Option ℕ) (line text : List ℕ) → Some text ≡ mark_of line
    → Ok (Some (Closes text)) ≡ step_of own line
marked-line own line text says = ap (λ (mark : Option (List ℕ)). step_by mark own line) says

pub other-line : (own : Option ℕ) (line : List ℕ) (said : Result (Option Access) ReplayError)
    → None ≡ mark_of line → said ≡ said_for own (access_of line) → touch_of said ≡ step_of own line
other-line own line said none says =
    ap touch_of says ∙ ap (λ (mark : Option (List ℕ)). step_by mark own line) none

module _ (plan : PlanData) (there : ℕ → Option ℕ) (start : Frames) (steps : List (Step Access))
  where
    -- an access more
    pub touched : (access : Access) (old new : Replayed) (marks : List Marked)
        → IsNext plan access (found there old access.page) new
        → IsTrace plan there start steps old marks
        → IsTrace plan there start (Touches access ∷ steps) new marks
    touched access old new marks next was = record {
      frames = next.frames
          ∙ (λ i. frames_with_access plan (laid there (was.frames i) access.page) access);
      tallies = λ route. next.tallies route
          ∙ (λ i. if is_route
          (route_from plan (laid there (was.frames i) access.page) access) route
          then with_accesses (was.tallies route i) access.count
          (is_first (laid there (was.frames i) access.page) access)
          else was.tallies route i);
      closes = was.closes;
    }

    -- a mark more
    pub closed : (text : List ℕ) (met : Replayed) (marks new : List Marked) (tallies : Tallied)
        → tallies ≡ met.tallies
        → new ≡ marks ++ (record { text = text; tallies = tallies } ∷ [])
        → IsTrace plan there start steps met marks
        → IsTrace plan there start (Closes text ∷ steps) met new
    closed text met marks new tallies same more was = record {
      frames = was.frames;
      tallies = was.tallies;
      closes = (
        marks,
        record { text = text; tallies = tallies },
        more,
        record {
          says = refl;
          tallies = λ route. ap (λ (t : Tallied). tally_at t route) same ∙ was.tallies route;
        },
        was.closes,
      );
    }
