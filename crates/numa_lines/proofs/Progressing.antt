-- How a run goes on line by line.
use Rattle.std.specs.Prelude.{◌≡◌, ℕ, ◌+◌, ◌++◌, true, false, Option, List, [], ◌∷◌, map}
use Rattle.std.specs.Prelude.{refl, Result, Ok, Err, IfErr, OnOk, OnErr}
use Rattle.std.proofs.Common.{sym, ◌∙◌, ap, subst, length-append}
use Rattle.numa_lines.specs.Lines.{ended_lines, open_line, given_part}
use Rattle.numa_lines.specs.Output.{answers, state_after}
use Rattle.numa_lines.specs.Progress.{IsHanded, Progress, among}
use Rattle.numa_lines.specs.Watching.{has_failed, held_in}
use Rattle.numa_lines.specs.Written.{Said, SaidNothing}
use Rattle.numa_lines.specs.declared.fault.RunFault.{RunFault}
use Rattle.numa_lines.specs.declared.fault.RunFault.TheVariants.{Write}
use Rattle.numa_lines.specs.declared.watched.Watched.{Watched}
use Rattle.numa_lines.proofs.Adding.{said_both, said_nothing, said_still}
use Rattle.numa_lines.proofs.Answering.{answers_more, state_more}
use Rattle.numa_lines.proofs.Cuts.{given_none, open_none}

module _ {Lack State W : Type 0} (contents : W → Option (List ℕ)) (plenty : Lack)
    (answer_of : Lack → State → List ℕ → List ℕ) (after : Lack → State → List ℕ → State)
    (start : State) where
  -- no line was taken yet
  pub progress_new : (stands : State → Type 0) (from now : Watched W)
      → SaidNothing contents from now → stands start
      → Progress contents plenty answer_of after start stands from now []
  unfolding answers state_after
  progress_new stands from now still ready = record {
    flags = [];
    count = refl;
    says = said_still contents from from now [] (said_nothing contents from) still;
    reached = ready;
  }

  -- one more line is answered
  pub progress_line : (stands later : State → Type 0) (from now then : Watched W)
      (lines : List (List ℕ)) (line : List ℕ)
      → ((state : State) → stands state → (refused : Lack) × later (after refused state line)
      × Said contents now then (answer_of refused state line))
      → Progress contents plenty answer_of after start stands from now lines
      → Progress contents plenty answer_of after start later from then (lines ++ line ∷ [])
  progress_line stands later from now then lines line serves so_far =
      let told : List ℕ = answers answer_of after (among plenty so_far.flags) start lines in
      let state : State = state_after answer_of after (among plenty so_far.flags) start lines in
      let served = serves state so_far.reached in
      let flag : Lack = served.0 in
      let flags : List Lack = so_far.flags ++ flag ∷ [] in
      record {
        flags = flags;
        count = length-append so_far.flags (flag ∷ []) ∙ ap (λ n. n + 1) so_far.count
            ∙ sym (length-append lines (line ∷ []));
        says = subst (Said contents from then)
            (sym (answers_more plenty answer_of after so_far.flags flag start lines line
            so_far.count))
            (said_both contents from now then told (answer_of flag state line) so_far.says
            served.2);
        reached = subst later
            (sym (state_more plenty answer_of after so_far.flags flag start lines line
            so_far.count))
            served.1;
      }

  -- what is held back is handed over
  pub progress_handed : (stands : State → Type 0) (from now then : Watched W)
      (lines : List (List ℕ)) → SaidNothing contents now then
      → Progress contents plenty answer_of after start stands from now lines
      → Progress contents plenty answer_of after start stands from then lines
  progress_handed stands from now then lines still so_far = record {
    flags = so_far.flags;
    count = so_far.count;
    says = said_still contents from now then _ so_far.says still;
    reached = so_far.reached;
  }

-- no byte was taken yet
pub progress_starts : {Lack State W : Type 0} (contents : W → Option (List ℕ)) (plenty : Lack)
    (answer_of : Lack → State → List ℕ → List ℕ) (after : Lack → State → List ℕ → State)
    (stands : State → Type 0) (from now : Watched W) (line : List ℕ)
    → SaidNothing contents from now → line ≡ []
    → ((start : State) → stands start
    → Progress contents plenty answer_of after start stands from now
    (map given_part (ended_lines []))) × (line ≡ given_part (open_line []))
progress_starts contents plenty answer_of after stands from now line still empty = (
  λ start ready.
      subst (Progress contents plenty answer_of after start stands from now) (sym given_none)
      (progress_new contents plenty answer_of after start stands from now still ready),
  empty ∙ open_none,
)

pub is_handed : {W : Type 0} (result : Result (Unit {0}) RunFault) (output : Watched W)
    → OnOk result (has_failed output ≡ false) → held_in output ≡ []
    → OnErr result (has_failed output ≡ true) → IfErr result (λ why. why ≡ Write)
    → IsHanded result output
is_handed (Ok done) output well empty failed fault = (well, empty)
is_handed (Err why) output well empty failed fault = (fault, failed)
