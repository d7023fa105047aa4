-- What a run has come to after the lines that it was given.
use Rattle.std.specs.Prelude.{◌≡◌, ℕ, false, true, Option, List, [], ◌∷◌, length}
use Rattle.std.specs.Prelude.{Result, Ok, Err}
use Prim.Native.Nat.{suc, zero}
use Rattle.numa_lines.specs.Output.{answers, state_after}
use Rattle.numa_lines.specs.Watching.{has_failed, held_in}
use Rattle.numa_lines.specs.Written.{Said}
use Rattle.numa_lines.specs.declared.fault.RunFault.{RunFault}
use Rattle.numa_lines.specs.declared.fault.RunFault.TheVariants.{Write}
use Rattle.numa_lines.specs.declared.watched.Watched.{Watched}

-- what memory lacked for at each line, where each of the lines so far has a flag; for nothing at
-- those to come
abbrev pub among : {Lack : Type 0} → Lack → List Lack → ℕ → Lack
among plenty [] k = plenty
among plenty (flag ∷ flags) zero = flag
among plenty (flag ∷ flags) (suc k) = among plenty flags k

-- Their answers were said since the writer was `from`, for some lack of memory, and a server that
-- meets `stands` stands for the state after them.
pub record Progress {Lack State W : Type 0} (contents : W → Option (List ℕ)) (plenty : Lack)
    (answer_of : Lack → State → List ℕ → List ℕ) (after : Lack → State → List ℕ → State)
    (start : State) (stands : State → Type 0) (from now : Watched W) (lines : List (List ℕ))
    : Type 0 where
  pub flags : List Lack
  pub count : length flags ≡ length lines
  pub says : Said contents from now (answers answer_of after (among plenty flags) start lines)
  pub reached : stands (state_after answer_of after (among plenty flags) start lines)

-- all was handed to the writer, and no call on it has failed; or one has
abbrev pub IsHanded : {W : Type 0} → Result (Unit {0}) RunFault → Watched W → Type 0
IsHanded (Ok _) output = (has_failed output ≡ false) × (held_in output ≡ [])
IsHanded (Err why) output = (why ≡ Write) × (has_failed output ≡ true)
