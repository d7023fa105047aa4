-- How a run over a reader and a writer ends. `remaining` gives the bytes that a reader has left and
-- `contents` those that a writer has taken, where they are known.
use Rattle.std.specs.Prelude.{◌≡◌, ℕ, ◌+◌, ◌⊎◌, true, false, Option, List}
use Rattle.std.specs.Io.KnownBytes.{Consumes, IsAtEnd, Keeps}
use Rattle.numa_lines.specs.Lines.{ended_lines}
use Rattle.numa_lines.specs.Output.{answers, output_of}
use Rattle.numa_lines.specs.Watching.{has_failed, read_count}
use Rattle.numa_lines.specs.Written.{Wrote, WroteFront}
use Rattle.numa_lines.specs.declared.watched.Watched.{Watched}

-- the most reads of a run
abbrev pub most_reads : ℕ
most_reads = 4294967295

module _ {Lack State R W : Type 0} (remaining : R → Option (List ℕ))
    (contents : W → Option (List ℕ))
    (answer_of : Lack → State → List ℕ → List ℕ) (after : Lack → State → List ℕ → State)
    (start : State)
    (input input_then : Watched R) (output output_then : Watched W) where
  -- The script was read to its end, and its output was written. No call failed.
  pub record AnswersAll : Type 0 where
    pub script : List ℕ
    pub refused : ℕ → Lack
    pub read : Consumes (remaining input.inner) (remaining input_then.inner) script
    pub ended : IsAtEnd (remaining input_then.inner)
    pub written : Wrote contents output output_then (output_of answer_of after start refused script)
    pub input_is_sound : has_failed input_then ≡ false
    pub output_is_sound : has_failed output_then ≡ false

  -- A read failed, or one more was needed than a run makes. The answers of the lines that had ended
  -- were written.
  pub record StopsAtRead : Type 0 where
    pub front : List ℕ
    pub refused : ℕ → Lack
    pub read : Consumes (remaining input.inner) (remaining input_then.inner) front
    pub written : Wrote contents output output_then
        (answers answer_of after refused start (ended_lines front))
    pub cause : (has_failed input_then ≡ true)
        ⊎ (read_count input_then ≡ read_count input + most_reads)
    pub output_is_sound : has_failed output_then ≡ false

  -- A write failed. Some first part was written of the answers of the lines that had ended or,
  -- where the script had been read to its end, of its output.
  pub record StopsAtWrite : Type 0 where
    pub front : List ℕ
    pub refused : ℕ → Lack
    pub read : Consumes (remaining input.inner) (remaining input_then.inner) front
    pub written : WroteFront contents output output_then
        (answers answer_of after refused start (ended_lines front))
        ⊎ (IsAtEnd (remaining input_then.inner) × WroteFront contents output output_then
        (output_of answer_of after start refused front))
    pub input_is_sound : has_failed input_then ≡ false
    pub output_failed : has_failed output_then ≡ true

-- Nothing was read or written.
pub record NeverBegins {R W : Type 0} (remaining : R → Option (List ℕ))
    (contents : W → Option (List ℕ)) (input input_then : Watched R)
    (output output_then : Watched W) : Type 0 where
  pub unread : Keeps (remaining input.inner) (remaining input_then.inner)
  pub unwritten : Keeps (contents output.inner) (contents output_then.inner)
  pub same_input : has_failed input_then ≡ has_failed input
  pub same_output : has_failed output_then ≡ has_failed output
