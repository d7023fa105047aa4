-- Answers, and what serving a line comes to.
use Rattle.std.specs.Prelude.{ℕ, Option, Some, None, List}
use Rattle.numa_script.specs.Texts.{text_of}
use Rattle.numa_script.specs.declared.reply.Reply.{Reply}
use Rattle.numa_run.specs.States.{State}
use Rattle.numa_run.specs.Work.{Outcome}

-- an answer: a reply, or the text that a question, `maps`, `moved`, `populate` or `room` alone is
-- answered
pub data Answer : Type 0 where
  Replied : Reply → Answer
  Shown : List ℕ → Answer

-- the bytes of an answer, and its reply, where it is one
abbrev pub bytes_of : Answer → List ℕ
bytes_of (Replied answer) = text_of answer
bytes_of (Shown text) = text

abbrev pub reply_in : Answer → Option Reply
reply_in (Replied answer) = Some answer
reply_in (Shown text) = None

-- what serving a line comes to: the answer, and the state after it
pub record Served : Type 0 where
  pub answer : Answer
  pub state : State

-- an answer that changes nothing
abbrev pub with_reply : Reply → State → Served
with_reply answer state = record { answer = Replied answer; state = state }

abbrev pub with_text : List ℕ → State → Served
with_text text state = record { answer = Shown text; state = state }

abbrev pub with_outcome : State → Outcome → Served
with_outcome state outcome =
    with_reply outcome.reply (record state { world = outcome.world; resident = outcome.resident })
