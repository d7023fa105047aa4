-- Which lines are answered by a fault or a refusal. `lack` says what a line lacked while it was
-- served.
use Rattle.std.specs.Prelude.{ℕ, Bool, Option, Some, None, List, length, IsSomeAnd, if◌then◌else◌}
use Rattle.std.specs.Option.{option_map}
use Rattle.numa_machine.specs.Machine.{Hardware}
use Rattle.numa_space.specs.History.{page_of}
use Rattle.numa_space.specs.Standing.{place_refusal_of}
use Rattle.numa_requests.specs.declared.command.Command.{Command}
use Rattle.numa_machine.specs.declared.refusal.PlaceRefusal.{PlaceRefusal}
use Rattle.numa_machine.specs.declared.refusal.PlaceRefusal.TheVariants as place
use Rattle.numa_requests.specs.declared.event.CoreRefusal.{CoreRefusal}
use Rattle.numa_requests.specs.declared.event.CoreRefusal.TheVariants as core
use Rattle.numa_page_state.specs.Outcomes.{Lack, is_starved}
use Rattle.numa_script.specs.Replies.{LacksMemory, fault_in}
use Rattle.numa_script.specs.declared.line.Line.{Line}
use Rattle.numa_script.specs.declared.line.Line.TheVariants as line
use Rattle.numa_script.specs.declared.line.Question.{Question}
use Rattle.numa_script.specs.declared.line.Question.TheVariants as question
use Rattle.numa_run.specs.Answers.{State, reply_of}
use Rattle.numa_run.specs.Questions.{span_refusal_of}
use Rattle.numa_script.specs.declared.reply.Reply.{Reply}
use Rattle.numa_script.specs.declared.reply.Reply.TheVariants as reply

-- ---- questions

-- the first cause that refuses a question, lack of memory apart
abbrev pub question_refusal : Hardware → List Command → Question → Option PlaceRefusal
question_refusal machine history (question.Place task address cpu) =
    place_refusal_of machine history (page_of address) cpu
question_refusal machine history (question.Span task address pages cpu) =
    span_refusal_of machine history (page_of address) pages cpu
question_refusal machine history (question.Counts task address pages cpu) =
    span_refusal_of machine history (page_of address) pages cpu
question_refusal machine history question.Ranges = None

-- as a cause of the core, at a version
abbrev pub cause_at : ℕ → PlaceRefusal → CoreRefusal
cause_at version place.BadCpu = core.BadCpu
cause_at version place.Unmapped = core.Unmapped version

abbrev pub unless_wanting_memory : Bool → Option CoreRefusal → Option CoreRefusal
unless_wanting_memory starved cause = if starved then Some core.NoMemory else cause

-- the first cause of all; only `ranges` wants no memory
abbrev pub question_cause : Bool → Hardware → List Command → Question → Option CoreRefusal
question_cause starved machine history (question.Place task address cpu) =
    unless_wanting_memory starved
    (option_map (cause_at (length history))
    (question_refusal machine history (question.Place task address cpu)))
question_cause starved machine history (question.Span task address pages cpu) =
    unless_wanting_memory starved
    (option_map (cause_at (length history))
    (question_refusal machine history (question.Span task address pages cpu)))
question_cause starved machine history (question.Counts task address pages cpu) =
    unless_wanting_memory starved
    (option_map (cause_at (length history))
    (question_refusal machine history (question.Counts task address pages cpu)))
question_cause starved machine history question.Ranges = None

-- ---- lines

abbrev pub asked_by : Option Hardware → Lack → List Command → Question → Option Reply
asked_by None lack history asked = None
asked_by (Some machine) lack history asked =
    option_map reply.Refused (question_cause (is_starved lack) machine history asked)

-- the refusal of a question to a machine that is ready
abbrev pub asked_fault : Lack → State → Line → Option Reply
asked_fault lack state (line.Question asked) =
    asked_by state.machine lack state.world.history asked
asked_fault lack state line.Silent = None
asked_fault lack state line.Malformed = None
asked_fault lack state (line.Limits ranges tasks commands) = None
asked_fault lack state (line.Rules rules) = None
asked_fault lack state (line.Cpus said) = None
asked_fault lack state (line.Machine said) = None
asked_fault lack state (line.Command said) = None
asked_fault lack state (line.EmptyBind start fault) = None
asked_fault lack state (line.Maps task) = None
asked_fault lack state (line.Work said) = None
asked_fault lack state (line.Pages said) = None
asked_fault lack state (line.Bind start bytes policy pages) = None
asked_fault lack state (line.Huge said) = None
asked_fault lack state line.Host = None
asked_fault lack state (line.HostCommand said) = None

abbrev pub fault_or : Option Reply → Option Reply → Option Reply
fault_or (Some told) asked = fault_in told
fault_or None asked = asked

-- the fault or the refusal that a line is answered; none where its answer is neither
abbrev pub fault_of : Lack → State → Line → Option Reply
fault_of lack state said =
    fault_or (reply_of lack state said) (asked_fault lack state said)

-- ---- lack of memory

-- a line is answered that there was no memory for it
abbrev pub IsStarved : Lack → State → Line → Type 0
IsStarved lack state said = IsSomeAnd (fault_of lack state said) LacksMemory
