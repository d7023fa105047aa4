-- What questions are answered, by all accepted commands, published or not. `starved` says
-- whether memory lacked while the question was served; where it can lack, that comes before every
-- other refusal.
use Rattle.std.specs.Prelude.{ℕ, Bool, not, Option, Some, None, List, codes, length, map}
use Rattle.std.specs.Prelude.{if◌then◌else◌}
use Rattle.std.specs.List.{range_with_len}
use Rattle.numa_machine.specs.Machine.{Hardware}
use Rattle.numa_ranges.specs.Maps.{any_page}
use Rattle.numa_space.specs.History.{page_of}
use Rattle.numa_space.specs.Lists.{node_list}
use Rattle.numa_space.specs.Pages.{is_mapped}
use Rattle.numa_space.specs.Refusals.{range_count_of}
use Rattle.numa_space.specs.Standing.{place_refusal_in, place_refusal_of}
use Rattle.numa_requests.specs.declared.command.Command.{Command}
use Rattle.numa_machine.specs.declared.refusal.PlaceRefusal.{PlaceRefusal}
use Rattle.numa_compile.specs.Spans.{first_node, meant_count}
use Rattle.numa_script.specs.declared.line.Question.{Question}
use Rattle.numa_script.specs.declared.line.Question.TheVariants.{Place, Span, Counts, Ranges}
use Rattle.numa_script.specs.Names.{place_name}
use Rattle.numa_script.specs.Texts.{counts_answer, nodes_answer, ranges_answer, refused_text}

-- ---- refusals

-- the answer, where nothing refuses the question
abbrev pub unless_refused : Option PlaceRefusal → List ℕ → List ℕ
unless_refused None answer = answer
unless_refused (Some cause) answer = refused_text (place_name cause)

-- the answer, where memory was to be had
abbrev pub unless_starved : Bool → List ℕ → List ℕ
unless_starved starved answer = if starved then refused_text (codes "NoMemory") else answer

-- ---- spans

-- the first cause that refuses the pages from `first` on: the machine lacks the faulting node, or a
-- page isn't mapped
abbrev pub span_refusal_of : Hardware → List Command → ℕ → ℕ → ℕ → Option PlaceRefusal
span_refusal_of machine history first pages cpu =
    place_refusal_in machine.nodes
    (not (any_page (λ page. not (is_mapped history page)) first pages)) cpu

-- the first node of each page's list, page by page
abbrev pub first_nodes : Hardware → List Command → ℕ → ℕ → ℕ → ℕ → List ℕ
first_nodes machine history task first pages cpu =
    map (λ page. first_node machine history task page cpu) (range_with_len first pages)

-- ---- questions

-- place TASK ADDR CPU
abbrev pub place_text : Hardware → List Command → ℕ → ℕ → ℕ → List ℕ
place_text machine history task page cpu =
    unless_refused (place_refusal_of machine history page cpu)
    (nodes_answer (length history) (node_list machine history task page cpu))

-- span TASK ADDR PAGES CPU
abbrev pub span_text : Hardware → List Command → ℕ → ℕ → ℕ → ℕ → List ℕ
span_text machine history task first pages cpu =
    unless_refused (span_refusal_of machine history first pages cpu)
    (nodes_answer (length history) (first_nodes machine history task first pages cpu))

-- counts TASK ADDR PAGES CPU
abbrev pub count_text : Hardware → List Command → ℕ → ℕ → ℕ → ℕ → List ℕ
count_text machine history task first pages cpu =
    unless_refused (span_refusal_of machine history first pages cpu)
    (counts_answer (length history) (meant_count machine history task first pages cpu))

-- ranges, for which no memory is wanted
abbrev pub ranges_text : Hardware → List Command → List ℕ
ranges_text machine history = ranges_answer (range_count_of machine history)

abbrev pub question_text : Bool → Hardware → List Command → Question → List ℕ
question_text starved machine history (Place task address cpu) =
    unless_starved starved (place_text machine history task (page_of address) cpu)
question_text starved machine history (Span task address pages cpu) =
    unless_starved starved (span_text machine history task (page_of address) pages cpu)
question_text starved machine history (Counts task address pages cpu) =
    unless_starved starved (count_text machine history task (page_of address) pages cpu)
question_text starved machine history Ranges = ranges_text machine history
