-- Worked lines: what the definitions answer, and which state they lead to.
use Rattle.std.proofs.Common.{◌≡◌, true, false, [], ◌∷◌, None, Some, codes, refl}
use Rattle.std.specs.Prelude.{◌==◌, ◌&&◌, if◌then◌else◌}
use Rattle.std.specs.Fmt.{digits}
use Rattle.numa_machine.specs.declared.fallback.Fallback.TheVariants.{Nearest, Kernel}
use Rattle.numa_machine.specs.declared.rules.Rules.TheVariants.{Document, Linux}
use Rattle.numa_mask.specs.Lists.{item_of, ends_of, digit_of, numeral_of as node_numeral_of}
use Rattle.numa_mask.specs.NodeSet.{members}
use Rattle.numa_machine.specs.Machine.{Hardware, fallback_order}
use Rattle.numa_machine.specs.Faults.{machine_fault, has_bad_memory, has_bad_distance}
use Rattle.numa_machine.specs.Faults.{has_bad_frames}
use Rattle.numa_machine.specs.declared.page_size.PageSize.TheVariants.{Small}
use Rattle.numa_mode.specs.declared.modes.Mode.TheVariants.{Bind}
use Rattle.numa_mode.specs.declared.modes.NodeFlag.TheVariants.{Plain}
use Rattle.numa_ranges.specs.Counts.{count_pages}
use Rattle.numa_ranges.specs.Maps.{any_page}
use Rattle.numa_requests.specs.declared.command.Command.TheVariants.{Map, Mbind}
use Rattle.numa_core.specs.World.{World, opening, list_at}
use Rattle.numa_core.specs.Touching.{result_of_touch}
use Rattle.numa_requests.specs.declared.placement.Placement.{Placement}
use Rattle.numa_maps.specs.Listing.{nodes_text as counts_text}
use Rattle.numa_script.specs.Lines.{line_of, keyword_of}
use Rattle.numa_script.specs.Machines.{distances_of}
use Rattle.numa_script.specs.Numbers.{number_of, numeral_of, in_64_bits}
use Rattle.numa_script.specs.Policies.{policy_of, mode_of, form_of_two, form_of_three}
use Rattle.numa_page_state.specs.Lying.{nothing}
use Rattle.numa_page_state.specs.Outcomes.{Enough, Starved}
use Rattle.numa_run.specs.Answers.{State, start, start_by, answer_to, after_bytes}
use Rattle.numa_run.specs.MovedTexts.{flows_text}
use Rattle.numa_run.specs.Replies.{outcome_of}
use Rattle.numa_run.specs.States.{usual_bounds}
use Rattle.numa_script.specs.Texts.{text_of}

-- ---- before a machine is ready

question-before_a_machine : answer_to Enough start (codes "place 1 0 0")
    ≡ codes "bad state\n"
unfolding line_of keyword_of number_of numeral_of in_64_bits outcome_of text_of
question-before_a_machine = refl

two-words_for_a_map : answer_to Enough start (codes "map 0x10000 0x1000")
    ≡ codes "bad words\n"
unfolding line_of keyword_of number_of numeral_of in_64_bits outcome_of text_of
two-words_for_a_map = refl

too-many_ranges : answer_to Enough start (codes "limits 65537 1 1") ≡ codes "bad limits\n"
unfolding line_of keyword_of number_of numeral_of in_64_bits outcome_of text_of
too-many_ranges = refl

list-before_the_machine : answer_to Enough start (codes "machine 0 3-1 1 flat")
    ≡ codes "bad list BackRange\n"
unfolding line_of keyword_of number_of numeral_of in_64_bits distances_of item_of ends_of
    node_numeral_of digit_of outcome_of text_of
list-before_the_machine = refl

no-nodes : answer_to Starved start (codes "machine 0 0 1 flat")
    ≡ codes "bad machine NodeCount\n"
unfolding line_of keyword_of number_of numeral_of in_64_bits distances_of members item_of ends_of
    node_numeral_of digit_of outcome_of text_of
no-nodes = refl

two-nodes : answer_to Enough start (codes "machine 2 0-1 8 flat") ≡ codes "ready\n"
unfolding line_of keyword_of number_of numeral_of in_64_bits distances_of machine_fault
    has_bad_memory has_bad_distance has_bad_frames members item_of ends_of node_numeral_of digit_of
    outcome_of text_of
two-nodes = refl

two-nodes_without_memory : answer_to Starved start (codes "machine 2 0-1 8 flat")
    ≡ codes "bad machine NoMemory\n"
unfolding line_of keyword_of number_of numeral_of in_64_bits distances_of members item_of ends_of
    node_numeral_of digit_of outcome_of text_of
two-nodes_without_memory = refl

rules-of_the_kernel : (after_bytes Enough start (codes "rules linux")).rules ≡ Linux
unfolding line_of keyword_of outcome_of
rules-of_the_kernel = refl

rules-are_taken : answer_to Enough start (codes "rules linux") ≡ codes "rules ok\n"
unfolding line_of keyword_of outcome_of text_of
rules-are_taken = refl

cpus-are_taken : answer_to Enough start (codes "cpus 0") ≡ codes "cpus ok\n"
unfolding line_of keyword_of item_of ends_of node_numeral_of digit_of outcome_of text_of
cpus-are_taken = refl

-- the last line counts
cpus-of_two_lines :
    (after_bytes Enough (after_bytes Enough start (codes "cpus 0")) (codes "cpus 0-1")).cpus
    ≡ Some 3
unfolding line_of keyword_of item_of ends_of node_numeral_of digit_of outcome_of
cpus-of_two_lines = refl

cpus-of_a_bad_list : answer_to Enough start (codes "cpus 1-0")
    ≡ codes "bad list BackRange\n"
unfolding line_of keyword_of item_of ends_of node_numeral_of digit_of outcome_of text_of
cpus-of_a_bad_list = refl

-- a node with CPUs that the machine lacks, whatever its orders and whether there is memory
with_cpus_elsewhere : State
with_cpus_elsewhere = after_bytes Enough start (codes "cpus 2")

cpus-elsewhere : answer_to Starved with_cpus_elsewhere (codes "machine 2 0-1 8 flat")
    ≡ codes "bad machine NodeCount\n"
unfolding with_cpus_elsewhere line_of keyword_of number_of numeral_of in_64_bits distances_of
    members item_of ends_of node_numeral_of digit_of outcome_of text_of
cpus-elsewhere = refl

-- the orders of a kernel, where node 0 alone has CPUs
with_cpus : State
with_cpus = after_bytes Enough start (codes "cpus 0")

cpus-of_a_kernels_machine :
    (after_bytes Enough with_cpus (codes "machine 2 0-1 8 kernel:flat")).machine
    ≡ Some
    (record {
      nodes = 2;
      memory = 3;
      distances = 10 ∷ 20 ∷ 20 ∷ 10 ∷ [];
      frames = 8 ∷ 8 ∷ [];
      rules = Document;
      fallback = Kernel 1;
    })
unfolding with_cpus line_of keyword_of number_of numeral_of in_64_bits distances_of machine_fault
    has_bad_memory has_bad_distance has_bad_frames members item_of ends_of node_numeral_of digit_of
    outcome_of
cpus-of_a_kernels_machine = refl

-- all nodes have CPUs where no line names any
kernels_machine : (after_bytes Enough start (codes "machine 2 0-1 8 kernel:flat")).machine
    ≡ Some
    (record {
      nodes = 2;
      memory = 3;
      distances = 10 ∷ 20 ∷ 20 ∷ 10 ∷ [];
      frames = 8 ∷ 8 ∷ [];
      rules = Document;
      fallback = Kernel 3;
    })
unfolding line_of keyword_of number_of numeral_of in_64_bits distances_of machine_fault
    has_bad_memory has_bad_distance has_bad_frames members item_of ends_of node_numeral_of digit_of
    outcome_of
kernels_machine = refl

start-by_the_kernels_rules : (start_by Linux).rules ≡ Linux
start-by_the_kernels_rules = refl

-- ---- with a machine of two nodes, two mapped pages, and a policy of the first

abbrev pub two_nodes : Hardware
two_nodes = record {
  nodes = 2;
  memory = 3;
  distances = 10 ∷ 20 ∷ 20 ∷ 10 ∷ [];
  frames = 8 ∷ 8 ∷ [];
  rules = Document;
  fallback = Nearest;
}

-- the commands so far, none of them published
unfoldable pub world : World
world = record {
  history = Mbind 0x10000 0x1000 (record { mode = Bind; flag = Plain; mask = 2 })
      ∷ Map 0x10000 0x2000 0 Small ∷ [];
  published = opening.published;
  worker = opening.worker;
  owner =
      opening.owner;
}

unfoldable pub bound : State
bound = record {
  bounds = usual_bounds;
  rules = Document;
  cpus = None;
  machine = Some two_nodes;
  world = world;
  resident = [];
  lying = nothing;
  huge = None;
}

bound-page : answer_to Enough bound (codes "place 1 0x10fff 0") ≡ codes "v2: 1\n"
unfolding line_of keyword_of number_of numeral_of in_64_bits members fallback_order digits bound
    world outcome_of text_of
bound-page = refl

page-without_policy : answer_to Enough bound (codes "place 1 0x11000 0")
    ≡ codes "v2: 0 1\n"
unfolding line_of keyword_of number_of numeral_of in_64_bits members fallback_order digits bound
    world outcome_of text_of
page-without_policy = refl

page-that_is_not_mapped : answer_to Enough bound (codes "place 1 0x12000 0")
    ≡ codes "refused Unmapped\n"
unfolding line_of keyword_of number_of numeral_of in_64_bits members fallback_order digits bound
    world outcome_of text_of
page-that_is_not_mapped = refl

weight-too_large : answer_to Starved bound (codes "weight 0 256")
    ≡ codes "refused BadWeight EINVAL\n"
unfolding line_of keyword_of number_of numeral_of in_64_bits bound world outcome_of text_of
weight-too_large = refl

weight-wants_no_memory : answer_to Starved bound (codes "weight 0 255") ≡ codes "ok 3\n"
unfolding line_of keyword_of number_of numeral_of in_64_bits digits bound world outcome_of text_of
weight-wants_no_memory = refl

task-without_memory : answer_to Starved bound (codes "task 1 local")
    ≡ codes "refused NoMemory ENOMEM\n"
unfolding line_of keyword_of number_of numeral_of in_64_bits policy_of mode_of form_of_two
    form_of_three item_of ends_of node_numeral_of digit_of bound world outcome_of text_of
task-without_memory = refl

default-wants_no_memory : answer_to Starved bound (codes "task 1 default") ≡ codes "ok 3\n"
unfolding line_of keyword_of number_of numeral_of in_64_bits policy_of mode_of form_of_two
    form_of_three item_of ends_of node_numeral_of digit_of digits bound world outcome_of text_of
default-wants_no_memory = refl

weight-accepted : answer_to Enough bound (codes "weight 0 255") ≡ codes "ok 3\n"
unfolding line_of keyword_of number_of numeral_of in_64_bits digits bound world outcome_of text_of
weight-accepted = refl

policy-with_a_faulty_list : answer_to Enough bound (codes "task 1 bind=static=relative:x")
    ≡ codes "bad list BadDigit\n"
unfolding line_of keyword_of number_of numeral_of in_64_bits policy_of mode_of form_of_two
    form_of_three item_of ends_of node_numeral_of digit_of bound world outcome_of text_of
policy-with_a_faulty_list = refl

machine-after_a_machine : answer_to Enough bound (codes "machine 0 3-1 1 flat")
    ≡ codes "bad state\n"
unfolding line_of keyword_of number_of numeral_of in_64_bits distances_of bound world outcome_of
    text_of
machine-after_a_machine = refl

-- ---- spans

span-of_two_pages : answer_to Enough bound (codes "span 1 0x10000 2 0") ≡ codes "v2: 1 0\n"
unfolding line_of keyword_of number_of numeral_of in_64_bits members fallback_order digits list_at
    result_of_touch outcome_of text_of bound world count_pages any_page counts_text
span-of_two_pages = refl

span-of_no_pages : answer_to Enough bound (codes "span 1 0x20000 0 0") ≡ codes "v2:\n"
unfolding line_of keyword_of number_of numeral_of in_64_bits members fallback_order digits list_at
    result_of_touch outcome_of text_of bound world count_pages any_page counts_text
span-of_no_pages = refl

span-past_the_mapped_pages : answer_to Enough bound (codes "span 1 0x10000 3 0")
    ≡ codes "refused Unmapped\n"
unfolding line_of keyword_of number_of numeral_of in_64_bits members fallback_order digits list_at
    result_of_touch outcome_of text_of bound world count_pages any_page counts_text
span-past_the_mapped_pages = refl

span-of_no_node : answer_to Enough bound (codes "span 1 0x10000 3 2")
    ≡ codes "refused BadCpu\n"
unfolding line_of keyword_of number_of numeral_of in_64_bits members fallback_order digits list_at
    result_of_touch outcome_of text_of bound world count_pages any_page counts_text
span-of_no_node = refl

span-without_memory : answer_to Starved bound (codes "span 1 0x10000 3 2")
    ≡ codes "refused NoMemory\n"
unfolding line_of keyword_of number_of numeral_of in_64_bits members fallback_order digits list_at
    result_of_touch outcome_of text_of bound world count_pages any_page counts_text
span-without_memory = refl

counts-of_two_pages : answer_to Enough bound (codes "counts 1 0x10000 2 0")
    ≡ codes "v2: N0=1 N1=1\n"
unfolding line_of keyword_of number_of numeral_of in_64_bits members fallback_order digits list_at
    result_of_touch outcome_of text_of bound world count_pages any_page counts_text
counts-of_two_pages = refl

counts-of_one_page : answer_to Enough bound (codes "counts 1 0x10000 1 0")
    ≡ codes "v2: N1=1\n"
unfolding line_of keyword_of number_of numeral_of in_64_bits members fallback_order digits list_at
    result_of_touch outcome_of text_of bound world count_pages any_page counts_text
counts-of_one_page = refl

counts-past_the_mapped_pages : answer_to Enough bound (codes "counts 1 0x11000 2 1")
    ≡ codes "refused Unmapped\n"
unfolding line_of keyword_of number_of numeral_of in_64_bits members fallback_order digits list_at
    result_of_touch outcome_of text_of bound world count_pages any_page counts_text
counts-past_the_mapped_pages = refl

-- ---- workers

-- with both commands published
published : State
published = record {
  bounds = usual_bounds;
  rules = Document;
  cpus = None;
  machine = Some two_nodes;
  world = record {
    history = world.history;
    published = 2 ∷ 0 ∷ [];
    worker = world.worker;
    owner =
        world.owner;
  };
  resident = [];
  lying = nothing;
  huge = None;
}

-- the first frame of node 1 is worker 0's, and kept for page 16
placed : Placement
placed =
    record {
      version = 2;
      task = 1;
      page = 16;
      node = 1;
      frame = record { node = 1; number = 0 };
      rank = 0;
    }

resident : State
resident = record {
  bounds = usual_bounds;
  rules = Document;
  cpus = None;
  machine = Some two_nodes;
  world = record {
    history = world.history;
    published = 2 ∷ 0 ∷ [];
    worker = world.worker;
    owner =
        λ n k. if (n == 1) && (k == 0) then Some 0 else None;
  };
  resident = (16, placed) ∷ [];
  lying = nothing;
  huge = None;
}

publish-both : answer_to Enough bound (codes "publish") ≡ codes "published 2\n"
unfolding line_of keyword_of number_of numeral_of in_64_bits members fallback_order digits list_at
    result_of_touch outcome_of text_of bound world
publish-both = refl

publish-without_memory : answer_to Starved bound (codes "publish")
    ≡ codes "refused NoMemory\n"
unfolding line_of keyword_of number_of numeral_of in_64_bits members fallback_order digits list_at
    result_of_touch outcome_of text_of bound world
publish-without_memory = refl

begin-before_a_publication : answer_to Enough bound (codes "begin 0 1 0x10000 0")
    ≡ codes "refused Unmapped\n"
unfolding line_of keyword_of number_of numeral_of in_64_bits members fallback_order digits list_at
    result_of_touch outcome_of text_of bound world
begin-before_a_publication = refl

begin-a_hunt : answer_to Enough published (codes "begin 0 1 0x10000 0") ≡ codes "still\n"
unfolding line_of keyword_of number_of numeral_of in_64_bits members fallback_order digits list_at
    result_of_touch outcome_of text_of published world
begin-a_hunt = refl

begin-of_a_worker_too_many : answer_to Enough published (codes "begin 4 1 0x10000 0")
    ≡ codes "refused NoSuchWorker\n"
unfolding line_of keyword_of number_of numeral_of in_64_bits members fallback_order digits list_at
    result_of_touch outcome_of text_of published world
begin-of_a_worker_too_many = refl

try-of_an_idle_worker : answer_to Enough published (codes "try 0 1 0")
    ≡ codes "refused Idle\n"
unfolding line_of keyword_of number_of numeral_of in_64_bits members fallback_order digits list_at
    result_of_touch outcome_of text_of published world
try-of_an_idle_worker = refl

touch-wins : answer_to Enough published (codes "touch 0 1 0x10fff 0")
    ≡ codes "won v2 node 1 frame 0 rank 0\n"
unfolding line_of keyword_of number_of numeral_of in_64_bits members fallback_order digits list_at
    result_of_touch outcome_of text_of published world
touch-wins = refl

touch-without_memory : answer_to Starved published (codes "touch 0 1 0x10fff 0")
    ≡ codes "refused NoMemory\n"
unfolding line_of keyword_of number_of numeral_of in_64_bits members fallback_order digits list_at
    result_of_touch outcome_of text_of published world
touch-without_memory = refl

touch-passes_an_owned_frame : answer_to Enough resident (codes "touch 1 1 0x11000 1")
    ≡ codes "won v2 node 1 frame 1 rank 0\n"
unfolding line_of keyword_of number_of numeral_of in_64_bits members fallback_order digits list_at
    result_of_touch outcome_of text_of resident world placed
touch-passes_an_owned_frame = refl

touch-of_a_placed_page : answer_to Enough resident (codes "touch 1 1 0x10000 0")
    ≡ codes "back node 1 frame 1\n"
unfolding line_of keyword_of number_of numeral_of in_64_bits members fallback_order digits list_at
    result_of_touch outcome_of text_of resident world placed
touch-of_a_placed_page = refl

release-of_no_placement : answer_to Enough resident (codes "release 0 0x11000")
    ≡ codes "refused NotOwned\n"
unfolding line_of keyword_of number_of numeral_of in_64_bits members fallback_order digits list_at
    result_of_touch outcome_of text_of resident world placed
release-of_no_placement = refl

release-by_another : answer_to Enough resident (codes "release 1 0x10000")
    ≡ codes "refused NotOwned\n"
unfolding line_of keyword_of number_of numeral_of in_64_bits members fallback_order digits list_at
    result_of_touch outcome_of text_of resident world placed
release-by_another = refl

release-by_its_owner : answer_to Enough resident (codes "release 0 0x10fff")
    ≡ codes "given\n"
unfolding line_of keyword_of number_of numeral_of in_64_bits members fallback_order digits list_at
    result_of_touch outcome_of text_of resident world placed
release-by_its_owner = refl

touch-is_kept : (after_bytes Enough published (codes "touch 0 1 0x10fff 0")).resident
    ≡ (16, placed) ∷ []
unfolding line_of keyword_of number_of numeral_of in_64_bits members fallback_order digits list_at
    result_of_touch outcome_of text_of published world placed
touch-is_kept = refl

touch-that_went_back : (after_bytes Enough resident (codes "touch 1 1 0x10000 0")).resident
    ≡ (16, placed) ∷ []
unfolding line_of keyword_of number_of numeral_of in_64_bits members fallback_order digits list_at
    result_of_touch outcome_of text_of resident world placed
touch-that_went_back = refl

touch-that_went_back_is_free :
    (after_bytes Enough resident (codes "touch 1 1 0x10000 0")).world.owner 1 1 ≡ None
unfolding line_of keyword_of number_of numeral_of in_64_bits members fallback_order digits list_at
    result_of_touch outcome_of text_of resident world placed
touch-that_went_back_is_free = refl

release-takes_the_record_away :
    (after_bytes Enough resident (codes "release 0 0x10fff")).resident ≡ []
unfolding line_of keyword_of number_of numeral_of in_64_bits members fallback_order digits list_at
    result_of_touch outcome_of text_of resident world placed
release-takes_the_record_away = refl

release-that_is_refused_does_not :
    (after_bytes Enough resident (codes "release 1 0x10000")).resident ≡ (16, placed) ∷ []
unfolding line_of keyword_of number_of numeral_of in_64_bits members fallback_order digits list_at
    result_of_touch outcome_of text_of resident world placed
release-that_is_refused_does_not = refl

release-frees_the_frame : (after_bytes Enough resident (codes "release 0 0x10000")).world.owner 1
    0 ≡ None
unfolding line_of keyword_of number_of numeral_of in_64_bits members fallback_order digits list_at
    result_of_touch outcome_of text_of resident world placed
release-frees_the_frame = refl

try-is_not_kept : (after_bytes Enough resident (codes "try 0 1 1")).resident ≡ (16, placed) ∷ []
unfolding line_of keyword_of number_of numeral_of in_64_bits members fallback_order digits list_at
    result_of_touch outcome_of text_of resident world placed
try-is_not_kept = refl

-- ---- lines of hosts

host-has_no_place : answer_to Enough start (codes "host") ≡ codes "bad words\n"
unfolding line_of keyword_of outcome_of text_of
host-has_no_place = refl

process-has_no_place : answer_to Enough bound (codes "in 1 ranges") ≡ codes "bad words\n"
unfolding line_of keyword_of number_of numeral_of in_64_bits outcome_of text_of bound
process-has_no_place = refl

-- ---- lines about pages that are there

page-before_a_machine : answer_to Enough start (codes "at 0x10000 4096 0") ≡ codes "bad state\n"
unfolding line_of keyword_of number_of numeral_of in_64_bits outcome_of text_of
page-before_a_machine = refl

strict-before_a_machine : answer_to Enough start (codes "mbind 0x10000 4096 default strict")
    ≡ codes "bad state\n"
unfolding line_of keyword_of number_of numeral_of in_64_bits policy_of mode_of outcome_of text_of
strict-before_a_machine = refl

-- the first change wants memory, whatever it is
change-without_memory : answer_to Starved bound (codes "memory-migrate on")
    ≡ codes "refused NoMemory ENOMEM\n"
unfolding line_of keyword_of outcome_of text_of bound
change-without_memory = refl

change-of_how_pages_move : (after_bytes Enough bound (codes "memory-migrate on")).lying.follows
    ≡ true
unfolding line_of keyword_of outcome_of bound
change-of_how_pages_move = refl

-- what is wrong with a policy is told as without the words behind it
strict-with_a_faulty_list :
    answer_to Enough bound (codes "mbind 0x10000 4096 bind:x strict")
    ≡ codes "bad list BadDigit\n"
unfolding line_of keyword_of number_of numeral_of in_64_bits policy_of mode_of form_of_two
    form_of_three item_of ends_of node_numeral_of digit_of bound world outcome_of text_of
strict-with_a_faulty_list = refl

-- `moved` wants no memory
moved-nothing : answer_to Starved bound (codes "moved") ≡ codes "v2: moved 0 left 0\n"
unfolding line_of keyword_of digits outcome_of bound world flows_text
moved-nothing = refl
