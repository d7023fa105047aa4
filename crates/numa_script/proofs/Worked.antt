-- Lines of scripts, and what they say.
use Rattle.std.specs.Prelude.{◌≡◌, true, false, [], ◌∷◌, codes, None, Some, Ok, Err, refl}
use Rattle.numa_mask.specs.Lists.{item_of, ends_of, digit_of, numeral_of as node_numeral_of}
use Rattle.numa_mask.specs.declared.list.ListFault.TheVariants.{BackRange}
use Rattle.numa_machine.specs.declared.rules.Rules.TheVariants.{Document, Linux}
use Rattle.numa_machine.specs.declared.page_size.PageSize.TheVariants.{Small}
use Rattle.numa_requests.specs.declared.event.Event.TheVariants as event
use Rattle.numa_requests.specs.declared.command.Command.TheVariants as command
use Rattle.numa_requests.specs.declared.host_command.HostCommand.TheVariants as host
use Rattle.numa_script.specs.Lines.{alone, keyword_of, line_of}
use Rattle.numa_script.specs.Machines.{distances_of}
use Rattle.numa_script.specs.Numbers.{number_of, numeral_of, in_64_bits}
use Rattle.numa_script.specs.Policies.{mode_of, policy_of}
use Rattle.numa_script.specs.declared.policy.WordError.TheVariants as fault
use Rattle.numa_mode.specs.declared.specification.SpecError.TheVariants.{UnknownMode}
use Rattle.numa_script.specs.declared.line.Line.TheVariants as line
use Rattle.numa_script.specs.declared.line.Question.TheVariants as question
use Rattle.numa_script.specs.declared.page_line.BoundPages.TheVariants as bound
use Rattle.numa_script.specs.declared.huge_line.HugeLine.TheVariants as huge
use Rattle.numa_script.specs.declared.page_line.PageLine.TheVariants as page
use Rattle.numa_script.specs.declared.machine.Distances.TheVariants.{Flat, Table}
use Rattle.numa_script.specs.declared.work.Work.TheVariants as work

-- ---- questions

greatest-span : line_of (codes "span 1 0x11fff 65536 3")
    ≡ alone (line.Question (question.Span 1 73727 65536 3))
unfolding line_of keyword_of number_of numeral_of in_64_bits
greatest-span = refl

too-great_span : line_of (codes "span 1 0 65537 0") ≡ alone line.Malformed
unfolding line_of keyword_of number_of numeral_of in_64_bits
too-great_span = refl

greatest-counts : line_of (codes "counts 1 0x10000 18446744073709551615 0")
    ≡ alone (line.Question (question.Counts 1 65536 18446744073709551615 0))
unfolding line_of keyword_of number_of numeral_of in_64_bits
greatest-counts = refl

listing-for_a_task : line_of (codes "maps 7") ≡ alone (line.Maps 7)
unfolding line_of keyword_of number_of numeral_of in_64_bits
listing-for_a_task = refl

listing-for_no_task : line_of (codes "maps") ≡ alone line.Malformed
unfolding line_of keyword_of number_of numeral_of in_64_bits
listing-for_no_task = refl

-- ---- workers

publishing : line_of (codes "publish") ≡ alone (line.Work (work.Event event.Publish))
unfolding line_of keyword_of number_of numeral_of in_64_bits
publishing = refl

-- the last byte of page 17
beginning : line_of (codes "begin 2 1 0x11fff 3")
    ≡ alone (line.Work (work.Event (event.Begin 2 (record { task = 1; page = 17; cpu = 3 }))))
unfolding line_of keyword_of number_of numeral_of in_64_bits
beginning = refl

looking : line_of (codes "look 0 1") ≡ alone (line.Work (work.Event (event.Look 0 1)))
unfolding line_of keyword_of number_of numeral_of in_64_bits
looking = refl

trying : line_of (codes "try 0 255 65535")
    ≡ alone (line.Work (work.Event (event.Try 0 (record { node = 255; number = 65535 }))))
unfolding line_of keyword_of number_of numeral_of in_64_bits
trying = refl

too-high_node : line_of (codes "try 0 256 0") ≡ alone line.Malformed
unfolding line_of keyword_of number_of numeral_of in_64_bits
too-high_node = refl

too-high_frame : line_of (codes "give 0 0 65536") ≡ alone line.Malformed
unfolding line_of keyword_of number_of numeral_of in_64_bits
too-high_frame = refl

giving : line_of (codes "give 3 1 0")
    ≡ alone (line.Work (work.Event (event.Give 3 (record { node = 1; number = 0 }))))
unfolding line_of keyword_of number_of numeral_of in_64_bits
giving = refl

-- any address of 64 bits has a page
touching : line_of (codes "touch 0 1 0xffffffffffffffff 0")
    ≡ alone (line.Work (work.Touch 0 (record { task = 1; page = 4503599627370495; cpu = 0 })))
unfolding line_of keyword_of number_of numeral_of in_64_bits
touching = refl

releasing : line_of (codes "release 0 0x11000") ≡ alone (line.Work (work.Release 0 17))
unfolding line_of keyword_of number_of numeral_of in_64_bits
releasing = refl

-- ---- before a machine

the_kernels_rules : line_of (codes "rules linux") ≡ alone (line.Rules Linux)
unfolding line_of keyword_of
the_kernels_rules = refl

the_documents_rules : line_of (codes "rules document") ≡ alone (line.Rules Document)
unfolding line_of keyword_of
the_documents_rules = refl

nobodys_rules : line_of (codes "rules posix") ≡ alone line.Malformed
unfolding line_of keyword_of
nobodys_rules = refl

nodes_with_cpus : line_of (codes "cpus 0,2-3") ≡ alone (line.Cpus (Ok 13))
unfolding line_of keyword_of item_of ends_of node_numeral_of digit_of
nodes_with_cpus = refl

-- the list is faulty, and not the line
falling_nodes_with_cpus : line_of (codes "cpus 1-0") ≡ alone (line.Cpus (Err BackRange))
unfolding line_of keyword_of item_of ends_of node_numeral_of digit_of
falling_nodes_with_cpus = refl

nearest_first : line_of (codes "machine 2 0 8 flat")
    ≡ alone (line.Machine
    (record { nodes = 2; memory = Ok 1; frames = 8 ∷ []; kernel_orders = false; distances = Flat }))
unfolding line_of keyword_of number_of numeral_of in_64_bits distances_of item_of ends_of
    node_numeral_of digit_of
nearest_first = refl

orders_of_a_kernel : line_of (codes "machine 2 0 8 kernel:flat")
    ≡ alone (line.Machine
    (record { nodes = 2; memory = Ok 1; frames = 8 ∷ []; kernel_orders = true; distances = Flat }))
unfolding line_of keyword_of number_of numeral_of in_64_bits distances_of item_of ends_of
    node_numeral_of digit_of
orders_of_a_kernel = refl

orders_of_a_kernel-by_a_table : line_of (codes "machine 1 0 8 kernel:10")
    ≡ alone (line.Machine
    (record {
      nodes = 1;
      memory = Ok 1;
      frames = 8 ∷ [];
      kernel_orders = true;
      distances =
          Table (10 ∷ []);
    }))
unfolding line_of keyword_of number_of numeral_of in_64_bits distances_of item_of ends_of
    node_numeral_of digit_of
orders_of_a_kernel-by_a_table = refl

-- ---- commands

mapping : line_of (codes "map 0x10000 0x2000 0")
    ≡ alone (line.Command (Ok (command.Map 65536 8192 0 Small)))
unfolding line_of keyword_of number_of numeral_of in_64_bits
mapping = refl

-- ---- pages that are there

stating : line_of (codes "at 0x10000 0x2000 2") ≡ alone (line.Pages (Ok (page.At 65536 8192 2)))
unfolding line_of keyword_of number_of numeral_of in_64_bits
stating = refl

room_for_pages : line_of (codes "room 1 512") ≡ alone (line.Pages (Ok (page.Room 1 512)))
unfolding line_of keyword_of number_of numeral_of in_64_bits
room_for_pages = refl

rooms_for_pages : line_of (codes "room") ≡ alone (line.Pages (Ok page.Rooms))
unfolding line_of keyword_of number_of numeral_of in_64_bits
rooms_for_pages = refl

room_on_no_node : line_of (codes "room 512") ≡ alone line.Malformed
unfolding line_of keyword_of number_of numeral_of in_64_bits
room_on_no_node = refl

touching_pages : line_of (codes "populate 0x10000 0x2000 7 1")
    ≡ alone (line.Pages (Ok (page.Populate 65536 8192 7 1)))
unfolding line_of keyword_of number_of numeral_of in_64_bits
touching_pages = refl

following : line_of (codes "memory-migrate on") ≡ alone (line.Pages (Ok (page.MemoryMigrate true)))
unfolding line_of keyword_of number_of numeral_of in_64_bits
following = refl

migrating : line_of (codes "migrate 0-1 2") ≡ alone (line.Pages (Ok (page.Migrate 3 4)))
unfolding line_of keyword_of number_of numeral_of in_64_bits item_of ends_of node_numeral_of
    digit_of
migrating = refl

-- the list is faulty, and not the line
migrating_from_a_falling_list : line_of (codes "migrate 1-0 2") ≡ alone (line.Pages (Err BackRange))
unfolding line_of keyword_of number_of numeral_of in_64_bits item_of ends_of node_numeral_of
    digit_of
migrating_from_a_falling_list = refl

moving_a_page : line_of (codes "move 4096 3") ≡ alone (line.Pages (Ok (page.Move 4096 3)))
unfolding line_of keyword_of number_of numeral_of in_64_bits
moving_a_page = refl

what_moved : line_of (codes "moved") ≡ alone (line.Pages (Ok page.Moved))
unfolding line_of keyword_of number_of numeral_of in_64_bits
what_moved = refl

-- a policy that judges pages, and two that move them, is faulty or not as without these words
judging_pages : line_of (codes "mbind 0 4096 bint strict")
    ≡ alone (line.Bind 0 4096 (Err (fault.Policy UnknownMode)) bound.Strict)
unfolding line_of keyword_of number_of numeral_of in_64_bits policy_of mode_of
judging_pages = refl

moving_pages : line_of (codes "mbind 0 4096 bint strict move 7 1")
    ≡ alone (line.Bind 0 4096 (Err (fault.Policy UnknownMode))
    (bound.Move (record { strict = true; task = 7; cpu = 1 })))
unfolding line_of keyword_of number_of numeral_of in_64_bits policy_of mode_of
moving_pages = refl

moving_pages_of_nobody : line_of (codes "mbind 0 4096 default move") ≡ alone line.Malformed
unfolding line_of keyword_of number_of numeral_of in_64_bits
moving_pages_of_nobody = refl

-- ---- pages of 2 MiB, and first touches

what_pools_have : line_of (codes "pool") ≡ alone (line.Huge huge.Pools)
unfolding line_of keyword_of number_of numeral_of in_64_bits
what_pools_have = refl

pools_of_all_nodes : line_of (codes "pool 64") ≡ alone (line.Huge (huge.Resize 64))
unfolding line_of keyword_of number_of numeral_of in_64_bits
pools_of_all_nodes = refl

pool_of_one_node : line_of (codes "pool 1 64") ≡ alone (line.Huge (huge.ResizeNode 1 64))
unfolding line_of keyword_of number_of numeral_of in_64_bits
pool_of_one_node = refl

pools_of_a_task : line_of (codes "pool 64 7 1") ≡ alone (line.Huge (huge.ResizeFor 64 7 1))
unfolding line_of keyword_of number_of numeral_of in_64_bits
pools_of_a_task = refl

pools_of_too_much : line_of (codes "pool 64 7 1 0") ≡ alone line.Malformed
unfolding line_of keyword_of number_of numeral_of in_64_bits
pools_of_too_much = refl

too_many_pages : line_of (codes "pool 0x8000000000000000") ≡ alone line.Malformed
unfolding line_of keyword_of number_of numeral_of in_64_bits
too_many_pages = refl

touching_a_page : line_of (codes "fault 7 0x40000000 1")
    ≡ alone (line.Huge (huge.Fault 7 1073741824 1))
unfolding line_of keyword_of number_of numeral_of in_64_bits
touching_a_page = refl

mapping_large_pages : line_of (codes "map 0x40000000 0x600000 0 huge 7")
    ≡ alone (line.Huge (huge.Map 1073741824 6291456 0 7 true))
unfolding line_of keyword_of number_of numeral_of in_64_bits
mapping_large_pages = refl

mapping_without_reservations : line_of (codes "map 0x40000000 0x600000 512 huge 7 noreserve")
    ≡ alone (line.Huge (huge.Map 1073741824 6291456 512 7 false))
unfolding line_of keyword_of number_of numeral_of in_64_bits
mapping_without_reservations = refl

mapping_for_nobody : line_of (codes "map 0 4096 0 huge") ≡ alone line.Malformed
unfolding line_of keyword_of number_of numeral_of in_64_bits
mapping_for_nobody = refl

mapping_with_other_words : line_of (codes "map 0 4096 0 large 7") ≡ alone line.Malformed
unfolding line_of keyword_of number_of numeral_of in_64_bits
mapping_with_other_words = refl

mapping_with_more_words : line_of (codes "map 0 4096 0 huge 7 reserve") ≡ alone line.Malformed
unfolding line_of keyword_of number_of numeral_of in_64_bits
mapping_with_more_words = refl

-- ---- hosts

beginning_a_host : line_of (codes "host") ≡ alone line.Host
unfolding line_of keyword_of number_of numeral_of in_64_bits
beginning_a_host = refl

a_group : line_of (codes "cgroup 2 0") ≡ alone (line.HostCommand (Ok (host.NewGroup 2 0)))
unfolding line_of keyword_of number_of numeral_of in_64_bits
a_group = refl

nodes_of_a_group : line_of (codes "cgroup-mems 2 0-1")
    ≡ alone (line.HostCommand (Ok (host.SetGroupMems 2 (Some 3))))
unfolding line_of keyword_of number_of numeral_of in_64_bits item_of ends_of node_numeral_of
    digit_of
nodes_of_a_group = refl

no_nodes_of_its_own : line_of (codes "cgroup-mems 2 -")
    ≡ alone (line.HostCommand (Ok (host.SetGroupMems 2 None)))
unfolding line_of keyword_of number_of numeral_of in_64_bits item_of ends_of node_numeral_of
    digit_of
no_nodes_of_its_own = refl

forking : line_of (codes "fork 3 4 1 1") ≡ alone (line.HostCommand (Ok (host.Fork 3 4 1 1)))
unfolding line_of keyword_of number_of numeral_of in_64_bits
forking = refl

-- what a process is told
listing_a_process : line_of (codes "in 3 maps 1")
    ≡ (record { process = Some 3; line = line.Maps 1 })
unfolding line_of keyword_of number_of numeral_of in_64_bits
listing_a_process = refl

-- weights are the host's
weighing_in_a_process : line_of (codes "in 3 weight 0 1") ≡ alone line.Malformed
unfolding line_of keyword_of number_of numeral_of in_64_bits
weighing_in_a_process = refl

telling_nobody : line_of (codes "in maps 1") ≡ alone line.Malformed
unfolding line_of keyword_of number_of numeral_of in_64_bits
telling_nobody = refl

-- ---- whatever isn't of the language

-- an empty word is judged before the list or the policy that it stands for
empty-list : line_of (codes "mems ") ≡ alone line.Malformed
unfolding line_of keyword_of number_of numeral_of in_64_bits
empty-list = refl

empty-policy : line_of (codes "task 1 ") ≡ alone line.Malformed
unfolding line_of keyword_of number_of numeral_of in_64_bits
empty-policy = refl

spare-space : line_of (codes "touch 0 1  0") ≡ alone line.Malformed
unfolding line_of keyword_of number_of numeral_of in_64_bits
spare-space = refl

comment : line_of (codes "# touch 0 1 0 0") ≡ alone line.Silent
unfolding line_of
comment = refl
