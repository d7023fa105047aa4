-- What the answers say, in words.
use Rattle.std.specs.Prelude.{ℕ, nat_lt, List, [], ◌∷◌, ◌++◌, codes, if◌then◌else◌}
use Rattle.numaplan_c.specs.Names.{Named, name_in, named}

-- of the answers below 50
abbrev pub call_words : List Named
call_words =
    named 0 (codes "it is done") ∷
    named 1 (codes "this keeps nothing, since it was closed; open a new one") ∷
    named 2 (codes "this keeps something already; close it first") ∷
    named 3 (codes "out of memory; nothing has changed, so free some and call again") ∷
    named 4 (codes "the answer is longer than the room for it; call again with what it needs") ∷
    named 5 (codes "no answer has this number; numaplan.h has those that there are") ∷
    named 6 (codes "the line was served, without memory for its answer; free some and ask again") ∷
    named 10 (codes "as many commands as the limits allow were accepted; open a core with a higher "
    ++ codes "max_commands") ∷
    named 11 (codes "the start is no multiple of 4096, or start, end or offset lies inside a page "
    ++ codes "of 2 MiB; round to whole pages") ∷
    named 12 (codes "the span ends above address 2^47; use lower addresses") ∷
    named 13 (codes "the length is 0; map at least one byte") ∷
    named 14 (codes "the offset is 2^35 or more; it is in pages, not in bytes") ∷
    named 15 (codes "a page of the span is mapped already; unmap it first") ∷
    named 16 (codes "a page of the span isn't mapped; map it first, or bind each mapped part by "
    ++ codes "itself") ∷
    named 17 (codes "the machine lacks the node; its nodes are numbered from 0") ∷
    named 18 (codes "the weight is 0 or above 255; choose one from 1 to 255") ∷
    named 19 (codes "the policy would have no node, or no node of set_mems has memory; name one "
    ++ codes "that is allowed and has memory") ∷
    named 20 (codes "a page of the span has a policy that takes no home; leave it out") ∷
    named 21 (codes "as many tasks as the limits allow have a policy; set one to default, or open "
    ++ codes "a core with a higher max_tasks") ∷
    named 22 (codes "there would be more ranges than the limits allow; unmap some, or open a core "
    ++ codes "with a higher max_ranges") ∷
    named 23 (codes "by the kernel's rules some page of the span needs a policy of its own; bind "
    ++ codes "one first") ∷
    named 24 (codes "by the kernel's rules the span ends too high; use lower addresses") ∷
    named 25 (codes "by the kernel's rules set_mems needs a node; name one") ∷
    named 30 (codes "there are not so many workers; they are numbered from 0") ∷
    named 31 (codes "the worker looks for a frame; let it win one, or exhaust its list, by look "
    ++ codes "and try_frame") ∷
    named 32 (codes "the worker looks for no frame; begin first") ∷
    named 33 (codes "the current node lacks the frame, or the worker has met it; touch finds a "
    ++ codes "frame by itself") ∷
    named 34 (codes "the frame isn't held here; give it back where it was taken, and once") ∷
    named 35 (codes "the machine lacks the node of the CPU; its nodes are numbered from 0") ∷
    named 36 (codes "the page isn't mapped, or isn't published yet where a worker looks; map it, "
    ++ codes "or look at its number, which is address / 4096") ∷
    named 37 (codes "there are not so many ranges; they are counted from 0") ∷
    named 38 (codes "two of the placements are of one page; hand in one for each page") ∷
    named 40 (codes "the worker goes on; it has a current node") ∷
    named 41 (codes "each frame of each listed node is taken; give one back, and begin anew") ∷
    named 42 (codes "each frame of each listed node is taken; give one back first") ∷
    []

-- of the answers of errors in machines, lists, policy words and questions about scripts
abbrev pub fault_words : List Named
fault_words =
    named 50 (codes "no node, more than 256, or not one distance from each node to each; give one "
    ++ codes "number of frames and one row of distances for each node") ∷
    named 51 (codes "no node has memory, or one that the machine lacks; name some of its nodes") ∷
    named 52 (codes "a node isn't 10 from itself, or is 10 or less from another") ∷
    named 53 (codes "a node has more than 4096 frames, or some and no memory, or all have more "
    ++ codes "than 65536; use less") ∷
    named 54 (codes "max_ranges is above 65536, or max_tasks above 1024; use less") ∷
    named 55 (codes "no worker, or more than 16; use 1 to 16") ∷
    named 56 (codes "no rules have this number; numaplan.h has those that there are") ∷
    named 57 (codes "no orders have this number; numaplan.h has those that there are") ∷
    named 58 (codes "no format has this number; numaplan_reports.h has those that there are") ∷
    named 60 (codes "nothing stands where a node should; name one, or leave out the comma") ∷
    named 61 (codes "an item of the list is neither a nor a-b, in decimal of 1 to 4 digits") ∷
    named 62 (codes "a range of the list falls; turn it round") ∷
    named 63 (codes "a number of the list is above 255; nodes are 0 to 255") ∷
    named 70 (codes "what stands before the colon is no policy with its flag; write as "
    ++ codes "bind=static:0-1") ∷
    named 71 (codes "static and relative exclude each other; choose one") ∷
    named 72 (codes "default and local take no list; leave it out") ∷
    named 73 (codes "local takes no flag, nor does prefer without a list, nor a home; leave it "
    ++ codes "out, or name nodes") ∷
    named 74 (codes "the policy wants nodes; name them after a colon") ∷
    named 75 (codes "default is no policy; name one") ∷
    named 76 (codes "no node is allowed; name one") ∷
    named 80 (codes "no line of the script makes a machine; begin with one, as machine 2 0-1 8 flat") ∷
    named 81 (codes "a line of the trace can't be replayed; the last message says which, and why") ∷
    named 82 (codes "the script is a host's, and the answer is about one process") ∷
    []

-- of the answers of causes that only a host, pages or a desk have
abbrev pub late_words : List Named
late_words =
    named 90 (codes "there is a group of this number; choose another") ∷
    named 91 (codes "there is no group of this number, or not so many; make it by new_group") ∷
    named 92 (codes "there are 1024 groups below the root, as many as a host may have") ∷
    named 93 (codes "the root has no list of its own; make a group below it, and attach processes "
    ++ codes "to that") ∷
    named 94 (codes "a process is in the group or below it, so its list can't be taken away; give "
    ++ codes "it another list, or attach the process to another group first") ∷
    named 95 (codes "there is a process of this number; choose another") ∷
    named 96 (codes "there is no process of this number, or not so many; make it by new_process or "
    ++ codes "fork") ∷
    named 97 (codes "there are 4096 processes, as many as a host may have; let one exit first") ∷
    named 98 (codes "the nodes that a process is allowed are those of its group; give the group a "
    ++ codes "list, or attach the process to another") ∷
    named 100 (codes "there would be more than 1048576 runs of pages that lie on one node; state "
    ++ codes "fewer, or move whole spans") ∷
    named 101 (codes "a page of the span lies on a node for which the policy doesn't ask; move it "
    ++ codes "first, or bind without strict") ∷
    named 102 (codes "the machine lacks the node to move to, or it has no memory; its nodes are "
    ++ codes "numbered from 0") ∷
    named 103 (codes "the node to move to isn't allowed; name one that is, or allow it by set_mems") ∷
    named 104 (codes "the page that is to move isn't mapped; map it, and state where it lies") ∷
    named 105 (codes "the page lies nowhere; state where it lies, by place") ∷
    named 106 (codes "the node has no room for the page, or for so many; move others away from it, "
    ++ codes "or give it room by set_room") ∷
    named 107 (codes "the page lies somewhere already; unmap it first") ∷
    named 108 (codes "the machine lacks the node of the task's CPU; its nodes are numbered from 0") ∷
    named 109 (codes "a page of the span isn't mapped; map it first, or touch each mapped part") ∷
    named 110 (codes "the machine lacks the node, and so its pool; its nodes are numbered from 0") ∷
    named 111 (codes "the node or the others together have more surplus pages than pages, where "
    ++ codes "Linux takes all the node's memory; let surplus pages end first") ∷
    named 112 (codes "too few pages of 2 MiB are free and not reserved, or too few on the nodes "
    ++ codes "that may give them; ask the pools, and resize them") ∷
    named 113 (codes "no node of the page's list has room for it; move others away, or give a node "
    ++ codes "room by set_room") ∷
    named 114 (codes "no node of the page's list gives a page of 2 MiB, and the task gets SIGBUS; "
    ++ codes "resize the pools, or reserve the page when it is mapped") ∷
    named 115 (codes "the desk has as many readers as it can; close one, or open it for more") ∷
    named 116 (codes "the reader's desk was closed; the reader answers by what it took last") ∷
    named 117 (codes "the newest version that could be taken is older than that; enter again") ∷
    named 118 (codes "there is no reader, or there are more than 64; open it for 1 to 64") ∷
    []

-- what an answer says, without a byte where no answer has this number
unfoldable pub answer_words : ℕ → List ℕ
answer_words code =
    if nat_lt code 50 then name_in call_words code
    else if nat_lt code 90 then name_in fault_words code
    else name_in late_words code
