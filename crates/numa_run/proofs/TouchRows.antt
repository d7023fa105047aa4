-- Worked rows: first touches of the pages of a span, and the rooms of nodes.
use Rattle.std.proofs.Common.{◌≡◌, ℕ, true, false, [], codes, refl}
use Rattle.std.specs.Prelude.{◌==◌, None, if◌then◌else◌}
use Rattle.std.specs.Fmt.{digits}
use Rattle.numa_maps.specs.Listing.{nodes_text as counts_text}
use Rattle.numa_page_state.specs.Lying.{nothing, untouched}
use Rattle.numa_page_state.specs.Outcomes.{Enough, Starved, rooms_of}
use Rattle.numa_placed.specs.Shifts.{endless}
use Rattle.numa_script.specs.Lines.{keyword_of, line_of}
use Rattle.numa_script.specs.Numbers.{in_64_bits, number_of, numeral_of}
use Rattle.numa_script.specs.Texts.{text_of}
use Rattle.numa_run.specs.Answers.{after_bytes, answer_to, start}
use Rattle.numa_run.specs.ArrivedTexts.{arrival_line, rooms_line, rooms_text}
use Rattle.numa_run.specs.Replies.{outcome_of}
use Rattle.numa_run.proofs.Examples.{bound, world}

-- ---- populate

-- three pages went, two of them to node 1, and one found no room
arrival-row : arrival_line 4 (record {
  placed = 3;
  exhausted = 1;
  on = λ node. if node == 0 then 1 else if node == 1 then 2 else 0;
}) ≡ codes "v4: placed 3 exhausted 1 N0=1 N1=2\n"
unfolding digits counts_text
arrival-row = refl

-- all pages of the span were there
nothing-row : arrival_line 12 untouched ≡ codes "v12: placed 0 exhausted 0\n"
unfolding digits counts_text
nothing-row = refl

populate-before_a_machine : answer_to Enough start (codes "populate 0x10000 4096 1 0")
    ≡ codes "bad state\n"
unfolding line_of keyword_of number_of numeral_of in_64_bits outcome_of text_of
populate-before_a_machine = refl

populate-without_memory : answer_to Starved bound (codes "populate 0x10001 4096 1 0")
    ≡ codes "refused NoMemory ENOMEM\n"
unfolding line_of keyword_of number_of numeral_of in_64_bits outcome_of text_of bound
populate-without_memory = refl

populate-within_a_page : answer_to Enough bound (codes "populate 0x10001 4096 1 2")
    ≡ codes "refused Unaligned EINVAL\n"
unfolding line_of keyword_of number_of numeral_of in_64_bits outcome_of text_of bound world
populate-within_a_page = refl

populate-on_no_node : answer_to Enough bound (codes "populate 0x10000 4096 1 2")
    ≡ codes "refused BadCpu EINVAL\n"
unfolding line_of keyword_of number_of numeral_of in_64_bits outcome_of text_of bound world
populate-on_no_node = refl

-- ---- room

-- a full node is listed, one that never fills is not
rooms-row : rooms_line (λ node. if node == 0 then 3 else if node == 2 then 0 else endless)
    ≡ codes "room N0=3 N2=0\n"
unfolding digits rooms_text
rooms-row = refl

endless-row : rooms_line (rooms_of None) ≡ codes "room\n"
unfolding rooms_text
endless-row = refl

rooms-before_a_machine : answer_to Enough start (codes "room") ≡ codes "bad state\n"
unfolding line_of keyword_of outcome_of text_of
rooms-before_a_machine = refl

-- `room` alone wants no memory, and begins nothing
rooms-of_no_node : answer_to Starved bound (codes "room") ≡ codes "room\n"
unfolding line_of keyword_of outcome_of bound rooms_text
rooms-of_no_node = refl

rooms-begin_nothing : (after_bytes Starved bound (codes "room")).lying ≡ nothing
unfolding line_of keyword_of outcome_of bound
rooms-begin_nothing = refl

rooms-of_a_node : answer_to Starved (after_bytes Enough bound (codes "room 1 5")) (codes "room")
    ≡ codes "room N1=5\n"
unfolding line_of keyword_of number_of numeral_of in_64_bits digits outcome_of bound world
    rooms_text
rooms-of_a_node = refl
