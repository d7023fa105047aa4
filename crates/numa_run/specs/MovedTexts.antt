-- The text of the answer to `moved`: what the last move did.
use Rattle.std.specs.Prelude.{ℕ, ◌+◌, ◌==◌, List, [], ◌++◌, codes, decimal, if◌then◌else◌}
use Rattle.std.specs.Prelude.{Option, Some, None}
use Rattle.std.specs.List.{flat_map, range_with_len}
use Rattle.numa_script.specs.PageTexts.{moved_words}
use Rattle.numa_huge.specs.Moves.{HugeMemory, HugeTold}
use Rattle.numa_page_state.specs.Lying.{LastMove, OfNodes, OfPages}
use Rattle.numa_page_state.specs.Standing.{sent_by, told_in}
use Rattle.numa_page_state.specs.declared.last.Last.{Last}
use Rattle.numa_page_state.specs.declared.last.Last.TheVariants as went

-- ` N2->N3=5`, where pages went
abbrev pub arrow_text : ℕ → ℕ → List ℕ
arrow_text node to = codes " N" ++ decimal node ++ codes "->N" ++ decimal to

abbrev pub flow_text : ℕ → ℕ → ℕ → List ℕ
flow_text node pages to =
    if pages == 0 then [] else arrow_text node to ++ codes "=" ++ decimal pages

-- each node that pages left, the lowest first
unfoldable pub flows_text : (ℕ → ℕ) → (ℕ → ℕ) → List ℕ
flows_text from to = flat_map (λ node. flow_text node (from node) (to node)) (range_with_len 0 256)

-- to each node, the lowest first
unfoldable pub flows_from_text : ℕ → (ℕ → ℕ) → List ℕ
flows_from_text from flow = flat_map (λ to. flow_text from (flow to) to) (range_with_len 0 256)

-- from each node to each
unfoldable pub all_flows_text : (ℕ → ℕ → ℕ) → List ℕ
all_flows_text flow = flat_map (λ from. flows_from_text from (flow from)) (range_with_len 0 256)

-- `v4: moved 5 left 0 N2->N3=5`
abbrev pub told_line : ℕ → ℕ → ℕ → List ℕ → List ℕ
told_line version moved left flows = codes "v" ++ decimal version ++ codes ": "
    ++ moved_words moved left ++ flows ++ codes "\n"

abbrev pub last_line : ℕ → LastMove → List ℕ
last_line version (OfNodes told) =
    told_line version told.moved told.left (flows_text told.from told.to)
last_line version (OfPages sent) =
    told_line version sent.moved sent.left (all_flows_text sent.flow)

-- what is kept of a move, as it is told
abbrev pub last_of : Last → LastMove
last_of (went.Nodes moved) = OfNodes (told_in moved)
last_of (went.Pages done) = OfPages (sent_by done)

-- ---- of pages of both sizes

-- how many pages went from each node to each
abbrev pub flow_of_last : LastMove → ℕ → ℕ → ℕ
flow_of_last (OfNodes told) from to = if told.to from == to then told.from from else 0
flow_of_last (OfPages sent) from to = sent.flow from to

abbrev pub moved_last : LastMove → ℕ
moved_last (OfNodes told) = told.moved
moved_last (OfPages sent) = sent.moved

abbrev pub left_last : LastMove → ℕ
left_last (OfNodes told) = told.left
left_last (OfPages sent) = sent.left

-- from each node to each, added up
abbrev pub added_line : ℕ → LastMove → HugeTold → List ℕ
added_line version last told = told_line version (moved_last last + told.moved)
    (left_last last + told.left)
    (all_flows_text (λ from to. flow_of_last last from to + told.flow from to))

abbrev pub both_line : ℕ → LastMove → Option HugeMemory → List ℕ
both_line version last None = last_line version last
both_line version last (Some memory) = added_line version last memory.told
