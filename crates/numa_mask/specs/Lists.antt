-- Lists of nodes as text, as in `0,2-3,5`.
use Rattle.std.specs.Prelude.{ℕ, ◌+◌, ◌-◌, ◌==◌, ◌++◌, ◌&&◌, ◌||◌, not, Bool, List, [], length}
use Rattle.std.specs.Prelude.{map, filter, codes, decimal, nat_le, nat_lt, if◌then◌else◌, Option}
use Rattle.std.specs.Prelude.{Some, None, Result, Ok, Err, slice_get, take, drop, position}
use Rattle.std.specs.Char.{is_digit, digit_value}
use Rattle.std.specs.List.{list_all, filter_map, flat_map}
use Rattle.std.specs.List.{range_with_len, prefix_len, join_with_byte}
use Rattle.std.specs.Result.{result_err}
use Rattle.std.specs.Str.Parse.{digits_value}
use Rattle.numa_mask.specs.declared.list.ListFault.{ListFault}
use Rattle.numa_mask.specs.declared.list.ListFault.TheVariants.{Empty, BadDigit, BackRange}
use Rattle.numa_mask.specs.declared.list.ListFault.TheVariants.{NodeTooHigh}
use Rattle.numa_mask.specs.NodeSet.{has, members, set_of}
use Rattle.numa_mask.specs.Parts.{parts_of}

-- ---- reading

-- the items of a text: what lies between its commas
abbrev pub items_of : List ℕ → List (List ℕ)
items_of text = parts_of 44 text

-- the value of a decimal digit
unfoldable pub digit_of : ℕ → Option ℕ
digit_of c = if is_digit c 10 then Some (digit_value c) else None

-- the number that 1 to 4 decimal digits write; other texts write none
unfoldable pub numeral_of : List ℕ → Option ℕ
numeral_of digits = if nat_le 1 (length digits) && nat_le (length digits) 4
    && list_all (λ c. is_digit c 10) digits then Some (digits_value 10 digits) else None

-- both of two numbers, where there are two
abbrev pub both_of : Option ℕ → Option ℕ → Option (ℕ × ℕ)
both_of None last = None
both_of (Some first) None = None
both_of (Some first) (Some last) = Some (first, last)

-- the ends of an item `a-b`, which is two numerals around its first dash, or of an item `a`, whose
-- both ends are a
abbrev pub ends_at : List ℕ → Option ℕ → Option (ℕ × ℕ)
ends_at item None = both_of (numeral_of item) (numeral_of item)
ends_at item (Some dash) = both_of (numeral_of (take dash item)) (numeral_of (drop (dash + 1) item))

unfoldable pub ends_of : List ℕ → Option (ℕ × ℕ)
ends_of item = ends_at item (position (λ b. b == 45) item)

-- the ends of a range, judged: the first may not be above the last, and both are nodes
abbrev pub ends_or_fault : Option (ℕ × ℕ) → Result (ℕ × ℕ) ListFault
ends_or_fault None = Err BadDigit
ends_or_fault (Some (first, last)) =
    if nat_lt last first then Err BackRange
    else if nat_le 256 first || nat_le 256 last then Err NodeTooHigh
    else Ok (first, last)

-- what an item is: the first and the last of its nodes, or its first fault
unfoldable pub item_of : List ℕ → Result (ℕ × ℕ) ListFault
item_of item = if length item == 0 then Err Empty else ends_or_fault (ends_of item)

-- the nodes from the first to the last
abbrev pub nodes_between : ℕ → ℕ → List ℕ
nodes_between first last = range_with_len first (last + 1 - first)

-- the nodes of an item, which has none where it is faulty
abbrev pub nodes_in : Result (ℕ × ℕ) ListFault → List ℕ
nodes_in (Ok (first, last)) = nodes_between first last
nodes_in (Err fault) = []

-- the faults of the items, from the left
abbrev pub faults_of : List (List ℕ) → List ListFault
faults_of items = filter_map (λ item. result_err (item_of item)) items

-- the set of all nodes of the items
abbrev pub set_of_items : List (List ℕ) → ℕ
set_of_items items = set_of (flat_map (λ item. nodes_in (item_of item)) items)

-- the set, unless there is a fault
abbrev pub unless : Option ListFault → ℕ → Result ℕ ListFault
unless None set = Ok set
unless (Some fault) set = Err fault

-- what a text is: the fault of its first faulty item, or else the set of its items
abbrev pub list_of : List ℕ → Result ℕ ListFault
list_of text = unless (slice_get (faults_of (items_of text)) 0) (set_of_items (items_of text))

-- ---- writing

-- whether a run starts at the node: the node before it is no member
abbrev pub starts_run : ℕ → ℕ → Bool
starts_run set node = node == 0 || not (has set (node - 1))

-- the last node of the run that starts at this one: the run goes on as long as the next node is a
-- member
abbrev pub run_end : ℕ → ℕ → ℕ
run_end set first = first + prefix_len (has set) (range_with_len (first + 1) (255 - first))

-- the first nodes of the maximal runs, rising
abbrev pub run_starts : ℕ → List ℕ
run_starts set = filter (starts_run set) (members set)

-- a run of one node is written as `a`, a longer one as `a-b`
abbrev pub run_text : ℕ → ℕ → List ℕ
run_text first last = if first == last then decimal first else decimal first ++ codes "-"
    ++ decimal last

-- a text with one more part: after a comma, unless it is the first
abbrev pub with_part : List ℕ → List ℕ → List ℕ
with_part text part = if length text == 0 then part else text ++ (codes "," ++ part)

-- the text of a set: its maximal runs, rising, with commas between them
abbrev pub text_of : ℕ → List ℕ
text_of set = join_with_byte 44 (map (λ first. run_text first (run_end set first)) (run_starts set))
