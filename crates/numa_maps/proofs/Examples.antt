-- Worked examples: the lines that the definitions give.
use Rattle.std.proofs.Common.{◌≡◌, ℕ, ◌^◌, Option, None, List, [], ◌∷◌, codes, refl}
use Rattle.std.specs.Fmt.{digits}
use Rattle.numa_requests.specs.declared.placement.Placement.{Placement}
use Rattle.numa_mask.specs.NodeSet.{members}
use Rattle.numa_machine.specs.Sizes.{is_part}
use Rattle.numa_machine.specs.declared.page_size.PageSize.TheVariants.{Small}
use Rattle.numa_mode.specs.Policy.{PolicyRecord}
use Rattle.numa_mode.specs.declared.modes.Mode.TheVariants.{Bind, Interleave, Local, Preferred}
use Rattle.numa_mode.specs.declared.modes.Mode.TheVariants.{PreferredMany, WeightedInterleave}
use Rattle.numa_mode.specs.declared.modes.NodeFlag.TheVariants.{Plain, Static}
use Rattle.numa_ranges.specs.declared.run.Run.{Run}
use Rattle.numa_space.proofs.Rows.{flat, asked}
use Rattle.numa_space.specs.Pages.{resolved_policy}
use Rattle.numa_requests.specs.declared.command.Command.{Command}
use Rattle.numa_requests.specs.declared.command.Command.TheVariants.{Map, Mbind, SetTask}
use Rattle.numa_maps.specs.Listing.{address_text, listing, lowest_from, nodes_text}
use Rattle.numa_maps.specs.Residents.{Kept}

range : ℕ → ℕ → ℕ → Run (Option PolicyRecord)
range first pages index = record { first = first; pages = pages; index = index; value = None }

-- a page that task 1 has on this node
on : ℕ → ℕ → ℕ × Placement
on page node = (
  page,
  record {
    version = 3;
    task = 1;
    page = page;
    node = node;
    frame =
        record { node = node; number = 0 };
    rank = 0;
  },
)

-- ---- three ranges and three placed pages

bound_run : List Command
bound_run = Mbind 0x13000 0x3000 (asked Bind Plain (2 ∷ []))
    ∷ SetTask 1 (asked Interleave Plain (0 ∷ 1 ∷ 2 ∷ 3 ∷ [])) ∷ Map 0x10000 0xa000 0 Small ∷ []

three_ranges : List (Run (Option PolicyRecord))
three_ranges = range 0x10 3 0 ∷ range 0x13 3 3 ∷ range 0x16 4 6 ∷ []

three_pages : Kept
three_pages = on 0x10 0 ∷ on 0x11 1 ∷ on 0x14 2 ∷ []

no-page : listing (resolved_policy (flat 4) bound_run 1) [] three_ranges
    ≡ codes "00010000 interleave:0-3\n00013000 bind:2\n00016000 interleave:0-3\n"
unfolding is_part members digits bound_run three_ranges range
no-page = refl

three-pages : listing (resolved_policy (flat 4) bound_run 1) three_pages three_ranges
    ≡ codes
    "00010000 interleave:0-3 anon=2 N0=1 N1=1 kernelpagesize_kB=4\n00013000 bind:2 anon=1 N2=1 kernelpagesize_kB=4\n00016000 interleave:0-3\n"
unfolding is_part members digits nodes_text bound_run three_ranges three_pages range on
three-pages = refl

-- a page that no range has is not shown, and ten pages are counted in decimal
other-pages : listing (λ page. None) (on 0xf 3 ∷ on 0x10 0 ∷ on 0x11 0 ∷ on 0x12 0 ∷ on 0x13 0
    ∷ on 0x14 0 ∷ on 0x15 0 ∷ on 0x16 0 ∷ on 0x17 0 ∷ on 0x18 255 ∷ on 0x19 0 ∷ on 0x1a 3 ∷ [])
    (range 0x10 10 0 ∷ []) ≡ codes "00010000 default anon=10 N0=9 N255=1 kernelpagesize_kB=4\n"
unfolding is_part digits nodes_text range on
other-pages = refl

-- two pages of 2 MiB, each on the node of the lowest of its placed parts
huge-pages : listing (λ page. None) (on 0x405 3 ∷ on 0x407 0 ∷ on 0x7ff 1 ∷ on 0x800 0 ∷ [])
    (range 0x400 0x400 (2 ^ 36) ∷ [])
    ≡ codes "00400000 default anon=2 N1=1 N3=1 kernelpagesize_kB=2048\n"
unfolding digits nodes_text is_part lowest_from range on
huge-pages = refl

-- ---- the texts of policies

policy_run : List Command
policy_run = SetTask 4 (asked Preferred Plain (0 ∷ 1 ∷ [])) ∷ SetTask 3 (asked Local Plain [])
    ∷ SetTask 2 (asked PreferredMany Static (0 ∷ []))
    ∷ SetTask 1 (asked WeightedInterleave Plain (0 ∷ 1 ∷ [])) ∷ Map 0x7ffffffff000 0x1000 0 Small ∷
    []

-- the listing of one page, for a task
line_for : ℕ → List ℕ
line_for task = listing (resolved_policy (flat 2) policy_run task) [] (range 0x7ffffffff 1 0 ∷ [])

weighted : line_for 1 ≡ codes "7ffffffff000 weighted interleave:0-1\n"
unfolding is_part members digits line_for policy_run range
weighted = refl

many : line_for 2 ≡ codes "7ffffffff000 prefer (many)=static:0\n"
unfolding is_part members digits line_for policy_run range
many = refl

local : line_for 3 ≡ codes "7ffffffff000 local\n"
unfolding is_part members digits line_for policy_run range
local = refl

preferred : line_for 4 ≡ codes "7ffffffff000 prefer:0\n"
unfolding is_part members digits line_for policy_run range
preferred = refl

default : line_for 5 ≡ codes "7ffffffff000 default\n"
unfolding is_part members digits line_for policy_run range
default = refl

-- ---- addresses

first-page : address_text 0 ≡ codes "00000000"
unfolding digits
first-page = refl

last-page : address_text 0x7ffffffff ≡ codes "7ffffffff000"
unfolding digits
last-page = refl
