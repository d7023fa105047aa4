-- Worked examples: pages of 2 MiB, which take turns as one and are never parted.
use Rattle.std.proofs.Common.{◌≡◌, true, false, Some, List, [], ◌∷◌, refl}
use Rattle.numa_mask.specs.NodeSet.{members}
use Rattle.numa_machine.specs.Machine.{fallback_order}
use Rattle.numa_machine.specs.Sizes.{is_inside, is_part, turn_at}
use Rattle.numa_machine.specs.Weights.{interleave_node}
use Rattle.numa_machine.specs.declared.page_size.PageSize.TheVariants.{Huge}
use Rattle.numa_mode.specs.declared.modes.Mode.TheVariants.{Bind, Interleave}
use Rattle.numa_mode.specs.declared.modes.NodeFlag.TheVariants.{Plain}
use Rattle.numa_ranges.specs.Maps.{any_page}
use Rattle.numa_requests.specs.declared.command.Command.{Command}
use Rattle.numa_requests.specs.declared.command.Command.TheVariants.{Map, Unmap, Mbind, SetTask}
use Rattle.numa_requests.specs.declared.command.Command.TheVariants.{SetHome}
use Rattle.numa_requests.specs.declared.refusal.Refusal.TheVariants.{BadOffset, EmptyLength, Hole}
use Rattle.numa_requests.specs.declared.refusal.Refusal.TheVariants.{OutOfSpace, Unaligned}
use Rattle.numa_space.specs.Lists.{node_list}
use Rattle.numa_space.specs.Pages.{is_mapped, page_in}
use Rattle.numa_space.specs.Policies.{allowed_nodes, mems_of, record_now}
use Rattle.numa_space.specs.Refusals.{bad_map_span, bad_policy_span, bad_unmap_span, lacks_policy}
use Rattle.numa_space.specs.Refusals.{keeps_home, parts_pages, refusal_of}
use Rattle.numa_space.specs.Same.{same_record}
use Rattle.numa_space.proofs.Rows.{asked, flat}
use Rattle.numa_space.proofs.RefusalRows.{wide}

-- ---- turns

-- 8 MiB and a byte from 1 GiB on, with offset 0, and 4 MiB from 2 GiB on, with an offset of 2 MiB
huge_run : List Command
huge_run = SetTask 1 (asked Interleave Plain (0 ∷ 1 ∷ 2 ∷ 3 ∷ [])) ∷ Map 0x80000000 0x400000 512
    Huge
    ∷ Map 0x40000000 0x800001 0 Huge ∷ []

first-part : node_list (flat 4) huge_run 1 0x40000 0 ≡ 0 ∷ 1 ∷ 2 ∷ 3 ∷ []
unfolding members fallback_order interleave_node turn_at is_part huge_run mems_of
first-part = refl

last-part : node_list (flat 4) huge_run 1 0x401ff 0 ≡ 0 ∷ 1 ∷ 2 ∷ 3 ∷ []
unfolding members fallback_order interleave_node turn_at is_part huge_run mems_of
last-part = refl

next-page : node_list (flat 4) huge_run 1 0x40200 0 ≡ 1 ∷ 0 ∷ 2 ∷ 3 ∷ []
unfolding members fallback_order interleave_node turn_at is_part huge_run mems_of
next-page = refl

fifth-page : node_list (flat 4) huge_run 1 0x40800 0 ≡ 0 ∷ 1 ∷ 2 ∷ 3 ∷ []
unfolding members fallback_order interleave_node turn_at is_part huge_run mems_of
fifth-page = refl

by-offset : node_list (flat 4) huge_run 1 0x80000 0 ≡ 1 ∷ 0 ∷ 2 ∷ 3 ∷ []
unfolding members fallback_order interleave_node turn_at is_part huge_run mems_of
by-offset = refl

-- the byte takes a page
whole-page : is_mapped huge_run 0x409ff ≡ true
unfolding huge_run
whole-page = refl

no-further : is_mapped huge_run 0x40a00 ≡ false
unfolding huge_run
no-further = refl

-- ---- maps that are refused

map-between_pages : refusal_of (flat 2) wide [] (Map 0x40001000 0x200000 0 Huge) ≡ Some Unaligned
unfolding bad_map_span wide mems_of
map-between_pages = refl

map-of_nothing : refusal_of (flat 2) wide [] (Map 0x40000000 0 0 Huge) ≡ Some EmptyLength
unfolding bad_map_span wide mems_of
map-of_nothing = refl

-- the last page would end above
map-past_the_end : refusal_of (flat 2) wide [] (Map 0x7fffffe00000 0x200001 0 Huge)
    ≡ Some OutOfSpace
unfolding bad_map_span wide mems_of
map-past_the_end = refl

map-offset_too_large : refusal_of (flat 2) wide [] (Map 0x40000000 1 34359738368 Huge)
    ≡ Some BadOffset
unfolding bad_map_span wide mems_of
map-offset_too_large = refl

map-offset_between : refusal_of (flat 2) wide [] (Map 0x40000000 1 1 Huge) ≡ Some Unaligned
unfolding any_page bad_map_span wide mems_of
map-offset_between = refl

-- ---- changes of a part alone

one_page : List Command
one_page = Mbind 0x40200000 0x200000 (asked Bind Plain (1 ∷ [])) ∷ Map 0x40000000 0x400000 0 Huge ∷
    []

bind-a_part : refusal_of (flat 2) wide one_page
    (Mbind 0x40001000 0x1000 (asked Bind Plain (1 ∷ []))) ≡ Some Unaligned
unfolding members any_page bad_policy_span parts_pages is_inside is_part one_page wide mems_of
bind-a_part = refl

-- whose first part begins the page, but whose end lies inside
bind-the_first_part : refusal_of (flat 2) wide one_page
    (Mbind 0x40000000 0x1000 (asked Bind Plain (1 ∷ []))) ≡ Some Unaligned
unfolding members any_page bad_policy_span parts_pages is_inside is_part one_page wide mems_of
bind-the_first_part = refl

-- a hole comes first
bind-from_a_hole : refusal_of (flat 2) wide one_page
    (Mbind 0x3ffff000 0x2000 (asked Bind Plain (1 ∷ []))) ≡ Some Hole
unfolding members any_page bad_policy_span parts_pages is_inside is_part one_page wide mems_of
bind-from_a_hole = refl

unmap-a_part : refusal_of (flat 2) wide one_page (Unmap 0x40200000 0x1000) ≡ Some Unaligned
unfolding members any_page bad_unmap_span parts_pages is_inside is_part one_page wide mems_of
unmap-a_part = refl

home-of_a_part : refusal_of (flat 2) wide one_page (SetHome 0x40300000 0x100000 0) ≡ Some Unaligned
unfolding members any_page bad_policy_span lacks_policy parts_pages is_inside is_part one_page wide
    mems_of
home-of_a_part = refl

-- but a part may get what its page has: its policy again, or a home where it has no policy
same-policy : parts_pages (same_record (record_now (allowed_nodes (flat 2) one_page)
    (asked Bind Plain (1 ∷ [])))) (page_in (flat 2) one_page) 0x40201 1 ≡ false
unfolding members parts_pages is_inside is_part one_page mems_of
same-policy = refl

no-policy : parts_pages (keeps_home 0) (page_in (flat 2) one_page) 0x40001 1 ≡ false
unfolding members parts_pages is_inside is_part one_page mems_of
no-policy = refl

-- nor are pages parted by a span that has whole ones
whole-pages : parts_pages (λ policy. false) (page_in (flat 2) one_page) 0x40200 512 ≡ false
unfolding members parts_pages is_inside is_part one_page mems_of
whole-pages = refl
