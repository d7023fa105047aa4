-- Worked examples: how many ranges there are. They are too many pages to compute, so each is
-- counted from its runs.
use Rattle.std.proofs.Common.{◌≡◌, ℕ, ◌+◌, ◌-◌, ◌<◌, ◌≤◌, true, false, not, ltb, List, [], ◌∷◌}
use Rattle.std.proofs.Common.{length, Option, Some, None, is_some, refl, sym, ap, ◌∙◌, arith}
use Rattle.numa_mask.specs.NodeSet.{members}
use Rattle.numa_machine.specs.Sizes.{is_inside, is_part}
use Rattle.numa_machine.specs.Machine.{Hardware}
use Rattle.numa_machine.specs.declared.page_size.PageSize.TheVariants.{Small}
use Rattle.numa_mode.specs.Policy.{Specification, PolicyRecord}
use Rattle.numa_mode.specs.declared.modes.Mode.TheVariants.{Default, Bind, Interleave}
use Rattle.numa_mode.specs.declared.modes.NodeFlag.TheVariants.{Plain}
use Rattle.numa_ranges.specs.Runs.{page_at, AreApart}
use Rattle.numa_ranges.specs.Edits.{edit_of, edited_span, maximal_runs, HasRoom}
use Rattle.numa_ranges.specs.Maps.{any_page, with_span}
use Rattle.numa_ranges.specs.declared.run.Run.{Run}
use Rattle.numa_ranges.proofs.Cut.{apart-edited, page_at-edited}
use Rattle.numa_ranges.proofs.Placed.{page_at-placed}
use Rattle.numa_ranges.proofs.Spans.{count-joined, without-is, changed-is}
use Rattle.numa_space.specs.Limited.{Bounds}
use Rattle.numa_space.specs.History.{page_of, page_count}
use Rattle.numa_space.specs.Policies.{allowed_nodes}
use Rattle.numa_space.specs.Pages.{page_in}
use Rattle.numa_space.specs.Same.{same_record}
use Rattle.numa_space.specs.Refusals.{parts_pages}
use Rattle.numa_space.specs.Refusals.{bad_map_span, bad_policy_span, bad_unmap_span, when}
use Rattle.numa_space.specs.Refusals.{refusal_of, range_count_of}
use Rattle.numa_space.specs.Steps.{record_now, policy_with_home}
use Rattle.numa_requests.specs.declared.command.Command.{Command}
use Rattle.numa_requests.specs.declared.command.Command.TheVariants.{Map, Unmap, Mbind, SetTask}
use Rattle.numa_requests.specs.declared.command.Command.TheVariants.{SetHome}
use Rattle.numa_requests.specs.declared.refusal.Refusal.TheVariants.{TooManyRanges}
use Rattle.numa_space.proofs.Pages.{pages-next}
use Rattle.numa_space.proofs.Same.{same_record-exact, same_record-refl}
use Rattle.numa_space.proofs.Rows.{flat, in_a_row, asked}

-- ---- runs that say what a history says of each page

abbrev Runs : Type 0
Runs = List (Run (Option PolicyRecord))

-- pages without a record
abbrev plain : ℕ → ℕ → ℕ → Run (Option PolicyRecord)
plain first pages index = record { first = first; pages = pages; index = index; value = None }

record Shows (machine : Hardware) (history : List Command) (runs : Runs) : Type 0 where
  apart : AreApart 0 runs
  pages : (page : ℕ) → page_at runs page ≡ page_in machine history page

-- joined, they are the ranges
counted : (machine : Hardware) (history : List Command) (runs : Runs) → Shows machine history runs
    → range_count_of machine history ≡ length (maximal_runs same_record runs)
counted machine history runs shows = count-joined same_record same_record-exact same_record-refl
    runs (page_in machine history) shows.apart shows.pages

-- a first map
shows-first : (machine : Hardware) (start bytes offset : ℕ)
    → AreApart 0 (plain (page_of start) (page_count bytes) offset ∷ [])
    → Shows machine (Map start bytes offset Small ∷ []) (plain (page_of start) (page_count bytes)
    offset
    ∷ [])
shows-first machine start bytes offset apart =
    record {
      apart = apart;
      pages =
          λ page. sym (pages-next machine [] (Map start bytes offset Small) page);
    }

shows-edited : (machine : Hardware) (history : List Command) (command : Command) (first pages : ℕ)
    (edit : Option PolicyRecord → Option (Option PolicyRecord)) (runs : Runs)
    → Shows machine history runs
    → ((page : ℕ) → page_in machine (command ∷ history) page ≡ edited_span first pages edit
    (page_in machine history) page)
    → Shows machine (command ∷ history) (edit_of first (first + pages) edit runs)
shows-edited machine history command first pages edit runs shows step =
    let whole : page_at runs ≡ page_in machine history = λ i page. shows.pages page i in
    record {
      apart = apart-edited 0 first (first + pages) edit runs (omega arith) shows.apart;
      pages = λ page. page_at-edited 0 first pages edit runs page shows.apart
          ∙ ap (λ at. edited_span first pages edit at page) whole ∙ sym (step page);
    }

shows-bound : (machine : Hardware) (history : List Command) (start bytes : ℕ) (spec : Specification)
    (runs : Runs) → Shows machine history runs
    → any_page (λ page. not (is_some (page_in machine history page))) (page_of start)
    (page_count bytes) ≡ false
    → Shows machine (Mbind start bytes spec ∷ history)
    (edit_of (page_of start) (page_of start + page_count bytes)
    (λ old. Some (record_now (allowed_nodes machine history) spec)) runs)
shows-bound machine history start bytes spec runs shows whole =
    shows-edited machine history (Mbind start bytes spec) (page_of start) (page_count bytes)
    (λ old. Some (record_now (allowed_nodes machine history) spec)) runs shows
    (λ page. pages-next machine history (Mbind start bytes spec) page
    ∙ ap (λ at. at page)
    (sym (changed-is (page_of start) (page_count bytes)
    (λ old. record_now (allowed_nodes machine history) spec) (page_in machine history))))

shows-homed : (machine : Hardware) (history : List Command) (start bytes node : ℕ) (runs : Runs)
    → Shows machine history runs
    → Shows machine (SetHome start bytes node ∷ history)
    (edit_of (page_of start) (page_of start + page_count bytes)
    (λ old. Some (policy_with_home node old)) runs)
shows-homed machine history start bytes node runs shows =
    shows-edited machine history (SetHome start bytes node) (page_of start) (page_count bytes)
    (λ old. Some (policy_with_home node old)) runs shows
    (λ page. pages-next machine history (SetHome start bytes node) page
    ∙ ap (λ at. at page)
    (sym (changed-is (page_of start) (page_count bytes) (policy_with_home node)
    (page_in machine history))))

shows-unmapped : (machine : Hardware) (history : List Command) (start bytes : ℕ) (runs : Runs)
    → Shows machine history runs → Shows machine (Unmap start bytes ∷ history)
    (edit_of (page_of start) (page_of start + page_count bytes) (λ old. None) runs)
shows-unmapped machine history start bytes runs shows =
    shows-edited machine history (Unmap start bytes) (page_of start) (page_count bytes)
    (λ old. None) runs shows
    (λ page. pages-next machine history (Unmap start bytes) page
    ∙ ap (λ at. at page)
    (sym (without-is (page_of start) (page_count bytes) (page_in machine history))))

shows-task : (machine : Hardware) (history : List Command) (task : ℕ) (spec : Specification)
    (runs : Runs) → Shows machine history runs → Shows machine (SetTask task spec ∷ history) runs
shows-task machine history task spec runs shows =
    record {
      apart = shows.apart;
      pages = λ page. shows.pages page
          ∙ sym (pages-next machine history (SetTask task spec) page);
    }

-- ---- a policy in the middle of a range, and its removal

bind_two : Specification
bind_two = asked Bind Plain (2 ∷ [])

whole_run : List Command
whole_run = SetTask 1 (asked Interleave Plain (0 ∷ 1 ∷ 2 ∷ 3 ∷ [])) ∷ Map 0x10000 0xa000 0 Small ∷
    []

shows-whole : Shows (flat 4) whole_run (plain 16 10 0 ∷ [])
unfolding whole_run
shows-whole = shows-task (flat 4) (Map 0x10000 0xa000 0 Small ∷ []) 1
    (asked Interleave Plain (0 ∷ 1 ∷ 2 ∷ 3 ∷ [])) _
    (shows-first (flat 4) 0x10000 0xa000 0 (omega arith, omega arith, omega arith, omega arith))

whole-is_one : range_count_of (flat 4) whole_run ≡ 1
whole-is_one = counted (flat 4) whole_run _ shows-whole

split-into_three : range_count_of (flat 4) (Mbind 0x13000 0x3000 bind_two ∷ whole_run) ≡ 3
unfolding members any_page whole_run bind_two
split-into_three = counted (flat 4) (Mbind 0x13000 0x3000 bind_two ∷ whole_run) _
    (shows-bound (flat 4) whole_run 0x13000 0x3000 bind_two _ shows-whole refl)

-- DEFAULT in the same place makes one range of the three
default-joins_three : range_count_of (flat 4) (Mbind 0x13000 0x3000 (asked Default Plain [])
    ∷ Mbind 0x13000 0x3000 bind_two ∷ whole_run) ≡ 1
unfolding members any_page whole_run bind_two
default-joins_three =
    counted (flat 4) (Mbind 0x13000 0x3000 (asked Default Plain []) ∷ Mbind 0x13000 0x3000 bind_two
    ∷ whole_run) _
    (shows-bound (flat 4) (Mbind 0x13000 0x3000 bind_two ∷ whole_run) 0x13000 0x3000
    (asked Default Plain []) _
    (shows-bound (flat 4) whole_run 0x13000 0x3000 bind_two _ shows-whole refl) refl)

-- ---- homes

bind_low : Specification
bind_low = asked Bind Plain (0 ∷ 1 ∷ [])

spread : Specification
spread = asked Interleave Plain (0 ∷ 1 ∷ 2 ∷ [])

home_run : List Command
home_run = SetHome 0x11000 0x1000 2 ∷ Mbind 0x12000 0x1000 spread ∷ Mbind 0x10000 0x2000 bind_low
    ∷ Map 0x10000 0x4000 0 Small ∷ []

home_runs : Runs
home_runs = edit_of 17 18 (λ old. Some (policy_with_home 2 old))
    (edit_of 18 19 (λ old. Some (record_now 7 spread))
    (edit_of 16 18 (λ old. Some (record_now 7 bind_low)) (plain 16 4 0 ∷ [])))

shows-home_run : Shows in_a_row home_run home_runs
unfolding members any_page home_run home_runs spread bind_low
shows-home_run =
    shows-homed in_a_row (Mbind 0x12000 0x1000 spread ∷ Mbind 0x10000 0x2000 bind_low
    ∷ Map 0x10000 0x4000 0 Small ∷ []) 0x11000 0x1000 2 _
    (shows-bound in_a_row (Mbind 0x10000 0x2000 bind_low ∷ Map 0x10000 0x4000 0 Small ∷ []) 0x12000
    0x1000
    spread _
    (shows-bound in_a_row (Map 0x10000 0x4000 0 Small ∷ []) 0x10000 0x2000 bind_low _
    (shows-first in_a_row 0x10000 0x4000 0 (omega arith, omega arith, omega arith, omega arith))
    refl) refl)

home-splits : range_count_of in_a_row home_run ≡ 4
unfolding members any_page home_run home_runs spread bind_low
home-splits = counted in_a_row home_run home_runs shows-home_run

bound_anew-joins : range_count_of in_a_row (Mbind 0x11000 0x1000 bind_low ∷ home_run) ≡ 3
unfolding members any_page home_run home_runs spread bind_low
bound_anew-joins = counted in_a_row (Mbind 0x11000 0x1000 bind_low ∷ home_run) _
    (shows-bound in_a_row home_run 0x11000 0x1000 bind_low home_runs shows-home_run refl)

-- ---- limits

narrow : Bounds
narrow = record { max_ranges = 2; max_tasks = 1; max_commands = 4 }

three_pages : List Command
three_pages = Map 0x10000 0x3000 0 Small ∷ []

shows-three : (nodes : ℕ) → Shows (flat nodes) three_pages (plain 16 3 0 ∷ [])
unfolding three_pages
shows-three nodes = shows-first (flat nodes) 0x10000 0x3000 0
    (omega arith, omega arith, omega arith, omega arith)

-- a count that is above the limit
refused-by_count : (count limit known : ℕ) → count ≡ known → ltb limit known ≡ true
    → when (ltb limit count) TooManyRanges ≡ Some TooManyRanges
refused-by_count count limit known same above = ap (λ n. when (ltb limit n) TooManyRanges) same
    ∙ ap (λ b. when b TooManyRanges) above

bind_one : Specification
bind_one = asked Bind Plain (1 ∷ [])

bind-in_the_middle : range_count_of (flat 2) (Mbind 0x11000 0x1000 bind_one ∷ three_pages) ≡ 3
unfolding members any_page three_pages bind_one
bind-in_the_middle = counted (flat 2) (Mbind 0x11000 0x1000 bind_one ∷ three_pages) _
    (shows-bound (flat 2) three_pages 0x11000 0x1000 bind_one _ (shows-three 2) refl)

bind-splits_too_far : refusal_of (flat 2) narrow three_pages (Mbind 0x11000 0x1000 bind_one)
    ≡ Some TooManyRanges
unfolding members any_page bad_policy_span parts_pages is_inside is_part narrow three_pages bind_one
bind-splits_too_far =
    refused-by_count (range_count_of (flat 2) (Mbind 0x11000 0x1000 bind_one ∷ three_pages)) 2 3
    bind-in_the_middle refl

single : Bounds
single = record { max_ranges = 1; max_tasks = 1; max_commands = 9 }

unmap-in_the_middle : range_count_of (flat 1) (Unmap 0x11000 0x1000 ∷ three_pages) ≡ 2
unfolding members any_page three_pages
unmap-in_the_middle = counted (flat 1) (Unmap 0x11000 0x1000 ∷ three_pages) _
    (shows-unmapped (flat 1) three_pages 0x11000 0x1000 _ (shows-three 1))

unmap-splits_too_far : refusal_of (flat 1) single three_pages (Unmap 0x11000 0x1000)
    ≡ Some TooManyRanges
unfolding members any_page bad_unmap_span parts_pages is_inside is_part single three_pages
unmap-splits_too_far =
    refused-by_count (range_count_of (flat 1) (Unmap 0x11000 0x1000 ∷ three_pages)) 1 2
    unmap-in_the_middle refl

-- a map that goes on where a range stands makes it longer; one with another index is a range of its
-- own
two_pages : List Command
two_pages = Unmap 0x12000 0x5000 ∷ three_pages

shows-two : Shows (flat 1) two_pages (plain 16 2 0 ∷ [])
unfolding two_pages three_pages
shows-two = shows-unmapped (flat 1) three_pages 0x12000 0x5000 _ (shows-three 1)

shows-appended : (machine : Hardware) (history : List Command) (run : Run (Option PolicyRecord))
    (start bytes offset : ℕ) → Shows machine history (run ∷ []) → 0 < run.pages
    → run.first + run.pages ≤ page_of start
    → AreApart 0 (run ∷ plain (page_of start) (page_count bytes) offset ∷ [])
    → Shows machine (Map start bytes offset Small ∷ history)
    (run ∷ plain (page_of start) (page_count bytes) offset ∷ [])
shows-appended machine history run start bytes offset shows some behind apart =
    let whole : page_at (run ∷ []) ≡ page_in machine history = λ i page. shows.pages page i in
    let room : HasRoom (run ∷ []) 1 (page_of start) (page_of start + (page_count bytes - 1)) =
    record {
      within = omega arith;
      apart = shows.apart;
      maximal = (tt, tt);
      before =
          ((some, behind), tt);
      behind = tt;
    } in
    record {
      apart = apart;
      pages = λ page. page_at-placed (run ∷ []) 1 (plain (page_of start) (page_count bytes) offset)
          room page ∙ ap (λ at. with_span (page_of start) (page_count bytes) offset None at page)
          whole ∙ sym (pages-next machine history (Map start bytes offset Small) page);
    }

map-goes_on : range_count_of (flat 1) (Map 0x12000 0x1000 2 Small ∷ two_pages) ≡ 1
unfolding two_pages three_pages
map-goes_on = counted (flat 1) (Map 0x12000 0x1000 2 Small ∷ two_pages) _
    (shows-appended (flat 1) two_pages (plain 16 2 0) 0x12000 0x1000 2 shows-two (omega arith)
    (omega arith) (
      omega arith,
      omega arith,
      omega arith,
      (omega arith, omega arith, omega arith, omega arith),
    ))

map-with_a_gap : range_count_of (flat 1) (Map 0x12000 0x1000 9 Small ∷ two_pages) ≡ 2
unfolding two_pages three_pages
map-with_a_gap = counted (flat 1) (Map 0x12000 0x1000 9 Small ∷ two_pages) _
    (shows-appended (flat 1) two_pages (plain 16 2 0) 0x12000 0x1000 9 shows-two (omega arith)
    (omega arith) (
      omega arith,
      omega arith,
      omega arith,
      (omega arith, omega arith, omega arith, omega arith),
    ))

map-splits_too_far : refusal_of (flat 1) single two_pages (Map 0x12000 0x1000 9 Small)
    ≡ Some TooManyRanges
unfolding members any_page bad_map_span single two_pages three_pages
map-splits_too_far = refused-by_count (range_count_of (flat 1) (Map 0x12000 0x1000 9 Small ∷
    two_pages)) 1
    2 map-with_a_gap refl
