-- Which refusals of a mapping of pages of 2 MiB stand before NoHugePages: all but the limits and
-- lack of memory.
use Rattle.std.proofs.Common.{◌≡◌, ℕ, Bool, true, false, Option, refl}
use Rattle.std.specs.Prelude.{◌-◌, ◌%◌, ◌^◌, ◌==◌, is_some, nat_le, nat_lt, not}
use Rattle.numa_machine.specs.Sizes.{bytes_of, whole}
use Rattle.numa_machine.specs.declared.page_size.PageSize.TheVariants.{Huge}
use Rattle.numa_machine.specs.declared.rules.Rules.{Rules}
use Rattle.numa_machine.specs.declared.rules.Rules.TheVariants.{Document, Linux}
use Rattle.numa_ranges.specs.Counts.{range_count}
use Rattle.numa_ranges.specs.Maps.{any_page}
use Rattle.numa_requests.specs.declared.command.Command.TheVariants.{Map}
use Rattle.numa_requests.specs.declared.refusal.Refusal.{Refusal}
use Rattle.numa_requests.specs.declared.refusal.Refusal.TheVariants.{BadOffset, CommandsSpent}
use Rattle.numa_requests.specs.declared.refusal.Refusal.TheVariants.{EmptyLength, OutOfSpace}
use Rattle.numa_requests.specs.declared.refusal.Refusal.TheVariants.{Overlap}
use Rattle.numa_requests.specs.declared.refusal.Refusal.TheVariants.{TooManyRanges, Unaligned}
use Rattle.numa_space.specs.History.{page_count, page_of}
use Rattle.numa_space.specs.Refusals.{Scene, bad_map_span, ends_above, first_of, refusal_in}
use Rattle.numa_space.specs.Refusals.{too_many_ranges, unaligned_offset, when}
use Rattle.numa_space.specs.Same.{same_record}
use Rattle.numa_page_state.specs.Strict.{is_late}

-- the first of them
abbrev pub causes_before : Scene → ℕ → ℕ → ℕ → Option Refusal
causes_before scene start bytes offset =
    first_of (when (nat_le scene.bounds.max_commands scene.version) CommandsSpent)
    (first_of (bad_map_span scene.machine.rules Huge start (whole Huge bytes))
    (first_of (when (nat_le (2 ^ 35) offset) BadOffset)
    (first_of (when (any_page (λ page. is_some (scene.pages page)) (page_of start)
    (page_count (whole Huge bytes))) Overlap)
    (unaligned_offset Huge offset))))

-- what stands in this order, and whether it is late
document : (rules : Rules) (a x y z b o u t : Bool)
    → is_late rules (first_of (when a CommandsSpent)
    (first_of (first_of (first_of (when x Unaligned) (when y OutOfSpace)) (when z EmptyLength))
    (first_of (when b BadOffset) (first_of (when o Overlap)
    (first_of (when u Unaligned) (when t TooManyRanges))))))
    ≡ not (is_some (first_of (when a CommandsSpent)
    (first_of (first_of (first_of (when x Unaligned) (when y OutOfSpace)) (when z EmptyLength))
    (first_of (when b BadOffset) (first_of (when o Overlap) (when u Unaligned))))))
document rules true x y z b o u t = refl
document rules false true y z b o u t = refl
document rules false false true z b o u t = refl
document rules false false false true b o u t = refl
document rules false false false false true o u t = refl
document rules false false false false false true u t = refl
document rules false false false false false false true t = refl
document rules false false false false false false false true = refl
document rules false false false false false false false false = refl

linux : (rules : Rules) (a x y z b o u t : Bool)
    → is_late rules (first_of (when a CommandsSpent)
    (first_of (first_of (when z EmptyLength) (first_of (when y OutOfSpace) (when x Unaligned)))
    (first_of (when b BadOffset) (first_of (when o Overlap)
    (first_of (when u Unaligned) (when t TooManyRanges))))))
    ≡ not (is_some (first_of (when a CommandsSpent)
    (first_of (first_of (when z EmptyLength) (first_of (when y OutOfSpace) (when x Unaligned)))
    (first_of (when b BadOffset) (first_of (when o Overlap) (when u Unaligned))))))
linux rules true x y z b o u t = refl
linux rules false x y true b o u t = refl
linux rules false x true false b o u t = refl
linux rules false true false false b o u t = refl
linux rules false false false false true o u t = refl
linux rules false false false false false true u t = refl
linux rules false false false false false false true t = refl
linux rules false false false false false false false true = refl
linux rules false false false false false false false false = refl

-- nothing stands against it but limits and lack of memory exactly where none of these does
abbrev IsLateBy : Rules → Scene → ℕ → ℕ → ℕ → Type 0
IsLateBy rules scene start bytes offset =
    is_late rules (first_of (when (nat_le scene.bounds.max_commands scene.version) CommandsSpent)
    (first_of (bad_map_span rules Huge start (whole Huge bytes))
    (first_of (when (nat_le (2 ^ 35) offset) BadOffset)
    (first_of (when (any_page (λ page. is_some (scene.pages page)) (page_of start)
    (page_count (whole Huge bytes))) Overlap)
    (first_of (unaligned_offset Huge offset) (too_many_ranges scene))))))
    ≡ not (is_some
    (first_of (when (nat_le scene.bounds.max_commands scene.version) CommandsSpent)
    (first_of (bad_map_span rules Huge start (whole Huge bytes))
    (first_of (when (nat_le (2 ^ 35) offset) BadOffset)
    (first_of (when (any_page (λ page. is_some (scene.pages page)) (page_of start)
    (page_count (whole Huge bytes))) Overlap)
    (unaligned_offset Huge offset))))))

late-by : (rules : Rules) (scene : Scene) (start bytes offset : ℕ)
    → IsLateBy rules scene start bytes offset
unfolding bad_map_span
late-by Document scene start bytes offset = document Document
    (nat_le scene.bounds.max_commands scene.version) (not (start % bytes_of Huge == 0))
    (ends_above (2 ^ 47) start (whole Huge bytes)) (whole Huge bytes == 0)
    (nat_le (2 ^ 35) offset) (any_page (λ page. is_some (scene.pages page)) (page_of start)
    (page_count (whole Huge bytes))) (not (offset % 512 == 0))
    (nat_lt scene.bounds.max_ranges (range_count same_record scene.pages_after))
late-by Linux scene start bytes offset = linux Linux
    (nat_le scene.bounds.max_commands scene.version) (not (start % bytes_of Huge == 0))
    (ends_above (2 ^ 47 - 4096) start (whole Huge bytes)) (whole Huge bytes == 0)
    (nat_le (2 ^ 35) offset) (any_page (λ page. is_some (scene.pages page)) (page_of start)
    (page_count (whole Huge bytes))) (not (offset % 512 == 0))
    (nat_lt scene.bounds.max_ranges (range_count same_record scene.pages_after))

pub late-is : (scene : Scene) (start bytes offset : ℕ)
    → is_late scene.machine.rules (refusal_in scene (Map start bytes offset Huge))
    ≡ not (is_some (causes_before scene start bytes offset))
late-is scene start bytes offset = late-by scene.machine.rules scene start bytes offset
