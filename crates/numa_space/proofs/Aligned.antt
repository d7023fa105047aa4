-- Pages of 2 MiB begin at multiples of 2 MiB.
use Rattle.std.proofs.Common.{◌≡◌, ℕ, ◌+◌, ◌-◌, ◌/◌, ◌%◌, ◌^◌, ◌<◌, ◌≤◌, true, false, Option, Some}
use Rattle.std.proofs.Common.{None, Result, Ok, Err, IfSome, refl, sym, subst, ◌∙◌, arith, inl, inr}
use Rattle.std.specs.Prelude.{is_some, nat_le, not, ◌==◌}
use Rattle.std.proofs.lemmas.Bool.{and_right, cases_lt, cond_both, eq-eqb, eqb-true, not-false}
use Rattle.std.proofs.lemmas.Bool.{not_from_true}
use Rattle.numa_machine.specs.Sizes.{is_inside, is_part, whole}
use Rattle.numa_machine.specs.declared.rules.Rules.{Rules}
use Rattle.numa_machine.specs.declared.rules.Rules.TheVariants.{Document, Linux}
use Rattle.numa_machine.specs.declared.page_size.PageSize.TheVariants.{Small, Huge}
use Rattle.numa_mode.specs.Policy.{PolicyRecord}
use Rattle.numa_ranges.specs.Maps.{any_page, changed_page}
use Rattle.numa_ranges.specs.Runs.{in_pages, page_at}
use Rattle.numa_ranges.proofs.Apart.{in_pages-below}
use Rattle.numa_requests.specs.declared.command.Command.{Command}
use Rattle.numa_requests.specs.declared.command.Command.TheVariants.{Map, Unmap, Mbind, SetTask}
use Rattle.numa_requests.specs.declared.command.Command.TheVariants.{Inherit, SetHome, SetWeight}
use Rattle.numa_requests.specs.declared.command.Command.TheVariants.{SetMems}
use Rattle.numa_requests.specs.declared.refusal.Refusal.{Refusal}
use Rattle.numa_requests.specs.declared.refusal.Refusal.TheVariants.{BadOffset, CommandsSpent}
use Rattle.numa_requests.specs.declared.refusal.Refusal.TheVariants.{EmptyLength, OutOfSpace}
use Rattle.numa_requests.specs.declared.refusal.Refusal.TheVariants.{Overlap, Unaligned}
use Rattle.numa_space.specs.History.{page_of, page_count}
use Rattle.numa_space.specs.Inside.{AreAligned}
use Rattle.numa_space.specs.Policies.{mems_of, policy_with_home, record_now}
use Rattle.numa_space.specs.Refusals.{bad_map_span, bad_span, cause_in, ends_above, refusal_in}
use Rattle.numa_space.specs.Refusals.{inside_of, unaligned, unaligned_offset, when}
use Rattle.numa_space.specs.Standing.{SpaceState}
use Rattle.numa_space.specs.Steps.{IsAnswer, pages_next, policy_after, scene_in}
use Rattle.numa_space.proofs.Answers.{AnswersBy}
use Rattle.numa_space.proofs.Refused.{first_of-none, when-none}
use Rattle.numa_space.proofs.Small.{map-small}

-- the border before it lies inside no page of 2 MiB
abbrev IsApart : Option (ℕ × Option PolicyRecord) → Type 0
IsApart at = IfSome at (λ p. is_inside p.0 ≡ false)

apart-changed : (change : Option PolicyRecord → Option PolicyRecord)
    (o : Option (ℕ × Option PolicyRecord)) → IsApart o → IsApart (changed_page change o)
apart-changed change None h = tt
apart-changed change (Some p) h = h

pub outside-aligned : (o : Option (ℕ × Option PolicyRecord))
    → IfSome o (λ p. is_inside p.0 ≡ false) → inside_of o ≡ None
outside-aligned None h = refl
outside-aligned (Some p) h = rw h refl

apart-small : (index : ℕ) → is_part index ≡ false → is_inside index ≡ false
unfolding is_inside
apart-small index small = rw small refl

apart-even : (index : ℕ) → index % 512 ≡ 0 → is_inside index ≡ false
unfolding is_inside
apart-even index even = and_right (is_part index) (not (index % 512 == 0))
    (not_from_true (index % 512 == 0) (eq-eqb (index % 512) 0 even))

-- ---- a map of pages of 2 MiB

-- it begins at a multiple of 2 MiB
start-even : (start : ℕ) → unaligned Huge start ≡ None → start % 2097152 ≡ 0
start-even start none = eqb-true (start % 2097152) 0 (not-false (start % 2097152 == 0)
    (when-none (not (start % 2097152 == 0)) Unaligned none))

span-even : (rules : Rules) (start bytes : ℕ) → bad_map_span rules Huge start bytes ≡ None
    → start % 2097152 ≡ 0
unfolding bad_map_span
span-even Document start bytes none =
    let parts = first_of-none (bad_span Huge start bytes) (when (bytes == 0) EmptyLength) none in
    let ends = first_of-none (unaligned Huge start) (when (ends_above (2 ^ 47) start bytes)
    OutOfSpace)
    parts.0 in
    start-even start ends.0
span-even Linux start bytes none =
    let parts = first_of-none (when (bytes == 0) EmptyLength) _ none in
    let ends = first_of-none (when (ends_above (2 ^ 47 - 4096) start bytes) OutOfSpace)
    (unaligned Huge start) parts.1 in
    start-even start ends.1

offset-even : (offset : ℕ) → unaligned_offset Huge offset ≡ None → offset % 512 ≡ 0
offset-even offset none = eqb-true (offset % 512) 0 (not-false (offset % 512 == 0)
    (when-none (not (offset % 512 == 0)) Unaligned none))

-- so at multiples of 2 MiB its indexes are multiples too
map-even : (old : SpaceState) (start bytes offset page : ℕ)
    → refusal_in (scene_in old (Map start bytes offset Huge)) (Map start bytes offset Huge) ≡ None
    → in_pages (page_of start) (page_count (whole Huge bytes)) page ≡ true → page % 512 ≡ 0
    → is_inside (2 ^ 36 + offset + (page - page_of start)) ≡ false
map-even old start bytes offset page none inside even =
    let room = first_of-none (when (nat_le old.bounds.max_commands old.version) CommandsSpent)
    (cause_in (scene_in old (Map start bytes offset Huge)) (Map start bytes offset Huge)) none in
    let span = first_of-none (bad_map_span old.machine.rules Huge start (whole Huge bytes)) _
    room.1 in
    let index = first_of-none (when (nat_le (2 ^ 35) offset) BadOffset) _ span.1 in
    let free = first_of-none (when (any_page (λ page. is_some (page_at old.ranges page))
    (page_of start) (page_count (whole Huge bytes))) Overlap) _ index.1 in
    let begun = first_of-none (unaligned_offset Huge offset) _ free.1 in
    let first = span-even old.machine.rules start (whole Huge bytes) span.0 in
    let low = elim (cases_lt page (page_of start)) as (λ c. page_of start ≤ page) [
      | inl l ↦ let odd : true ≡ false = sym inside
          ∙ in_pages-below (page_of start) (page_count (whole Huge bytes)) page l in absurd (cc)
      | inr l ↦ l
    ] in
    apart-even (2 ^ 36 + offset + (page - page_of start))
    (omega (arith, low, first, offset-even offset begun.0, even))

-- ---- any command

module _ (old : SpaceState) (aligned : AreAligned (page_at old.ranges)) where
  aligned-next : (command : Command) (page : ℕ) → page % 512 ≡ 0
      → refusal_in (scene_in old command) command ≡ None
      → IsApart (pages_next old.machine old.allowed (page_at old.ranges) command page)
  aligned-next (Map start bytes offset Small) page even accepted =
      cond_both (in_pages (page_of start) (page_count bytes) page)
      (Some (offset + (page - page_of start), None)) (page_at old.ranges page) IsApart
      (λ e. apart-small (offset + (page - page_of start))
      (map-small old start bytes offset page accepted e)) (λ e. aligned page even)
  aligned-next (Map start bytes offset Huge) page even accepted =
      cond_both (in_pages (page_of start) (page_count (whole Huge bytes)) page)
      (Some (2 ^ 36 + offset + (page - page_of start), None)) (page_at old.ranges page) IsApart
      (λ e. map-even old start bytes offset page accepted e even) (λ e. aligned page even)
  aligned-next (Unmap start bytes) page even accepted =
      cond_both (in_pages (page_of start) (page_count bytes) page) None (page_at old.ranges page)
      IsApart (λ e. tt) (λ e. aligned page even)
  aligned-next (Mbind start bytes spec) page even accepted =
      cond_both (in_pages (page_of start) (page_count bytes) page)
      (changed_page (λ r. record_now old.allowed spec) (page_at old.ranges page))
      (page_at old.ranges page) IsApart
      (λ e. apart-changed (λ r. record_now old.allowed spec) (page_at old.ranges page)
      (aligned page even)) (λ e. aligned page even)
  aligned-next (SetTask task spec) page even accepted = aligned page even
  aligned-next (Inherit heir from) page even accepted = aligned page even
  aligned-next (SetHome start bytes node) page even accepted =
      cond_both (in_pages (page_of start) (page_count bytes) page)
      (changed_page (policy_with_home node) (page_at old.ranges page)) (page_at old.ranges page)
      IsApart (λ e. apart-changed (policy_with_home node) (page_at old.ranges page)
      (aligned page even)) (λ e. aligned page even)
  aligned-next (SetWeight node weight) page even accepted = aligned page even
  aligned-next (SetMems mask) page even accepted =
      apart-changed (policy_after old.machine.rules old.allowed (mems_of old.machine mask))
      (page_at old.ranges page) (aligned page even)

-- whatever the answer was
pub aligned-answer : {A : Type 0} (old new : SpaceState) (command : Command)
    (result : Result A Refusal) → AreAligned (page_at old.ranges)
    → IsAnswer old command result new → AreAligned (page_at new.ranges)
aligned-answer {A} old new command result aligned answer =
    go (refusal_in (scene_in old command) command) refl result answer
  where
    go : (o : Option Refusal) → refusal_in (scene_in old command) command ≡ o
        → (result : Result A Refusal) → AnswersBy o old command result new
        → AreAligned (page_at new.ranges)
    go None e (Ok u) h = λ page even. subst IsApart (sym (h.pages page))
        (aligned-next old aligned command page even e)
    go None e (Err r) h = subst (λ (s : SpaceState). AreAligned (page_at s.ranges)) (sym h.1)
        aligned
    go (Some r) e result h = subst (λ (s : SpaceState). AreAligned (page_at s.ranges)) (sym h.1)
        aligned
