-- Where no page of 2 MiB was mapped, none is.
use Rattle.std.proofs.Common.{◌≡◌, ℕ, ◌+◌, ◌-◌, ◌*◌, ◌^◌, ◌<◌, ◌≤◌, Bool, true, false, Option, Some}
use Rattle.std.proofs.Common.{None, Result, Ok, Err, IfSome, refl, sym, subst, ◌∙◌, arith, inl, inr}
use Rattle.std.specs.Prelude.{nat_le, ◌==◌}
use Rattle.std.proofs.lemmas.Bool.{cases_lt, cond_both, leb-false, ltb-false}
use Rattle.numa_machine.specs.Sizes.{is_huge, is_inside, is_part}
use Rattle.numa_machine.specs.declared.rules.Rules.{Rules}
use Rattle.numa_machine.specs.declared.rules.Rules.TheVariants.{Document, Linux}
use Rattle.numa_machine.specs.declared.page_size.PageSize.TheVariants.{Small, Huge}
use Rattle.numa_machine.proofs.Sizes.{part-below}
use Rattle.numa_mode.specs.Policy.{PolicyRecord}
use Rattle.numa_ranges.specs.Maps.{changed_page}
use Rattle.numa_ranges.specs.Runs.{in_pages, page_at}
use Rattle.numa_ranges.proofs.Apart.{in_pages-above}
use Rattle.numa_requests.specs.declared.command.Command.{Command}
use Rattle.numa_requests.specs.declared.command.Command.TheVariants.{Map, Unmap, Mbind, SetTask}
use Rattle.numa_requests.specs.declared.command.Command.TheVariants.{Inherit, SetHome, SetWeight}
use Rattle.numa_requests.specs.declared.command.Command.TheVariants.{SetMems}
use Rattle.numa_requests.specs.declared.refusal.Refusal.{Refusal}
use Rattle.numa_requests.specs.declared.refusal.Refusal.TheVariants.{BadOffset, CommandsSpent}
use Rattle.numa_requests.specs.declared.refusal.Refusal.TheVariants.{EmptyLength, OutOfSpace}
use Rattle.numa_space.specs.History.{page_of, page_count}
use Rattle.numa_space.specs.Inside.{AreSmall}
use Rattle.numa_space.specs.Policies.{mems_of, policy_with_home, record_now}
use Rattle.numa_space.specs.Refusals.{bad_map_span, bad_span, cause_in, ends_above, refusal_in}
use Rattle.numa_space.specs.Refusals.{inside_of, unaligned, when}
use Rattle.numa_space.specs.Standing.{SpaceState}
use Rattle.numa_space.specs.Steps.{IsAnswer, pages_next, policy_after, scene_in}
use Rattle.numa_space.proofs.Answers.{AnswersBy}
use Rattle.numa_space.proofs.Refused.{first_of-none, when-none}

-- whether a command maps pages of 2 MiB
abbrev pub maps_huge : Command → Bool
maps_huge (Map start bytes offset size) = is_huge size
maps_huge _ = false

-- a page is no part of one of 2 MiB
abbrev IsSmall : Option (ℕ × Option PolicyRecord) → Type 0
IsSmall at = IfSome at (λ p. is_part p.0 ≡ false)

small-changed : (change : Option PolicyRecord → Option PolicyRecord)
    (o : Option (ℕ × Option PolicyRecord)) → IsSmall o → IsSmall (changed_page change o)
small-changed change None h = tt
small-changed change (Some p) h = h

-- no border before it lies inside one
pub outside-small : (o : Option (ℕ × Option PolicyRecord)) → IfSome o (λ p. is_part p.0 ≡ false)
    → inside_of o ≡ None
unfolding is_inside
outside-small None h = refl
outside-small (Some p) h = rw h refl

-- ---- a map of pages of 4 KiB

-- its pages are few
map-few : (rules : Rules) (start bytes : ℕ) → bad_map_span rules Small start bytes ≡ None
    → page_count bytes ≤ 2 ^ 35
unfolding bad_map_span
map-few Document start bytes none =
    let parts = first_of-none (bad_span Small start bytes) (when (bytes == 0) EmptyLength) none in
    let ends = first_of-none (unaligned Small start) (when (ends_above (2 ^ 47) start bytes)
    OutOfSpace)
    parts.0 in
    let within = ltb-false (2 ^ 47) (start + page_count bytes * 4096)
    (when-none (ends_above (2 ^ 47) start bytes) OutOfSpace ends.1) in
    omega (arith, within)
map-few Linux start bytes none =
    let parts = first_of-none (when (bytes == 0) EmptyLength) _ none in
    let ends = first_of-none (when (ends_above (2 ^ 47 - 4096) start bytes) OutOfSpace)
    (unaligned Small start) parts.1 in
    let within = ltb-false (2 ^ 47 - 4096) (start + page_count bytes * 4096)
    (when-none (ends_above (2 ^ 47 - 4096) start bytes) OutOfSpace ends.0) in
    omega (arith, within)

-- so their indexes are those of such pages
pub map-small : (old : SpaceState) (start bytes offset page : ℕ)
    → refusal_in (scene_in old (Map start bytes offset Small)) (Map start bytes offset Small) ≡ None
    → in_pages (page_of start) (page_count bytes) page ≡ true
    → is_part (offset + (page - page_of start)) ≡ false
map-small old start bytes offset page none inside =
    let room = first_of-none (when (nat_le old.bounds.max_commands old.version) CommandsSpent)
    (cause_in (scene_in old (Map start bytes offset Small)) (Map start bytes offset Small)) none in
    let span = first_of-none (bad_map_span old.machine.rules Small start bytes) _ room.1 in
    let index = first_of-none (when (nat_le (2 ^ 35) offset) BadOffset) _ span.1 in
    let low = leb-false (2 ^ 35) offset (when-none (nat_le (2 ^ 35) offset) BadOffset index.0) in
    let few = map-few old.machine.rules start bytes span.0 in
    let end = elim (cases_lt page (page_of start + page_count bytes)) as
    (λ c. page < page_of start + page_count bytes) [
      | inl l ↦ l
      | inr l ↦ let odd : true ≡ false = sym inside
          ∙ in_pages-above (page_of start) (page_count bytes) page l in absurd (cc)
    ] in
    part-below (offset + (page - page_of start)) (omega (arith, low, few, end))

-- ---- any command

module _ (old : SpaceState) (small : AreSmall (page_at old.ranges)) where
  small-next : (command : Command) (page : ℕ) → maps_huge command ≡ false
      → refusal_in (scene_in old command) command ≡ None
      → IsSmall (pages_next old.machine old.allowed (page_at old.ranges) command page)
  small-next (Map start bytes offset Small) page none accepted =
      cond_both (in_pages (page_of start) (page_count bytes) page)
      (Some (offset + (page - page_of start), None)) (page_at old.ranges page) IsSmall
      (λ e. map-small old start bytes offset page accepted e) (λ e. small page)
  small-next (Map start bytes offset Huge) page none accepted =
      let odd : true ≡ false = none in absurd (cc)
  small-next (Unmap start bytes) page none accepted =
      cond_both (in_pages (page_of start) (page_count bytes) page) None (page_at old.ranges page)
      IsSmall (λ e. tt) (λ e. small page)
  small-next (Mbind start bytes spec) page none accepted =
      cond_both (in_pages (page_of start) (page_count bytes) page)
      (changed_page (λ r. record_now old.allowed spec) (page_at old.ranges page))
      (page_at old.ranges page) IsSmall
      (λ e. small-changed (λ r. record_now old.allowed spec) (page_at old.ranges page) (small page))
      (λ e. small page)
  small-next (SetTask task spec) page none accepted = small page
  small-next (Inherit heir from) page none accepted = small page
  small-next (SetHome start bytes node) page none accepted =
      cond_both (in_pages (page_of start) (page_count bytes) page)
      (changed_page (policy_with_home node) (page_at old.ranges page)) (page_at old.ranges page)
      IsSmall (λ e. small-changed (policy_with_home node) (page_at old.ranges page) (small page))
      (λ e. small page)
  small-next (SetWeight node weight) page none accepted = small page
  small-next (SetMems mask) page none accepted =
      small-changed (policy_after old.machine.rules old.allowed (mems_of old.machine mask))
      (page_at old.ranges page) (small page)

-- whatever the answer was
pub small-answer : {A : Type 0} (old new : SpaceState) (command : Command)
    (result : Result A Refusal)
    → maps_huge command ≡ false → AreSmall (page_at old.ranges) → IsAnswer old command result new
    → AreSmall (page_at new.ranges)
small-answer {A} old new command result none small answer =
    go (refusal_in (scene_in old command) command) refl result answer
  where
    go : (o : Option Refusal) → refusal_in (scene_in old command) command ≡ o
        → (result : Result A Refusal) → AnswersBy o old command result new
        → AreSmall (page_at new.ranges)
    go None e (Ok u) h =
        λ page. subst IsSmall (sym (h.pages page)) (small-next old small command page none e)
    go None e (Err r) h = subst (λ (s : SpaceState). AreSmall (page_at s.ranges)) (sym h.1) small
    go (Some r) e result h = subst (λ (s : SpaceState). AreSmall (page_at s.ranges)) (sym h.1) small
