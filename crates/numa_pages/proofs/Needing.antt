-- Memory lacks only where it is needed.
use Rattle.std.proofs.Common.{◌≡◌, ◌≢◌, ℕ, ◌-◌, Bool, true, false, Option, Some, None, List, []}
use Rattle.std.proofs.Common.{Err}
use Rattle.std.proofs.Common.{refl, sym, ap, subst, ◌∙◌, inl, inr, is_some, arith}
use Rattle.std.proofs.lemmas.Bool.{both_ways, cases_Bool, or_from}
use Rattle.std.specs.Prelude.{◌||◌, Result, is_ok, if◌then◌else◌}
use Rattle.numa_core.specs.Executions.{world_of}
use Rattle.numa_core.specs.Standing.{CoreStandsFor, CoreState, HasPast, setup_of}
use Rattle.numa_core.specs.Steps.{IsAnswer, because, refused_or}
use Rattle.numa_core.specs.World.{World, newest_published}
use Rattle.numa_machine.specs.declared.rules.Rules.{Rules}
use Rattle.numa_machine.specs.declared.rules.Rules.TheVariants.{Document, Linux}
use Rattle.numa_maps.specs.Residents.{Kept}
use Rattle.numa_mode.specs.Policy.{Specification, is_default}
use Rattle.numa_ranges.proofs.Pages.{any_page-false}
use Rattle.numa_requests.specs.declared.command.Command.{Command}
use Rattle.numa_requests.specs.declared.command.Command.TheVariants.{Map, Unmap, Mbind, SetTask}
use Rattle.numa_requests.specs.declared.command.Command.TheVariants.{Inherit, SetHome, SetWeight}
use Rattle.numa_requests.specs.declared.command.Command.TheVariants.{SetMems}
use Rattle.numa_requests.specs.declared.event.CoreRefusal.{CoreRefusal}
use Rattle.numa_requests.specs.declared.event.CoreRefusal.TheVariants.{Command as Because}
use Rattle.numa_requests.specs.declared.event.CoreReply.{CoreReply}
use Rattle.numa_requests.specs.declared.event.Event.TheVariants.{Accept}
use Rattle.numa_requests.specs.declared.page_refusal.PlacedRefusal.{PlacedRefusal}
use Rattle.numa_requests.specs.declared.refusal.Refusal.{Refusal}
use Rattle.numa_space.specs.History.{page_of, page_count}
use Rattle.numa_space.specs.Pages.{page_in}
use Rattle.numa_space.specs.Refusals.{PageMap, refusal_of, scene_of}
use Rattle.numa_space.specs.Standing.{SpaceState, StandsFor}
use Rattle.numa_space.specs.Steps.{LacksRoom, MayNeedRoom}
use Rattle.numa_space.proofs.Refused.{refusal-not_memory}
use Rattle.numa_placed.specs.Astray.{astray_cause, is_astray, judged_end, judged_pages}
use Rattle.numa_placed.specs.Astray.{strict_cause_by, strict_span_cause}
use Rattle.numa_placed.specs.Refusals.{first_of, span_cause}
use Rattle.numa_placed.specs.declared.spot.Spot.{Spot}
use Rattle.numa_placed.specs.declared.spot.Spot.TheVariants.{Nowhere}
use Rattle.numa_huge.specs.Huge.{HugeLying}
use Rattle.numa_huge.specs.Moves.{HugeMemory, is_astray as huge_strays}
use Rattle.numa_page_state.specs.Huge.{huge_astray, huge_count, huge_first}
use Rattle.numa_page_state.specs.Lying.{Lying, Process, motion, process_in}
use Rattle.numa_page_state.specs.Outcomes.{Done, Lack, along_outcome, has_stated, is_astray_cause}
use Rattle.numa_page_state.specs.Outcomes.{lack_in, unless_refused}
use Rattle.numa_page_state.specs.Standing.{DoesAs, LiesAs}
use Rattle.numa_page_state.specs.Strict.{has_astray, held_astray, judged_of, strict_binding_in}
use Rattle.numa_page_state.specs.declared.binding.Binding.{Binding}
use Rattle.numa_page_state.specs.declared.shift.Shift.{Shift}
use Rattle.numa_page_state.specs.declared.state.PageState.{PageState}
use Rattle.numa_page_state.proofs.Judging.{none-astray}
use Rattle.numa_page_state.proofs.Unmapping.{nothing-stated}
use Rattle.numa_pages.specs.Changes.{BindsStrictly, PagesState, huge_in, lacking, lies_astray}
use Rattle.numa_pages.specs.Changes.{may_fill, process_of}
use Rattle.numa_pages.specs.Sizes.{alone, any_astray}
use Rattle.numa_pages.specs.declared.refusal.ChangeRefusal.TheVariants as change
use Rattle.numa_pages.proofs.Refusing.{lies-so, lying_in, room-said}

-- ---- the core's memory

abbrev told_no : Refusal → Result CoreReply CoreRefusal
told_no refusal = Err (Because refusal)

abbrev cause_told : Result CoreReply CoreRefusal → Option Refusal
cause_told (Err (Because refusal)) = Some refusal
cause_told _ = None

first-told : (first : Option Refusal) (refusal : Refusal) (reply : CoreReply)
    → told_no refusal ≡ refused_or (because first) reply → first ≡ Some refusal
first-told None refusal reply is = sym (ap cause_told is)
first-told (Some first) refusal reply is = sym (ap cause_told is)

-- of the causes that a history gives none is want of memory
pub core-lacks : (core : CoreState) (command : Command) (refusal : Refusal) → HasPast core
    → ((world : World) → CoreStandsFor core world → IsAnswer (setup_of core) world
    (newest_published world) (Accept command) (told_no refusal)) → LacksRoom command refusal
core-lacks core command refusal past answers lack =
    let world = world_of (setup_of core) past.past in
    elim (answers world past.leads.stands) [
      | inl is ↦ absurd (refusal-not_memory
          (scene_of core.space.machine core.space.bounds world.history command) command
          (first-told (refusal_of core.space.machine core.space.bounds world.history command)
          refusal _ is ∙ ap Some lack))
      | inr want ↦ want.1.1
    ]

-- ---- the pages'

-- of no pages none lies astray
none-of : (spots : ℕ → Spot) (first pages list : ℕ) → pages ≡ 0
    → astray_cause spots first pages list ≡ astray_cause (λ page. Nowhere) first pages list
none-of spots first pages list none =
    rw (
      any_page-false (λ page. is_astray list (spots page)) first pages
          (λ page low high. absurd (omega (arith, low, high, none))),
      any_page-false (λ page. false) first pages (λ page low high. refl),
    ) refl

-- nothing is stated of 0 bytes
pub stated-some : (spots : ℕ → Spot) (start bytes : ℕ) → has_stated spots start bytes ≡ true
    → bytes ≢ 0
stated-some spots start bytes is none =
    let clear : has_stated spots start bytes ≡ false =
    ap (λ (c : Option PlacedRefusal). is_astray_cause (first_of (span_cause start bytes) c))
    (none-of spots (page_of start) (page_count bytes) 0 (ap page_count none))
    ∙ nothing-stated start bytes in
    both_ways (has_stated spots start bytes) clear is

none-left : (first : ℕ) → first - first ≡ 0
none-left first = omega arith

none-judged : (rules : Rules) (map : PageMap) (first pages : ℕ) → pages ≡ 0
    → judged_pages rules map first pages ≡ 0
unfolding judged_end
none-judged Document map first pages none = none
none-judged Linux map first pages none =
    ap (λ (n : ℕ). judged_end map first first n - first) none ∙ none-left first

-- none of 0 bytes lies astray
pub astray-some : (process : Process) (spots : ℕ → Spot) (said : Binding) → process.kept ≡ []
    → has_astray process spots said ≡ true → said.length ≢ 0
astray-some process spots said kept is none =
    let rules = process.machine.rules in
    let map : PageMap = page_in process.machine process.history in
    let stated : is_astray_cause (strict_cause_by rules map spots said.start said.length said.list)
    ≡ false =
    ap (λ (c : Option PlacedRefusal). is_astray_cause
    (first_of (strict_span_cause rules said.start said.length) c))
    (none-of spots (page_of said.start) (judged_of process said) said.list
    (none-judged rules map (page_of said.start) (page_count said.length)
    (ap page_count none))) ∙ none-astray rules map said.start said.length said.list in
    let held : held_astray process.kept (page_of said.start) (judged_of process said) said.list
    ≡ false = ap (λ (k : Kept). held_astray k (page_of said.start) (judged_of process said)
    said.list) kept in
    both_ways (has_astray process spots said) (or_from _ _ stated held) is

-- nor one of 2 MiB
huge-none : (process : Process) (huge : HugeLying) (said : Binding) → said.length ≡ 0
    → huge_astray process (alone huge) said ≡ false
huge-none process huge said none =
    let judged : judged_of process said ≡ 0 = none-judged process.machine.rules
    (page_in process.machine process.history) (page_of said.start) (page_count said.length)
    (ap page_count none) in
    let count : huge_count (page_of said.start) (judged_of process said) ≡ 0 =
    ap (huge_count (page_of said.start)) judged in
    any_page-false (λ page. huge_strays said.list (huge.spots page))
    (huge_first (page_of said.start)) (huge_count (page_of said.start) (judged_of process said))
    (λ page low high. absurd (omega (arith, low, high, count)))

pub any-some : (process : Process) (huge : HugeLying) (spots : ℕ → Spot) (said : Binding)
    → process.kept ≡ [] → any_astray process huge spots said ≡ true → said.length ≢ 0
any-some process huge spots said kept is none = elim (cases_Bool (has_astray process spots said)) [
  | inl small ↦ astray-some process spots said kept small none
  | inr clear ↦ both_ways (any_astray process huge spots said)
      (or_from _ _ clear (huge-none process huge said none)) is
]

abbrev strict_if : Bool → Binding → Option Binding
strict_if default said = if default then None else Some said

strict-some : (default : Bool) (said : Binding) (process : Process) (huge : HugeLying)
    (spots : ℕ → Spot) → process.kept ≡ []
    → lies_astray (strict_if default said) process huge spots ≡ true → said.length ≢ 0
strict-some true said process huge spots kept is = absurd (both_ways false refl is)
strict-some false said process huge spots kept is = any-some process huge spots said kept is

-- only a policy for some bytes has pages that lie astray
pub astray-needs : (command : Command) (process : Process) (huge : HugeLying) (spots : ℕ → Spot)
    → process.kept ≡ [] → lies_astray (strict_binding_in command) process huge spots ≡ true
    → MayNeedRoom command
astray-needs (Mbind start bytes spec) process huge spots kept is =
    strict-some (is_default spec)
    (record { start = start; length = bytes; list = spec.mask }) process huge spots kept is
astray-needs (Map start bytes offset size) process huge spots kept is = tt
astray-needs (Unmap start bytes) process huge spots kept is = absurd (both_ways false refl is)
astray-needs (SetTask task spec) process huge spots kept is = absurd (both_ways false refl is)
astray-needs (Inherit task from) process huge spots kept is = tt
astray-needs (SetHome start bytes node) process huge spots kept is =
    absurd (both_ways false refl is)
astray-needs (SetWeight node weight) process huge spots kept is = absurd (both_ways false refl is)
astray-needs (SetMems mask) process huge spots kept is = absurd (both_ways false refl is)

-- memory lacks for judging pages that lie astray
pub judging-lacks : (pages : PagesState) (command : Command) → HasPast pages.core
    → ((history : List Command) (lying : Lying) → StandsFor pages.core.space history
    → LiesAs pages.state lying → lies_astray (strict_binding_in command)
    (process_of pages history) (huge_in pages) lying.spots ≡ true) → MayNeedRoom command
judging-lacks pages command past astray =
    let history = (world_of (setup_of pages.core) past.past).history in
    astray-needs command (process_of pages history) (huge_in pages) (lying_in pages.state).spots
    refl (astray history (lying_in pages.state) past.leads.stands.space (lies-so pages.state))

-- whether pages of 4 KiB lie astray, and those of 2 MiB, by the space and the kept frames as they
-- were read
abbrev SmallStray : PagesState → Binding → Bool → SpaceState → Kept → Type 0
SmallStray pages said small space kept = (lying : Lying) (history : List Command)
    → LiesAs pages.state lying → StandsFor space history
    → small ≡ has_astray (process_in space history kept) lying.spots said

abbrev HugeStray : PagesState → Binding → Bool → SpaceState → Type 0
HugeStray pages said large space = (memory : HugeMemory) (history : List Command) (kept : Kept)
    → huge_in pages ≡ memory.pages → StandsFor space history
    → large ≡ huge_astray (process_in space history kept) memory said

pub strays-so : (pages : PagesState) (space : SpaceState) (kept : Kept) (said : Binding)
    (small large : Bool) → space ≡ pages.core.space → kept ≡ []
    → SmallStray pages said small space kept → small ≡ false → HugeStray pages said large space
    → (history : List Command) (lying : Lying) → StandsFor pages.core.space history
    → LiesAs pages.state lying
    → large ≡ any_astray (process_of pages history) (huge_in pages) lying.spots said
strays-so pages space kept said small large same none small_is clear large_is history lying of
    lies =
    let one : small ≡ has_astray (process_of pages history) lying.spots said =
    (subst (λ (s : SpaceState). SmallStray pages said small s []) same
    (subst (λ (k : Kept). SmallStray pages said small space k) none small_is)) lying history lies of
    in
    let two : large ≡ huge_astray (process_of pages history) (alone (huge_in pages)) said =
    (subst (λ (s : SpaceState). HugeStray pages said large s) same large_is) (alone (huge_in pages))
    history [] refl of in
    two ∙ sym (ap (λ (b : Bool). b || huge_astray (process_of pages history) (alone (huge_in pages))
    said) (sym one ∙ clear))

-- a page lies astray of a policy
abbrev pub Strays : ℕ → ℕ → Specification → PagesState → Type 0
Strays start bytes spec pages = (history : List Command) (lying : Lying)
    → StandsFor pages.core.space history → LiesAs pages.state lying
    → lies_astray (strict_binding_in (Mbind start bytes spec)) (process_of pages history)
    (huge_in pages) lying.spots ≡ true

-- then nothing has changed
pub not-judged : (before : PagesState) (start bytes : ℕ) (spec : Specification)
    → HasPast before.core → Strays start bytes spec before
    → BindsStrictly start bytes spec before (Err change.NoMemory) before
not-judged before start bytes spec past astray = record {
  core = tt;
  judged = λ history lying of lies. astray history lying of lies;
  refused = tt;
  room = judging-lacks before (Mbind start bytes spec) past astray;
  pages = refl;
  huge = refl;
  setup = refl;
  unchanged = refl;
}

-- ---- where no node may fill

free-goes : (room : Option (ℕ → ℕ)) (lack : Lack) (after : ℕ → Spot) → is_some room ≡ false
    → lack_in room lack after ≡ None
free-goes None lack after free = refl
free-goes (Some room) lack after free = absurd (both_ways true free refl)

goes-on : (first : Option PlacedRefusal) (at : Lying) (done : Done Shift PlacedRefusal)
    → first ≡ None → is_ok done.0 ≡ true → is_ok (unless_refused first at done).0 ≡ true
goes-on None at done none ok = ok
goes-on (Some why) at done none ok = absurd (both_ways true (ap is_some none) refl)

-- pages that follow the allowed nodes all go
pub all-go : (state after : PageState) (kept : Kept) (old new : ℕ) (why : PlacedRefusal)
    → may_fill state ≡ false → DoesAs state (Err why) after lacking
    (λ lack at. along_outcome lack kept old new at) → ⊥
all-go state after kept old new why free does =
    let at = lying_in state in
    let told = does at (lies-so state) in
    let ok : is_ok (along_outcome told.0 kept old new at).0 ≡ true = goes-on
    (lack_in at.room told.0 (motion at.room at.spots old new).spots) at _
    (free-goes at.room told.0 (motion at.room at.spots old new).spots
    (room-said state.rooms ∙ free)) refl in
    both_ways false refl (sym (ap is_ok told.2) ∙ ok)
