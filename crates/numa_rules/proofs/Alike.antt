-- Where nothing is told, both rules answer a command alike. For each command what is told and both
-- chains of causes are the same tests, so that each case of them decides it.
use Rattle.std.proofs.Common.{◌≡◌, ℕ, ◌+◌, ◌-◌, ◌*◌, ◌%◌, ◌<◌, ◌≤◌, ◌^◌, Bool, true, false}
use Rattle.std.proofs.Common.{◌&&◌}
use Rattle.std.proofs.Common.{◌||◌, not}
use Rattle.std.proofs.Common.{Option, Some, None, is_some, refl, sym, ap, ◌∙◌, arith, inl, inr}
use Rattle.std.proofs.Common.{nat_lt}
use Rattle.std.specs.Prelude.{nat_le, ◌==◌, if◌then◌else◌}
use Rattle.std.specs.List.{list_any}
use Rattle.std.proofs.lemmas.Bool.{cases_Bool, eq-eqb, lt-ltb, ltb-true}
use Rattle.numa_mask.specs.NodeSet.{both, members}
use Rattle.numa_machine.specs.Rules.{is_linux}
use Rattle.numa_machine.specs.declared.rules.Rules.TheVariants.{Document, Linux}
use Rattle.numa_machine.specs.Sizes.{bytes_of, whole}
use Rattle.numa_mode.specs.Policy.{is_default, is_local, effect_when_set}
use Rattle.numa_ranges.specs.Maps.{any_page}
use Rattle.numa_ranges.specs.Runs.{page_at}
use Rattle.numa_ranges.proofs.Pages.{any_page-true}
use Rattle.numa_space.specs.History.{page_count, page_of}
use Rattle.numa_space.specs.Refusals.{PageMap, cause_in, first_of, when}
use Rattle.numa_space.specs.Refusals.{bad_map_span, bad_policy_span, bad_unmap_span, ends_above}
use Rattle.numa_space.specs.Refusals.{lacks_policy, lacks_mems, has_policy}
use Rattle.numa_space.specs.Standing.{SpaceState}
use Rattle.numa_requests.specs.declared.command.Command.{Command}
use Rattle.numa_requests.specs.declared.command.Command.TheVariants as command
use Rattle.numa_requests.specs.declared.refusal.Refusal.{Refusal}
use Rattle.numa_requests.specs.declared.refusal.Refusal.TheVariants.{OutOfSpace, EmptyLength, Hole}
use Rattle.numa_requests.specs.declared.refusal.Refusal.TheVariants.{BadSpan, NoNodes, Unaligned}
use Rattle.numa_requests.specs.declared.refusal.Refusal.TheVariants.{NodesNotAllowed, NoPolicy}
use Rattle.numa_requests.specs.declared.refusal.Refusal.TheVariants.{NoSuchNode, BadWeight}
use Rattle.numa_requests.specs.declared.refusal.Refusal.TheVariants.{NotSupported}
use Rattle.numa_requests.specs.declared.refusal.Refusal.TheVariants.{CommandsSpent}
use Rattle.numa_rules.specs.Both.{IsAnsweredAlike, scene_by, refusal_by}
use Rattle.numa_rules.specs.Otherwise.{bind_past_end, home_past_end, otherwise_of, with_command}
use Rattle.numa_rules.specs.declared.otherwise.Otherwise.{Otherwise}
use Rattle.numa_rules.specs.declared.otherwise.Otherwise.TheVariants.{KeepsLastPage, WantsLength}
use Rattle.numa_rules.specs.declared.otherwise.Otherwise.TheVariants.{JudgesLengthFirst}
use Rattle.numa_rules.specs.declared.otherwise.Otherwise.TheVariants.{JudgesEndFirst}
use Rattle.numa_rules.specs.declared.otherwise.Otherwise.TheVariants.{LeavesLastPage, LooksPastEnd}
use Rattle.numa_rules.specs.declared.otherwise.Otherwise.TheVariants.{WantsNodes}
use Rattle.numa_rules.specs.declared.otherwise.Otherwise.TheVariants.{JudgesNodesFirst, PassesHoles}
use Rattle.numa_rules.specs.declared.otherwise.Otherwise.TheVariants.{WantsPolicy, PutsBackWeight}
use Rattle.numa_rules.specs.declared.otherwise.Otherwise.TheVariants.{AllowsAllMemory}

-- ---- a command each, by its tests

map-alike : (skew none last end : Bool) (rest : Option Refusal) → (end ≡ true → last ≡ true)
    → IsAnsweredAlike (if none
    then (if is_some (first_of (when skew Unaligned) (when end OutOfSpace))
    then Some JudgesLengthFirst else None)
    else if not last then None else if is_some (when skew Unaligned) then Some JudgesEndFirst
    else if end then None else Some KeepsLastPage)
    → first_of (first_of (first_of (when skew Unaligned) (when end OutOfSpace))
    (when none EmptyLength)) rest
    ≡ first_of (first_of (when none EmptyLength)
    (first_of (when last OutOfSpace) (when skew Unaligned))) rest
map-alike true true last end rest low alike = absurd alike
map-alike false true last true rest low alike = absurd alike
map-alike false true last false rest low alike = refl
map-alike true false true end rest low alike = absurd alike
map-alike true false false end rest low alike = refl
map-alike false false true true rest low alike = refl
map-alike false false true false rest low alike = absurd alike
map-alike false false false true rest low alike =
    let wrong : false ≡ true = low refl in absurd (cc)
map-alike false false false false rest low alike = refl

unmap-alike : (skew last end empty : Bool) (rest : Option Refusal) → (end ≡ true → last ≡ true)
    → IsAnsweredAlike (if is_some (when skew Unaligned) then None
    else if last then Some LeavesLastPage else if empty then Some WantsLength else None)
    → first_of (first_of (when skew Unaligned) (when end OutOfSpace))
    (if empty then None else rest)
    ≡ first_of (first_of (when skew Unaligned) (first_of (when last BadSpan)
    (when empty EmptyLength))) (if empty then None else rest)
unmap-alike true last end empty rest low alike = refl
unmap-alike false true end empty rest low alike = absurd alike
unmap-alike false false true empty rest low alike =
    let wrong : false ≡ true = low refl in absurd (cc)
unmap-alike false false false true rest low alike = absurd alike
unmap-alike false false false false rest low alike = refl

bind-alike : (why : Option Refusal) (skew end far empty default none hole mapped : Bool)
    (rest : Option Refusal)
    → (far ≡ true → end ≡ true) → (empty ≡ false → hole ≡ false → mapped ≡ true)
    → IsAnsweredAlike (if is_some (when skew Unaligned) then None
    else if end then Some (LooksPastEnd why) else if empty then None
    else if default then (if mapped && hole then Some PassesHoles else None)
    else if (not default && none) && hole then Some JudgesNodesFirst else None)
    → first_of (first_of (when skew Unaligned) (when end OutOfSpace)) (if empty then None
    else first_of (when hole Hole)
    (first_of (when (not default && none) NodesNotAllowed) rest))
    ≡ first_of (first_of (when skew Unaligned) (when far BadSpan)) (if empty then None
    else first_of (when (not default && none) NodesNotAllowed)
    (first_of (when (if default then not mapped else hole) Hole) rest))
bind-alike why true end far empty default none hole mapped rest low whole alike = refl
bind-alike why false true far empty default none hole mapped rest low whole alike = absurd alike
bind-alike why false false true empty default none hole mapped rest low whole alike =
    let wrong : false ≡ true = low refl in absurd (cc)
bind-alike why false false false true default none hole mapped rest low whole alike = refl
bind-alike why false false false false true none true true rest low whole alike = absurd alike
bind-alike why false false false false true none true false rest low whole alike = refl
bind-alike why false false false false true none false true rest low whole alike = refl
bind-alike why false false false false true none false false rest low whole alike =
    let wrong : false ≡ true = whole refl refl in absurd (cc)
bind-alike why false false false false false true true mapped rest low whole alike = absurd alike
bind-alike why false false false false false true false mapped rest low whole alike = refl
bind-alike why false false false false false false true mapped rest low whole alike = refl
bind-alike why false false false false false false false mapped rest low whole alike = refl

home-alike : (why : Option Refusal) (skew end far lacks empty takes has : Bool)
    (rest : Option Refusal)
    → (far ≡ true → end ≡ true)
    → IsAnsweredAlike (if is_some (when skew Unaligned) then None
    else if end then Some (LooksPastEnd why) else if lacks || empty then None
    else if has then None else Some WantsPolicy)
    → first_of (first_of (when skew Unaligned) (when end OutOfSpace))
    (first_of (when lacks NoSuchNode) (if empty then None
    else first_of (when takes NotSupported) (first_of (when (false && not has) NoPolicy) rest)))
    ≡ first_of (first_of (when skew Unaligned) (when far BadSpan))
    (first_of (when lacks NoSuchNode) (if empty then None
    else first_of (when takes NotSupported) (first_of (when (true && not has) NoPolicy) rest)))
home-alike why true end far lacks empty takes has rest low alike = refl
home-alike why false true far lacks empty takes has rest low alike = absurd alike
home-alike why false false true lacks empty takes has rest low alike =
    let wrong : false ≡ true = low refl in absurd (cc)
home-alike why false false false true empty takes has rest low alike = refl
home-alike why false false false false true takes has rest low alike = refl
home-alike why false false false false false takes true rest low alike = refl
home-alike why false false false false false takes false rest low alike = absurd alike

weight-alike : (lacks zero high : Bool)
    → IsAnsweredAlike (if lacks || not zero then None else Some PutsBackWeight)
    → first_of (when lacks NoSuchNode) (when ((zero && not false) || high) BadWeight)
    ≡ first_of (when lacks NoSuchNode) (when ((zero && not true) || high) BadWeight)
weight-alike true zero high alike = refl
weight-alike false true high alike = absurd alike
weight-alike false false high alike = refl

mems-alike : (lacks zero none : Bool) (parted : Option Otherwise)
    → IsAnsweredAlike (if lacks then None else if zero then Some WantsNodes
    else if none then Some AllowsAllMemory else parted)
    → first_of (when lacks NoSuchNode) (when none NodesNotAllowed)
    ≡ first_of (when lacks NoSuchNode) (when zero NoNodes)
mems-alike true zero none parted alike = refl
mems-alike false true none parted alike = absurd alike
mems-alike false false true parted alike = absurd alike
mems-alike false false false parted alike = refl

-- ---- what two of them rest on

-- a span of a byte has a page, and where it has no hole that page is mapped
whole-mapped : (pages : PageMap) (first count : ℕ) → 0 < count
    → any_page (λ page. not (is_some (pages page))) first count ≡ false
    → any_page (λ page. is_some (pages page)) first count ≡ true
whole-mapped pages first count some whole = elim (cases_Bool (is_some (pages first))) [
  | inl t ↦
      any_page-true (λ page. is_some (pages page)) first count first (omega arith) (omega arith) t
  | inr f ↦
      let hole : any_page (λ page. not (is_some (pages page))) first count ≡ true =
      any_page-true (λ page. not (is_some (pages page))) first count first (omega arith)
      (omega arith) (ap not f) in
      let wrong : true ≡ false = sym hole ∙ whole in absurd (cc)
]

has-page : (bytes : ℕ) → (bytes == 0) ≡ false → 0 < page_count bytes
has-page bytes some =
    let other : bytes ≡ 0 → ⊥ = λ none.
    let wrong : true ≡ false = sym (eq-eqb bytes 0 none) ∙ some in absurd (cc) in
    omega (arith, other)

-- what ends above an address ends above each lower one
above-lower : (high low start bytes : ℕ) → low ≤ high → ends_above high start bytes ≡ true
    → ends_above low start bytes ≡ true
above-lower high low start bytes order above =
    lt-ltb low (start + page_count bytes * 4096)
    (omega (arith, order, ltb-true high (start + page_count bytes * 4096) above))

-- ---- all commands

module _ (space : SpaceState) (after : PageMap) where
  causes : (asked : Command) → IsAnsweredAlike (with_command space asked)
      → cause_in (scene_by Document space after) asked
      ≡ cause_in (scene_by Linux space after) asked
  unfolding bad_map_span bad_unmap_span bad_policy_span lacks_policy lacks_mems
  causes (command.Map start bytes offset size) alike =
      let all = whole size bytes in
      map-alike (not (start % bytes_of size == 0)) (all == 0)
      (ends_above (2 ^ 47 - 4096) start all) (ends_above (2 ^ 47) start all) _
      (above-lower (2 ^ 47) (2 ^ 47 - 4096) start all (omega arith)) alike
  causes (command.Unmap start bytes) alike =
      unmap-alike (not (start % 4096 == 0)) (ends_above (2 ^ 47 - 4096) start bytes)
      (ends_above (2 ^ 47) start bytes) (bytes == 0) _
      (above-lower (2 ^ 47) (2 ^ 47 - 4096) start bytes (omega arith)) alike
  causes (command.Mbind start bytes spec) alike =
      let pages : PageMap = page_at space.ranges in
      let first = page_of start in
      let count = page_count bytes in
      bind-alike (bind_past_end space start bytes spec) (not (start % 4096 == 0))
      (ends_above (2 ^ 47) start bytes)
      (ends_above (2 ^ 64 - 1) start bytes) (bytes == 0) (is_default spec)
      (not (is_local spec) && (effect_when_set spec space.allowed == 0))
      (any_page (λ page. not (is_some (pages page))) first count)
      (any_page (λ page. is_some (pages page)) first count) _
      (above-lower (2 ^ 64 - 1) (2 ^ 47) start bytes (omega arith))
      (λ some whole. whole-mapped pages first count (has-page bytes some) whole) alike
  causes (command.SetTask task spec) alike = refl
  causes (command.Inherit task from) alike = refl
  causes (command.SetHome start bytes node) alike =
      home-alike (home_past_end space start bytes node) (not (start % 4096 == 0))
      (ends_above (2 ^ 47) start bytes)
      (ends_above (2 ^ 64 - 1) start bytes) (nat_le space.machine.nodes node) (bytes == 0) _
      (any_page (λ page. has_policy (page_at space.ranges page)) (page_of start)
      (page_count bytes)) _ (above-lower (2 ^ 64 - 1) (2 ^ 47) start bytes (omega arith)) alike
  causes (command.SetWeight node weight) alike =
      weight-alike (nat_le space.machine.nodes node) (weight == 0) (nat_lt 255 weight) alike
  causes (command.SetMems mask) alike =
      mems-alike (list_any (λ node. nat_le space.machine.nodes node) (members mask)) (mask == 0)
      (both mask space.machine.memory == 0) _ alike

  pub same-answer : (asked : Command) → is_linux space.machine.rules ≡ false
      → IsAnsweredAlike (otherwise_of space asked)
      → refusal_by Document space after asked ≡ refusal_by Linux space after asked
  same-answer asked documents alike =
      let told : IsAnsweredAlike (with_command space asked) = rw documents at alike in
      ap (first_of (when (nat_le space.bounds.max_commands space.version) CommandsSpent))
      (causes asked told)
