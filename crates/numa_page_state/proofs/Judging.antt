-- Pages that lie on other nodes than those of a list.
use Rattle.std.proofs.Common.{◌≡◌, ℕ, Bool, false, ◌||◌}
use Rattle.std.proofs.Common.{List, refl, ap, ◌∙◌, inl, inr}
use Rattle.std.specs.Prelude.{◌%◌, ◌==◌}
use Rattle.std.proofs.lemmas.Bool.{cases_Bool}
use Rattle.numa_machine.specs.declared.rules.Rules.{Rules}
use Rattle.numa_machine.specs.declared.rules.Rules.TheVariants.{Document, Linux}
use Rattle.numa_ranges.specs.Runs.{page_at}
use Rattle.numa_ranges.proofs.Pages.{any_page-false}
use Rattle.numa_space.specs.History.{page_of, page_count}
use Rattle.numa_space.specs.Pages.{page_in}
use Rattle.numa_space.specs.Refusals.{PageMap}
use Rattle.numa_space.specs.Standing.{SpaceState, StandsFor}
use Rattle.numa_requests.specs.declared.command.Command.{Command}
use Rattle.numa_maps.specs.Residents.{Kept}
use Rattle.numa_placed.specs.Astray.{judged_pages, strict_cause_by, strict_span_cause}
use Rattle.numa_placed.specs.Spots.{spot_at}
use Rattle.numa_placed.specs.declared.spot.Spot.{Spot}
use Rattle.numa_placed.specs.declared.spot.Spot.TheVariants.{Nowhere}
use Rattle.numa_page_state.specs.Lying.{Lying}
use Rattle.numa_page_state.specs.Outcomes.{is_astray_cause}
use Rattle.numa_page_state.specs.Standing.{LiesAs}
use Rattle.numa_page_state.specs.Strict.{has_astray, held_astray}
use Rattle.numa_page_state.specs.declared.state.PageState.{PageState}
use Rattle.numa_page_state.specs.declared.binding.Binding.{Binding}
use Rattle.numa_page_state.proofs.Unmapping.{clear-first, span-clear}

-- ---- pages that were stated

strict-clear : (rules : Rules) (start bytes : ℕ)
    → is_astray_cause (strict_span_cause rules start bytes) ≡ false
strict-clear Document start bytes = span-clear start bytes
strict-clear Linux start bytes =
    elim (cases_Bool (start % 4096 == 0)) [
      | inl t ↦ rw t refl
      | inr e ↦ rw e refl
    ]

pub none-astray : (rules : Rules) (map : PageMap) (start bytes list : ℕ)
    → is_astray_cause (strict_cause_by rules map (λ page. Nowhere) start bytes list) ≡ false
none-astray rules map start bytes list =
    rw (any_page-false (λ page. false) (page_of start)
    (judged_pages rules map (page_of start) (page_count bytes)) (λ page low high. refl))
    (clear-first (strict_span_cause rules start bytes) (strict-clear rules start bytes))

pub same-astray : (rules : Rules) (map : PageMap) (state : PageState) (lying : Lying)
    (start bytes list : ℕ) → LiesAs state lying
    → is_astray_cause (strict_cause_by rules map (spot_at state.placed) start bytes list)
    ≡ is_astray_cause (strict_cause_by rules map lying.spots start bytes list)
same-astray rules map state lying start bytes list lies =
    let alike : spot_at state.placed ≡ lying.spots = λ i page. lies.spots page i in
    ap (λ (s : ℕ → Spot). is_astray_cause (strict_cause_by rules map s start bytes list)) alike

-- ---- the pages of a space are those of its history

pub mapped-alike : (space : SpaceState) (history : List Command) → StandsFor space history
    → page_at space.ranges ≡ page_in space.machine history
mapped-alike space history stands = λ i page. stands.pages page i

-- pages that were stated, and those in frames
pub astray-seen : (space : SpaceState) (history : List Command) (kept : Kept) (spots : ℕ → Spot)
    (said : Binding) (pages : ℕ) (stated held : Bool) → StandsFor space history
    → stated ≡ is_astray_cause (strict_cause_by space.machine.rules (page_at space.ranges) spots
    said.start said.length said.list)
    → pages ≡ judged_pages space.machine.rules (page_at space.ranges) (page_of said.start)
    (page_count said.length)
    → held ≡ held_astray kept (page_of said.start) pages said.list
    → (stated || held) ≡ has_astray (record {
      machine = space.machine;
      bounds = space.bounds;
      history = history;
      kept = kept;
    }) spots said
astray-seen space history kept spots said pages stated held stands stated_is pages_are held_is =
    let in_frames : held ≡ held_astray kept (page_of said.start)
    (judged_pages space.machine.rules (page_at space.ranges) (page_of said.start)
    (page_count said.length)) said.list =
    held_is ∙ ap (λ n. held_astray kept (page_of said.start) n said.list) pages_are in
    let alike = mapped-alike space history stands in
    (λ i. stated_is i || in_frames i) ∙ ap (λ (map : PageMap).
    is_astray_cause (strict_cause_by space.machine.rules map spots said.start said.length
    said.list) || held_astray kept (page_of said.start) (judged_pages space.machine.rules map
    (page_of said.start) (page_count said.length)) said.list) alike
