-- What the parts of an explanation say together.
use Rattle.std.proofs.Common.{◌≡◌, ℕ, ◌+◌, ◌-◌, Bool, Bool, true, false, Option, Some, None, List}
use Rattle.std.proofs.Common.{is_some, refl, sym, ap, subst, ◌∙◌, inl, inr}
use Rattle.std.specs.Option.{option_map}
use Rattle.std.specs.Prelude.{nat_le, if◌then◌else◌}
use Rattle.std.proofs.lemmas.Bool.{cases_Bool}
use Rattle.numa_machine.specs.Machine.{Hardware}
use Rattle.numa_machine.specs.Sizes.{turn_at}
use Rattle.numa_mode.specs.Policy.{PolicyRecord}
use Rattle.numa_mode.specs.declared.modes.Mode.{Mode}
use Rattle.numa_mode.specs.declared.modes.Mode.TheVariants as mode
use Rattle.numa_ranges.specs.Counts.{IsRange}
use Rattle.numa_ranges.specs.Runs.{in_pages, page_at}
use Rattle.numa_ranges.specs.declared.run.Run.{Run}
use Rattle.numa_space.specs.Lists.{Setting, list_by_mode, list_for}
use Rattle.numa_space.specs.Pages.{index_of, is_mapped, page_in, range_record}
use Rattle.numa_space.specs.Refusals.{PageMap}
use Rattle.numa_space.specs.Same.{same_record}
use Rattle.numa_space.specs.Standing.{SpaceState, StandsFor, place_refusal_in}
use Rattle.numa_requests.specs.declared.command.Command.{Command}
use Rattle.numa_machine.specs.declared.refusal.PlaceRefusal.TheVariants.{BadCpu, Unmapped}
use Rattle.numa_rules.specs.Reasons.{ordered_by, rule_by_mode, rule_for, run_with, set_for}
use Rattle.numa_rules.proofs.Ranges.{in_pages-inside, run-page}

pair-of : (p q : ℕ × Option PolicyRecord) → Some p ≡ Some q → p ≡ q
pair-of p q same = cc

none-some : (p : ℕ × Option PolicyRecord) → None ≡ Some p → ⊥
none-some p same = cc

-- the index and the range's policy of a page that is shown with these
pub page-index : (machine : Hardware) (history : List Command) (page index : ℕ)
    (value : Option PolicyRecord) → page_in machine history page ≡ Some (index, value)
    → index_of history page ≡ index
page-index machine history page index value shown = elim (cases_Bool (is_mapped history page)) [
  | inl t ↦ ap (λ (p : ℕ × Option PolicyRecord). p.0) (pair-of _ _ (rw t at shown))
  | inr f ↦ absurd (none-some _ (rw f at shown))
]

pub page-record : (machine : Hardware) (history : List Command) (page index : ℕ)
    (value : Option PolicyRecord) → page_in machine history page ≡ Some (index, value)
    → range_record machine history page ≡ value
page-record machine history page index value shown = elim (cases_Bool (is_mapped history page)) [
  | inl t ↦ ap (λ (p : ℕ × Option PolicyRecord). p.1) (pair-of _ _ (rw t at shown))
  | inr f ↦ absurd (none-some _ (rw f at shown))
]

-- the rule of a policy puts the nodes in the order of its list
ordered-mode : (setting : Setting) (m : Mode) (set from index : ℕ)
    → ordered_by setting set (rule_by_mode setting.weight m set from index)
    ≡ list_by_mode setting m set from index
ordered-mode setting mode.Default set from index = refl
ordered-mode setting mode.Local set from index = refl
ordered-mode setting mode.Preferred set from index = refl
ordered-mode setting mode.Bind set from index = refl
ordered-mode setting mode.PreferredMany set from index = refl
ordered-mode setting mode.Interleave set from index = refl
ordered-mode setting mode.WeightedInterleave set from index = refl

pub ordered-policy : (setting : Setting) (policy : Option PolicyRecord) (cpu index : ℕ)
    → ordered_by setting (set_for policy) (rule_for setting.weight policy cpu index)
    ≡ list_for setting policy cpu index
ordered-policy setting None cpu index = refl
ordered-policy setting (Some r) cpu index =
    ordered-mode setting r.spec.mode r.effective _ (turn_at index)

-- ---- the explanation of a page that is shown

module _ (space : SpaceState) (history : List Command) (page : ℕ) (run : Run (Option PolicyRecord))
    (stands : StandsFor space history) (range : IsRange same_record (page_at space.ranges) run)
    (has : in_pages run.first run.pages page ≡ true) where
  shown : page_in space.machine history page ≡ Some (run.index + (page - run.first), run.value)
  shown =
      let inside = in_pages-inside run.first run.pages page has in
      sym (stands.pages page) ∙ range.pages page inside.0 inside.1

  pub said-range : IsRange same_record (page_in space.machine history) run
  said-range =
      let whole : page_at space.ranges ≡ page_in space.machine history =
      λ i page. stands.pages page i in
      let Q : PageMap → Type 0 = λ at. IsRange same_record at run in
      subst Q whole range

  pub said-index : run.index + (page - run.first) ≡ index_of history page
  said-index =
      sym (page-index space.machine history page (run.index + (page - run.first)) run.value shown)

  pub said-record : run.value ≡ range_record space.machine history page
  said-record =
      sym (page-record space.machine history page (run.index + (page - run.first)) run.value shown)

-- a page of which a question isn't refused has a run
pub has-run : (nodes cpu page : ℕ) (runs : List (Run (Option PolicyRecord)))
    → place_refusal_in nodes (is_some (page_at runs page)) cpu ≡ None → run_with runs page ≡ None
    → ⊥
has-run nodes cpu page runs asked none = refused (nat_le nodes cpu) (rw lacking at asked)
  where
    lacking : is_some (page_at runs page) ≡ false
    lacking =
        let said : Run (Option PolicyRecord) → ℕ × Option PolicyRecord =
        λ run. (run.index + (page - run.first), run.value) in
        ap (λ o. is_some o) (run-page runs page ∙ ap (λ o. option_map said o) none)

    refused : (bad : Bool)
        → (if bad then Some BadCpu else if false then None else Some Unmapped) ≡ None → ⊥
    refused true h = cc
    refused false h = cc
