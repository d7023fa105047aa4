-- Changes of pages of both sizes, by outcomes that say the same.
use Rattle.std.proofs.Common.{◌≡◌, ◌≢◌, ℕ, Ok, Err, refl, sym, ap}
use Rattle.std.proofs.Common.{subst, ◌∙◌}
use Rattle.std.specs.Prelude.{IfErr, OnErr, Result}
use Rattle.numa_placed.specs.Refusals.{LacksForBytes}
use Rattle.numa_requests.specs.declared.page_refusal.PlacedRefusal.{PlacedRefusal}
use Rattle.numa_requests.specs.declared.page_refusal.PlacedRefusal.TheVariants as cause
use Rattle.numa_huge.specs.Huge.{HugeLying}
use Rattle.numa_page_state.specs.Lying.{Lying}
use Rattle.numa_page_state.specs.Outcomes.{Done, Enough, Lack}
use Rattle.numa_page_state.specs.Standing.{DoesAs, LiesAs}
use Rattle.numa_page_state.specs.declared.state.PageState.{PageState}
use Rattle.numa_pages.specs.Changes.{Changes, LacksOnlyIf, PagesState, huge_in}
use Rattle.numa_pages.specs.Sizes.{Both, of_pages, state_told}
use Rattle.numa_pages.specs.declared.refusal.ChangeRefusal.TheVariants.{OfPages}

-- what is done as one outcome says is done as another that says the same
pub outcome-so : {A Cause : Type 0} (starved answer : Result A Cause)
    (outcome other : Lack → HugeLying → Lying → Both A Cause) (before after : PagesState)
    → ((lack : Lack) (at : Lying) → other lack (huge_in before) at
    ≡ outcome lack (huge_in before) at)
    → Changes starved outcome before answer after → Changes starved other before answer after
outcome-so {A} {Cause} starved answer outcome other before after is changes = record {
  does = λ lying lies.
      let d = changes.does lying lies in
      let same = is d.0 lying in (
        d.0,
        subst (λ (o : Both A Cause). LiesAs after.state o.1.0) (sym same) d.1,
        d.2 ∙ sym (ap (λ (o : Both A Cause). o.1.1) same),
        ap (λ (o : Both A Cause). o.0) same ∙ d.3,
        d.4,
      );
  core = changes.core;
  unchanged = changes.unchanged;
}

-- a refusal that says that nothing has changed
pub refused-so : {A Cause : Type 0} (starved : Result A Cause) (why : Cause)
    (outcome : Lack → HugeLying → Lying → Both A Cause) (before : PagesState)
    → ((at : Lying) → outcome Enough (huge_in before) at ≡ (Err why, (at, huge_in before)))
    → Changes starved outcome before (Err why) before
refused-so {A} {Cause} starved why outcome before is = record {
  does = λ lying lies. (
    Enough,
    subst (λ (o : Both A Cause). LiesAs before.state o.1.0) (sym (is lying)) lies,
    sym (ap (λ (o : Both A Cause). o.1.1) (is lying)),
    ap (λ (o : Both A Cause). o.0) (is lying),
    λ odd. absurd (cc),
  );
  core = refl;
  unchanged = refl;
}

-- ---- what is told otherwise

pub told-so : (before after : PageState) (answer : Result (Unit {0}) PlacedRefusal)
    (outcome : Lack → Lying → Done (Unit {0}) PlacedRefusal)
    → DoesAs before answer after (Err cause.NoMemory) outcome
    → DoesAs before (state_told answer) after (Err (OfPages cause.NoMemory))
    (λ lack at. of_pages (outcome lack at))
told-so before after answer outcome does = λ lying lies.
    let d = does lying lies in
    (d.0, d.1, ap state_told d.2, λ starved. ((d.3 starved).0, ap state_told (d.3 starved).1))

pub err-told : (answer : Result (Unit {0}) PlacedRefusal) (P : Type 0) → OnErr answer P
    → OnErr (state_told answer) P
err-told (Ok done) P on = tt
err-told (Err why) P on = on

-- memory lacks only for some bytes
pub err-room : (answer : Result (Unit {0}) PlacedRefusal) (bytes : ℕ)
    → IfErr answer (LacksForBytes bytes) → IfErr (state_told answer) (LacksOnlyIf (bytes ≢ 0))
err-room (Ok done) bytes room = tt
err-room (Err why) bytes room = room
