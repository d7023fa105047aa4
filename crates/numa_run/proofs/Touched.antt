-- What first touches of pages of both sizes come to.
use Rattle.std.proofs.Common.{◌≡◌, ℕ, Bool, Some, Result, Ok, Err, refl, sym, ap}
use Rattle.std.proofs.Common.{subst, ◌∙◌, inl, inr}
use Rattle.std.proofs.lemmas.Bool.{cases_Bool}
use Rattle.std.specs.Prelude.{if◌then◌else◌}
use Rattle.numa_requests.specs.declared.page_refusal.PlacedRefusal.{PlacedRefusal}
use Rattle.numa_requests.specs.declared.page_refusal.PlacedRefusal.TheVariants.{NoMemory}
use Rattle.numa_huge.specs.Huge.{HugePlaced, places_of}
use Rattle.numa_huge.specs.Moves.{HugeMemory}
use Rattle.numa_huge.specs.Tallies.{IsMemory, IsTouch}
use Rattle.numa_huge.specs.declared.arrived.HugeArrived.{HugeArrived}
use Rattle.numa_huge.specs.declared.pages.HugePages.{HugePages}
use Rattle.numa_page_state.specs.Huge.{both_populated, huge_populated, populated_with}
use Rattle.numa_page_state.specs.Huge.{small_populated, touch_walk}
use Rattle.numa_page_state.specs.Lying.{Ground, Lying}
use Rattle.numa_page_state.specs.Outcomes.{Lack, Starved, is_starved}
use Rattle.numa_page_state.specs.Standing.{DoesAs, LiesAs}
use Rattle.numa_page_state.specs.declared.state.PageState.{PageState}
use Rattle.numa_run.specs.Standing.{Populates}

ok-err : (result : Result (Unit {0}) PlacedRefusal) (why : PlacedRefusal) → result ≡ Ok tt
    → result ≡ Err why → ⊥
ok-err result why is so = cc

module _ (old new : PageState) (huge : HugePages) (basis : Ground) (start bytes task cpu : ℕ) where
  abbrev outcome : Lack → HugeMemory → Lying → Result (Unit {0}) PlacedRefusal
      × (Lying × HugeMemory)
  outcome lack memory at = both_populated lack basis start bytes task cpu memory at

  abbrev Beside : Result (Unit {0}) PlacedRefusal → Type 0
  Beside result = (memory : HugeMemory) → places_of huge.places ≡ memory.pages
      → DoesAs old result new (Err NoMemory) (λ lack at.
      small_populated lack basis start bytes task cpu memory at)

  -- there is no memory for those of 2 MiB
  pub touched-starved : Populates old huge (Err NoMemory) old huge outcome
  touched-starved = λ memory at kept lies.
      (Starved, refl, lies, kept, λ t. (refl, refl, refl))

  -- those of 4 KiB are refused
  pub touched-refused : (why : PlacedRefusal) → Beside (Err why)
      → Populates old huge (Err why) new huge outcome
  touched-refused why beside = λ memory at kept lies.
      let d = beside memory kept.pages at lies in
      let small = small_populated d.0 basis start bytes task cpu memory at in
      elim (cases_Bool (is_starved d.0)) [
        | inl t ↦
            let lacks = d.3 t in
            let is : outcome d.0 memory at ≡ (Err NoMemory, (at, memory)) =
            ap (λ (b : Bool). if b then (Err NoMemory, (at, memory))
            else populated_with basis start bytes task cpu memory small) t in (
              d.0,
              ap (λ (p : Result (Unit {0}) PlacedRefusal × (Lying × HugeMemory)). p.0) is
                  ∙ sym lacks.1,
              subst (λ (p : Result (Unit {0}) PlacedRefusal × (Lying × HugeMemory)).
                  LiesAs new p.1.0) (sym is)
                  (subst (λ (p : PageState). LiesAs p at) (sym lacks.0) lies),
              subst (λ (p : Result (Unit {0}) PlacedRefusal × (Lying × HugeMemory)).
                  IsMemory huge p.1.1) (sym is) kept,
              λ s. (lacks.1, lacks.0, refl),
            )
        | inr e ↦
            let is : outcome d.0 memory at ≡ (Err why, (small.1, memory)) =
            ap (λ (b : Bool). if b then (Err NoMemory, (at, memory))
            else populated_with basis start bytes task cpu memory small) e
            ∙ ap (λ (r : Result (Unit {0}) PlacedRefusal).
            populated_with basis start bytes task cpu memory (r, small.1)) d.2 in (
              d.0,
              ap (λ (p : Result (Unit {0}) PlacedRefusal × (Lying × HugeMemory)). p.0) is,
              subst (λ (p : Result (Unit {0}) PlacedRefusal × (Lying × HugeMemory)).
                  LiesAs new p.1.0) (sym is) d.1,
              subst (λ (p : Result (Unit {0}) PlacedRefusal × (Lying × HugeMemory)).
                  IsMemory huge p.1.1) (sym is) kept,
              λ s. ((d.3 s).1, (d.3 s).0, refl),
            )
      ]

  -- both were touched
  pub touched-done : (places : HugePlaced) (arrived : HugeArrived) (settled : HugePages)
      → Beside (Ok tt)
      → ((memory : HugeMemory) → places_of huge.places ≡ memory.pages
      → IsTouch (touch_walk basis start bytes task cpu memory) places arrived)
      → ((memory : HugeMemory) → IsMemory huge memory
      → IsMemory settled (record memory { pages = places_of places }))
      → Populates old huge (Ok tt) new (record settled { arrived = Some arrived }) outcome
  touched-done places arrived settled beside touches settles = λ memory at kept lies.
      let d = beside memory kept.pages at lies in
      let small = small_populated d.0 basis start bytes task cpu memory at in
      let touch = touches memory kept.pages in
      let so = settles memory kept in
      elim (cases_Bool (is_starved d.0)) [
        | inl t ↦ absurd (ok-err (Ok tt) NoMemory refl (d.3 t).1)
        | inr e ↦
            let after : HugeMemory = huge_populated basis start bytes task cpu memory in
            let is : outcome d.0 memory at ≡ (Ok tt, (small.1, after)) =
            ap (λ (b : Bool). if b then (Err NoMemory, (at, memory))
            else populated_with basis start bytes task cpu memory small) e
            ∙ ap (λ (r : Result (Unit {0}) PlacedRefusal).
            populated_with basis start bytes task cpu memory (r, small.1)) d.2 in
            let is_memory : IsMemory (record settled { arrived = Some arrived }) after = record {
              pages = so.pages ∙ touch.pages;
              told = so.told;
              arrived = touch.arrived_is;
            } in (
              d.0,
              ap (λ (p : Result (Unit {0}) PlacedRefusal × (Lying × HugeMemory)). p.0) is,
              subst (λ (p : Result (Unit {0}) PlacedRefusal × (Lying × HugeMemory)).
                  LiesAs new p.1.0) (sym is) d.1,
              subst (λ (p : Result (Unit {0}) PlacedRefusal × (Lying × HugeMemory)).
                  IsMemory (record settled { arrived = Some arrived }) p.1.1) (sym is)
                  is_memory,
              λ s. absurd (ok-err (Ok tt) NoMemory refl (d.3 s).1),
            )
      ]
