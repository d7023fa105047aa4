-- A page of either size that moves to a node.
use Rattle.std.proofs.Common.{◌≡◌, ℕ, Bool, true, false, None, Ok, Err, [], refl, sym, ap, subst}
use Rattle.std.proofs.Common.{◌∙◌}
use Rattle.std.proofs.Common.{is_some}
use Rattle.std.specs.Prelude.{OnErr, Result}
use Rattle.numa_placed.specs.declared.moved.Moved.{Moved}
use Rattle.numa_requests.specs.declared.page_refusal.MoveRefusal.{MoveRefusal}
use Rattle.numa_requests.specs.declared.page_refusal.MoveRefusal.TheVariants as move
use Rattle.numa_space.specs.Standing.{SpaceState}
use Rattle.numa_huge.specs.Huge.{HugeLying, HugePlaced, huge_at, places_of}
use Rattle.numa_huge.specs.Tallies.{IsMemory}
use Rattle.numa_huge.specs.declared.last.HugeLast.{HugeLast}
use Rattle.numa_huge.specs.declared.last.HugeLast.TheVariants as went
use Rattle.numa_huge.proofs.Flowing.{flow-still}
use Rattle.numa_page_state.specs.Huge.{HugeGoes, huge_move, huge_page, told_done}
use Rattle.numa_page_state.specs.Lying.{Lying, ground_in}
use Rattle.numa_page_state.specs.Standing.{LiesAs}
use Rattle.numa_page_state.specs.declared.state.PageState.{PageState}
use Rattle.numa_pages.specs.Changes.{MovesPage, PagesState, ground_of, huge_in}
use Rattle.numa_pages.specs.Sizes.{Both, alike, alone, go_outcome}
use Rattle.numa_pages.proofs.Touched.{does-by}

-- nothing was told of any move yet
abbrev nothing_told : HugeLast
nothing_told = went.Nodes (record { moved = 0; left = 0; from = []; to = [] })

pub alone-is : (huge : HugePlaced) → IsMemory (record {
  places = huge;
  last = nothing_told;
  arrived = None;
}) (alone (places_of huge))
alone-is huge = record {
  pages = refl;
  told = record {
    moved = refl;
    left = refl;
    flow = λ from to small near. flow-still [] [] from to refl;
  };
  arrived = tt;
}

-- one of 2 MiB
pub huge-gone : (address node : ℕ) (before after : PagesState) (space : SpaceState)
    (result : Result Moved MoveRefusal) (answer : Result (Unit {0}) MoveRefusal)
    → is_some ((huge_in before).spots (huge_page address)) ≡ true → space ≡ before.core.space
    → after.core ≡ before.core → after.state ≡ before.state → told_done result ≡ answer
    → HugeGoes before.huge result after.huge (ground_in space []) (huge_page address) node
    → OnErr answer (after.huge ≡ before.huge) → MovesPage address node before answer after
huge-gone address node before after space result answer some same core state is goes still =
    let d = (subst (λ (s : SpaceState). HugeGoes before.huge result after.huge (ground_in s [])
    (huge_page address) node) same goes) nothing_told None (alone (huge_in before))
    (alone-is before.huge) in
    record {
      does = λ lying lies.
          let all = does-by (Err move.NoMemory) answer before after d.0
          (go_outcome d.0 (ground_of before) address node (huge_in before) lying)
          (alike lying (huge_move d.0 (ground_of before) (huge_page address) node
          (alone (huge_in before)))) (rw some refl)
          (subst (λ (s : PageState). LiesAs s lying) (sym state) lies) d.2.pages (d.1 ∙ is)
          (λ on. (
            state,
            subst (λ (r : Result (Unit {0}) MoveRefusal).
                OnErr r (after.huge ≡ before.huge)) (sym is ∙ d.3 on) still,
            sym is ∙ d.3 on,
          )) in
          (d.0, all.0, all.1, all.2, all.3);
      core = core;
      unchanged = err-same answer core state still;
    }
  where
    err-same : (answer : Result (Unit {0}) MoveRefusal) → after.core ≡ before.core
        → after.state ≡ before.state → OnErr answer (after.huge ≡ before.huge)
        → OnErr answer (after ≡ before)
    err-same (Ok done) core state still = tt
    err-same (Err why) core state still =
        λ i. record { core = core i; state = state i; huge = still i }
