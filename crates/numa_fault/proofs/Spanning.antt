-- One more page of a span.
use Rattle.std.proofs.Common.{◌≡◌, ℕ, suc, ◌+◌, ◌-◌, ◌<◌, List, [], ◌∷◌, ◌++◌, length, true, false}
use Rattle.std.proofs.Common.{refl, sym, subst, ◌∙◌, arith}
use Rattle.std.proofs.lemmas.Bool.Decides.{nat_tests}
use Rattle.std.specs.Prelude.{None, nat_le}
use Rattle.numa_requests.specs.declared.placement.Placement.{Placement}
use Rattle.numa_machine.specs.Machine.{Hardware}
use Rattle.numa_pool.specs.Seats.{SeatView}
use Rattle.numa_compile.specs.Spans.{SpanIsRefused}
use Rattle.numa_publish.specs.Spans.{SpanStands}
use Rattle.numa_machine.specs.declared.refusal.PlaceRefusal.{PlaceRefusal}
use Rattle.numa_machine.specs.declared.refusal.PlaceRefusal.TheVariants.{BadCpu, Unmapped}
use Rattle.numa_space.specs.Pages.{is_mapped}
use Rattle.numa_requests.specs.declared.command.Command.{Command}
use Rattle.numa_requests.specs.declared.request.Request.{Request}
use Rattle.numa_fault.specs.Fault.{refusal_of, Places}
use Rattle.numa_fault.specs.Span.{request_at, PlacesEach}
use Rattle.numa_fault.specs.declared.span.Span.{Span}

pub page-stands : (machine : Hardware) (history : List Command) (request : Request)
    → request.cpu < machine.nodes
    → is_mapped history request.page ≡ true → refusal_of machine history request ≡ None
page-stands machine history request known mapped =
    let near : nat_le machine.nodes request.cpu ≡ false = grind (arith, nat_tests) in
    rw (near, mapped) refl

module _ (frames : List ℕ) (machine : Hardware) (history : List Command) (span : Span) where
  pub places-more : (k : ℕ) (before after later : SeatView) (ps : List Placement) (p : Placement)
      → PlacesEach frames machine history span k before after ps
      → Places frames machine history (request_at span (k + length ps)) p after later
      → PlacesEach frames machine history span k before later (ps ++ p ∷ [])
  places-more k before after later [] p done next = (
    later,
    subst (λ (s : SeatView × ℕ). Places frames machine history (request_at span s.1) p s.0
        later) (λ i. (done i, here i)) next,
    refl,
  )
    where
      here : k + 0 ≡ k
      here = omega arith
  places-more k before after later (q ∷ ps) p done next = (
    done.0,
    done.1,
    places-more (k + 1) done.0 after later ps p done.2
        (subst (λ n. Places frames machine history (request_at span n) p after later) there next),
  )
    where
      there : k + suc (length ps) ≡ (k + 1) + length ps
      there = omega arith

-- a span that stands is not refused
pub not-refused : (machine : Hardware) (history : List Command) (cpu first pages : ℕ)
    → SpanStands machine history first pages cpu → (refusal : PlaceRefusal)
    → SpanIsRefused machine history first pages cpu refusal → ⊥
not-refused machine history cpu first pages stands BadCpu refused = let known = stands.cpu_known in
    absurd (omega arith)
not-refused machine history cpu first pages stands Unmapped refused =
    let hole = refused.1 in
    let page = hole.0 in
    let low = hole.1 in
    let high = hole.2 in
    let same : first + (page - first) ≡ page = omega arith in
    let mapped : is_mapped history page ≡ true = subst (λ p. is_mapped history p ≡ true) same
    (stands.mapped (page - first) (omega arith)) in
    let odd : true ≡ false = sym mapped ∙ hole.3 in
    absurd (cc)
