-- Where pages lie once that begins to be kept.
use Rattle.std.proofs.Common.{◌≡◌, Option, Some, None, sym, subst}
use Rattle.std.specs.Prelude.{IsSomeAnd}
use Rattle.numa_page_state.specs.Lying.{Lying, nothing}
use Rattle.numa_page_state.specs.Standing.{Lies, LiesAs}
use Rattle.numa_page_state.specs.declared.state.PageState.{PageState}

-- where nothing was kept, all pages lie nowhere
pub kept-first : (state : Option PageState) (begun : PageState) → state ≡ None
    → LiesAs begun nothing → (lying : Lying) → Lies state lying → LiesAs begun lying
kept-first state begun none lies lying are =
    let is : lying ≡ nothing = subst (λ (s : Option PageState). Lies s lying) none are in
    subst (LiesAs begun) (sym is) lies

pub kept-lies : (state state_then : Option PageState) (kept : PageState)
    → state_then ≡ Some kept
    → IsSomeAnd state_then (λ k. (lying : Lying) → Lies state lying → LiesAs k lying)
    → (lying : Lying) → Lies state lying → LiesAs kept lying
kept-lies state state_then kept is all lying lies =
    subst (λ (s : Option PageState). IsSomeAnd s (λ k. (l : Lying) → Lies state l → LiesAs k l))
    is all lying lies
