-- Whether pages of either size lie on other nodes than those of a list.
use Rattle.std.proofs.Common.{◌≡◌, ℕ, Bool, true, false, Option, Some, None, sym, ap}
use Rattle.std.proofs.Common.{◌∙◌}
use Rattle.std.specs.Prelude.{◌||◌}
use Rattle.numa_placed.specs.declared.spot.Spot.{Spot}
use Rattle.numa_huge.specs.Moves.{HugeMemory}
use Rattle.numa_huge.specs.Tallies.{StandsForHuge}
use Rattle.numa_huge.specs.declared.pages.HugePages.{HugePages}
use Rattle.numa_huge.specs.Huge.{places_of}
use Rattle.numa_page_state.specs.Huge.{huge_astray}
use Rattle.numa_page_state.specs.Lying.{Process}
use Rattle.numa_page_state.specs.Strict.{has_astray}
use Rattle.numa_page_state.specs.declared.binding.Binding.{Binding}
use Rattle.numa_run.specs.Obeying.{any_astray}

-- one of 4 KiB does
pub strays-small : (memory : Option HugeMemory) (process : Process) (spots : ℕ → Spot)
    (said : Binding) → has_astray process spots said ≡ true
    → true ≡ any_astray memory process spots said
strays-small None process spots said is = sym is
strays-small (Some memory) process spots said is =
    ap (λ (b : Bool). b || huge_astray process memory said) (sym is)

-- none does, and no page of 2 MiB is kept
pub strays-none : (huge : Option HugePages) (memory : Option HugeMemory) (process : Process)
    (spots : ℕ → Spot) (said : Binding) → huge ≡ None → StandsForHuge huge memory
    → has_astray process spots said ≡ false → false ≡ any_astray memory process spots said
strays-none None None process spots said none stands is = sym is
strays-none None (Some memory) process spots said none stands is = absurd stands
strays-none (Some kept) memory process spots said none stands is = cc

-- those of 2 MiB tell
pub strays-some : (kept : HugePages) (memory : Option HugeMemory) (process : Process)
    (spots : ℕ → Spot) (said : Binding) (found : Bool) → StandsForHuge (Some kept) memory
    → has_astray process spots said ≡ false
    → ((known : HugeMemory) → places_of kept.places ≡ known.pages
    → found ≡ huge_astray process known said)
    → found ≡ any_astray memory process spots said
strays-some kept None process spots said found stands is tells = absurd stands
strays-some kept (Some memory) process spots said found stands is tells =
    tells memory stands.pages ∙ ap (λ (b : Bool). b || huge_astray process memory said) (sym is)
