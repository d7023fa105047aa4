use Rattle.std.proofs.Common.{◌≡◌, ℕ, ◌^◌, true, false, Option, Some, None, refl, inl, inr}
use Rattle.std.specs.Prelude.{if◌then◌else◌}
use Rattle.std.proofs.lemmas.Bool.{cases_Bool}
use Rattle.numa_placed.specs.Binds.{Asked, bound_spots, goals, sent_spot, strays}
use Rattle.numa_placed.specs.Spots.{is_placed}
use Rattle.numa_placed.specs.declared.spot.Spot.{Spot}
use Rattle.numa_placed.specs.declared.spot.Spot.TheVariants.{Nowhere, Stated}
use Rattle.numa_placed.proofs.Paced.{goals-endless}
use Rattle.numa_placed.proofs.Sending.{not_wanted}
use Rattle.numa_placed.proofs.Shared.{count-same}
use Rattle.numa_placed.proofs.laws.bindings_keep_pages.Goals as goal

-- ---- pages

sent-placed : (goal : Option ℕ) (spot : Spot) → is_placed spot ≡ true
    → is_placed (sent_spot goal spot) ≡ true
sent-placed None spot placed = placed
sent-placed (Some node) spot placed = refl

strays-placed : (asked : Asked) (page : ℕ) (spot : Spot) → asked.wants page Nowhere ≡ false
    → strays asked page spot ≡ true → is_placed spot ≡ true
strays-placed asked page Nowhere none t = let e = not_wanted asked page Nowhere none in cc
strays-placed asked page (Stated from) none t = refl

as-placed : (asked : Asked) (page : ℕ) (goal : Option ℕ) (spot : Spot)
    → asked.wants page Nowhere ≡ false
    → is_placed (if strays asked page spot then sent_spot goal spot else spot) ≡ is_placed spot
as-placed asked page goal spot none = elim (cases_Bool (strays asked page spot)) [
  | inl t ↦
      let was = strays-placed asked page spot none t in
      rw (t, sent-placed goal spot was, was) refl
  | inr e ↦ rw e refl
]

pub returns-clause-pages : goal.returns-clause-pages
returns-clause-pages c asked spots room none =
    count-same (λ page. is_placed (bound_spots asked spots room page))
    (λ page. is_placed (spots page)) 0 (2 ^ 35)
    (λ page low high. as-placed asked page (goals asked spots room page) (spots page) (none page))

pub returns-clause-stays : goal.returns-clause-stays
returns-clause-stays c asked spots room page none =
    rw (not_wanted asked page (spots page) none) refl

pub returns-clause-endless : goal.returns-clause-endless
returns-clause-endless c asked spots page = goals-endless asked spots page
