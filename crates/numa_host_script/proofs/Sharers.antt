-- Which processes of a host have pages of 2 MiB, and how they lie as they are kept.
use Rattle.std.proofs.Common.{◌≡◌, ℕ, Bool, true, false, Option, Some, None, List, [], ◌∷◌}
use Rattle.std.proofs.Common.{refl, sym, ap, ◌∙◌, inl, inr, eqb, subst}
use Rattle.std.proofs.lemmas.Bool.{both_ways, cases_Bool, eqb-true}
use Rattle.std.specs.Option.{option_map}
use Rattle.std.specs.Prelude.{if◌then◌else◌, is_some}
use Rattle.numa_huge.specs.Huge.{HugeLying, has_huge}
use Rattle.numa_huge.specs.Moves.{HugeMemory}
use Rattle.numa_host_huge.specs.Kept.{HugeKept, lying_of, place_in, spots_in}
use Rattle.numa_host_huge.specs.Sharing.{HugeHome, Sharing, given_back, home_of, lent, memory_in}
use Rattle.numa_host_huge.specs.Sharing.{with_kept}
use Rattle.numa_host_huge.specs.Standing.{HugeLies}
use Rattle.numa_host_huge.specs.declared.sharer.Sharer.{Sharer}
use Rattle.numa_host_huge.proofs.Places.{IsNowhere, at-home, at-inside, at-spots, nowhere-absent}
use Rattle.numa_host_huge.proofs.Places.{nowhere-home, nowhere-page, nowhere-some, place-none}
use Rattle.numa_host_huge.proofs.Places.{place-some, some-sharer}
use Rattle.numa_host_pages.specs.Homes.{HostLying}
use Rattle.numa_host_pages.specs.Standing.{HostLies}
use Rattle.numa_host_pages.specs.declared.pages.HostPages.{HostPages}
use Rattle.numa_page_state.specs.Huge.{has_huge_in, huge_count, huge_first}

some-same : (one other : HugeMemory) → Some one ≡ Some other → one ≡ other
some-same one other is = cc

pub none-some : (memory : HugeMemory) → None ≡ Some memory → ⊥
none-some memory is = cc

-- a page of the process is kept
abbrev pub IsThere : ℕ → Sharing → Type 0
IsThere process at = (memory : HugeMemory) × (memory_in process at ≡ Some memory)

pub some-there : (process : ℕ) (at : Sharing) → is_some (memory_in process at) ≡ true
    → IsThere process at
some-there process at = by (memory_in process at) refl
  where
    by : (memory : Option HugeMemory) → memory_in process at ≡ memory → is_some memory ≡ true
        → IsThere process at
    by (Some memory) is some = (memory, is)
    by None is some = absurd (both_ways false refl some)

module _ (kept : HugeKept) (at : Sharing) (process : ℕ) (lies : HugeLies kept at) where
  memory-there : (IsNowhere kept.sharers process → ⊥) → IsThere process at
  memory-there some = by (place_in process kept.sharers) refl
    where
      by : (place : Option ℕ) → place_in process kept.sharers ≡ place → IsThere process at
      by None is = absurd (some (place-none kept.sharers process is))
      by (Some place) is =
          let here = place-some kept.sharers process place is in
          let has = at-home kept.sharers at.homes process place (some-sharer kept.sharers place
          (at-inside kept.sharers process place here)) lies.homes here in
          (lent at.pools has.home, ap (option_map (lent at.pools)) has.is)

  -- one in a span is
  pub has-there : (first pages : ℕ) → has_huge (spots_in process kept.sharers) first pages ≡ true
      → IsThere process at
  has-there first pages has =
      memory-there (λ absent. nowhere-absent kept.sharers process first pages absent has)

  -- or this one
  pub page-there : (page : ℕ) → is_some (spots_in process kept.sharers page) ≡ true
      → IsThere process at
  page-there page has = memory-there (λ absent. nowhere-page kept.sharers process page absent has)

  -- or any
  pub place-there : is_some (place_in process kept.sharers) ≡ true → IsThere process at
  place-there some = memory-there (λ absent. nowhere-some kept.sharers process absent some)

  -- they lie as they are kept
  pub kept-lying : (memory : HugeMemory) → memory_in process at ≡ Some memory
      → lying_of process kept ≡ memory.pages
  kept-lying memory some = by (place_in process kept.sharers) refl
    where
      by : (place : Option ℕ) → place_in process kept.sharers ≡ place
          → lying_of process kept ≡ memory.pages
      by None is = absurd (none-some memory (sym (ap (option_map (lent at.pools)) (nowhere-home
          kept.sharers at.homes process lies.homes (place-none kept.sharers process is))) ∙ some))
      by (Some place) is =
          let here = place-some kept.sharers process place is in
          let one : Sharer = some-sharer kept.sharers place
          (at-inside kept.sharers process place here) in
          let has = at-home kept.sharers at.homes process place one lies.homes here in
          let same : lent at.pools has.home ≡ memory = some-same (lent at.pools has.home) memory
          (sym (ap (option_map (lent at.pools)) has.is) ∙ some) in
          let spots : spots_in process kept.sharers ≡ has.home.spots =
          at-spots kept.sharers process place one here
          ∙ ap (λ (p : HugeLying). p.spots) has.stands.pages.1.pages in
          (λ i. record { pools = lies.pools i; spots = spots i })
          ∙ ap (λ (m : HugeMemory). m.pages) same

  pub has-in : (start pages : ℕ) (memory : HugeMemory) → memory_in process at ≡ Some memory
      → has_huge (spots_in process kept.sharers) (huge_first start) (huge_count start pages) ≡ true
      → has_huge_in (Some memory) start pages ≡ true
  has-in start pages memory some has = ap (λ (p : HugeLying).
      has_huge p.spots (huge_first start) (huge_count start pages)) (sym (kept-lying memory some))
      ∙ has

-- ---- what is given back as it was changes nothing

homes-same : (process : ℕ) (memory : HugeMemory) (homes : List HugeHome) (home : HugeHome)
    → home_of process homes ≡ Some home → memory.pages.spots ≡ home.spots
    → memory.told ≡ home.told → memory.arrived ≡ home.arrived
    → with_kept process memory homes ≡ homes
homes-same process memory [] home is spots told arrived = absurd (cc)
homes-same process memory (one ∷ homes) home is spots told arrived =
    elim (cases_Bool (eqb one.id process)) [
      | inl e ↦
          let found : Some one ≡ Some home = subst (λ (b : Bool).
          (if b then Some one else home_of process homes) ≡ Some home) e is in
          let same : one ≡ home = cc in
          let id : process ≡ one.id = sym (eqb-true one.id process e) in
          rw e (λ i. record {
            id = id i;
            spots = (spots ∙ ap (λ (h : HugeHome). h.spots) (sym same)) i;
            told = (told ∙ ap (λ (h : HugeHome). h.told) (sym same)) i;
            arrived = (arrived ∙ ap (λ (h : HugeHome). h.arrived) (sym same)) i;
          } ∷ homes)
      | inr e ↦
          let rest : home_of process homes ≡ Some home = subst (λ (b : Bool).
          (if b then Some one else home_of process homes) ≡ Some home) e is in
          rw e (ap (λ (hs : List HugeHome). one ∷ hs)
          (homes-same process memory homes home rest spots told arrived))
    ]

pub given-same : (process : ℕ) (memory : HugeMemory) (at : Sharing)
    → memory_in process at ≡ Some memory → given_back process memory at ≡ at
given-same process memory at some = by (home_of process at.homes) refl
  where
    by : (home : Option HugeHome) → home_of process at.homes ≡ home
        → given_back process memory at ≡ at
    by None is = absurd (none-some memory (sym (ap (option_map (lent at.pools)) is) ∙ some))
    by (Some home) is =
        let same : memory ≡ lent at.pools home = some-same memory (lent at.pools home)
        (sym some ∙ ap (option_map (lent at.pools)) is) in
        λ i. record {
          pools = ap (λ (m : HugeMemory). m.pages.pools) same i;
          homes = homes-same process memory at.homes home is
              (ap (λ (m : HugeMemory). m.pages.spots) same)
              (ap (λ (m : HugeMemory). m.told) same) (ap (λ (m : HugeMemory). m.arrived) same) i;
        }

-- ---- beside the other pages

-- pages of 2 MiB are so now, and the others lie as they did
pub huge-lies : (pages : HostPages) (huge : HugeKept) (at : HostLying) (shared : Sharing)
    → HostLies pages at → HugeLies huge shared
    → HostLies (record pages { huge = huge }) (record at { huge = shared })
huge-lies pages huge at shared lies shares = record {
  room = lies.room;
  follows = lies.follows;
  homes = lies.homes;
  huge = shares;
  places = lies.places;
}
