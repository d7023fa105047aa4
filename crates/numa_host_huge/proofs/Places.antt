-- Where in the list a process is, and its pages.
use Rattle.std.proofs.Common.{◌≡◌, ℕ, zero, suc, ◌+◌, ◌<◌, ◌≤◌, ◌∙◌, Bool, true, false, List, []}
use Rattle.std.proofs.Common.{◌∷◌}
use Rattle.std.proofs.Common.{Option, Some, None, length, get_or, is_some, refl, sym, ap, arith}
use Rattle.std.proofs.Common.{inl, inr, subst}
use Rattle.std.specs.Prelude.{◌==◌, nat_lt}
use Rattle.std.specs.List.{position, position_from}
use Rattle.std.specs.Option.{option_map}
use Rattle.std.proofs.lemmas.Bool.{both_ways, cases_Bool, cases_lt, eqb-true}
use Rattle.std.proofs.lemmas.Bool.Decides.{nat_tests}
use Rattle.std.proofs.lemmas.Iterator.Adapters.{position_from-zero}
use Rattle.numa_ranges.proofs.Pages.{any_page-false}
use Rattle.numa_pools.specs.Pools.{PoolCounts}
use Rattle.numa_huge.specs.Huge.{has_huge}
use Rattle.numa_host_huge.specs.Kept.{has_place, place_in, spots_in, spots_of}
use Rattle.numa_host_huge.specs.Sharing.{HugeHome, home_of, lent}
use Rattle.numa_host_huge.specs.Standing.{AreHomes, IsHome}
use Rattle.numa_host_huge.specs.declared.sharer.Sharer.{Sharer}

pub some-sharer : (xs : List Sharer) (place : ℕ) → place < length xs → Sharer
some-sharer [] place inside = absurd (omega (arith, inside))
some-sharer (x ∷ xs) place inside = x

abbrev pub has_id : ℕ → Sharer → Bool
has_id process sharer = sharer.id == process

-- the first of a number is at this place
abbrev pub IsAt : List Sharer → ℕ → ℕ → Type 0
IsAt [] process place = ⊥
IsAt (sharer ∷ sharers) process zero = (sharer.id == process) ≡ true
IsAt (sharer ∷ sharers) process (suc place) =
    ((sharer.id == process) ≡ false) × IsAt sharers process place

-- none has it
abbrev pub IsNowhere : List Sharer → ℕ → Type 0
IsNowhere [] process = Unit {0}
IsNowhere (sharer ∷ sharers) process =
    ((sharer.id == process) ≡ false) × IsNowhere sharers process

-- ---- where it is found

from-at : (xs : List Sharer) (process i place : ℕ)
    → position_from (has_id process) i xs ≡ Some place
    → (k : ℕ) × (place ≡ i + k) × IsAt xs process k
from-at [] process i place is = absurd (cc)
from-at (x ∷ xs) process i place is =
    elim (cases_Bool (x.id == process)) [
      | inl e ↦
          let at : Some i ≡ Some place = rw e at is in
          (0, omega (arith, same i place at), e)
      | inr e ↦
          let later = from-at xs process (i + 1) place (rw e at is) in
          (suc later.0, omega (arith, later.1), (e, later.2))
    ]
  where
    same : (a b : ℕ) → Some a ≡ Some b → a ≡ b
    same a b h = cc

pub place-some : (xs : List Sharer) (process place : ℕ) → place_in process xs ≡ Some place
    → IsAt xs process place
place-some xs process place some =
    let at = from-at xs process 0 place (sym (position_from-zero (has_id process) xs) ∙ some) in
    subst (IsAt xs process) (omega (arith, at.1)) at.2

from-nowhere : (xs : List Sharer) (process i : ℕ) → position_from (has_id process) i xs ≡ None
    → IsNowhere xs process
from-nowhere [] process i is = tt
from-nowhere (x ∷ xs) process i is =
    elim (cases_Bool (x.id == process)) [
      | inl e ↦ let at : Some i ≡ None = rw e at is in absurd (cc)
      | inr e ↦ (e, from-nowhere xs process (i + 1) (rw e at is))
    ]

pub place-none : (xs : List Sharer) (process : ℕ) → place_in process xs ≡ None
    → IsNowhere xs process
place-none xs process none =
    from-nowhere xs process 0 (sym (position_from-zero (has_id process) xs) ∙ none)

pub at-inside : (xs : List Sharer) (process place : ℕ) → IsAt xs process place → place < length xs
at-inside [] process place at = absurd at
at-inside (x ∷ xs) process zero at = omega arith
at-inside (x ∷ xs) process (suc place) at = omega (arith, at-inside xs process place at.1)

-- ---- its pages

pub at-spots : (xs : List Sharer) (process place : ℕ) (d : Sharer) → IsAt xs process place
    → spots_in process xs ≡ spots_of (get_or xs place d)
at-spots [] process place d at = absurd at
at-spots (x ∷ xs) process zero d at = rw at refl
at-spots (x ∷ xs) process (suc place) d at = rw at.0 (at-spots xs process place d at.1)

pub nowhere-spots : (xs : List Sharer) (process : ℕ) → IsNowhere xs process
    → spots_in process xs ≡ (λ page. None)
nowhere-spots [] process absent = refl
nowhere-spots (x ∷ xs) process absent = rw absent.0 (nowhere-spots xs process absent.1)

pub at-id : (xs : List Sharer) (process place : ℕ) (d : Sharer) → IsAt xs process place
    → (get_or xs place d).id ≡ process
at-id [] process place d at = absurd at
at-id (x ∷ xs) process zero d at = eqb-true x.id process at
at-id (x ∷ xs) process (suc place) d at = at-id xs process place d at.1

-- ---- what it stands for

pub homes-length : (xs : List Sharer) (homes : List HugeHome) → AreHomes xs homes
    → length xs ≡ length homes
homes-length [] [] are = refl
homes-length [] (home ∷ homes) are = absurd are
homes-length (x ∷ xs) [] are = absurd are
homes-length (x ∷ xs) (home ∷ homes) are = ap suc (homes-length xs homes are.1)

pub record StandsAt (kept : Sharer) (process : ℕ) (homes : List HugeHome) : Type 0 where
  pub home : HugeHome
  pub is : home_of process homes ≡ Some home
  pub stands : IsHome kept home

pub at-home : (xs : List Sharer) (homes : List HugeHome) (process place : ℕ) (d : Sharer)
    → AreHomes xs homes → IsAt xs process place → StandsAt (get_or xs place d) process homes
at-home [] homes process place d are at = absurd at
at-home (x ∷ xs) [] process place d are at = absurd are
at-home (x ∷ xs) (home ∷ homes) process zero d are at = record {
  home = home;
  is = rw (ap (λ (n : ℕ). n == process) (sym are.0.id) ∙ at) refl;
  stands = are.0;
}
at-home (x ∷ xs) (home ∷ homes) process (suc place) d are at =
    let later = at-home xs homes process place d are.1 at.1 in
    record {
      home = later.home;
      is = rw (ap (λ (n : ℕ). n == process) (sym are.0.id) ∙ at.0) later.is;
      stands = later.stands;
    }

pub nowhere-home : (xs : List Sharer) (homes : List HugeHome) (process : ℕ) → AreHomes xs homes
    → IsNowhere xs process → home_of process homes ≡ None
nowhere-home [] [] process are absent = refl
nowhere-home [] (home ∷ homes) process are absent = absurd are
nowhere-home (x ∷ xs) [] process are absent = absurd are
nowhere-home (x ∷ xs) (home ∷ homes) process are absent =
    rw (ap (λ (n : ℕ). n == process) (sym are.0.id) ∙ absent.0)
    (nowhere-home xs homes process are.1 absent.1)

-- a process has pages where it has a place
pub place-memory : (xs : List Sharer) (homes : List HugeHome) (process : ℕ) (pools : PoolCounts)
    → AreHomes xs homes
    → is_some (place_in process xs) ≡ is_some (option_map (lent pools) (home_of process homes))
place-memory xs homes process pools are = by (place_in process xs) refl
  where
    by : (o : Option ℕ) → place_in process xs ≡ o
        → is_some (place_in process xs) ≡ is_some (option_map (lent pools) (home_of process homes))
    by (Some place) is =
        let at = place-some xs process place is in
        let has = at-home xs homes process place (some-sharer xs place
        (at-inside xs process place at)) are at in
        rw (is, has.is) refl
    by None is = rw (is, nowhere-home xs homes process are (place-none xs process is)) refl

pub has-huge-none : (first pages : ℕ) → has_huge (λ page. None) first pages ≡ false
has-huge-none first pages = any_page-false (λ page. false) first pages (λ page low high. refl)

at-found : (xs : List Sharer) (process place i : ℕ) → IsAt xs process place
    → is_some (position_from (has_id process) i xs) ≡ true
at-found [] process place i at = absurd at
at-found (x ∷ xs) process zero i at = rw at refl
at-found (x ∷ xs) process (suc place) i at = rw at.0 (at-found xs process place (i + 1) at.1)

pub at-some : (xs : List Sharer) (process place : ℕ) → IsAt xs process place
    → is_some (place_in process xs) ≡ true
at-some xs process place at =
    ap is_some (position_from-zero (has_id process) xs) ∙ at-found xs process place 0 at

-- and of nothing mapped there is nothing to unmap
pub nowhere-absent : (xs : List Sharer) (process first pages : ℕ) → IsNowhere xs process
    → has_huge (spots_in process xs) first pages ≡ true → ⊥
nowhere-absent xs process first pages absent some =
    let none : has_huge (spots_in process xs) first pages ≡ false =
    rw (nowhere-spots xs process absent) (has-huge-none first pages) in
    both_ways (has_huge (spots_in process xs) first pages) none some

pub nowhere-page : (xs : List Sharer) (process page : ℕ) → IsNowhere xs process
    → is_some (spots_in process xs page) ≡ true → ⊥
nowhere-page xs process page absent some =
    let none : is_some (spots_in process xs page) ≡ false = rw (nowhere-spots xs process absent)
    refl in
    both_ways (is_some (spots_in process xs page)) none some

not-lt : (a b : ℕ) → b ≤ a → nat_lt a b ≡ false
not-lt a b high = grind (arith, nat_tests)

nowhere-found : (xs : List Sharer) (process i : ℕ) → IsNowhere xs process
    → position_from (has_id process) i xs ≡ None
nowhere-found [] process i absent = refl
nowhere-found (x ∷ xs) process i absent = rw absent.0 (nowhere-found xs process (i + 1) absent.1)

nowhere-place : (xs : List Sharer) (process : ℕ) → IsNowhere xs process
    → place_in process xs ≡ None
nowhere-place xs process absent =
    position_from-zero (has_id process) xs ∙ nowhere-found xs process 0 absent

-- one that has no place finds one where there are few
pub place-few : (xs : List Sharer) (process : ℕ) → IsNowhere xs process
    → has_place process xs ≡ true → length xs < 4096
place-few xs process absent free = elim (cases_lt (length xs) 4096) [
  | inl low ↦ low
  | inr high ↦
      let full : has_place process xs ≡ false =
      rw (nowhere-place xs process absent, not-lt (length xs) 4096 high) refl in
      absurd (both_ways (has_place process xs) full free)
]

pub nowhere-some : (xs : List Sharer) (process : ℕ) → IsNowhere xs process
    → is_some (place_in process xs) ≡ true → ⊥
nowhere-some xs process absent some =
    let none : is_some (place_in process xs) ≡ false = rw (nowhere-place xs process absent) refl in
    both_ways (is_some (place_in process xs)) none some
