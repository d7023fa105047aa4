-- What the last move of a host did to pages of both sizes.
use Rattle.std.proofs.Common.{◌≡◌, ℕ, ◌+◌, suc, Bool, true, false, min, List, [], ◌∷◌, length, refl, ap}
use Rattle.std.proofs.Common.{arith, sym}
use Rattle.std.proofs.lemmas.Bool.{both_ways, eq-eqb, eqb-true}
use Rattle.std.specs.Prelude.{◌==◌}
use Rattle.numa_page_state.specs.Lying.{Sent}
use Rattle.numa_host_huge.specs.Sharing.{HugeHome, Sharing, memory_in}
use Rattle.numa_host_pages.specs.Homes.{Home, HostLying, huge_moved, huge_of_group}
use Rattle.numa_host_pages.specs.Standing.{AreHomes, IsHome}
use Rattle.numa_host_pages.specs.Summed.{both_pages, both_sent, huge_sent, huge_sum, most}
use Rattle.numa_host_pages.specs.Summed.{none_sent, sum_of, sum_with}
use Rattle.numa_host_pages.specs.declared.member.Member.{Member}

pub none-with : (homes : List HugeHome) (at : HostLying) → (length homes == 0) ≡ true
    → sum_with homes at ≡ sum_of at.homes
none-with [] at none = refl
none-with (home ∷ homes) at none =
    absurd (omega (arith, eqb-true (length (home ∷ homes)) 0 none))

pub some-with : (homes : List HugeHome) (at : HostLying) → (length homes == 0) ≡ false
    → sum_with homes at ≡ both_sent (sum_of at.homes) (huge_sum at.homes at.huge)
some-with [] at some = absurd (both_ways (0 == 0) some (eq-eqb 0 0 refl))
some-with (home ∷ homes) at some = refl

pub both-turned : (one other : ℕ) → both_pages one other ≡ both_pages other one
both-turned one other = ap (λ (n : ℕ). min n most) (turned one other)
  where
    turned : (a b : ℕ) → a + b ≡ b + a
    turned a b = omega arith

-- ---- one process after the other

pub huge-none : (members : List Member) (homes : List Home) (huge : Sharing)
    → length members ≡ 0 → AreHomes members homes → huge_sum homes huge ≡ none_sent
huge-none [] [] huge none are = refl
huge-none [] (home ∷ others) huge none are = absurd are
huge-none (m ∷ members) homes huge none are = absurd (omega (arith, none))

-- one that didn't go along
pub huge-passed : (first : Member) (rest : List Member) (homes : List Home) (huge : Sharing)
    → AreHomes (first ∷ rest) homes → first.along ≡ false
    → (others : List Home) × AreHomes rest others × (huge_sum homes huge ≡ huge_sum others huge)
huge-passed first rest [] huge are off = absurd are
huge-passed first rest (home ∷ others) huge are off =
    let is : home.along ≡ false = rw (← are.0.along) off in (others, are.1, rw is refl)

-- one that did
pub huge-joined : (first : Member) (rest : List Member) (homes : List Home) (huge : Sharing)
    → AreHomes (first ∷ rest) homes → first.along ≡ true
    → (others : List Home) × AreHomes rest others × (huge_sum homes huge
    ≡ both_sent (huge_sent (memory_in first.id huge)) (huge_sum others huge))
huge-joined first rest [] huge are its = absurd are
huge-joined first rest (home ∷ others) huge are its =
    let is : home.along ≡ true = rw (← are.0.along) its in
    (others, are.1, rw (is, are.0.id) refl)

-- ---- pages that follow, one process after the other

pub sharers-none : (members : List Member) (homes : List Home) (huge : Sharing) (follows : Bool)
    (group nodes : ℕ) → length members ≡ 0 → AreHomes members homes
    → huge_of_group follows group nodes homes huge ≡ huge
sharers-none [] [] huge follows group nodes none are = refl
sharers-none [] (home ∷ others) huge follows group nodes none are = absurd are
sharers-none (m ∷ members) homes huge follows group nodes none are =
    absurd (omega (arith, none))

pub sharers-told : (first : Member) (rest : List Member) (homes : List Home) (huge : Sharing)
    (follows : Bool) (group nodes : ℕ) → AreHomes (first ∷ rest) homes
    → (first.group == group) ≡ true
    → (others : List Home) × AreHomes rest others × (huge_of_group follows group nodes homes huge
    ≡ huge_of_group follows group nodes others
    (huge_moved follows first.id first.allowed nodes huge))
sharers-told first rest [] huge follows group nodes are its = absurd are
sharers-told first rest (home ∷ others) huge follows group nodes are its =
    let is : (home.group == group) ≡ true = rw (← are.0.group) its in
    (others, are.1, rw (is, are.0.id, are.0.allowed) refl)

pub sharers-passed : (first : Member) (rest : List Member) (homes : List Home) (huge : Sharing)
    (follows : Bool) (group nodes : ℕ) → AreHomes (first ∷ rest) homes
    → (first.group == group) ≡ false
    → (others : List Home) × AreHomes rest others × (huge_of_group follows group nodes homes huge
    ≡ huge_of_group follows group nodes others huge)
sharers-passed first rest [] huge follows group nodes are off = absurd are
sharers-passed first rest (home ∷ others) huge follows group nodes are off =
    let is : (home.group == group) ≡ false = rw (← are.0.group) off in
    (others, are.1, rw is refl)
