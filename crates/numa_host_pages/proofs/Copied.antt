-- Processes that are copied, one after the other.
use Rattle.std.proofs.Common.{◌≡◌, ◌∙◌, List, [], ◌∷◌, ◌++◌, append-nil, append_assoc, arith}
use Rattle.std.proofs.Common.{length, refl, subst, sym}
use Rattle.numa_host_pages.specs.Homes.{Home}
use Rattle.numa_host_pages.specs.Standing.{AreHomes, IsHome}
use Rattle.numa_host_pages.specs.declared.member.Member.{Member}

-- none is left
pub nothing-more : (items members : List Member) (before homes : List Home) → length members ≡ 0
    → AreHomes items before → AreHomes members homes → AreHomes items (before ++ homes)
nothing-more items [] before [] none old are =
    subst (λ (hs : List Home). AreHomes items hs) (sym (append-nil before)) old
nothing-more items [] before (home ∷ homes) none old are = absurd are
nothing-more items (m ∷ members) before homes none old are = absurd (omega (arith, none))

-- the first, and those behind it
pub first-home : (member : Member) (members : List Member) (homes : List Home)
    → AreHomes (member ∷ members) homes → (home : Home) × (others : List Home)
    × (homes ≡ home ∷ others) × IsHome member home × AreHomes members others
first-home member members [] are = absurd are
first-home member members (home ∷ homes) are = (home, homes, refl, are.0, are.1)

-- one more, and then others
pub one-again : (items : List Member) (before others homes : List Home) (home : Home)
    → homes ≡ home ∷ others → AreHomes items ((before ++ home ∷ []) ++ others)
    → AreHomes items (before ++ homes)
one-again items before others homes home whole are =
    subst (λ (hs : List Home). AreHomes items (before ++ hs)) (sym whole)
    (subst (λ (hs : List Home). AreHomes items hs) (append_assoc before (home ∷ []) others) are)
