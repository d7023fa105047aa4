-- The order in which processes are told.
use Rattle.std.proofs.Common.{◌≡◌, ◌∙◌, ℕ, true, false, List, [], ◌∷◌, ◌++◌, ap, refl, sym}
use Rattle.std.proofs.Common.{append_assoc, arith, eqb, length, reverse}
use Rattle.numa_host.specs.declared.group.ControlGroup.{ControlGroup}
use Rattle.numa_host_pages.specs.Homes.{Home}
use Rattle.numa_host_pages.specs.Standing.{AreHomes}
use Rattle.numa_host_pages.specs.TopDown.{below_in, those_of, told_in}
use Rattle.numa_host_pages.specs.declared.member.Member.{Member}

pub those-none : (members : List Member) (group : ℕ) (homes : List Home) → length members ≡ 0
    → AreHomes members homes → those_of group homes ≡ []
those-none [] group [] none are = refl
those-none [] group (home ∷ others) none are = absurd are
those-none (m ∷ members) group homes none are = absurd (omega (arith, none))

-- one of another group
pub those-passed : (first : Member) (rest : List Member) (group : ℕ) (homes : List Home)
    → AreHomes (first ∷ rest) homes → eqb first.group group ≡ false
    → (others : List Home) × AreHomes rest others
    × (those_of group homes ≡ those_of group others)
those-passed first rest group [] are other = absurd are
those-passed first rest group (home ∷ others) are other =
    let is : eqb home.group group ≡ false = rw (← are.0.group) other in
    (others, are.1, rw is refl)

-- one of the group
pub those-joined : (first : Member) (rest : List Member) (group : ℕ) (homes : List Home)
    → AreHomes (first ∷ rest) homes → eqb first.group group ≡ true
    → (others : List Home) × AreHomes rest others
    × (those_of group homes ≡ first.id ∷ those_of group others)
those-joined first rest group [] are its = absurd are
those-joined first rest group (home ∷ others) are its =
    let is : eqb home.group group ≡ true = rw (← are.0.group) its in
    (others, are.1, rw is (ap (λ (n : ℕ). n ∷ those_of group others) (sym are.0.id)))

-- no group is left
pub below-none : (groups : List ControlGroup) (name : ℕ) (homes : List Home)
    → length groups ≡ 0 → told_in (below_in (reverse groups) name) homes ≡ []
below-none [] name homes none = refl
below-none (group ∷ groups) name homes none = absurd (omega (arith, none))

-- those of two lists of groups
pub told-append : (first rest : List ℕ) (homes : List Home)
    → told_in (first ++ rest) homes ≡ told_in first homes ++ told_in rest homes
told-append [] rest homes = refl
told-append (group ∷ groups) rest homes =
    ap (λ (l : List ℕ). those_of group homes ++ l) (told-append groups rest homes)
    ∙ sym (append_assoc (those_of group homes) (told_in groups homes) (told_in rest homes))

-- one more, and then others
pub one-more : (old mid new more all : List ℕ) (process : ℕ) → mid ≡ old ++ process ∷ []
    → new ≡ mid ++ more → all ≡ process ∷ more → new ≡ old ++ all
one-more old mid new more all process pushed is whole =
    is ∙ ap (λ (l : List ℕ). l ++ more) pushed ∙ append_assoc old (process ∷ []) more
    ∙ ap (λ (l : List ℕ). old ++ l) (sym whole)

-- those of a group, of the groups below it, and of the groups behind it
pub three-told : (old mid late new here : List ℕ) (below behind : List ℕ) (homes : List Home)
    → mid ≡ old ++ here → late ≡ mid ++ told_in below homes → new ≡ late ++ told_in behind homes
    → new ≡ old ++ (here ++ told_in (below ++ behind) homes)
three-told old mid late new here below behind homes first next last =
    let a = told_in below homes in
    let b = told_in behind homes in
    last ∙ ap (λ (l : List ℕ). l ++ b) next ∙ ap (λ (l : List ℕ). (l ++ a) ++ b) first
    ∙ append_assoc (old ++ here) a b ∙ append_assoc old here (a ++ b)
    ∙ ap (λ (l : List ℕ). old ++ (here ++ l)) (sym (told-append below behind homes))

-- those of the root, and of the groups below it
pub both-told : (mid new here : List ℕ) (groups : List ℕ) (homes : List Home) → mid ≡ here
    → new ≡ mid ++ told_in groups homes → new ≡ here ++ told_in groups homes
both-told mid new here groups homes first next =
    next ∙ ap (λ (l : List ℕ). l ++ told_in groups homes) first
