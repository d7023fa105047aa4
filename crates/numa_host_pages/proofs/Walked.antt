-- Pages that follow, one process after the other.
use Rattle.std.proofs.Common.{◌≡◌, ℕ, Bool, true, false, Box, Option, Some, None, List, []}
use Rattle.std.proofs.Common.{◌∷◌, ◌++◌, ◌∙◌, ap, subst, refl, length, arith, reverse, eqb, zero}
use Rattle.std.proofs.Common.{suc}
use Rattle.std.proofs.lemmas.List.{reverse-append}
use Rattle.std.specs.Global.{Global}
use Rattle.numa_host.specs.declared.group.ControlGroup.{ControlGroup}
use Rattle.numa_page_state.specs.Lying.{Lying}
use Rattle.numa_page_state.specs.Outcomes.{Enough, Lack}
use Rattle.numa_page_state.specs.Standing.{HaveRoom, LiesAs}
use Rattle.numa_page_state.specs.declared.state.PageState.{PageState}
use Rattle.numa_placed.specs.declared.rooms.Rooms.{Rooms}
use Rattle.numa_host_pages.specs.Homes.{FollowEach, Home, HostLying, Room, followed_each}
use Rattle.numa_host_pages.specs.Homes.{group_followed}
use Rattle.numa_host_pages.specs.Homes.{home_followed, homes_followed, lent}
use Rattle.numa_host_pages.specs.Standing.{AreHomes, IsHome, Sits}
use Rattle.numa_host_pages.specs.TopDown.{below_in}
use Rattle.numa_host_pages.specs.declared.member.Member.{Member}

-- pages that are kept lie somewhere
pub some-lying : (state : Box PageState Global) (lying : Option Lying) → Sits (Some state) lying
    → (l : Lying) × (room : Room) × (follows : Bool) × (lying ≡ Some l)
    × LiesAs state.value (lent room follows l)
some-lying state None sits = absurd sits
some-lying state (Some l) sits = (l, sits.0, sits.1, refl, sits.2)

pub none-lying : (lying : Option Lying) → Sits None lying → lying ≡ None
none-lying None sits = refl
none-lying (Some l) sits = absurd sits

-- the processes that follow a first one
pub rest-homes : (first : Member) (rest : List Member) (homes : List Home)
    → AreHomes (first ∷ rest) homes
    → (home : Home) × (others : List Home) × (homes ≡ home ∷ others) × IsHome first home
    × AreHomes rest others
rest-homes first rest [] are = absurd are
rest-homes first rest (home ∷ others) are = (home, others, refl, are.0, are.1)

pub no-homes : (homes : List Home) → AreHomes [] homes → homes ≡ []
no-homes [] are = refl
no-homes (home ∷ others) are = absurd are

-- groups of two lists are told one after the other
pub each-after : (nodes : ℕ → ℕ) (first rest : List ℕ) (at mid after : HostLying)
    → FollowEach nodes first at mid → FollowEach nodes rest mid after
    → FollowEach nodes (first ++ rest) at after
each-after nodes [] rest at mid after told more =
    subst (λ (m : HostLying). FollowEach nodes rest m after) told more
each-after nodes (group ∷ groups) rest at mid after told more = (
  told.0,
  each-after nodes groups rest (group_followed told.0 group (nodes group) at) mid after
      told.1 more,
)

-- what lacked at the first place, and at the others
abbrev first_then : Lack → (ℕ → Lack) → ℕ → Lack
first_then first rest zero = first
first_then first rest (suc k) = rest k

-- a process of another group stays as it is
pub group-passed : (first : Member) (rest news : List Member) (rooms : Option Rooms)
    (follows : Bool) (group nodes : ℕ) (homes : List Home) (room : Room)
    → AreHomes (first ∷ rest) homes → eqb first.group group ≡ false
    → ((others : List Home) → AreHomes rest others → (lacks : ℕ → Lack)
    × AreHomes news (homes_followed lacks follows group nodes others room).0
    × HaveRoom rooms (homes_followed lacks follows group nodes others room).1)
    → (lacks : ℕ → Lack)
    × AreHomes (first ∷ news) (homes_followed lacks follows group nodes homes room).0
    × HaveRoom rooms (homes_followed lacks follows group nodes homes room).1
group-passed first rest news rooms follows group nodes [] room are other go = absurd are
group-passed first rest news rooms follows group nodes (home ∷ others) room are other go =
    let told = go others are.1 in
    let is : eqb home.group group ≡ false = rw (← are.0.group) other in
    (first_then Enough told.0, rw is (are.0, told.1), rw is told.2)

-- nobody is told
pub group-none : (members : List Member) (rooms : Option Rooms) (follows : Bool) (group nodes : ℕ)
    (homes : List Home) (room : Room) → length members ≡ 0 → AreHomes members homes
    → HaveRoom rooms room → (lacks : ℕ → Lack)
    × AreHomes members (homes_followed lacks follows group nodes homes room).0
    × HaveRoom rooms (homes_followed lacks follows group nodes homes room).1
group-none [] rooms follows group nodes [] room none are have = (λ k. Enough, tt, have)
group-none [] rooms follows group nodes (home ∷ others) room none are have = absurd are
group-none (m ∷ members) rooms follows group nodes homes room none are have =
    absurd (omega (arith, none))

-- one of the group follows, and then the others
pub group-joined : (first now : Member) (rest news : List Member) (had left rooms : Option Rooms)
    (follows : Bool) (group nodes : ℕ) (homes : List Home) (room : Room)
    → AreHomes (first ∷ rest) homes → HaveRoom had room → eqb first.group group ≡ true
    → ((home : Home) (room : Room) → IsHome first home → HaveRoom had room → (lack : Lack)
    × IsHome now (home_followed lack follows nodes home room).0
    × HaveRoom left (home_followed lack follows nodes home room).1)
    → ((others : List Home) (room : Room) → AreHomes rest others → HaveRoom left room
    → (lacks : ℕ → Lack)
    × AreHomes news (homes_followed lacks follows group nodes others room).0
    × HaveRoom rooms (homes_followed lacks follows group nodes others room).1)
    → (lacks : ℕ → Lack)
    × AreHomes (now ∷ news) (homes_followed lacks follows group nodes homes room).0
    × HaveRoom rooms (homes_followed lacks follows group nodes homes room).1
group-joined first now rest news had left rooms follows group nodes [] room are have its one go =
    absurd are
group-joined first now rest news had left rooms follows group nodes (home ∷ others) room are have
    its one go =
    let done = one home room are.0 have in
    let told = go others (home_followed done.0 follows nodes home room).1 are.1 done.2 in
    let is : eqb home.group group ≡ true = rw (← are.0.group) its in
    (first_then done.0 told.0, rw is (done.1, told.1), rw is told.2)

-- what lacked, by the place of a group and of a process
abbrev group_then : (ℕ → Lack) → (ℕ → ℕ → Lack) → ℕ → ℕ → Lack
group_then first rest zero = first
group_then first rest (suc k) = rest k

-- where each group is told in turn, something lacked at each place, or nothing
pub each-lacks : (nodes : ℕ → ℕ) (groups : List ℕ) (at after : HostLying)
    → FollowEach nodes groups at after
    → (lacks : ℕ → ℕ → Lack) × (after ≡ followed_each lacks nodes groups at)
each-lacks nodes [] at after told = (λ k j. Enough, told)
each-lacks nodes (group ∷ groups) at after told =
    let rest = each-lacks nodes groups (group_followed told.0 group (nodes group) at) after told.1
    in (group_then told.0 rest.0, rest.1)

-- ---- groups below one

module _ (groups newer : List ControlGroup) (group : ControlGroup) (name : ℕ)
    (last : groups ≡ newer ++ group ∷ []) where
  turned : reverse groups ≡ group ∷ reverse newer
  turned = ap (λ (gs : List ControlGroup). reverse gs) last ∙ reverse-append newer (group ∷ [])

  pub below-passed : eqb group.parent name ≡ false
      → below_in (reverse groups) name ≡ below_in (reverse newer) name
  below-passed other = rw (turned, other) refl

  pub below-here : eqb group.parent name ≡ true → below_in (reverse groups) name
      ≡ group.name ∷ (below_in (reverse newer) group.name ++ below_in (reverse newer) name)
  below-here its = rw (turned, its) refl
