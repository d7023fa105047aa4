-- Pages of a process that are lent, and given back.
use Rattle.std.proofs.Common.{◌≡◌, ℕ, Bool, true, false, Box, Option, Some, None, List, [], ◌∷◌}
use Rattle.std.proofs.Common.{map, eqb, refl, sym, ap, subst, ◌∙◌, inl, inr}
use Rattle.std.proofs.lemmas.Bool.{cases_Bool}
use Rattle.std.specs.Prelude.{◌&&◌, if◌then◌else◌, is_some, not}
use Rattle.std.specs.Global.{Global}
use Rattle.numa_requests.specs.declared.host_command.HostCommand.{HostCommand}
use Rattle.numa_page_state.specs.Lying.{Lying, nothing}
use Rattle.numa_page_state.specs.Standing.{LiesAs}
use Rattle.numa_page_state.specs.declared.state.PageState.{PageState}
use Rattle.numa_host_pages.specs.Homes.{Home, HostLying, Room, given_back, lent, lent_or_new}
use Rattle.numa_host_pages.specs.Homes.{pages_in, pages_lent, taken_along, with_pages}
use Rattle.numa_host_pages.specs.Standing.{AreHomes, AreOf, HostLies, IsHome, IsLent, Sits}
use Rattle.numa_host_pages.specs.Standing.{arrival_of}
use Rattle.numa_host_pages.specs.declared.member.Member.{Member}
use Rattle.numa_host_pages.specs.declared.pages.HostPages.{HostPages}
use Rattle.numa_host_pages.proofs.Arrived.{along-arrivals}
use Rattle.numa_host_script.specs.Paging.{along_if}
use Rattle.numa_host_script.specs.Standing.{IsOut}

-- ---- a process without pages

pub none-kept : (process : ℕ) (homes : List Home) → pages_in process homes ≡ None
    → with_pages process None homes ≡ homes
none-kept process [] none = refl
none-kept process (home ∷ homes) none =
    elim (cases_Bool (eqb home.id process)) [
      | inl e ↦
          let gone : home.lying ≡ None = subst (λ (b : Bool).
          (if b then home.lying else pages_in process homes) ≡ None) e none in
          rw e (λ i. record home { lying = sym gone i } ∷ homes)
      | inr e ↦
          let rest : pages_in process homes ≡ None = subst (λ (b : Bool).
          (if b then home.lying else pages_in process homes) ≡ None) e none in
          rw e (ap (λ (hs : List Home). home ∷ hs) (none-kept process homes rest))
    ]

-- its pages are as good as taken out
pub none-out : (pages : HostPages) (process : ℕ) (at : HostLying)
    → pages_in process at.homes ≡ None → HostLies pages at
    → HostLies pages (record at { homes = with_pages process None at.homes })
none-out pages process at none lies =
    subst (λ (hs : List Home). HostLies pages (record at { homes = hs }))
    (sym (none-kept process at.homes none)) lies

pub none-in : (pages : HostPages) (process : ℕ) (at : HostLying)
    → pages_in process at.homes ≡ None
    → HostLies pages (record at { homes = with_pages process None at.homes })
    → HostLies pages at
none-in pages process at none lies =
    subst (λ (hs : List Home). HostLies pages (record at { homes = hs }))
    (none-kept process at.homes none) lies

-- ---- what is lent

pub some-lent : (state : Box PageState Global) (had : Option Lying) (at : HostLying)
    → IsLent (Some state) had at
    → (lying : Lying) × (had ≡ Some lying) × LiesAs state.value (lent at.room at.follows lying)
some-lent state None at is = absurd is
some-lent state (Some lying) at is = (lying, refl, is)

pub none-lent : (had : Option Lying) (at : HostLying) → IsLent None had at → had ≡ None
none-lent None at is = refl
none-lent (Some lying) at is = absurd is

pub and-false : (b : Bool) → b && false ≡ false
and-false true = refl
and-false false = refl

pub not-both : (b : Bool) → b ≡ true → b ≡ false → ⊥
not-both b is not = cc

out-had : (P : Type 0) (out : HostPages) (state : PageState) (first refused : Bool) (process : ℕ)
    (at : HostLying) (had : Option Lying) → pages_in process at.homes ≡ had
    → first ≡ not (is_some had) → LiesAs state (lent_or_new at.room at.follows had)
    → HostLies out (record at { homes = with_pages process None at.homes })
    → ((lying : Lying) → pages_in process at.homes ≡ Some lying
    → LiesAs state (lent at.room at.follows lying) → first && refused ≡ false → P)
    → (pages_in process at.homes ≡ None → LiesAs state (lent at.room at.follows nothing)
    → refused ≡ false → first && refused ≡ false → P)
    → (pages_in process at.homes ≡ None → LiesAs state (lent at.room at.follows nothing)
    → HostLies out at → refused ≡ true → first && refused ≡ true → P) → P
out-had P out state first refused process at (Some lying) is f has lies own begun none =
    own lying is has (ap (λ (b : Bool). b && refused) f)
out-had P out state first refused process at None is f has lies own begun none =
    elim (cases_Bool refused) [
      | inl t ↦ none is has (none-in out process at is lies) t
          (ap (λ (b : Bool). b && refused) f ∙ t)
      | inr e ↦ begun is has e (ap (λ (b : Bool). b && refused) f ∙ e)
    ]

-- what holds where pages were a process's own, where they are its first, and where it is to have
-- none
pub by-out : (P : Type 0) (out : HostPages) (state : PageState) (first refused : Bool)
    (process : ℕ) (at : HostLying) → IsOut out state first process at
    → ((lying : Lying) → pages_in process at.homes ≡ Some lying
    → LiesAs state (lent at.room at.follows lying) → first && refused ≡ false → P)
    → (pages_in process at.homes ≡ None → LiesAs state (lent at.room at.follows nothing)
    → refused ≡ false → first && refused ≡ false → P)
    → (pages_in process at.homes ≡ None → LiesAs state (lent at.room at.follows nothing)
    → HostLies out at → refused ≡ true → first && refused ≡ true → P) → P
by-out P out state first refused process at is own begun none =
    out-had P out state first refused process at (pages_in process at.homes) refl is.0 is.1 is.2
    own begun none

pub lent-some : (process : ℕ) (at : HostLying) (lying : Lying)
    → pages_in process at.homes ≡ Some lying
    → pages_lent process at ≡ lent at.room at.follows lying
lent-some process at lying is = ap (lent_or_new at.room at.follows) is

pub lent-none : (process : ℕ) (at : HostLying) → pages_in process at.homes ≡ None
    → pages_lent process at ≡ lent at.room at.follows nothing
lent-none process at none = ap (lent_or_new at.room at.follows) none

-- ---- what is given back

-- processes keep their order
pub pages-arrivals : (process : ℕ) (lying : Option Lying) (homes : List Home)
    → map arrival_of (with_pages process lying homes) ≡ map arrival_of homes
pages-arrivals process lying [] = refl
pages-arrivals process lying (home ∷ homes) =
    elim (cases_Bool (eqb home.id process)) [
      | inl e ↦ rw e refl
      | inr e ↦
          let rest = pages-arrivals process lying homes in rw e (λ i. arrival_of home ∷ rest i)
    ]

pub given-are : (process : ℕ) (done : Lying) (at : HostLying) (history : List HostCommand)
    → AreOf at history → AreOf (given_back process done at) history
given-are process done at history are = record {
  order = pages-arrivals process (Some done) at.homes ∙ are.order;
  same = are.same;
}

-- ---- the host's last move

pub along-are : (process : ℕ) (at : HostLying) (history : List HostCommand)
    → AreOf at history → AreOf (taken_along process at) history
along-are process at history are = record {
  order = along-arrivals process at.homes ∙ are.order;
  same = are.same;
}

pub along_if-are : (moves : Bool) (process : ℕ) (at : HostLying) (history : List HostCommand)
    → AreOf at history → AreOf (along_if moves process at) history
along_if-are false process at history are = are
along_if-are true process at history are = along-are process at history are

-- ---- what is given back as it was lent

sits-lent : (pages : Option (Box PageState Global)) (room : Room) (follows : Bool) (lying : Lying)
    → Sits pages (Some (lent room follows lying)) → Sits pages (Some lying)
sits-lent None room follows lying sits = absurd sits
sits-lent (Some state) room follows lying sits = sits

homes-back : (process : ℕ) (room : Room) (follows : Bool) (lying : Lying)
    (members : List Member) (homes : List Home) → pages_in process homes ≡ Some lying
    → AreHomes members (with_pages process (Some (lent room follows lying)) homes)
    → AreHomes members homes
homes-back process room follows lying members [] is are = are
homes-back process room follows lying [] (home ∷ homes) is are =
    elim (cases_Bool (eqb home.id process)) [
      | inl e ↦ absurd (rw e at are)
      | inr e ↦ absurd (rw e at are)
    ]
homes-back process room follows lying (m ∷ members) (home ∷ homes) is are =
    elim (cases_Bool (eqb home.id process)) [
      | inl e ↦
          let its : home.lying ≡ Some lying = subst (λ (b : Bool).
          (if b then home.lying else pages_in process homes) ≡ Some lying) e is in
          let both = subst (λ (b : Bool). AreHomes (m ∷ members)
          (if b then record home { lying = Some (lent room follows lying) } ∷ homes
          else home ∷ with_pages process (Some (lent room follows lying)) homes)) e are in (
            record {
              id = both.0.id;
              group = both.0.group;
              allowed = both.0.allowed;
              along = both.0.along;
              pages = subst (λ (l : Option Lying). Sits m.pages l) (sym its)
                  (sits-lent m.pages room follows lying both.0.pages);
            },
            both.1,
          )
      | inr e ↦
          let rest : pages_in process homes ≡ Some lying = subst (λ (b : Bool).
          (if b then home.lying else pages_in process homes) ≡ Some lying) e is in
          let both = subst (λ (b : Bool). AreHomes (m ∷ members)
          (if b then record home { lying = Some (lent room follows lying) } ∷ homes
          else home ∷ with_pages process (Some (lent room follows lying)) homes)) e are in
          (both.0, homes-back process room follows lying members homes rest both.1)
    ]

-- what is given back as it was lent changes nothing
pub same-back : (pages : HostPages) (process : ℕ) (at : HostLying) (lying : Lying)
    → pages_in process at.homes ≡ Some lying
    → HostLies pages (given_back process (lent at.room at.follows lying) at)
    → HostLies pages at
same-back pages process at lying is lies = record {
  room = lies.room;
  follows = lies.follows;
  homes = homes-back process at.room at.follows lying pages.members.items at.homes is lies.homes;
  huge = lies.huge;
  places = lies.places;
}
