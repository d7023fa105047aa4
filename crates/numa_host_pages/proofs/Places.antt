-- Processes that are kept in the same order.
use Rattle.std.proofs.Common.{◌≡◌, ℕ, Bool, true, false, not, Box, Option, List}
use Rattle.std.proofs.Common.{[], ◌∷◌, ◌++◌, Vec, Result, Ok, Err, IfOk, filter, length, eqb, ap}
use Rattle.std.proofs.Common.{inl, inr, sym, subst, refl, suc, ◌∙◌}
use Rattle.std.proofs.lemmas.Bool.{cases_Bool}
use Rattle.std.proofs.lemmas.List.{with_items_is}
use Rattle.std.specs.Global.{Global}
use Rattle.std.specs.Vec.{with_items}
use Rattle.numa_machine.specs.declared.no_memory.NoMemory.{NoMemory}
use Rattle.numa_page_state.specs.Lying.{Lying}
use Rattle.numa_page_state.specs.Outcomes.{Lack}
use Rattle.numa_page_state.specs.Standing.{LiesAs}
use Rattle.numa_page_state.specs.declared.state.PageState.{PageState}
use Rattle.numa_host_pages.specs.Homes.{FollowEach, Home, HostLying, Room, group_followed}
use Rattle.numa_host_pages.specs.Homes.{home_followed, homes_followed, other_homes, with_pages}
use Rattle.numa_host_pages.specs.Standing.{AreHomes, IsHome}
use Rattle.numa_host_pages.specs.declared.member.Member.{Member}

-- ---- as many

pub homes-length : (members : List Member) (homes : List Home) → AreHomes members homes
    → length members ≡ length homes
homes-length [] [] are = refl
homes-length [] (home ∷ homes) are = absurd are
homes-length (m ∷ members) [] are = absurd are
homes-length (m ∷ members) (home ∷ homes) are =
    ap suc (homes-length members homes are.1)

pub pages-length : (process : ℕ) (lying : Option Lying) (homes : List Home)
    → length (with_pages process lying homes) ≡ length homes
pages-length process lying [] = refl
pages-length process lying (home ∷ homes) =
    elim (cases_Bool (eqb home.id process)) [
      | inl e ↦ rw e refl
      | inr e ↦ rw e (ap suc (pages-length process lying homes))
    ]

pub followed-length : (lacks : ℕ → Lack) (follows : Bool) (group nodes : ℕ) (homes : List Home)
    (room : Room)
    → length (homes_followed lacks follows group nodes homes room).0 ≡ length homes
followed-length lacks follows group nodes [] room = refl
followed-length lacks follows group nodes (home ∷ homes) room =
    elim (cases_Bool (eqb home.group group)) [
      | inl e ↦
          rw e (ap suc (followed-length (λ k. lacks (suc k)) follows group nodes homes
          (home_followed (lacks 0) follows nodes home room).1))
      | inr e ↦
          rw e (ap suc (followed-length (λ k. lacks (suc k)) follows group nodes homes
          room))
    ]

pub each-length : (nodes : ℕ → ℕ) (groups : List ℕ) (at after : HostLying)
    → FollowEach nodes groups at after → length after.homes ≡ length at.homes
each-length nodes [] at after told = ap (λ (a : HostLying). length a.homes) told
each-length nodes (group ∷ groups) at after told =
    each-length nodes groups (group_followed told.0 group (nodes group) at) after told.1
    ∙ followed-length told.0 at.follows group (nodes group) at.homes at.room

-- where as many are written over those of a Vec, it has them
pub put-items : (v : Vec Member Global) (members : List Member) (homes : List Home)
    → AreHomes members homes → length homes ≡ length v.items
    → AreHomes (with_items v members).items homes
put-items v members homes are count =
    subst (λ (ms : List Member). AreHomes ms homes)
    (sym (with_items_is v members (homes-length members homes are ∙ count ∙ sym v.ok.0))) are

-- ---- one more, and one less

pub homes-joined : (members : List Member) (homes : List Home) (member : Member) (home : Home)
    → AreHomes members homes → IsHome member home
    → AreHomes (members ++ member ∷ []) (homes ++ home ∷ [])
homes-joined [] [] member home are is = (is, tt)
homes-joined [] (h ∷ homes) member home are is = absurd are
homes-joined (m ∷ members) [] member home are is = absurd are
homes-joined (m ∷ members) (h ∷ homes) member home are is =
    (are.0, homes-joined members homes member home are.1 is)

pub homes-others : (members : List Member) (homes : List Home) (process : ℕ)
    → AreHomes members homes
    → AreHomes (filter (λ (m : Member). not (eqb m.id process)) members)
    (other_homes process homes)
homes-others [] [] process are = tt
homes-others [] (home ∷ homes) process are = absurd are
homes-others (m ∷ members) [] process are = absurd are
homes-others (m ∷ members) (home ∷ homes) process are =
    elim (cases_Bool (eqb home.id process)) [
      | inl e ↦
          let its : eqb m.id process ≡ true = rw are.0.id e in
          rw (its, e) (homes-others members homes process are.1)
      | inr e ↦
          let its : eqb m.id process ≡ false = rw are.0.id e in
          rw (its, e) (are.0, homes-others members homes process are.1)
    ]

-- the pages of one that goes don't matter
pub others-without : (process : ℕ) (lying : Option Lying) (homes : List Home)
    → other_homes process (with_pages process lying homes) ≡ other_homes process homes
others-without process lying [] = refl
others-without process lying (home ∷ homes) =
    elim (cases_Bool (eqb home.id process)) [
      | inl e ↦ rw (e, e) refl
      | inr e ↦
          rw (e, e) (ap (λ (hs : List Home). home ∷ hs) (others-without process lying homes))
    ]

pub others-after : (members : List Member) (homes : List Home) (process : ℕ)
    (lying : Option Lying) → AreHomes members (with_pages process lying homes)
    → AreHomes (filter (λ (m : Member). not (eqb m.id process)) members)
    (other_homes process homes)
others-after members homes process lying are =
    subst (λ (hs : List Home). AreHomes
    (filter (λ (m : Member). not (eqb m.id process)) members) hs)
    (others-without process lying homes)
    (homes-others members (with_pages process lying homes) process are)

pub pages-twice : (process : ℕ) (first last : Option Lying) (homes : List Home)
    → with_pages process last (with_pages process first homes) ≡ with_pages process last homes
pages-twice process first last [] = refl
pages-twice process first last (home ∷ homes) =
    elim (cases_Bool (eqb home.id process)) [
      | inl e ↦ rw (e, e) refl
      | inr e ↦
          rw (e, e) (ap (λ (hs : List Home). home ∷ hs) (pages-twice process first last homes))
    ]

-- ---- on the heap

pub if-boxed : (made : Result (Box PageState Global) NoMemory) (state : PageState)
    (lying : Lying) → IfOk made (λ kept. kept.value ≡ state) → LiesAs state lying
    → IfOk made (λ kept. LiesAs kept.value lying)
if-boxed (Ok kept) state lying same lies = subst (λ (s : PageState). LiesAs s lying) (sym same) lies
if-boxed (Err lack) state lying same lies = tt
