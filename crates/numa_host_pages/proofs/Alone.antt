-- Processes whose pages find room everywhere: what one of them does is nothing to the others.
use Rattle.std.proofs.Common.{◌≡◌, ℕ, Bool, true, false, List, [], ◌∷◌, Option, Some, None, eqb}
use Rattle.std.proofs.Common.{inl, inr, refl, sym, suc, ◌∙◌, ap}
use Rattle.std.proofs.lemmas.Bool.{cases_Bool, eqb-true}
use Rattle.numa_page_state.specs.Lying.{Lying}
use Rattle.numa_page_state.specs.Outcomes.{Enough, Lack}
use Rattle.numa_host_pages.specs.Homes.{Home, Room, home_followed, homes_followed}
use Rattle.numa_host_pages.specs.Homes.{pages_followed, pages_in, pages_told, with_pages}

pub other-pages : (process other : ℕ) (lying : Option Lying) (homes : List Home)
    → (other ≡ process → ⊥)
    → pages_in other (with_pages process lying homes) ≡ pages_in other homes
other-pages process other lying [] far = refl
other-pages process other lying (home ∷ homes) far =
    elim (cases_Bool (eqb home.id process)) [
      | inl e ↦ elim (cases_Bool (eqb home.id other)) [
        | inl u ↦
            absurd (far (sym (eqb-true home.id other u) ∙ eqb-true home.id process e))
        | inr u ↦ rw (e, u) refl
      ]
      | inr e ↦ elim (cases_Bool (eqb home.id other)) [
        | inl u ↦ rw (e, u) refl
        | inr u ↦ rw (e, u) (other-pages process other lying homes far)
      ]
    ]

-- where no node fills, a move wants no memory, and no node fills then
free-pages : (lack : Lack) (follows : Bool) (old new : ℕ) (lying : Option Lying)
    → pages_followed lack follows old new lying None
    ≡ pages_followed Enough follows old new lying None
free-pages lack follows old new None = refl
free-pages lack true old new (Some lying) = refl
free-pages lack false old new (Some lying) = refl

free-left : (lack : Lack) (follows : Bool) (old new : ℕ) (lying : Option Lying)
    → (pages_followed lack follows old new lying None).1 ≡ None
free-left lack follows old new None = refl
free-left lack true old new (Some lying) = refl
free-left lack false old new (Some lying) = refl

free-home : (lack : Lack) (follows : Bool) (nodes : ℕ) (home : Home)
    → (home_followed lack follows nodes home None).1 ≡ None
free-home lack follows nodes home =
    elim (cases_Bool (eqb home.allowed nodes)) [
      | inl e ↦ rw e refl
      | inr e ↦ rw e (free-left lack follows home.allowed nodes home.lying)
    ]

same-home : (lack : Lack) (follows : Bool) (nodes : ℕ) (home : Home)
    → (home_followed lack follows nodes home None).0
    ≡ (home_followed Enough follows nodes home None).0
same-home lack follows nodes home =
    elim (cases_Bool (eqb home.allowed nodes)) [
      | inl e ↦ rw e refl
      | inr e ↦
          rw e (ap (λ (p : Option Lying × Room). record home {
            allowed = nodes;
            lying = p.0;
            along = true;
          }) (free-pages lack follows home.allowed nodes home.lying))
    ]

same-id : (lack : Lack) (follows : Bool) (nodes : ℕ) (home : Home)
    → (home_followed lack follows nodes home None).0.id ≡ home.id
same-id lack follows nodes home =
    elim (cases_Bool (eqb home.allowed nodes)) [ inl e ↦ rw e refl | inr e ↦ rw e refl ]

pub free-room : (lacks : ℕ → Lack) (follows : Bool) (group nodes : ℕ) (homes : List Home)
    → (homes_followed lacks follows group nodes homes None).1 ≡ None
free-room lacks follows group nodes [] = refl
free-room lacks follows group nodes (home ∷ homes) =
    elim (cases_Bool (eqb home.group group)) [
      | inl e ↦
          rw e (ap (λ (r : Room).
          (homes_followed (λ k. lacks (suc k)) follows group nodes homes r).1)
          (free-home (lacks 0) follows nodes home)
          ∙ free-room (λ k. lacks (suc k)) follows group nodes homes)
      | inr e ↦ rw e (free-room (λ k. lacks (suc k)) follows group nodes homes)
    ]

pub free-alone : (lacks : ℕ → Lack) (follows : Bool) (group nodes process : ℕ)
    (homes : List Home)
    → pages_in process (homes_followed lacks follows group nodes homes None).0
    ≡ pages_told follows group nodes process homes
free-alone lacks follows group nodes process [] = refl
free-alone lacks follows group nodes process (home ∷ homes) =
    let rest = free-alone (λ k. lacks (suc k)) follows group nodes process homes in
    elim (cases_Bool (eqb home.group group)) [
      | inl e ↦
          let is : eqb (home_followed (lacks 0) follows nodes home None).0.id process
          ≡ eqb home.id process = ap (λ n. eqb n process)
          (same-id (lacks 0) follows nodes home) in
          let further = ap (λ (r : Room). pages_in process
          (homes_followed (λ k. lacks (suc k)) follows group nodes homes r).0)
          (free-home (lacks 0) follows nodes home) ∙ rest in
          elim (cases_Bool (eqb home.id process)) [
            | inl u ↦
                rw (e, is, u) (ap (λ (h : Home). h.lying)
                (same-home (lacks 0) follows nodes home))
            | inr u ↦ rw (e, is, u) further
          ]
      | inr e ↦ elim (cases_Bool (eqb home.id process)) [
        | inl u ↦ rw (e, u) refl
        | inr u ↦ rw (e, u) rest
      ]
    ]
