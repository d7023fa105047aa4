-- The processes of a host, in the order in which they came to their groups.
use Rattle.std.proofs.Common.{◌≡◌, ◌≢◌, ℕ, ◌+◌, Bool, true, false, not, List, [], ◌∷◌, ◌++◌}
use Rattle.std.proofs.Common.{length, map, filter, eqb, refl, sym, ap, arith, inl, inr, ◌∙◌, zero}
use Rattle.std.proofs.Common.{suc, All, AllPairs, ◌<◌, get_or, length-append}
use Rattle.std.proofs.lemmas.Bool.{both_ways, cases_Bool, eqb-true, eq-eqb}
use Rattle.std.proofs.lemmas.List.Elements.{filter-append}
use Rattle.numa_host.specs.Processes.{Member as Process, is_there, moved_member}
use Rattle.numa_page_state.specs.Outcomes.{Lack}
use Rattle.numa_host_pages.specs.Homes.{Home, HostLying, Room, along_homes, followed_each}
use Rattle.numa_host_pages.specs.Homes.{group_followed, home_followed, homes_followed}
use Rattle.numa_host_pages.specs.Homes.{other_homes, still_homes}
use Rattle.numa_host_pages.specs.Standing.{AreSame, arrival_of, count_of}

abbrev pub has : ℕ → Process → Bool
has process member = eqb member.0 process

abbrev pub other : ℕ → Process → Bool
other process member = not (eqb member.0 process)

-- ---- one that goes

pub gone : (process : ℕ) (members : List Process)
    → count_of process (filter (other process) members) ≡ 0
gone process [] = refl
gone process (m ∷ members) =
    elim (cases_Bool (eqb m.0 process)) [
      | inl e ↦ rw e (gone process members)
      | inr e ↦ rw (e, e) (gone process members)
    ]

pub others-kept : (process id : ℕ) (members : List Process) → eqb id process ≡ false
    → count_of id (filter (other process) members) ≡ count_of id members
others-kept process id [] far = refl
others-kept process id (m ∷ members) far =
    elim (cases_Bool (eqb m.0 process)) [
      | inl e ↦
          let mine : eqb m.0 id ≡ false = its-not e in
          rw (e, mine) (others-kept process id members far)
      | inr e ↦
          elim (cases_Bool (eqb m.0 id)) [
            | inl f ↦ rw (e, f) (ap suc (others-kept process id members far))
            | inr f ↦ rw (e, f) (others-kept process id members far)
          ]
    ]
  where
    its-not : eqb m.0 process ≡ true → eqb m.0 id ≡ false
    its-not e = elim (cases_Bool (eqb m.0 id)) [
      | inl f ↦ absurd (both_ways (eqb id process) far
          (eq-eqb id process (sym (eqb-true m.0 id f) ∙ eqb-true m.0 process e)))
      | inr f ↦ f
    ]

pub both-parts : (process : ℕ) (members : List Process)
    → length (filter (other process) members) + count_of process members ≡ length members
both-parts process [] = refl
both-parts process (m ∷ members) =
    elim (cases_Bool (eqb m.0 process)) [
      | inl e ↦ rw e (omega (arith, both-parts process members))
      | inr e ↦ rw e (omega (arith, both-parts process members))
    ]

-- ---- one that comes

pub count-joined : (id : ℕ) (members : List Process) (member : Process)
    → count_of id (members ++ member ∷ [])
    ≡ count_of id members + count_of id (member ∷ [])
count-joined id members member =
    ap length (filter-append (has id) members (member ∷ []))
    ∙ length-append (filter (has id) members) (filter (has id) (member ∷ []))

pub same-joined : (one two : List Process) (member : Process) → AreSame one two
    → AreSame (one ++ member ∷ []) (two ++ member ∷ [])
same-joined one two member same = record {
  count = length-append one (member ∷ []) ∙ ap (λ n. n + 1) same.count
      ∙ sym (length-append two (member ∷ []));
  each = λ id. count-joined id one member
      ∙ ap (λ n. n + count_of id (member ∷ [])) (same.each id)
      ∙ sym (count-joined id two member);
}

pub same-without : (one two : List Process) (process : ℕ) → AreSame one two
    → AreSame (filter (other process) one) (filter (other process) two)
same-without one two process same = record {
  count = omega (
    arith,
    both-parts process one,
    both-parts process two,
    same.count,
    same.each process,
  );
  each = λ id. elim (cases_Bool (eqb id process)) [
    | inl e ↦ rw (eqb-true id process e) (gone process one ∙ sym (gone process two))
    | inr e ↦ others-kept process id one e ∙ same.each id ∙ sym (others-kept process id two e)
  ];
}

-- ---- one that moves

pub moved-count : (id process group : ℕ) (members : List Process)
    → count_of id (map (moved_member process group) members) ≡ count_of id members
moved-count id process group [] = refl
moved-count id process group (m ∷ members) =
    elim (cases_Bool (eqb m.0 process)) [
      | inl e ↦
          let its : m.0 ≡ process = eqb-true m.0 process e in
          elim (cases_Bool (eqb m.0 id)) [
            | inl f ↦
                let mine : eqb process id ≡ true = rw (← its) f in
                rw (e, f, mine) (ap suc (moved-count id process group members))
            | inr f ↦
                let mine : eqb process id ≡ false = rw (← its) f in
                rw (e, f, mine) (moved-count id process group members)
          ]
      | inr e ↦
          elim (cases_Bool (eqb m.0 id)) [
            | inl f ↦ rw (e, f) (ap suc (moved-count id process group members))
            | inr f ↦ rw (e, f) (moved-count id process group members)
          ]
    ]

pub moved-length : (process group : ℕ) (members : List Process)
    → length (map (moved_member process group) members) ≡ length members
moved-length process group [] = refl
moved-length process group (m ∷ members) = ap suc (moved-length process group members)

pub same-moved : (one two : List Process) (process group : ℕ) → AreSame one two
    → count_of process two ≡ 1
    → AreSame (filter (other process) one ++ (process, group) ∷ [])
    (map (moved_member process group) two)
same-moved one two process group same once = record {
  count = omega (
    arith,
    length-append (filter (other process) one) ((process, group) ∷ []),
    both-parts process one,
    same.count,
    same.each process,
    once,
    moved-length process group two,
  );
  each = λ id. count-joined id (filter (other process) one) (process, group)
      ∙ elim (cases_Bool (eqb id process)) [
        | inl e ↦ rw (eqb-true id process e) (omega (
          arith,
          gone process one,
          one-here process group,
          once,
          moved-count process process group two,
        ))
        | inr e ↦ omega (
          arith,
          others-kept process id one e,
          same.each id,
          none-here id process group e,
          moved-count id process group two,
        )
      ];
}
  where
    one-here : (process group : ℕ) → count_of process ((process, group) ∷ []) ≡ 1
    one-here process group = rw (eq-eqb process process refl) refl

    none-here : (id process group : ℕ) → eqb id process ≡ false
        → count_of id ((process, group) ∷ []) ≡ 0
    none-here id process group far = elim (cases_Bool (eqb process id)) [
      | inl e ↦ absurd (both_ways (eqb id process) far
          (eq-eqb id process (sym (eqb-true process id e))))
      | inr e ↦ rw e refl
    ]

-- ---- processes that follow stay in their places

pub home-arrival : (lack : Lack) (follows : Bool) (nodes : ℕ) (home : Home) (room : Room)
    → arrival_of (home_followed lack follows nodes home room).0 ≡ arrival_of home
home-arrival lack follows nodes home room =
    elim (cases_Bool (eqb home.allowed nodes)) [ inl e ↦ rw e refl | inr e ↦ rw e refl ]

followed-arrivals : (lacks : ℕ → Lack) (follows : Bool) (group nodes : ℕ) (homes : List Home)
    (room : Room) → map arrival_of (homes_followed lacks follows group nodes homes room).0
    ≡ map arrival_of homes
followed-arrivals lacks follows group nodes [] room = refl
followed-arrivals lacks follows group nodes (home ∷ homes) room =
    elim (cases_Bool (eqb home.group group)) [
      | inl e ↦
          let first = home-arrival (lacks 0) follows nodes home room in
          let rest = followed-arrivals (λ k. lacks (suc k)) follows group nodes homes
          (home_followed (lacks 0) follows nodes home room).1 in rw e (λ i. first i ∷ rest i)
      | inr e ↦
          let rest = followed-arrivals (λ k. lacks (suc k)) follows group nodes homes room in
          rw e (λ i. arrival_of home ∷ rest i)
    ]

-- so do those that go along, and those that don't
pub calm-arrivals : (homes : List Home)
    → map arrival_of (still_homes homes) ≡ map arrival_of homes
calm-arrivals [] = refl
calm-arrivals (home ∷ homes) = let rest = calm-arrivals homes in λ i. arrival_of home ∷ rest i

pub along-arrivals : (process : ℕ) (homes : List Home)
    → map arrival_of (along_homes process homes) ≡ map arrival_of homes
along-arrivals process [] = refl
along-arrivals process (home ∷ homes) =
    let rest = along-arrivals process homes in λ i. arrival_of home ∷ rest i

pub each-arrivals : (lacks : ℕ → ℕ → Lack) (nodes : ℕ → ℕ) (groups : List ℕ) (at : HostLying)
    → map arrival_of (followed_each lacks nodes groups at).homes ≡ map arrival_of at.homes
each-arrivals lacks nodes [] at = refl
each-arrivals lacks nodes (group ∷ groups) at =
    each-arrivals (λ k. lacks (suc k)) nodes groups
    (group_followed (lacks 0) group (nodes group) at)
    ∙ followed-arrivals (lacks 0) at.follows group (nodes group) at.homes at.room

pub other-arrivals : (process : ℕ) (homes : List Home)
    → map arrival_of (other_homes process homes) ≡ filter (other process) (map arrival_of homes)
other-arrivals process [] = refl
other-arrivals process (home ∷ homes) =
    elim (cases_Bool (eqb home.id process)) [
      | inl e ↦ rw e (other-arrivals process homes)
      | inr e ↦
          let rest = other-arrivals process homes in rw e (λ i. arrival_of home ∷ rest i)
    ]
