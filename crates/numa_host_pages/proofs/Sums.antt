-- What the last move of a host did, one process after the other.
use Rattle.std.proofs.Common.{◌≡◌, ◌≤◌, ◌<◌, ℕ, suc, true, false, List, [], ◌∷◌, ◌++◌}
use Rattle.std.proofs.Common.{length, map, eqb, refl, ap, arith, inl, inr, slice_index}
use Rattle.std.proofs.lemmas.Bool.{cases_Bool}
use Rattle.std.specs.Prelude.{◌==◌, if◌then◌else◌}
use Rattle.numa_page_state.specs.Lying.{LastMove, OfNodes, OfPages, Sent}
use Rattle.numa_page_state.specs.Sending.{flow_between}
use Rattle.numa_page_state.specs.Standing.{LastAs}
use Rattle.numa_page_state.specs.declared.last.Departures.{Departures}
use Rattle.numa_page_state.specs.declared.last.Last.{Last}
use Rattle.numa_page_state.specs.declared.last.Last.TheVariants as went
use Rattle.numa_placed.specs.Spots.{spot_at}
use Rattle.numa_placed.specs.declared.moved.Moved.{Moved}
use Rattle.numa_host_pages.specs.Homes.{Home, along_homes, pages_in, still_homes}
use Rattle.numa_host_pages.specs.Standing.{AreHomes, IsHome, arrival_of, count_of}
use Rattle.numa_host_pages.specs.Summed.{both_pages, both_sent, most, none_sent, sent_last}
use Rattle.numa_host_pages.specs.Summed.{sent_of, sum_of}
use Rattle.numa_host_pages.specs.declared.member.Member.{Member}

-- ---- processes

pub sum-none : (members : List Member) (homes : List Home) → length members ≡ 0
    → AreHomes members homes → sum_of homes ≡ none_sent
sum-none [] [] none are = refl
sum-none [] (home ∷ others) none are = absurd are
sum-none (m ∷ members) homes none are = absurd (omega (arith, none))

-- one that didn't go along
pub sum-passed : (first : Member) (rest : List Member) (homes : List Home)
    → AreHomes (first ∷ rest) homes → first.along ≡ false
    → (others : List Home) × AreHomes rest others × (sum_of homes ≡ sum_of others)
sum-passed first rest [] are off = absurd are
sum-passed first rest (home ∷ others) are off =
    let is : home.along ≡ false = rw (← are.0.along) off in (others, are.1, rw is refl)

-- one that did
pub sum-joined : (first : Member) (rest : List Member) (homes : List Home)
    → AreHomes (first ∷ rest) homes → first.along ≡ true
    → (home : Home) × (others : List Home) × IsHome first home × AreHomes rest others
    × (sum_of homes ≡ both_sent (sent_of home.lying) (sum_of others))
sum-joined first rest [] are its = absurd are
sum-joined first rest (home ∷ others) are its =
    let is : home.along ≡ true = rw (← are.0.along) its in
    (home, others, are.0, are.1, rw is refl)

-- none did
pub sum-calm : (homes : List Home) → sum_of (still_homes homes) ≡ none_sent
sum-calm [] = refl
sum-calm (home ∷ homes) = sum-calm homes

-- one that is born adds nothing
pub sum-born : (homes : List Home) (home : Home) → home.along ≡ false
    → sum_of (homes ++ home ∷ []) ≡ sum_of homes
sum-born [] home off = rw off refl
sum-born (first ∷ homes) home off =
    ap (λ (s : Sent). if first.along then both_sent (sent_of first.lying) s else s)
    (sum-born homes home off)

-- one alone did, or nobody
sum-nobody : (process : ℕ) (homes : List Home) → count_of process (map arrival_of homes) ≡ 0
    → sum_of (along_homes process homes) ≡ none_sent
sum-nobody process [] none = refl
sum-nobody process (home ∷ homes) none =
    elim (cases_Bool (eqb home.id process)) [
      | inl e ↦
          let some : suc (count_of process (map arrival_of homes)) ≡ 0 = rw e at none in
          absurd (omega (arith, some))
      | inr e ↦
          let rest : count_of process (map arrival_of homes) ≡ 0 = rw e at none in
          rw e (sum-nobody process homes rest)
    ]

pub sum-one : (process : ℕ) (homes : List Home) → count_of process (map arrival_of homes) ≡ 1
    → sum_of (along_homes process homes)
    ≡ both_sent (sent_of (pages_in process homes)) none_sent
sum-one process [] once = absurd (omega (arith, once))
sum-one process (home ∷ homes) once =
    elim (cases_Bool (eqb home.id process)) [
      | inl e ↦
          let more : suc (count_of process (map arrival_of homes)) ≡ 1 = rw e at once in
          rw e (ap (λ (s : Sent). both_sent (sent_of home.lying) s)
          (sum-nobody process homes (omega (arith, more))))
      | inr e ↦
          let rest : count_of process (map arrival_of homes) ≡ 1 = rw e at once in
          rw e (sum-one process homes rest)
    ]

-- ---- one move

pub nodes-counted : (moved : Moved) (last : Last) (done : LastMove) → last ≡ went.Nodes moved
    → LastAs last done
    → (moved.moved ≡ (sent_last done).moved) × (moved.left ≡ (sent_last done).left)
nodes-counted moved last done is tells = by_done done (rw is at tells)
  where
    by_done : (d : LastMove) → LastAs (went.Nodes moved) d
        → (moved.moved ≡ (sent_last d).moved) × (moved.left ≡ (sent_last d).left)
    by_done (OfNodes told) a = (a.moved, a.left)
    by_done (OfPages sent) a = absurd a

pub pages-counted : (gone : Departures) (last : Last) (done : LastMove) → last ≡ went.Pages gone
    → LastAs last done
    → (gone.moved ≡ (sent_last done).moved) × (gone.left ≡ (sent_last done).left)
pages-counted gone last done is tells = by_done done (rw is at tells)
  where
    by_done : (d : LastMove) → LastAs (went.Pages gone) d
        → (gone.moved ≡ (sent_last d).moved) × (gone.left ≡ (sent_last d).left)
    by_done (OfNodes told) a = absurd a
    by_done (OfPages sent) a = (a.moved, a.left)

-- the pages that went from a node
pub nodes-went : (moved : Moved) (last : Last) (done : LastMove) (from to : ℕ)
    → last ≡ went.Nodes moved → LastAs last done → from < 256
    → (if slice_index moved.to from == to then slice_index moved.from from else 0)
    ≡ (sent_last done).flow from to
nodes-went moved last done from to is tells small = by_done done (rw is at tells)
  where
    by_done : (d : LastMove) → LastAs (went.Nodes moved) d
        → (if slice_index moved.to from == to then slice_index moved.from from else 0)
        ≡ (sent_last d).flow from to
    by_done (OfNodes told) a = rw (a.to from small, a.from from small) refl
    by_done (OfPages sent) a = absurd a

pub pages-went : (gone : Departures) (last : Last) (done : LastMove) (from to : ℕ)
    → last ≡ went.Pages gone → LastAs last done
    → flow_between (spot_at gone.before) (spot_at gone.after) from to
    ≡ (sent_last done).flow from to
pages-went gone last done from to is tells = by_done done (rw is at tells)
  where
    by_done : (d : LastMove) → LastAs (went.Pages gone) d
        → flow_between (spot_at gone.before) (spot_at gone.after) from to
        ≡ (sent_last d).flow from to
    by_done (OfNodes told) a = absurd a
    by_done (OfPages sent) a = a.flow from to

-- ---- numbers

pub both-most : (one other : ℕ) → both_pages one other ≤ most
both-most one other = omega arith

pub both-none : (pages : ℕ) → pages ≤ most → both_pages 0 pages ≡ pages
both-none pages small = omega (arith, small)
