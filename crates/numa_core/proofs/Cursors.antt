-- The cursor of a seat, and the current node of its frame search.
use Rattle.std.proofs.Common.{zero, suc, ◌≡◌, ◌≢◌, ℕ, ◌+◌, ◌<◌, ◌≤◌, ◌==◌, ◌||◌, ◌⊎◌, inl, inr}
use Rattle.std.proofs.Common.{Bool, true, false, not, Option, Some, None, List, [], ◌∷◌, length}
use Rattle.std.proofs.Common.{refl, sym, ap, subst, arith, slice_index}
use Rattle.std.proofs.lemmas.Bool.Decides.{eqb_tells}
use Rattle.numa_requests.specs.declared.event.CoreReply.TheVariants.{Still}
use Rattle.numa_core.specs.World.{Setup, FrameSearch, any_below, first_place, current_rank}
use Rattle.numa_core.specs.Steps.{goes_on, going_on, over_by}
use Rattle.numa_core.specs.Standing.{Busy, met_at, frame_search_in}
use Rattle.numa_core.specs.Seats.{IsPassed, IsCursor, IsAllMet}

pub or_true : (a b : Bool) → b ≡ true → (a || b) ≡ true
or_true true b e = refl
or_true false b e = e

-- some number passes the test
pub any_below-true : (test : ℕ → Bool) (count k : ℕ) → k < count → test k ≡ true
    → any_below test count ≡ true
any_below-true test zero k low h = absurd (omega arith)
any_below-true test (suc n) k low h = go (eqb_tells k n) (λ less. any_below-true test n k less h)
  where
    go : ((k == n ≡ true) × (k ≡ n)) ⊎ ((k == n ≡ false) × (k ≢ n))
        → (k < n → any_below test n ≡ true) → (test n || any_below test n) ≡ true
    go (inl e) ih = rw (← e.1, h) refl
    go (inr e) ih = or_true (test n) (any_below test n) (ih (let ne : k ≢ n = e.1 in omega arith))

-- no number passes the test
pub any_below-false : (test : ℕ → Bool) (count : ℕ) → ((k : ℕ) → k < count → test k ≡ false)
    → any_below test count ≡ false
any_below-false test zero h = refl
any_below-false test (suc n) h =
    rw (h n (omega arith)) (any_below-false test n (λ k low. h k (omega arith)))

-- the first place at which the test holds
pub first_place-at : (test : ℕ → Bool) (ns : List ℕ) (i : ℕ) → i < length ns
    → ((j : ℕ) → j < i → test (slice_index ns j) ≡ false) → test (slice_index ns i) ≡ true
    → first_place test ns ≡ Some i
first_place-at test [] i low before here = absurd (omega arith)
first_place-at test (n ∷ ns) zero low before here = rw here refl
first_place-at test (n ∷ ns) (suc i) low before here =
    let first : test n ≡ false = before 0 (omega arith) in
    let rest : first_place test ns ≡ Some i = first_place-at test ns i (omega arith)
    (λ j lower. before (suc j) (omega arith)) here in
    rw (first, rest) (ap Some (omega arith))

pub first_place-none : (test : ℕ → Bool) (ns : List ℕ)
    → ((j : ℕ) → j < length ns → test (slice_index ns j) ≡ false) → first_place test ns ≡ None
first_place-none test [] none = refl
first_place-none test (n ∷ ns) none =
    let first : test n ≡ false = none 0 (omega arith) in
    let rest : first_place test ns ≡ None =
    first_place-none test ns (λ j low. none (suc j) (omega arith)) in
    rw (first, rest) refl

-- a node further, where the node is wholly met
pub passed-further : (frames nodes words : List ℕ) (rank next : ℕ)
    → IsPassed frames nodes words rank next
    → ((k : ℕ) → next ≤ k → k < slice_index frames (slice_index nodes rank)
    → met_at frames words (slice_index nodes rank) k ≡ true)
    → IsPassed frames nodes words (rank + 1) 0
passed-further frames nodes words rank next passed rest = record {
  earlier = λ i k low few. go i k (eqb_tells i rank) low few;
  lower = λ k low few. absurd (omega arith);
}
  where
    below : (k : ℕ) → (k < next) ⊎ (next ≤ k) → k < slice_index frames (slice_index nodes rank)
        → met_at frames words (slice_index nodes rank) k ≡ true
    below k (inl low) few = passed.lower k low few
    below k (inr high) few = rest k high few

    split : (k next : ℕ) → (k < next) ⊎ (next ≤ k)
    split k zero = inr (omega arith)
    split zero (suc n) = inl (omega arith)
    split (suc k) (suc n) =
        elim (split k n) [ inl h ↦ inl (omega arith) | inr h ↦ inr (omega arith) ]

    go : (i k : ℕ) → ((i == rank ≡ true) × (i ≡ rank)) ⊎ ((i == rank ≡ false) × (i ≢ rank))
        → i < rank + 1 → k < slice_index frames (slice_index nodes i)
        → met_at frames words (slice_index nodes i) k ≡ true
    go i k (inl e) low few = subst (λ r. met_at frames words (slice_index nodes r) k ≡ true)
        (sym e.1)
        (below k (split k next) (subst (λ r. k < slice_index frames (slice_index nodes r)) e.1 few))
    go i k (inr e) low few = passed.earlier i k (let ne : i ≢ rank = e.1 in omega arith) few

-- the cursor stands here
pub cursor-here : (frames nodes words : List ℕ) (rank from next : ℕ)
    → IsPassed frames nodes words rank from → rank < length nodes → from ≤ next
    → next < slice_index frames (slice_index nodes rank)
    → met_at frames words (slice_index nodes rank) next ≡ false
    → ((k : ℕ) → from ≤ k → k < next → met_at frames words (slice_index nodes rank) k ≡ true)
    → IsCursor frames nodes words rank next
cursor-here frames nodes words rank from next passed listed high within unmet rest = record {
  passed = record { earlier = passed.earlier; lower = λ k low few. below k (split k from) low few };
  listed = listed;
  within = within;
  unmet = unmet;
}
  where
    below : (k : ℕ) → (k < from) ⊎ (from ≤ k) → k < next
        → k < slice_index frames (slice_index nodes rank)
        → met_at frames words (slice_index nodes rank) k ≡ true
    below k (inl before) low few = passed.lower k before few
    below k (inr after) low few = rest k after low

    split : (k next : ℕ) → (k < next) ⊎ (next ≤ k)
    split k zero = inr (omega arith)
    split zero (suc n) = inl (omega arith)
    split (suc k) (suc n) =
        elim (split k n) [ inl h ↦ inl (omega arith) | inr h ↦ inr (omega arith) ]

-- the node has an unmet frame, where each node has as many as the list says
abbrev unmet_in : List ℕ → List ℕ → ℕ → Bool
unmet_in frames words n = any_below (λ k. not (met_at frames words n k)) (slice_index frames n)

-- the current node is that of the cursor
pub rank-at : (s : Setup) (frames : List ℕ) (busy : Busy) (rank next : ℕ)
    → frames ≡ s.machine.frames → IsCursor frames busy.nodes busy.met rank next
    → current_rank s (frame_search_in frames busy) ≡ Some rank
rank-at s frames busy rank next same cursor =
    subst (λ fs.
    first_place (λ n. any_below (λ k. not (met_at frames busy.met n k)) (slice_index fs n))
    busy.nodes ≡ Some rank) same
    (first_place-at (unmet_in frames busy.met) busy.nodes rank cursor.listed
    (λ j lower. any_below-false (λ k. not (met_at frames busy.met (slice_index busy.nodes j) k))
    (slice_index frames (slice_index busy.nodes j))
    (λ k few. ap not (cursor.passed.earlier j k lower few)))
    (any_below-true (λ k. not (met_at frames busy.met (slice_index busy.nodes rank) k))
    (slice_index frames (slice_index busy.nodes rank)) next cursor.within
    (ap not cursor.unmet)))

pub rank-none : (s : Setup) (frames : List ℕ) (busy : Busy) → frames ≡ s.machine.frames
    → IsAllMet frames busy.nodes busy.met → current_rank s (frame_search_in frames busy) ≡ None
rank-none s frames busy same all =
    subst (λ fs.
    first_place (λ n. any_below (λ k. not (met_at frames busy.met n k)) (slice_index fs n))
    busy.nodes ≡ None) same
    (first_place-none (unmet_in frames busy.met) busy.nodes
    (λ j low. any_below-false (λ k. not (met_at frames busy.met (slice_index busy.nodes j) k))
    (slice_index frames (slice_index busy.nodes j)) (λ k few. ap not (all j k low few))))

-- a frame search that goes on
pub settled : (s : Setup) (frames : List ℕ) (busy : Busy) (rank next : ℕ)
    → frames ≡ s.machine.frames → IsCursor frames busy.nodes busy.met rank next
    → (Still ≡ goes_on s (frame_search_in frames busy))
    × (Some (frame_search_in frames busy) ≡ going_on s (frame_search_in frames busy))
settled s frames busy rank next same cursor = rw (rank-at s frames busy rank next same cursor)
    (refl, refl)

-- a frame search that is over
pub ended : (s : Setup) (frames : List ℕ) (busy : Busy) → frames ≡ s.machine.frames
    → IsAllMet frames busy.nodes busy.met
    → (over_by (frame_search_in frames busy) ≡ goes_on s (frame_search_in frames busy))
    × (let none : Option FrameSearch = None in none ≡ going_on s (frame_search_in frames busy))
ended s frames busy same all = rw (rank-none s frames busy same all) (refl, refl)
