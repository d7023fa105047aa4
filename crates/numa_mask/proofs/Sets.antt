-- What callers need of sets: the members rise without repeats, a set is that of its members, and
-- where images lie.
use Rattle.std.proofs.Common.{◌≡◌, ℕ, zero, suc, ◌+◌, ◌<◌, ◌≤◌, Bool, true, false, cond, List, []}
use Rattle.std.proofs.Common.{◌∷◌, length, get_or, filter, All, Contains, ap, ◌∙◌, arith, inl, inr}
use Rattle.std.proofs.lemmas.Bool.{cases_eq}
use Rattle.std.specs.List.{range_with_len}
use Rattle.std.proofs.lemmas.List.Elements.{All-cons, All-filter, filter_passes}
use Rattle.std.proofs.lemmas.List.Sums.{length-filter, count_by-le-length}
use Rattle.std.proofs.lemmas.List.FromFn.{length-range_with_len}
use Rattle.numa_mask.specs.NodeSet.{has, members}

-- ---- the members rise

-- each number is above the one before it, and the first is at least low
abbrev pub IsRising : ℕ → List ℕ → Type 0
IsRising low [] = Unit {0}
IsRising low (n ∷ ns) = (low ≤ n) × IsRising (n + 1) ns

pub rising_lower : (low lower : ℕ) (ns : List ℕ) → lower ≤ low → IsRising low ns → IsRising lower ns
rising_lower low lower [] h r = tt
rising_lower low lower (n ∷ ns) h r = (omega (arith, r.0), r.1)

pub rising-filter : (p : ℕ → Bool) (a n : ℕ) → IsRising a (filter p (range_with_len a n))
rising-filter p a zero = tt
rising-filter p a (suc n) =
    elim (p a) as
    (λ b.
    IsRising a
    (cond b (a ∷ filter p (range_with_len (a + 1) n)) (filter p (range_with_len (a + 1) n)))) [
      | true ↦ (omega arith, rising-filter p (a + 1) n)
      | false ↦ rising_lower (a + 1) a _ (omega arith) (rising-filter p (a + 1) n)
    ]

pub members-rising : (set : ℕ) → IsRising 0 (members set)
unfolding members
members-rising set = rising-filter (has set) 0 256

pub rising-at : (low : ℕ) (ns : List ℕ) (k d : ℕ) → IsRising low ns → k < length ns
    → low ≤ get_or ns k d
rising-at low [] k d r h = absurd (omega arith)
rising-at low (n ∷ ns) zero d r h = r.0
rising-at low (n ∷ ns) (suc k) d r h =
    omega (arith, rising-at (n + 1) ns k d r.1 (omega arith), r.0)

-- of two members the later one is larger
pub rising-both : (low : ℕ) (ns : List ℕ) (i j d : ℕ) → IsRising low ns → i < j → j < length ns
    → get_or ns i d < get_or ns j d
rising-both low [] i j d r h l = absurd (omega arith)
rising-both low (n ∷ ns) i zero d r h l = absurd (omega arith)
rising-both low (n ∷ ns) zero (suc j) d r h l =
    omega (arith, rising-at (n + 1) ns j d r.1 (omega arith))
rising-both low (n ∷ ns) (suc i) (suc j) d r h l = rising-both (n + 1) ns i j d r.1 (omega arith)
    (omega arith)

pub members-increasing : (set i j d : ℕ) → i < j → j < length (members set)
    → get_or (members set) i d < get_or (members set) j d
members-increasing set i j d h l = rising-both 0 (members set) i j d (members-rising set) h l

-- ---- who is a member

pub filter-contains : (p : ℕ → Bool) (a n x : ℕ) → a ≤ x → x < a + n → p x ≡ true
    → Contains (filter p (range_with_len a n)) x
filter-contains p a zero x l h t = absurd (omega arith)
filter-contains p a (suc n) x l h t =
    elim (cases_eq a x) [
      | inl e ↦
          let pa : p a ≡ true = ap p e ∙ t in
          rw pa (zero, omega arith, e)
      | inr ne ↦
          let rest : Contains (filter p (range_with_len (a + 1) n)) x =
          filter-contains p (a + 1) n x (omega arith) (omega arith) t in
          elim (p a) as
          (λ b.
          Contains (cond b (a ∷ filter p (range_with_len (a + 1) n))
          (filter p (range_with_len (a + 1) n))) x) [
            | true ↦ (suc rest.0, omega (arith, rest.1), rest.2)
            | false ↦ rest
          ]
    ]

pub contains-has : (set node : ℕ) → node < 256 → has set node ≡ true → Contains (members set) node
unfolding members
contains-has set node h t = filter-contains (has set) 0 256 node (omega arith) (omega arith) t

pub All-range : (P : ℕ → Type 0) (a n : ℕ) → ((x : ℕ) → a ≤ x → x < a + n → P x)
    → All P (range_with_len a n)
All-range P a zero h = λ k d l. absurd (omega arith)
All-range P a (suc n) h = All-cons P a (range_with_len (a + 1) n) (h a (omega arith) (omega arith))
    (All-range P (a + 1) n (λ x l m. h x (omega arith) (omega arith)))

-- each member is a node of the set
pub members-have : (set : ℕ) → All (λ m. has set m ≡ true) (members set)
unfolding members
members-have set = filter_passes (has set) (range_with_len 0 256)

pub members-below : (set : ℕ) → All (λ m. m < 256) (members set)
unfolding members
members-below set = All-filter (has set) (λ m. m < 256) (range_with_len 0 256)
    (All-range (λ m. m < 256) 0 256 (λ x l h. h))

pub members-few : (set : ℕ) → length (members set) ≤ 256
unfolding members
members-few set =
    omega (
      arith,
      length-filter (has set) (range_with_len 0 256),
      count_by-le-length (has set) (range_with_len 0 256),
      length-range_with_len 0 256,
    )
