-- The n-th member is the one with exactly n smaller members.
use Rattle.std.proofs.Common.{◌≡◌, ℕ, zero, suc, ◌+◌, ◌<◌, ◌≤◌, true, false, cond, ltb, List, []}
use Rattle.std.proofs.Common.{◌∷◌, length, get_or, slice_get, slice_index, count_by, Contains}
use Rattle.std.proofs.Common.{Option, Some, None, IsSome, IfSome, ◌↔◌, refl, sym, ap, ◌∙◌, arith}
use Rattle.std.proofs.Common.{inl, inr}
use Rattle.std.proofs.lemmas.Bool.{cases_lt, lt-ltb, le-ltb}
use Rattle.std.proofs.lemmas.List.Sums.{sum_by-cons}
use Rattle.std.proofs.lemmas.Option.{slice_get-get_or, slice_get_read, slice_get_within}
use Rattle.std.proofs.lemmas.Option.{get_or_from_slice_get}
use Rattle.numa_mask.specs.NodeSet.{has, members, weight_of, nth_member, ordinal_of}
use Rattle.numa_mask.proofs.Sets.{IsRising, members-rising, members-have, members-below}
use Rattle.numa_mask.proofs.Sets.{members-increasing, contains-has}

count-cons : (m n : ℕ) (ns : List ℕ) → count_by (λ x. ltb x m) (n ∷ ns) ≡ cond (ltb n m) 1 0
    + count_by (λ x. ltb x m) ns
count-cons m n ns = sum_by-cons (λ x. cond (ltb x m) 1 0) n ns

none_smaller : (low m : ℕ) (ns : List ℕ) → m ≤ low → IsRising low ns → count_by (λ x. ltb x m) ns
    ≡ 0
none_smaller low m [] h r = refl
none_smaller low m (n ∷ ns) h r =
    let no : ◌≡◌ {A = ℕ} (cond (ltb n m) 1 0) 0 =
    ap (λ b. cond {A = ℕ} b 1 0) (le-ltb n m (omega (arith, r.0))) in
    omega (arith, count-cons m n ns, no, none_smaller (n + 1) m ns (omega (arith, r.0)) r.1)

-- what a look-up found
pub get-some : (ns : List ℕ) (k m : ℕ) → slice_get ns k ≡ Some m → (k < length ns)
    × (get_or ns k m ≡ m)
get-some ns k m h = (slice_get_within ns k m h, get_or_from_slice_get ns k m m h)

pub some-get : (ns : List ℕ) (k m : ℕ) → k < length ns → get_or ns k m ≡ m → slice_get ns k ≡ Some m
some-get ns k m l e = slice_get_read ns (length ns) k m refl l (sym e)

rising_from : (low : ℕ) (ns : List ℕ) (k m : ℕ) → IsRising low ns → slice_get ns k ≡ Some m
    → low ≤ m
rising_from low [] k m r h = cc
rising_from low (n ∷ ns) zero m r h = let e : n ≡ m = cc in omega (arith, r.0)
rising_from low (n ∷ ns) (suc k) m r h = omega (arith, r.0, rising_from (n + 1) ns k m r.1 h)

smaller : (low : ℕ) (ns : List ℕ) (k m : ℕ) → IsRising low ns → slice_get ns k ≡ Some m
    → count_by (λ x. ltb x m) ns ≡ k
smaller low [] k m r h = cc
smaller low (n ∷ ns) zero m r h =
    let e : n ≡ m = cc in
    let no : ◌≡◌ {A = ℕ} (cond (ltb n m) 1 0) 0 =
    ap (λ b. cond {A = ℕ} b 1 0) (le-ltb n m (omega arith)) in
    omega (arith, count-cons m n ns, no, none_smaller (n + 1) m ns (omega arith) r.1)
smaller low (n ∷ ns) (suc k) m r h =
    let yes : ◌≡◌ {A = ℕ} (cond (ltb n m) 1 0) 1 =
    ap (λ b. cond {A = ℕ} b 1 0)
    (lt-ltb n m (omega (arith, rising_from (n + 1) ns k m r.1 h))) in
    omega (arith, count-cons m n ns, yes, smaller (n + 1) ns k m r.1 h)

-- the n-th member has exactly n smaller members
pub nth-ordinal : (set k m : ℕ) → nth_member set k ≡ Some m → ordinal_of set m ≡ k
nth-ordinal set k m h = smaller 0 (members set) k m (members-rising set) h

-- a member is found at its ordinal
pub ordinal-nth : (set m : ℕ) → m < 256 → has set m ≡ true → nth_member set (ordinal_of set m)
    ≡ Some m
ordinal-nth set m l t =
    let c : Contains (members set) m = contains-has set m l t in
    let at : nth_member set c.0 ≡ Some m = some-get (members set) c.0 m c.1 c.2 in
    ap (nth_member set) (nth-ordinal set c.0 m at) ∙ at

pub nth-has : (set k m : ℕ) → nth_member set k ≡ Some m → has set m ≡ true
nth-has set k m h =
    let found : (k < length (members set)) × (get_or (members set) k m ≡ m) =
    get-some (members set) k m h in
    ap (has set) (sym found.1) ∙ members-have set k m found.0

pub nth-within : (set k m : ℕ) → nth_member set k ≡ Some m → (k < weight_of set) × (m < 256)
nth-within set k m h =
    let found : (k < length (members set)) × (get_or (members set) k m ≡ m) =
    get-some (members set) k m h in
    (found.0, omega (arith, found.1, members-below set k m found.0))

-- there is an n-th member for each n below the weight
pub nth-some : (set k : ℕ) → k < weight_of set
    → nth_member set k ≡ Some (slice_index (members set) k)
nth-some set k h = slice_get-get_or (members set) k 0 h

-- no node below the first member is one
pub first-lowest : (set node other : ℕ) → nth_member set 0 ≡ Some node → other < node
    → has set other ≡ false
first-lowest set node other h l =
    elim (has set other) as (λ b. has set other ≡ b → b ≡ false) [
      | false ↦ λ (f : has set other ≡ false). refl
      | true ↦ λ (t : has set other ≡ true).
          let c : Contains (members set) other =
          contains-has set other (omega (arith, (nth-within set 0 node h).1)) t in
          let first : get_or (members set) 0 other ≡ node = get_or_from_slice_get (members set) 0 node other h in
          elim (cases_lt 0 c.0) [
            | inl later ↦
                absurd (omega (arith, first, c.2, members-increasing set 0 c.0 other later c.1))
            | inr here ↦
                let zeroth : c.0 ≡ 0 = omega arith in
                absurd (omega (arith, first, c.2, ap (λ k. get_or (members set) k other) zeroth))
          ]
    ] refl

-- what a call that looks the n-th member up can answer
pub nth-is_some : (set k : ℕ) (r : Option ℕ) → r ≡ nth_member set k → IsSome r ↔ (k < weight_of set)
nth-is_some set k None e = (
  λ odd. absurd (let h : false ≡ true = odd in cc),
  λ l. let odd :
      None ≡ Some (slice_index (members set) k) = e ∙ nth-some set k l in cc,
)
nth-is_some set k (Some m) e = (λ _. (nth-within set k m (sym e)).0, λ _. refl)

pub if_nth : (P : ℕ → Type 0) (set k : ℕ) (r : Option ℕ) → r ≡ nth_member set k
    → ((m : ℕ) → nth_member set k ≡ Some m → P m) → IfSome r P
if_nth P set k None e h = tt
if_nth P set k (Some m) e h = h m (sym e)
