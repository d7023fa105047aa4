-- Processes that are copied one after the other.
use Rattle.std.proofs.Common.{◌≡◌, ℕ, ◌+◌, ◌∙◌, List, [], ◌∷◌, ◌++◌, Option}
use Rattle.std.proofs.Common.{length, refl, sym, ap, arith, subst}
use Rattle.numa_huge.specs.Huge.{has_reserved, pages_of}
use Rattle.numa_huge.specs.Moves.{count_on}
use Rattle.numa_huge.specs.declared.spot.HugeSpot.{HugeSpot}
use Rattle.numa_host_huge.specs.Kept.{all_on, all_reserved, spots_of}
use Rattle.numa_host_huge.specs.Sharing.{HugeHome}
use Rattle.numa_host_huge.specs.Standing.{AreHomes, IsHome}
use Rattle.numa_host_huge.specs.declared.sharer.Sharer.{Sharer}
use Rattle.numa_host_huge.proofs.Sums.{on-is, on_of, reserved-is, reserved_of, sum-behind}

-- nothing is added
pub no-more : (olds xs : List Sharer) (before homes : List HugeHome) → length xs ≡ 0
    → AreHomes olds before → AreHomes xs homes → AreHomes olds (before ++ homes)
no-more olds [] before [] none old are = subst (AreHomes olds) (sym (end before)) old
  where
    end : (hs : List HugeHome) → hs ++ [] ≡ hs
    end [] = refl
    end (h ∷ hs) = ap (λ (t : List HugeHome). h ∷ t) (end hs)
no-more olds [] before (home ∷ homes) none old are = absurd are
no-more olds (x ∷ xs) before homes none old are = absurd (omega (arith, none))

pub none-on : (olds xs : List Sharer) (node : ℕ) → length xs ≡ 0
    → all_on olds node ≡ all_on olds node + all_on xs node
none-on olds [] node none = omega arith
none-on olds (x ∷ xs) node none = absurd (omega (arith, none))

pub none-reserved : (olds xs : List Sharer) → length xs ≡ 0
    → all_reserved olds ≡ all_reserved olds + all_reserved xs
none-reserved olds [] none = omega arith
none-reserved olds (x ∷ xs) none = absurd (omega (arith, none))

-- the first, and the others
pub record AreFirst (first : Sharer) (rest : List Sharer) (homes : List HugeHome) : Type 0 where
  pub home : HugeHome
  pub others : List HugeHome
  pub is : homes ≡ home ∷ others
  pub stands : IsHome first home
  pub are : AreHomes rest others

pub first-home : (first : Sharer) (rest : List Sharer) (homes : List HugeHome)
    → AreHomes (first ∷ rest) homes → AreFirst first rest homes
first-home first rest [] are = absurd are
first-home first rest (home ∷ others) are = record {
  home = home;
  others = others;
  is = refl;
  stands = are.0;
  are = are.1;
}

joined : (before others : List HugeHome) (home : HugeHome)
    → (before ++ home ∷ []) ++ others ≡ before ++ home ∷ others
joined [] others home = refl
joined (h ∷ hs) others home = ap (λ (t : List HugeHome). h ∷ t) (joined hs others home)

pub one-more : (news : List Sharer) (before others homes : List HugeHome) (home : HugeHome)
    → homes ≡ home ∷ others → AreHomes news ((before ++ home ∷ []) ++ others)
    → AreHomes news (before ++ homes)
one-more news before others homes home is are =
    rw is (subst (AreHomes news) (joined before others home) are)

pub one-on : (olds mid news xs rest : List Sharer) (copy first : Sharer) (node : ℕ)
    → mid ≡ olds ++ copy ∷ [] → xs ≡ first ∷ rest → spots_of copy ≡ spots_of first
    → all_on news node ≡ all_on mid node + all_on rest node
    → all_on news node ≡ all_on olds node + all_on xs node
one-on olds mid news xs rest copy first node added split same told =
    let some : all_on xs node ≡ on_of node first + all_on rest node =
    ap (λ (s : List Sharer). all_on s node) split in
    let more : all_on mid node ≡ all_on (olds ++ copy ∷ []) node =
    ap (λ (s : List Sharer). all_on s node) added in
    let alike : on_of node copy ≡ on_of node first =
    ap (λ (spots : ℕ → Option HugeSpot). count_on spots node) same in
    omega (
      arith,
      told,
      more,
      on-is (olds ++ copy ∷ []) node,
      sum-behind (on_of node) olds copy,
      on-is olds node,
      alike,
      some,
    )

pub one-reserved : (olds mid news xs rest : List Sharer) (copy first : Sharer)
    → mid ≡ olds ++ copy ∷ [] → xs ≡ first ∷ rest → spots_of copy ≡ spots_of first
    → all_reserved news ≡ all_reserved mid + all_reserved rest
    → all_reserved news ≡ all_reserved olds + all_reserved xs
one-reserved olds mid news xs rest copy first added split same told =
    let some : all_reserved xs ≡ reserved_of first + all_reserved rest = ap all_reserved split in
    let more : all_reserved mid ≡ all_reserved (olds ++ copy ∷ []) = ap all_reserved added in
    let alike : reserved_of copy ≡ reserved_of first =
    ap (λ (spots : ℕ → Option HugeSpot). pages_of has_reserved spots) same in
    omega (
      arith,
      told,
      more,
      reserved-is (olds ++ copy ∷ []),
      sum-behind reserved_of olds copy,
      reserved-is olds,
      alike,
      some,
    )
