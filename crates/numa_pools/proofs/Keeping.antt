-- What pools keep, whatever takes and gives.
use Rattle.std.proofs.Common.{◌≡◌, ℕ, zero, suc, ◌+◌, ◌-◌, ◌<◌, ◌≤◌, ◌^◌, Bool, true}
use Rattle.std.proofs.Common.{false}
use Rattle.std.proofs.Common.{List, length, refl, sym, ◌∙◌, arith, inl, inr, subst, set, ◌⊎◌}
use Rattle.std.proofs.Common.{replicate, slice_get, Some, [], ◌∷◌}
use Rattle.std.specs.Prelude.{slice_index, sum}
use Rattle.numa_mask.specs.NodeSet.{members}
use Rattle.numa_machine.proofs.Turns.{get_or-replicate_same}
use Rattle.std.proofs.lemmas.Bool.{cases_eq, cases_lt, ltb-true}
use Rattle.std.proofs.lemmas.List.{get_or-map, get_or-set_other, get_or-set_same, get_or_past}
use Rattle.std.proofs.lemmas.List.{length-map, length-replicate, length-set}
use Rattle.std.proofs.lemmas.List.Sums.{sum_by-set}
use Rattle.numa_pools.specs.declared.shares.Shares.{Shares}
use Rattle.numa_pools.specs.Turns.{Turns, after_turns, in_turn, less, on, plus}
use Rattle.numa_pools.specs.Turns.{ring, turns_of}
use Rattle.numa_pools.specs.Pools.{PoolCounts, may_give, most, taking}
use Rattle.numa_pools.specs.Resize.{left_of}
use Rattle.numa_pools.specs.Kept.{AreKept}
use Rattle.numa_pools.proofs.Each.{at-le-sum, length-each, length-on, less-at, on-le, plus-at}
use Rattle.numa_pools.proofs.Each.{sum-cons, sum-le, sum-less, sum-most, sum-plus}
use Rattle.numa_pools.proofs.Turning.{AreLeft, after-left}

-- ---- shares

-- no node takes more than it has room for, and all together take at most as many as there are turns
pub record AreShares (times : ℕ) (room taken : List ℕ) : Type 0 where
  pub long : length taken ≡ length room
  pub at : (node : ℕ) → slice_index taken node ≤ slice_index room node
  pub sum : sum taken ≤ times

shares-of : (times nodes mark : ℕ) (room : List ℕ)
    → AreShares times room (in_turn times nodes mark room).taken
unfolding in_turn
shares-of times nodes mark room =
    let those : List ℕ = on nodes room in
    let turns : Turns = after_turns times (turns_of those (ring nodes mark)) in
    let left : AreLeft those times turns = after-left times those (ring nodes mark) in
    let even : length those ≡ length turns.room = sym left.long in
    record {
      long = length-each (λ a b. a - b) those turns.room even ∙ length-on nodes room;
      at = λ node. omega (arith, less-at those turns.room node even, on-le nodes room node);
      sum = omega (arith, sum-less those turns.room even left.fewer, left.sum);
    }

pub shares-are : (times nodes mark : ℕ) (room : List ℕ) (shares : Shares)
    → shares ≡ in_turn times nodes mark room → AreShares times room shares.taken
shares-are times nodes mark room shares is =
    subst (λ (s : Shares). AreShares times room s.taken) (sym is)
    (shares-of times nodes mark room)

-- ---- sums fit a word

pub totals-fit : (pools : PoolCounts) → AreKept pools → sum pools.total ≤ 2 ^ 48
totals-fit pools kept =
    omega (arith, sum-most most pools.total kept.few, kept.totals)

pub frees-fit : (pools : PoolCounts) → AreKept pools → sum pools.free ≤ sum pools.total
frees-fit pools kept = sum-le pools.free pools.total (kept.frees ∙ sym kept.totals) kept.within

-- how many pages fit on a node
pub left-at : (total : List ℕ) (node : ℕ) → slice_index (left_of total) node
    ≤ most - slice_index total node
left-at total node = elim (cases_lt node (length total)) [
  | inl l ↦ omega (arith, get_or-map (λ (pages : ℕ). most - pages) total node 0 0 l)
  | inr l ↦
      let past : slice_index (left_of total) node ≡ 0 =
      get_or_past (left_of total) node 0
      (omega (arith, l, length-map total (λ (pages : ℕ). most - pages))) in
      omega (arith, past)
]

pub length-left : (total : List ℕ) → length (left_of total) ≡ length total
length-left total = length-map total (λ (pages : ℕ). most - pages)

pub lefts-fit : (total : List ℕ) → length total ≡ 256 → sum (left_of total) ≤ 2 ^ 48
lefts-fit total long =
    omega (
      arith,
      sum-most most (left_of total) (λ node. omega (arith, left-at total node)),
      length-left total,
      long,
    )

-- ---- pools that lose free pages

pub kept-less : (pools : PoolCounts) (taken surplus : List ℕ) (reserved mark : ℕ) → AreKept pools
    → length taken ≡ 256 → length surplus ≡ 256
    → ((node : ℕ) → slice_index taken node ≤ slice_index pools.free node)
    → sum taken + reserved ≤ sum pools.free → sum surplus + sum taken ≤ sum pools.total
    → mark < 256
    → AreKept (record pools {
      total = less pools.total taken;
      free = less pools.free taken;
      surplus = surplus;
      reserved = reserved;
      shrink = mark;
    })
kept-less pools taken surplus reserved mark kept long even fewer enough lasting within =
    let t : length pools.total ≡ length taken = kept.totals ∙ sym long in
    let f : length pools.free ≡ length taken = kept.frees ∙ sym long in
    record {
      totals = length-each (λ a b. a - b) pools.total taken t ∙ kept.totals;
      frees = length-each (λ a b. a - b) pools.free taken f ∙ kept.frees;
      surpluses = even;
      within = λ node. omega (
        arith,
        less-at pools.total taken node t,
        less-at pools.free taken node f,
        kept.within node,
      );
      few = λ node. omega (arith, less-at pools.total taken node t, kept.few node);
      reserved = omega (arith, sum-less pools.free taken f fewer, enough);
      surplus = omega (
        arith,
        lasting,
        sum-less pools.total taken t
            (λ node. omega (arith, fewer node, kept.within node)),
      );
      grow = kept.grow;
      shrink = within;
    }

-- ---- pools that gain free pages

pub kept-plus : (pools : PoolCounts) (taken : List ℕ) (mark : ℕ) → AreKept pools
    → length taken ≡ 256
    → ((node : ℕ) → slice_index pools.total node + slice_index taken node ≤ most) → mark < 256
    → AreKept (record pools {
      total = plus pools.total taken;
      free = plus pools.free taken;
      grow = mark;
    })
kept-plus pools taken mark kept long room within =
    let t : length pools.total ≡ length taken = kept.totals ∙ sym long in
    let f : length pools.free ≡ length taken = kept.frees ∙ sym long in
    record {
      totals = length-each (λ a b. a + b) pools.total taken t ∙ kept.totals;
      frees = length-each (λ a b. a + b) pools.free taken f ∙ kept.frees;
      surpluses = kept.surpluses;
      within = λ node. omega (
        arith,
        plus-at pools.total taken node t,
        plus-at pools.free taken node f,
        kept.within node,
      );
      few = λ node. omega (arith, plus-at pools.total taken node t, room node);
      reserved = omega (arith, sum-plus pools.free taken f, kept.reserved);
      surplus = omega (arith, sum-plus pools.total taken t, kept.surplus);
      grow = within;
      shrink = kept.shrink;
    }

-- ---- pools whose surplus changes

pub kept-surplus : (pools : PoolCounts) (surplus : List ℕ) (grow shrink : ℕ) → AreKept pools
    → length surplus ≡ 256 → sum surplus ≤ sum pools.total → grow < 256 → shrink < 256
    → AreKept (record pools { surplus = surplus; grow = grow; shrink = shrink })
kept-surplus pools surplus grow shrink kept long few g s = record {
  totals = kept.totals;
  frees = kept.frees;
  surpluses = long;
  within = kept.within;
  few = kept.few;
  reserved = kept.reserved;
  surplus = few;
  grow = g;
  shrink = s;
}

-- ---- pools with another number of reserved pages

pub kept-reserved : (pools : PoolCounts) (reserved : ℕ) → AreKept pools → reserved ≤ sum pools.free
    → AreKept (record pools { reserved = reserved })
kept-reserved pools reserved kept few = record {
  totals = kept.totals;
  frees = kept.frees;
  surpluses = kept.surpluses;
  within = kept.within;
  few = kept.few;
  reserved = few;
  surplus = kept.surplus;
  grow = kept.grow;
  shrink = kept.shrink;
}

-- ---- one node's numbers

pub sum-set : (xs : List ℕ) (node x : ℕ) → node < length xs
    → sum (set xs node x) + slice_index xs node ≡ sum xs + x
sum-set xs node x l = sum_by-set (λ (r : ℕ). r) xs node x 0 l

pub set-at : (xs : List ℕ) (node x other : ℕ) → node < length xs
    → slice_index (set xs node x) other ≡ x ⊎ (slice_index (set xs node x) other
    ≡ slice_index xs other)
set-at xs node x other l = elim (cases_eq other node) [
  | inl e ↦
      inl (subst (λ (n : ℕ). slice_index (set xs node x) n ≡ x) (sym e)
      (get_or-set_same xs node x 0 l))
  | inr ne ↦ inr (get_or-set_other xs node other x 0 ne)
]

-- a node's free pages, and all reserved ones, change
pub kept-free : (pools : PoolCounts) (node free reserved : ℕ) → AreKept pools → node < 256
    → free ≤ slice_index pools.total node
    → reserved + slice_index pools.free node ≤ sum pools.free + free
    → AreKept (record pools { free = set pools.free node free; reserved = reserved })
kept-free pools node free reserved kept l few enough =
    let there : node < length pools.free = omega (arith, l, kept.frees) in
    record {
      totals = kept.totals;
      frees = length-set pools.free node free ∙ kept.frees;
      surpluses = kept.surpluses;
      within = λ other. elim (cases_eq other node) [
        | inl e ↦
            subst (λ (n : ℕ). slice_index (set pools.free node free) n
            ≤ slice_index pools.total n) (sym e)
            (omega (arith, few, get_or-set_same pools.free node free 0 there))
        | inr ne ↦
            omega (arith, kept.within other, get_or-set_other pools.free node other free 0 ne)
      ];
      few = kept.few;
      reserved = omega (arith, enough, sum-set pools.free node free there);
      surplus = kept.surplus;
      grow = kept.grow;
      shrink = kept.shrink;
    }

-- ---- a page that is taken

pub kept-taking : (pools : PoolCounts) (node : ℕ) (by_reservation : Bool) → AreKept pools
    → node < 256 → 0 < slice_index pools.free node → may_give pools by_reservation ≡ true
    → AreKept (taking pools node by_reservation)
kept-taking pools node true kept l some may =
    kept-free pools node (slice_index pools.free node - 1) (pools.reserved - 1) kept l
    (omega (arith, kept.within node))
    (omega (arith, kept.reserved, some, at-le-sum pools.free node))
kept-taking pools node false kept l some may =
    kept-free pools node (slice_index pools.free node - 1) pools.reserved kept l
    (omega (arith, kept.within node))
    (omega (arith, some, ltb-true pools.reserved (sum pools.free) may))

-- ---- pools without pages

sum-zeros : (n : ℕ) → sum (replicate n 0) ≡ 0
sum-zeros zero = refl
sum-zeros (suc n) = omega (arith, sum-zeros n, sum-cons 0 (replicate n 0))

pub kept-none : (memory first n : ℕ) → n ≡ 256 → first < 256
    → AreKept (record {
      memory = memory;
      total = replicate n 0;
      free = replicate n 0;
      surplus = replicate n 0;
      reserved = 0;
      grow = first;
      shrink = first;
    })
kept-none memory first n is within =
    let nothing : List ℕ = replicate n 0 in
    let long : length nothing ≡ 256 = length-replicate n 0 ∙ is in
    let none : sum nothing ≡ 0 = sum-zeros n in
    record {
      totals = long;
      frees = long;
      surpluses = long;
      within = λ node. omega arith;
      few = λ node. omega (arith, get_or-replicate_same n 0 node);
      reserved = omega (arith, none);
      surplus = omega (arith, none);
      grow = within;
      shrink = within;
    }

pub first-is : (memory node : ℕ) → slice_get (members memory) 0 ≡ Some node
    → slice_index (members memory) 0 ≡ node
first-is memory node is = head (members memory) is
  where
    head : (nodes : List ℕ) → slice_get nodes 0 ≡ Some node → slice_index nodes 0 ≡ node
    head [] h = cc
    head (x ∷ xs) h = cc
