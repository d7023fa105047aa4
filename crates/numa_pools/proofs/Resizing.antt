-- What each step of a resize keeps, and that it is that step.
use Rattle.std.proofs.Common.{◌≡◌, ℕ, ◌+◌, ◌-◌, ◌<◌, ◌≤◌, ◌^◌, List, length, max, min, sym, ap, ◌∙◌}
use Rattle.std.proofs.Common.{arith}
use Rattle.std.specs.Prelude.{slice_index, sum}
use Rattle.numa_pools.specs.declared.shares.Shares.{Shares}
use Rattle.numa_pools.specs.Turns.{in_turn, least, less, on, plus}
use Rattle.numa_pools.specs.Pools.{PoolCounts, end_surplus, ending, lasting, most, used}
use Rattle.numa_pools.specs.Resize.{add_fresh, adding, adopt, adopting, call_surplus, calling}
use Rattle.numa_pools.specs.Resize.{drop_free, dropping, left_of}
use Rattle.numa_pools.specs.Kept.{AreKept}
use Rattle.numa_pools.proofs.Each.{least-at, length-each, length-on, less-at, on-le, sum-le}
use Rattle.numa_pools.proofs.Each.{sum-less}
use Rattle.numa_pools.proofs.Each.{at-le-sum, sum-on, sum-plus}
use Rattle.numa_pools.proofs.Keeping.{AreShares, frees-fit, kept-less, kept-plus, kept-surplus}
use Rattle.numa_pools.proofs.Keeping.{left-at, lefts-fit, length-left, shares-are, totals-fit}

-- ---- the room fits a word

pub surplus-fits : (pools : PoolCounts) → AreKept pools → sum pools.surplus < 2 ^ 64
surplus-fits pools kept = omega (arith, totals-fit pools kept, kept.surplus)

pub free-fits : (pools : PoolCounts) → AreKept pools → sum pools.free < 2 ^ 64
free-fits pools kept = omega (arith, totals-fit pools kept, frees-fit pools kept)

pub least-fits : (pools : PoolCounts) → AreKept pools → sum (least pools.surplus pools.free)
    < 2 ^ 64
least-fits pools kept =
    let even : length pools.surplus ≡ length pools.free = kept.surpluses ∙ sym kept.frees in
    omega (
      arith,
      free-fits pools kept,
      sum-le (least pools.surplus pools.free) pools.free
          (length-each min pools.surplus pools.free even ∙ even)
          (λ node. omega (arith, least-at pools.surplus pools.free node even)),
    )

pub fresh-fits : (allowed : ℕ) (pools : PoolCounts) → AreKept pools
    → sum (on allowed (left_of pools.total)) < 2 ^ 64
fresh-fits allowed pools kept =
    omega (arith, sum-on allowed (left_of pools.total), lefts-fit pools.total kept.totals)

pub called-fits : (pools : PoolCounts) → AreKept pools → sum (less pools.total pools.surplus)
    < 2 ^ 64
called-fits pools kept =
    let even : length pools.total ≡ length pools.surplus = kept.totals ∙ sym kept.surpluses in
    omega (
      arith,
      totals-fit pools kept,
      sum-le (less pools.total pools.surplus) pools.total
          (length-each (λ a b. a - b) pools.total pools.surplus even)
          (λ node. omega (arith, less-at pools.total pools.surplus node even)),
    )

-- ---- free surplus pages that end

pub kept-ending : (pools : PoolCounts) (pages : ℕ) (shares : Shares)
    (total free surplus : List ℕ) → AreKept pools → pools.reserved + pages ≤ sum pools.free
    → shares ≡ in_turn (min pages (sum pools.surplus)) pools.memory pools.shrink
    (least pools.surplus pools.free) → shares.mark < 256
    → total ≡ less pools.total shares.taken → free ≡ less pools.free shares.taken
    → surplus ≡ less pools.surplus shares.taken
    → AreKept (record pools {
      total = total;
      free = free;
      surplus = surplus;
      shrink = shares.mark;
    })
kept-ending pools pages shares total free surplus kept enough is within t f s =
    let room : List ℕ = least pools.surplus pools.free in
    let those : AreShares (min pages (sum pools.surplus)) room shares.taken =
    shares-are (min pages (sum pools.surplus)) pools.memory pools.shrink room shares is in
    let even : length pools.surplus ≡ length pools.free = kept.surpluses ∙ sym kept.frees in
    let long : length shares.taken ≡ 256 =
    those.long ∙ length-each min pools.surplus pools.free even ∙ kept.surpluses in
    let same : length pools.surplus ≡ length shares.taken = kept.surpluses ∙ sym long in
    rw (t, f, s) (kept-less pools shares.taken (less pools.surplus shares.taken) pools.reserved
    shares.mark kept long
    (length-each (λ a b. a - b) pools.surplus shares.taken same ∙ kept.surpluses)
    (λ node. omega (arith, those.at node, least-at pools.surplus pools.free node even))
    (omega (arith, those.sum, enough))
    (omega (
      arith,
      kept.surplus,
      sum-less pools.surplus shares.taken same
          (λ node. omega (arith, those.at node, least-at pools.surplus pools.free node even)),
    ))
    within)

pub ending-is : (pools : PoolCounts) (pages : ℕ) (shares : Shares)
    (total free surplus : List ℕ)
    → shares ≡ in_turn (min pages (sum pools.surplus)) pools.memory pools.shrink
    (least pools.surplus pools.free)
    → total ≡ less pools.total shares.taken → free ≡ less pools.free shares.taken
    → surplus ≡ less pools.surplus shares.taken
    → (let p : PoolCounts = record pools {
      total = total;
      free = free;
      surplus = surplus;
      shrink = shares.mark;
    } in p) ≡ end_surplus pools pages
ending-is pools pages shares total free surplus is t f s =
    rw (t, f, s) (ap (ending pools) is)

-- ---- surplus pages that last

pub kept-adopting : (pools : PoolCounts) (times nodes : ℕ) (shares : Shares) (surplus : List ℕ)
    → AreKept pools → shares ≡ in_turn times nodes pools.grow pools.surplus → shares.mark < 256
    → surplus ≡ less pools.surplus shares.taken
    → AreKept (record pools { surplus = surplus; grow = shares.mark })
kept-adopting pools times nodes shares surplus kept is within s =
    let those : AreShares times pools.surplus shares.taken =
    shares-are times nodes pools.grow pools.surplus shares is in
    let same : length pools.surplus ≡ length shares.taken = sym those.long in
    rw s (kept-surplus pools (less pools.surplus shares.taken) shares.mark pools.shrink kept
    (length-each (λ a b. a - b) pools.surplus shares.taken same ∙ kept.surpluses)
    (omega (arith, kept.surplus, sum-less pools.surplus shares.taken same those.at)) within
    kept.shrink)

pub adopting-is : (pools : PoolCounts) (nodes goal : ℕ) (shares : Shares) (surplus : List ℕ)
    → shares ≡ in_turn (min (goal - lasting pools) (sum pools.surplus)) nodes pools.grow
    pools.surplus → surplus ≡ less pools.surplus shares.taken
    → (let p : PoolCounts = record pools { surplus = surplus; grow = shares.mark } in p)
    ≡ adopt nodes goal pools
adopting-is pools nodes goal shares surplus is s = rw s (ap (adopting pools) is)

-- ---- fresh pages

pub fresh-room : (allowed : ℕ) (pools : PoolCounts) (shares : Shares) (times nodes : ℕ)
    → AreKept pools
    → shares ≡ in_turn times nodes pools.grow (on allowed (left_of pools.total))
    → (node : ℕ) → slice_index pools.total node + slice_index shares.taken node ≤ most
fresh-room allowed pools shares times nodes kept is node =
    let those : AreShares times (on allowed (left_of pools.total)) shares.taken =
    shares-are times nodes pools.grow (on allowed (left_of pools.total)) shares is in
    omega (
      arith,
      those.at node,
      on-le allowed (left_of pools.total) node,
      left-at pools.total node,
      kept.few node,
    )

pub kept-adding : (allowed : ℕ) (pools : PoolCounts) (times nodes : ℕ) (shares : Shares)
    (total free : List ℕ) → AreKept pools
    → shares ≡ in_turn times nodes pools.grow (on allowed (left_of pools.total))
    → shares.mark < 256 → total ≡ plus pools.total shares.taken
    → free ≡ plus pools.free shares.taken
    → AreKept (record pools { total = total; free = free; grow = shares.mark })
kept-adding allowed pools times nodes shares total free kept is within t f =
    let those : AreShares times (on allowed (left_of pools.total)) shares.taken =
    shares-are times nodes pools.grow (on allowed (left_of pools.total)) shares is in
    let long : length shares.taken ≡ 256 =
    those.long ∙ length-on allowed (left_of pools.total) ∙ length-left pools.total ∙ kept.totals in
    rw (t, f) (kept-plus pools shares.taken shares.mark kept long
    (fresh-room allowed pools shares times nodes kept is) within)

pub adding-is : (pools : PoolCounts) (nodes allowed goal : ℕ) (shares : Shares)
    (total free : List ℕ)
    → shares ≡ in_turn (goal - lasting pools) nodes pools.grow (on allowed (left_of pools.total))
    → total ≡ plus pools.total shares.taken → free ≡ plus pools.free shares.taken
    → (let p : PoolCounts = record pools { total = total; free = free; grow = shares.mark } in p)
    ≡ add_fresh nodes allowed goal pools
adding-is pools nodes allowed goal shares total free is t f = rw (t, f) (ap (adding pools) is)

-- ---- free pages that go

pub kept-dropping : (pools : PoolCounts) (nodes goal : ℕ) (shares : Shares)
    (total free : List ℕ) → AreKept pools
    → shares ≡ in_turn (lasting pools - max goal (used pools + pools.reserved)) nodes pools.shrink
    pools.free → shares.mark < 256 → total ≡ less pools.total shares.taken
    → free ≡ less pools.free shares.taken
    → AreKept (record pools { total = total; free = free; shrink = shares.mark })
kept-dropping pools nodes goal shares total free kept is within t f =
    let times : ℕ = lasting pools - max goal (used pools + pools.reserved) in
    let those : AreShares times pools.free shares.taken =
    shares-are times nodes pools.shrink pools.free shares is in
    let less_free : sum pools.free ≤ sum pools.total = frees-fit pools kept in
    let enough : sum shares.taken + pools.reserved ≤ sum pools.free =
    omega (arith, those.sum, less_free, kept.reserved) in
    let lasts : sum pools.surplus + sum shares.taken ≤ sum pools.total =
    omega (arith, those.sum, kept.surplus) in
    rw (t, f) (kept-less pools shares.taken pools.surplus pools.reserved shares.mark kept
    (those.long ∙ kept.frees) kept.surpluses those.at enough lasts within)

pub dropping-is : (pools : PoolCounts) (nodes goal : ℕ) (shares : Shares) (total free : List ℕ)
    → shares ≡ in_turn (lasting pools - max goal (used pools + pools.reserved)) nodes pools.shrink
    pools.free → total ≡ less pools.total shares.taken → free ≡ less pools.free shares.taken
    → (let p : PoolCounts = record pools { total = total; free = free; shrink = shares.mark } in p)
    ≡ drop_free nodes goal pools
dropping-is pools nodes goal shares total free is t f = rw (t, f) (ap (dropping pools) is)

-- ---- pages that become surplus

called-long : (pools : PoolCounts) (times nodes : ℕ) (shares : Shares) → AreKept pools
    → shares ≡ in_turn times nodes pools.shrink (less pools.total pools.surplus)
    → length shares.taken ≡ 256
called-long pools times nodes shares kept is =
    let even : length pools.total ≡ length pools.surplus = kept.totals ∙ sym kept.surpluses in
    let those : AreShares times (less pools.total pools.surplus) shares.taken =
    shares-are times nodes pools.shrink (less pools.total pools.surplus) shares is in
    those.long ∙ length-each (λ a b. a - b) pools.total pools.surplus even ∙ kept.totals

pub called-room : (pools : PoolCounts) (times nodes : ℕ) (shares : Shares) → AreKept pools
    → shares ≡ in_turn times nodes pools.shrink (less pools.total pools.surplus)
    → (node : ℕ) → slice_index pools.surplus node + slice_index shares.taken node < 2 ^ 64
called-room pools times nodes shares kept is node =
    let even : length pools.total ≡ length pools.surplus = kept.totals ∙ sym kept.surpluses in
    let those : AreShares times (less pools.total pools.surplus) shares.taken =
    shares-are times nodes pools.shrink (less pools.total pools.surplus) shares is in
    omega (
      arith,
      those.at node,
      less-at pools.total pools.surplus node even,
      kept.few node,
      at-le-sum pools.surplus node,
      kept.surplus,
      totals-fit pools kept,
    )

pub kept-calling : (pools : PoolCounts) (nodes goal : ℕ) (shares : Shares) (surplus : List ℕ)
    → AreKept pools
    → shares ≡ in_turn (lasting pools - goal) nodes pools.shrink (less pools.total pools.surplus)
    → shares.mark < 256 → surplus ≡ plus pools.surplus shares.taken
    → AreKept (record pools { surplus = surplus; shrink = shares.mark })
kept-calling pools nodes goal shares surplus kept is within s =
    let those : AreShares (lasting pools - goal) (less pools.total pools.surplus) shares.taken =
    shares-are (lasting pools - goal) nodes pools.shrink (less pools.total pools.surplus) shares is
    in
    let long : length shares.taken ≡ 256 =
    called-long pools (lasting pools - goal) nodes shares kept is in
    let same : length pools.surplus ≡ length shares.taken = kept.surpluses ∙ sym long in
    rw s (kept-surplus pools (plus pools.surplus shares.taken) pools.grow shares.mark kept
    (length-each (λ a b. a + b) pools.surplus shares.taken same ∙ kept.surpluses)
    (omega (arith, kept.surplus, those.sum, sum-plus pools.surplus shares.taken same)) kept.grow
    within)

pub calling-is : (pools : PoolCounts) (nodes goal : ℕ) (shares : Shares) (surplus : List ℕ)
    → shares ≡ in_turn (lasting pools - goal) nodes pools.shrink (less pools.total pools.surplus)
    → surplus ≡ plus pools.surplus shares.taken
    → (let p : PoolCounts = record pools { surplus = surplus; shrink = shares.mark } in p)
    ≡ call_surplus nodes goal pools
calling-is pools nodes goal shares surplus is s = rw s (ap (calling pools) is)
