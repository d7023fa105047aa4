-- The search for the number of whole rounds.
use Rattle.std.proofs.Common.{◌≡◌, ℕ, ◌-◌, ◌<◌, ◌≤◌, Bool, true, false, List, ap, arith}
use Rattle.std.proofs.Common.{sym}
use Rattle.std.specs.Prelude.{if◌then◌else◌, nat_lt}
use Rattle.std.proofs.lemmas.Bool.{ltb-false, ltb-true}
use Rattle.numa_pools.specs.Rounds.{turns_within}

-- the lower number of rounds is too few for so many turns, and the higher one is enough
pub record AreAround (times : ℕ) (room : List ℕ) (low high : ℕ) : Type 0 where
  pub order : low < high
  pub most : high ≤ times
  pub few : turns_within low room < times
  pub enough : times ≤ turns_within high room

-- the numbers after a look at one between them
pub narrowed : (times : ℕ) (room : List ℕ) (low high middle low' high' : ℕ) (few : Bool)
    → AreAround times room low high → low < middle → middle < high
    → few ≡ nat_lt (turns_within middle room) times
    → low' ≡ (if few then middle else low) → high' ≡ (if few then high else middle)
    → AreAround times room low' high' × (high' - low' < high - low)
narrowed times room low high middle low' high' true so above below test l h =
    let short : turns_within middle room < times =
    ltb-true (turns_within middle room) times (sym test) in
    let a : turns_within low' room ≡ turns_within middle room =
    ap (λ (n : ℕ). turns_within n room) l in
    let b : turns_within high' room ≡ turns_within high room =
    ap (λ (n : ℕ). turns_within n room) h in (
      record {
        order = omega (arith, l, h, below);
        most = omega (arith, h, so.most);
        few = omega (arith, a, short);
        enough = omega (arith, b, so.enough);
      },
      omega (arith, l, h, above, below),
    )
narrowed times room low high middle low' high' false so above below test l h =
    let long : times ≤ turns_within middle room =
    ltb-false (turns_within middle room) times (sym test) in
    let a : turns_within low' room ≡ turns_within low room =
    ap (λ (n : ℕ). turns_within n room) l in
    let b : turns_within high' room ≡ turns_within middle room =
    ap (λ (n : ℕ). turns_within n room) h in (
      record {
        order = omega (arith, l, h, above);
        most = omega (arith, h, below, so.most);
        few = omega (arith, a, so.few);
        enough = omega (arith, b, long);
      },
      omega (arith, l, h, above, below),
    )
