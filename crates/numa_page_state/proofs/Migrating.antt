-- Pages that leave a set of nodes for another, with rooms or without.
use Rattle.std.proofs.Common.{◌≡◌, ℕ, zero, suc, ◌*◌, ◌<◌, ◌≤◌, ◌^◌, ◌==◌, Bool}
use Rattle.std.proofs.Common.{Option, Some, None, refl}
use Rattle.std.proofs.Common.{ap, subst, ◌∙◌, arith, inl, inr}
use Rattle.std.proofs.lemmas.Bool.{cases_Bool}
use Rattle.numa_placed.proofs.Shared.{count-le}
use Rattle.numa_placed.specs.Laid.{Laid}
use Rattle.numa_placed.specs.Shifts.{is_stated, room_of}
use Rattle.std.specs.Prelude.{Result, Ok, Err, IfErr, IfOk, OnErr, OnOk}
use Rattle.numa_placed.specs.Moves.{IsMove, goes, goes_from, moved_node, moved_spot}
use Rattle.numa_placed.specs.Refusals.{IsRefusal, first_of}
use Rattle.numa_placed.specs.Shifts.{AreRooms, IsShift, shift_of, shifted, stated_on, stay_on}
use Rattle.numa_placed.specs.Shifts.{sum_below}
use Rattle.numa_placed.specs.Spots.{pages_where, spot_at}
use Rattle.numa_placed.specs.declared.moved.Moved.{Moved}
use Rattle.numa_requests.specs.declared.page_refusal.PlacedRefusal.{PlacedRefusal}
use Rattle.numa_placed.specs.declared.rooms.Rooms.{Rooms}
use Rattle.numa_placed.specs.declared.spot.Spot.{Spot}
use Rattle.numa_page_state.specs.Lying.{filling_motion, free_motion}
use Rattle.numa_page_state.specs.Standing.{Migrates, Moves}
use Rattle.numa_page_state.proofs.Judged.{cause-none, cause-told}

-- nothing stands against a move
abbrev pub IsFree : Option PlacedRefusal → Type 0
IsFree first = first ≡ None

pub always-free : (result : Result Moved PlacedRefusal) → OnOk result (IsFree None)
always-free (Ok moved) = refl
always-free (Err refusal) = tt

-- ---- few pages stay

sum-le : (n : ℕ) (f : ℕ → ℕ) → ((node : ℕ) → f node ≤ 34359738368)
    → sum_below n f ≤ n * 34359738368
unfolding sum_below
sum-le zero f each = omega arith
sum-le (suc n) f each = omega (arith, sum-le n f each, each n)

stay-le : (go count gone : ℕ → ℕ) → ((node : ℕ) → count node ≤ 34359738368) → (node : ℕ)
    → stay_on go count gone node ≤ 34359738368
stay-le go count gone each node =
    elim (cases_Bool (go node == node)) [
      | inl t ↦ rw t (omega arith)
      | inr e ↦ rw e (omega (arith, each node))
    ]

where-le : (test : Spot → Bool) (spots : ℕ → Spot) → pages_where test spots ≤ 34359738368
where-le test spots = count-le (λ page. test (spots page)) 0 (2 ^ 35)

few-filling : (go gone : ℕ → ℕ) (spots : ℕ → Spot) (left : ℕ)
    → left ≡ sum_below 256 (stay_on go (stated_on spots) gone) → left < 2 ^ 62
few-filling go gone spots left is =
    let stay = sum-le 256 (stay_on go (stated_on spots) gone)
    (stay-le go (stated_on spots) gone (λ node. where-le (is_stated node) spots)) in
    omega (arith, is, stay)

module _ (old new : Laid) (from to : ℕ) (first : Option PlacedRefusal) where
  -- ---- no node fills

  moves-freely : (spots : ℕ → Spot) (moved : Moved) → ((page : ℕ) → spot_at old page ≡ spots page)
      → IsMove (spot_at old) (moved_node from to) (spot_at new) moved
      → Moves new None moved (free_motion spots from to)
  moves-freely spots moved same is =
      let alike : spot_at old ≡ spots = λ i page. same page i in
      let go = moved_node from to in
      record {
        spots = λ page. is.pages page ∙ ap (moved_spot go) (same page);
        room = tt;
        told = record {
          moved = is.tally.moved ∙ ap (pages_where (goes go)) alike;
          left = is.tally.left;
          from = λ node small. is.tally.from node small
              ∙ ap (pages_where (goes_from go node)) alike;
          to = is.tally.to;
        };
        few = omega (arith, is.tally.left);
      }

  pub migrates-freely : (result : Result Moved PlacedRefusal)
      → IfOk result (λ moved. (first ≡ None)
      × IsMove (spot_at old) (moved_node from to) (spot_at new) moved)
      → IfErr result (λ refusal. first ≡ Some refusal) → OnErr result (new ≡ old)
      → Migrates old None from to first result new None
  migrates-freely (Ok moved) ok err same spots None alike have = (
    ap (λ (c : Option PlacedRefusal). first_of c None) ok.0,
    moves-freely spots moved alike ok.1,
  )
  migrates-freely (Err refusal) ok err same spots None alike have =
      (ap (λ (c : Option PlacedRefusal). first_of c None) err, same, refl)
  migrates-freely result ok err same spots (Some room) alike have = absurd have

  -- ---- as far as there is room

  moves-filling : (spots : ℕ → Spot) (room : ℕ → ℕ) (rooms : Rooms) (moved : Moved)
      → spot_at old ≡ spots → IsShift (spot_at old) from to room (spot_at new) rooms moved
      → Moves new (Some rooms) moved (filling_motion spots room from to)
  moves-filling spots room rooms moved alike is =
      subst (λ (s : ℕ → Spot). Moves new (Some rooms) moved (filling_motion s room from to)) alike
      (record {
        spots = is.pages;
        room = is.room;
        told = record {
          moved = is.tally.moved;
          left = is.tally.left;
          from = is.tally.from;
          to = is.tally.to;
        };
        few = few-filling (moved_node from to)
            (shift_of (spot_at old) from to room).gone (spot_at old) moved.left is.tally.left;
      })

  pub migrates-filling : (rooms rooms_then : Rooms) (result : Result Moved PlacedRefusal)
      → OnOk result (first ≡ None)
      → ((room : ℕ → ℕ) → AreRooms rooms room → IfOk result
      (IsShift (spot_at old) from to room (spot_at new) rooms_then))
      → ((room : ℕ → ℕ) → AreRooms rooms room → IfErr result
      (IsRefusal first (shifted (spot_at old) from to room)))
      → OnErr result (new ≡ old) → OnErr result (rooms_then ≡ rooms)
      → Migrates old (Some rooms) from to first result new (Some rooms_then)
  migrates-filling rooms rooms_then result free ok err same kept spots None alike have = absurd have
  migrates-filling rooms rooms_then (Ok moved) free ok err same kept spots (Some room) alike have =
      let all : spot_at old ≡ spots = λ i page. alike page i in
      let is = ok room have in (
        cause-none first (shifted spots from to room) free,
        moves-filling spots room rooms_then moved all is,
      )
  migrates-filling rooms rooms_then (Err refusal) free ok err same kept spots (Some room) alike
      have =
      let all : spot_at old ≡ spots = λ i page. alike page i in
      let is : IsRefusal first (shifted spots from to room) refusal =
      subst (λ (s : ℕ → Spot). IsRefusal first (shifted s from to room) refusal) all
      (err room have) in
      (cause-told first (shifted spots from to room) refusal is, same, ap Some kept)

-- few pages stay in every move that was done
pub few-left : (old new : Laid) (rooms rooms_then : Option Rooms) (from to : ℕ)
    (first : Option PlacedRefusal) (moved : Moved)
    → Migrates old rooms from to first (Ok moved) new rooms_then → moved.left < 2 ^ 62
few-left old new None rooms_then from to first moved is =
    (is (spot_at old) None (λ page. refl) tt).1.few
few-left old new (Some rooms) rooms_then from to first moved is =
    (is (spot_at old) (Some (room_of rooms)) (λ page. refl) (λ node small. refl)).1.few

-- nothing has changed by one that was refused
pub denied-still : (old new : Laid) (rooms rooms_then : Option Rooms) (from to : ℕ)
    (first : Option PlacedRefusal) (refusal : PlacedRefusal)
    → Migrates old rooms from to first (Err refusal) new rooms_then
    → (new ≡ old) × (rooms_then ≡ rooms)
denied-still old new None rooms_then from to first refusal is =
    let kept = is (spot_at old) None (λ page. refl) tt in
    (kept.1, kept.2)
denied-still old new (Some rooms) rooms_then from to first refusal is =
    let kept = is (spot_at old) (Some (room_of rooms)) (λ page. refl) (λ node small. refl) in
    (kept.1, kept.2)
