-- Turns of a cycle, by the table that it is kept in.
use Rattle.std.proofs.Common.{◌≡◌, ℕ, ◌+◌, ◌-◌, ◌<◌, ◌≤◌, ◌%◌, List, [], ◌∷◌, ◌++◌, length, get_or}
use Rattle.std.proofs.Common.{take, drop, ap, sym, ◌∙◌, arith, inl, inr}
use Rattle.std.specs.Simd.Lanes.{chunk, put_chunk}
use Rattle.std.proofs.Math.ListN.{get_or-append}
use Rattle.std.proofs.Math.Seq.{get_or-append_seam}
use Rattle.std.proofs.Math.Nat.{add-mod, mod-add-mod, mod-eq_of_lt}
use Rattle.std.proofs.lemmas.Bool.{cases_lt}
use Rattle.std.proofs.lemmas.Nat.{mod_below}
use Rattle.std.proofs.lemmas.List.{get_or-take, get_or-drop, length-take, length-take-le}
use Rattle.std.proofs.lemmas.Grind.{same_number_lists}
use Rattle.std.proofs.lemmas.Simd.{length-chunk, get_or-chunk, get_or-put_chunk_below}
use Rattle.std.proofs.lemmas.Simd.{get_or-put_chunk_at}

-- the turn after some more
pub turn_next : (s m n : ℕ) → (s % n + m % n) % n ≡ (s + m) % n
turn_next s m n = sym (add-mod s m n)

-- 64 pages more are on their turns' nodes
pub cycle_step : (table out : List ℕ) (s at len turn k : ℕ) → 0 < len → length table ≡ len + 64
    → ((i : ℕ) → i < len + 64 → get_or table i 0 ≡ get_or table (i % len) 0) → turn ≡ (s + at) % len
    → at + 64 ≤ length out → ((j : ℕ) → j < at → get_or out j 0 ≡ get_or table ((s + j) % len) 0)
    → k < at + 64 → get_or (put_chunk at out (chunk turn 64 table)) k 0
    ≡ get_or table ((s + k) % len) 0
cycle_step table out s at len turn k pos long turns is room before lt =
    let low : turn < len = omega (arith, mod_below (s + at) len pos) in
    let wide : length (chunk turn 64 table) ≡ 64 = length-chunk turn 64 table (omega arith) in
    elim (cases_lt k at) [
      | inl h ↦ get_or-put_chunk_below at out (chunk turn 64 table) k 0 h ∙ before k h
      | inr h ↦
          let j : ℕ = k - at in
          let e : at + j ≡ k = omega arith in
          let small : j < 64 = omega arith in
          let inside : j < length (chunk turn 64 table) = omega arith in
          let fits : at + length (chunk turn 64 table) ≤ length out = omega arith in
          let near : turn + j < len + 64 = omega arith in
          let sum : s + at + j ≡ s + k = omega arith in
          ap (λ n. get_or (put_chunk at out (chunk turn 64 table)) n 0) (sym e)
          ∙ get_or-put_chunk_at at out (chunk turn 64 table) j 0 inside fits
          ∙ get_or-chunk turn 64 table j 0 small ∙ turns (turn + j) near
          ∙ ap (λ n. get_or table n 0) (ap (λ q. (q + j) % len) is ∙ mod-add-mod (s + at) len j
          ∙ ap (λ n. n % len) sum)
    ]

-- one more entry of a list, in its turn
pub turn_added : (entries table new : List ℕ) (turn : ℕ) → length table ≡ turn
    → new ≡ table ++ get_or entries (turn % length entries) 0 ∷ []
    → ((j : ℕ) → j < turn → get_or table j 0 ≡ get_or entries (j % length entries) 0)
    → (j : ℕ) → j < turn + 1 → get_or new j 0 ≡ get_or entries (j % length entries) 0
turn_added entries table new turn size is before j lt =
    let next : ℕ = get_or entries (turn % length entries) 0 in
    ap (λ l. get_or l j 0) is
    ∙ elim (cases_lt j turn) [
      | inl h ↦ get_or-append table (next ∷ []) 0 j (omega (arith, size)) ∙ before j h
      | inr h ↦
          let at : j ≡ turn = omega arith in
          ap (λ n. get_or (table ++ next ∷ []) n 0) {x = j} {y = length table} (omega (arith, size))
          ∙ (get_or-append_seam table next [] 0
          ∙ ap (λ n. get_or entries (n % length entries) 0) (sym at))
    ]

-- a list whose entries are those of another, in turn, begins with that other list
pub front_is : (entries table : List ℕ) (size : ℕ) → length entries ≤ size → length table ≡ size
    → ((j : ℕ) → j < size → get_or table j 0 ≡ get_or entries (j % length entries) 0)
    → take (length entries) table ≡ entries
front_is entries table size le long same =
    let fits : length (take (length entries) table) ≡ length entries =
    length-take-le (length entries) table (omega arith) in
    same_number_lists (take (length entries) table) entries fits
    (λ k lt.
    let near : k < length entries = omega arith in
    let far : k < size = omega arith in
    get_or-take (length entries) table k 0 near ∙ same k far
    ∙ ap (λ i. get_or entries i 0) (mod-eq_of_lt near))

-- a turn of the table is the same turn of the cycle that it begins with
pub turn_of_front : (table cycle : List ℕ) (len turn : ℕ) → 0 < len → length table ≡ len + 64
    → take len table ≡ cycle → get_or table (turn % len) 0 ≡ get_or cycle (turn % length cycle) 0
turn_of_front table cycle len turn some long front =
    let wide : length cycle ≡ len = sym (ap length front)
    ∙ length-take-le len table (omega arith) in
    sym (get_or-take len table (turn % len) 0 (omega (arith, mod_below turn len some)))
    ∙ ap (λ l. get_or l (turn % len) 0) front ∙ ap (λ n. get_or cycle (turn % n) 0) (sym wide)

-- turns that follow one another stand so in the table
pub turns_at : (table cycle : List ℕ) (len start count : ℕ) → 0 < len → length table ≡ len + 64
    → ((i : ℕ) → i < len + 64 → get_or table i 0 ≡ get_or table (i % len) 0)
    → take len table ≡ cycle → count ≤ 64
    → (k : ℕ) → k < length (take (start % len + count - start % len) (drop (start % len) table))
    → get_or (take (start % len + count - start % len) (drop (start % len) table)) k 0
    ≡ get_or cycle ((start + k) % length cycle) 0
turns_at table cycle len start count some long again front few k lt =
    let low : start % len < len = mod_below start len some in
    let short : length (take (start % len + count - start % len) (drop (start % len) table))
    ≤ start % len + count - start % len = simp length-take (omega arith) in
    let size : k < start % len + count - start % len = omega (arith, lt, short) in
    get_or-take (start % len + count - start % len) (drop (start % len) table) k 0 size
    ∙ get_or-drop (start % len) table k 0
    ∙ again (start % len + k) (omega (arith, low, size))
    ∙ ap (λ n. get_or table n 0) (mod-add-mod start len k)
    ∙ turn_of_front table cycle len (start + k) some long front
