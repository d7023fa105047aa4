-- A row by its rank: the rows from it on, and another row in its place.
use Rattle.std.proofs.Common.{◌≡◌, ℕ, suc, ◌+◌, ◌-◌, ◌<◌, List, [], ◌∷◌, ◌++◌, length, take, drop}
use Rattle.std.proofs.Common.{set, get_or, sym, ap, ◌∙◌, arith}
use Rattle.std.proofs.lemmas.List.{take-append-drop, set_split}
use Rattle.std.proofs.lemmas.List.Concat.{flat_map-append}
use Rattle.std.proofs.Math.ListN.{length-set}
use Rattle.numa_rows.specs.Parts.{flat, IsTable, HasRank, HasSpan}
use Rattle.numa_rows.proofs.InParts.{part-within}
use Rattle.numa_rows.proofs.Windows.{drop-behind, table-set}
use Rattle.numa_rows.proofs.Editing.{put-one}

module _ {T : Type 0} where
  pub rows-from : (parts : List (List T)) (part first rank : ℕ) → HasRank parts part first rank
      → drop (rank - first) (flat (drop part parts)) ≡ drop rank (flat parts)
  rows-from parts part first rank has =
      let front = flat (take part parts) in
      let all : flat parts ≡ front ++ flat (drop part parts) =
      ap flat (sym (take-append-drop part parts)) ∙ flat_map-append (λ p. p) (take part parts)
      (drop part parts) in
      sym (ap (drop rank) all
      ∙ (ap (λ n. drop n (front ++ flat (drop part parts))) {x = rank}
      {y = length front + (rank - first)} (omega (arith, has.before, has.from))
      ∙ drop-behind front (flat (drop part parts)) (rank - first)))

  pub set-one : (parts new : List (List T)) (chunk made : List T) (row : T) (part first rank : ℕ)
      → HasRank parts part first rank → chunk ≡ get_or parts part chunk → new ≡ set parts part made
      → made ≡ set chunk (rank - first) row → flat new ≡ set (flat parts) rank row
  set-one parts new chunk made row part first rank has is put so =
      let span : HasSpan parts part first rank (suc rank) =
      record {
        within = has.within;
        before = has.before;
        low = has.from;
        rises = omega arith;
        high = λ d. omega (arith, has.to d);
      } in
      let inside : rank - first < length chunk =
      omega (arith, has.to chunk, ap length is, has.from) in
      let spliced : made ≡ take (rank - first) chunk
      ++ ((row ∷ []) ++ drop (suc rank - first) chunk) =
      so ∙ (set_split chunk (rank - first) row inside
      ∙ ap (λ n. take (rank - first) chunk ++ row ∷ drop n chunk) {x = suc (rank - first)}
      {y = suc rank - first} (omega (arith, has.from))) in
      put-one parts new (row ∷ []) chunk made part first rank (suc rank) span is put spliced
      ∙ sym
      (set_split (flat parts) rank row
      (omega (arith, part-within parts part first rank chunk has is, inside, has.from)))

  pub set-table : (most : ℕ) (parts new : List (List T)) (starts : List ℕ) (len : ℕ)
      (chunk made : List T) (row : T) (part first rank : ℕ) → IsTable most parts starts len
      → HasRank parts part first rank → chunk ≡ get_or parts part chunk → new ≡ set parts part made
      → made ≡ set chunk (rank - first) row → IsTable most new starts len
  set-table most parts new starts len chunk made row part first rank table has is put so =
      table-set most parts new starts len part made chunk table has.within put
      (ap length so ∙ (length-set chunk (rank - first) row ∙ ap length is))
