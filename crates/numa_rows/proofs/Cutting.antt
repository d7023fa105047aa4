-- What is left where rows behind one are taken out.
use Rattle.std.proofs.Common.{◌≡◌, ℕ, zero, suc, ◌+◌, ◌-◌, ◌<◌, ◌≤◌, List, [], ◌∷◌, ◌++◌, length}
use Rattle.std.proofs.Common.{take, drop, set, get_or, sym, ap, subst, ◌∙◌, arith, suc}
use Rattle.std.proofs.Common.{append_assoc, append-nil}
use Rattle.std.proofs.Math.Seq.{take-append-add}
use Rattle.std.proofs.Math.ListN.{length-set}
use Rattle.std.proofs.lemmas.List.{take-append-drop, take_more, take_more_set, take_all, take-take}
use Rattle.std.proofs.lemmas.List.{take-append-le, length-take-le}
use Rattle.std.proofs.lemmas.List.Concat.{flat_map-append}
use Rattle.numa_rows.specs.Parts.{flat, starts_from, AreFilled, IsTable, HasRank}
use Rattle.numa_rows.proofs.InParts.{length-starts}
use Rattle.numa_rows.proofs.Windows.{flat-at, starts-append, filled-append, filled-take, long-take}

module _ {T : Type 0} where
  pub most-at : (most : ℕ) (parts : List (List T)) (i : ℕ) (d : List T) → i < length parts
      → AreFilled most parts → length (get_or parts i d) ≤ most
  most-at most [] i d within a = absurd (omega arith)
  most-at most (p ∷ parts) zero d within a = a.1
  most-at most (p ∷ parts) (suc i) d within a = most-at most parts i d (omega arith) a.3

  -- the parts that stay: those before the last as they were, and the front of the last
  pub kept-parts : (parts cut new : List (List T)) (part : ℕ) (made : List T) → part < length parts
      → cut ≡ take (part + 1) parts → new ≡ set cut part made → new ≡ take part parts ++ made ∷ []
  kept-parts parts cut new part made within is put =
      let size : length cut ≡ part + 1 = ap length is
      ∙ length-take-le (part + 1) parts (omega arith) in
      let short : part < length cut = omega (arith, size) in
      let whole : take (part + 1) (set cut part made) ≡ take part cut ++ made ∷ [] =
      take_more_set cut part made short in
      let same : take (part + 1) new ≡ new =
      take_all (part + 1) new (omega (arith, size, ap length put, length-set cut part made)) in
      let front : take part cut ≡ take part parts = ap (take part) is
      ∙ take-take part (part + 1) parts (omega arith) in
      sym same ∙ (ap (take (part + 1)) put ∙ (whole ∙ ap (λ l. l ++ made ∷ []) front))

  pub kept-rows : (parts new : List (List T)) (part first rank : ℕ) (chunk made : List T)
      → HasRank parts part first rank → chunk ≡ get_or parts part chunk
      → made ≡ take (rank - first + 1) chunk → new ≡ take part parts ++ made ∷ []
      → flat new ≡ take (rank + 1) (flat parts)
  kept-rows parts new part first rank chunk made has is cut so =
      let front = flat (take part parts) in
      let behind = flat (drop (suc part) parts) in
      let n = rank - first + 1 in
      let place : length front + n ≡ rank + 1 = omega (arith, has.before, has.from) in
      let fits : n ≤ length chunk = omega (arith, has.to chunk, ap length is, has.from) in
      let whole : flat parts ≡ front ++ (chunk ++ behind) = flat-at parts part chunk has.within
      ∙ ap (λ l. front ++ (l ++ behind)) (sym is) in
      let left : flat new ≡ front ++ made = ap flat so
      ∙ (flat_map-append (λ p. p) (take part parts) (made ∷ [])
      ∙ ap (λ l. front ++ l) (append-nil made)) in
      let right : take (rank + 1) (flat parts) ≡ front ++ take n chunk =
      ap (take (rank + 1)) whole
      ∙ (ap (λ k. take k (front ++ (chunk ++ behind))) (sym place)
      ∙ (take-append-add front (chunk ++ behind) n
      ∙ ap (λ l. front ++ l) (take-append-le n chunk behind fits))) in
      left ∙ (ap (λ l. front ++ l) cut ∙ sym right)

  pub kept-table : (most : ℕ) (parts new : List (List T)) (starts fresh : List ℕ)
      (len part first rank : ℕ) (chunk made : List T) → IsTable most parts starts len
      → HasRank parts part first rank → chunk ≡ get_or parts part chunk
      → made ≡ take (rank - first + 1) chunk
      → new ≡ take part parts ++ made ∷ [] → fresh ≡ take (part + 1) starts → rank < len
      → flat new ≡ take (rank + 1) (flat parts) → IsTable most new fresh (rank + 1)
  kept-table most parts new starts fresh len part first rank chunk made table has is cut so cut'
      below rows =
      let fits : length chunk ≤ most =
      omega (arith, ap length is, most-at most parts part chunk has.within table.filled) in
      let size : length (starts_from 0 parts) ≡ length parts = length-starts 0 parts in
      let n = rank - first + 1 in
      let inside : n ≤ length chunk = omega (arith, has.to chunk, ap length is, has.from) in
      let made-size : length made ≡ n = ap length cut ∙ length-take-le n chunk inside in
      let around : parts ≡ take part parts ++ (get_or parts part chunk ∷ drop (part + 1) parts) =
      sym (take-append-drop (part + 1) parts)
      ∙ (ap (λ l. l ++ drop (part + 1) parts) (take_more parts part chunk has.within)
      ∙ append_assoc (take part parts) (get_or parts part chunk ∷ [])
      (drop (part + 1) parts)) in
      let start = 0 + length (flat (take part parts)) in
      let rest = starts_from (start + length (get_or parts part chunk)) (drop (part + 1) parts) in
      let fronts : starts_from 0 parts ≡ starts_from 0 (take part parts) ++ start ∷ rest =
      ap (starts_from 0) around ∙ starts-append 0 (take part parts)
      (get_or parts part chunk ∷ drop (part + 1) parts) in
      let ahead : length (starts_from 0 (take part parts)) ≡ part =
      length-starts 0 (take part parts)
      ∙ length-take-le part parts (omega (arith, has.within)) in
      let whole : take (part + 1) (starts_from 0 parts) ≡ starts_from 0 (take part parts) ++ start
      ∷ [] =
      ap (take (part + 1)) fronts
      ∙ (ap (λ k. take (k + 1) (starts_from 0 (take part parts) ++ start ∷ rest)) (sym ahead)
      ∙ take-append-add (starts_from 0 (take part parts)) (start ∷ rest) 1) in
      record {
        ranks = cut'
            ∙ (ap (take (part + 1)) table.ranks
            ∙ (whole
            ∙ (sym (starts-append 0 (take part parts) (made ∷ [])) ∙ ap (starts_from 0) (sym so))));
        count =
            sym (ap length rows ∙ length-take-le (rank + 1) (flat parts)
            (omega (arith, table.count, below)));
        small = omega (arith, table.small, below);
        filled =
            subst (AreFilled most) (sym so)
            (filled-append most (take part parts) (made ∷ [])
            (filled-take most part parts table.filled)
            (λ any. long-take most part parts (λ some. has.within) table.filled) (
              omega (arith, made-size),
              omega (arith, made-size, fits, inside),
              (λ next. absurd (omega (arith, next))),
              tt,
            ));
      }
