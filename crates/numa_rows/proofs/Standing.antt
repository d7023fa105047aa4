-- Rows that stand together in a list.
use Rattle.std.proofs.Common.{◌≡◌, ℕ, ◌+◌, ◌-◌, ◌<◌, ◌≤◌, List, [], ◌∷◌, ◌++◌, length, take, drop}
use Rattle.std.proofs.Common.{get_or, refl, sym, ap, ◌∙◌, arith, length-append}
use Rattle.std.proofs.Math.ListN.{get_or-append}
use Rattle.std.proofs.lemmas.List.{ext_get_or, length-drop, length-take-le, get_or-take}
use Rattle.std.proofs.lemmas.List.{get_or-drop, take-append-drop, drop-append-le, drop-drop}
use Rattle.numa_rows.specs.Parts.{flat, HasRank}
use Rattle.numa_rows.specs.Searches.{StandAt}
use Rattle.numa_rows.proofs.InParts.{part-within, part-stands}
use Rattle.numa_rows.proofs.Windows.{drop-behind}

module _ {T : Type 0} where
  -- rows that stand in a part stand in the list
  pub stands-in-part : (parts : List (List T)) (part first rank start : ℕ) (chunk rows : List T)
      → HasRank parts part first rank → chunk ≡ get_or parts part chunk → StandAt chunk start rows
      → StandAt (flat parts) (first + start) rows
  stands-in-part parts part first rank start chunk rows has is stand =
      let all : StandAt (flat parts) first chunk = part-stands parts part first rank chunk chunk has
      is refl in
      record {
        within = omega (arith, stand.within, part-within parts part first rank chunk has is);
        each = λ k d below. stand.each k d below
            ∙ (all.each (start + k) d (omega (arith, below, stand.within))
            ∙ ap (λ n. get_or (flat parts) n d) {x = first + (start + k)} {y = first + start + k}
            (omega arith));
      }

  -- they are what stands there
  pub standing : (list rows : List T) (start : ℕ) → StandAt list start rows
      → rows ≡ take (length rows) (drop start list)
  standing list [] start stand = refl
  standing list (row ∷ rows) start stand =
      let long : length (row ∷ rows) ≤ length (drop start list) =
      omega (arith, length-drop start list, stand.within) in
      ext_get_or row (row ∷ rows) (take (length (row ∷ rows)) (drop start list))
      (sym (length-take-le (length (row ∷ rows)) (drop start list) long))
      (λ i below. stand.each i row below
      ∙ (sym (get_or-drop start list i row)
      ∙ sym (get_or-take (length (row ∷ rows)) (drop start list) i row below)))

  -- the rows from a place on are those of them from there on, and what stands behind them
  pub from-standing : (list rows : List T) (start place : ℕ) → StandAt list start rows
      → start ≤ place → place ≤ start + length rows → drop (place - start) rows
      ++ drop (start + length rows) list ≡ drop place list
  from-standing list rows start place stand from to =
      let behind : drop (length rows) (drop start list) ≡ drop (start + length rows) list =
      drop-drop (length rows) start list in
      let split : drop start list ≡ rows ++ drop (start + length rows) list =
      sym (take-append-drop (length rows) (drop start list))
      ∙ (ap (λ l. l ++ drop (length rows) (drop start list))
      (sym (standing list rows start stand)) ∙ ap (λ l. rows ++ l) behind) in
      sym (ap (λ n. drop n list) {x = place} {y = start + (place - start)} (omega (arith, from))
      ∙ (sym (drop-drop (place - start) start list)
      ∙ (ap (drop (place - start)) split
      ∙ drop-append-le (place - start) rows (drop (start + length rows) list) (omega (arith, to)))))

  -- rows that stand in the first part stand in the list
  pub stands-first : (chunk rows : List T) (rest : List (List T)) (start : ℕ)
      → StandAt chunk start rows → StandAt (flat (chunk ∷ rest)) start rows
  stands-first chunk rows rest start stand = record {
    within = omega (arith, stand.within, length-append chunk (flat rest));
    each = λ k d below. stand.each k d below
        ∙ sym (get_or-append chunk (flat rest) d (start + k) (omega (arith, below, stand.within)));
  }

  -- the first part's rows from a place on are read
  pub read-on : (chunks rest : List (List T)) (chunk rows part whole more : List T)
      (start gone new : ℕ) → chunks ≡ chunk ∷ rest → StandAt chunk start part → start ≤ gone
      → gone < start + length part → length rows ≡ 0 → more ≡ drop (gone - start) part
      → new ≡ gone + length more → rows ++ drop gone (flat chunks) ≡ whole
      → more ++ drop new (flat chunks) ≡ whole
  read-on chunks rest chunk [] part whole more start gone new is stand from to none so next held =
      let size : length more ≡ length part - (gone - start) = ap length so
      ∙ length-drop (gone - start) part in
      ap (λ l. l ++ drop new (flat chunks)) so
      ∙ (ap (λ n. drop (gone - start) part ++ drop n (flat chunks)) {x = new}
      {y = start + length part} (omega (arith, next, size, from, to))
      ∙ (ap (λ l. drop (gone - start) part ++ drop (start + length part) (flat l)) is
      ∙ (from-standing (flat (chunk ∷ rest)) part start gone
      (stands-first chunk part rest start stand) from (omega (arith, to))
      ∙ (ap (λ l. drop gone (flat l)) (sym is) ∙ held))))
  read-on chunks rest chunk (row ∷ rows) part whole more start gone new is stand from to none so
      next held = absurd (omega (arith, none))

  -- the first part is passed
  pub passed-on : (chunks rest : List (List T)) (chunk rows whole : List T) (gone left : ℕ)
      → chunks ≡ chunk ∷ rest → gone ≡ length chunk + left → rows ++ drop gone (flat chunks) ≡ whole
      → rows ++ drop left (flat rest) ≡ whole
  passed-on chunks rest chunk rows whole gone left is past held =
      ap (λ l. rows ++ l)
      (sym (ap (λ l. drop gone (flat l)) is
      ∙ (ap (λ n. drop n (chunk ++ flat rest)) past
      ∙ drop-behind chunk (flat rest) left)))
      ∙ held
