-- How what a server is given of the open line grows piece by piece.
use Rattle.std.specs.Prelude.{◌≡◌, ◌==◌, ℕ, ◌-◌, ◌<◌, ◌≤◌, ◌++◌, List, [], ◌∷◌, length, take}
use Rattle.std.specs.Prelude.{min, refl, true}
use Rattle.std.proofs.Common.{sym, ◌∙◌, ap, arith}
use Rattle.std.proofs.Math.Seq.{take-append-add}
use Rattle.std.proofs.lemmas.Bool.Decides.{nat_tests}
use Rattle.std.proofs.lemmas.List.{take_all, take-append-le, length-take-le}
use Rattle.numa_lines.specs.Lines.{given_part}

take_short : (n : ℕ) (line : List ℕ) → length (take n line) < n → length line < n
take_short n line h = grind (arith, length-take-le n line)

take_full : (n : ℕ) (line : List ℕ) → n ≤ length (take n line) → n ≤ length line
take_full n line h =
    let all : length line ≤ n → length (take n line) ≡ length line =
    λ le. ap length (take_all n line le) in
    grind (arith, all)

-- as much of a piece as there is room for
take_room : (n : ℕ) (more : List ℕ) → take (min (length more) n) more ≡ take n more
take_room n more =
    let all : length more ≤ n → take n more ≡ more = take_all n more in
    let whole : take (length more) more ≡ more = take_all (length more) more (omega arith) in
    grind (arith, all, whole)

short_more : (n : ℕ) (items line more : List ℕ) → length items < n → items ≡ take n line
    → items ++ take (min (length more) (n - length items)) more ≡ take n (line ++ more)
short_more n items line more h e =
    let few : length line < n = take_short n line (omega (arith, h, ap length e)) in
    let same : items ≡ line = e ∙ take_all n line (omega (arith, few)) in
    ap (λ l. items ++ l) (take_room (n - length items) more)
    ∙ sym (take-append-add items more (n - length items))
    ∙ ap (λ k. take k (items ++ more)) (omega (arith, h)) ∙ ap (λ l. take n (l ++ more)) same

pub seen_more : (items line more : List ℕ) → length items < 4097 → items ≡ given_part line
    → items ++ take (min (length more) (4097 - length items)) more ≡ given_part (line ++ more)
unfolding given_part
seen_more items line more h e = short_more 4097 items line more h e

pub seen_full : (items line more : List ℕ) → 4097 ≤ length items → items ≡ given_part line
    → items ≡ given_part (line ++ more)
unfolding given_part
seen_full items line more h e =
    e ∙ sym (take-append-le 4097 line more (take_full 4097 line (omega (arith, h, ap length e))))

none_seen : (n : ℕ) (line : List ℕ) → 0 < n → [] ≡ take n line → line ≡ []
none_seen n line some e =
    let few : length line < n = take_short n line (omega (arith, some, ap length e)) in
    sym (take_all n line (omega (arith, few))) ∙ sym e

-- a line of which nothing was held, and that is whole
pub seen_whole : (held bytes : List ℕ) → held ≡ [] → length bytes ≤ 4097 → (line : List ℕ)
    → held ≡ given_part line → bytes ≡ given_part (line ++ bytes)
unfolding given_part
seen_whole held bytes none le line e =
    let empty : line ≡ [] = none_seen 4097 line (omega arith) (sym none ∙ e) in
    sym (ap (λ l. take 4097 (l ++ bytes)) empty ∙ take_all 4097 bytes le)

-- nothing is held
pub none_held : (held : List ℕ) → (length held == 0) ≡ true → held ≡ []
none_held [] h = refl
none_held (b ∷ bs) h = grind (arith, nat_tests)
