-- A line says no more than its first 4,097 bytes.
use Rattle.std.specs.Prelude.{◌≡◌, ℕ, ◌<◌, ◌≤◌, true, false, List, [], ◌∷◌, length, take, nat_lt}
use Rattle.std.specs.Prelude.{nat_le, cond, refl}
use Prim.Native.Nat.{suc}
use Rattle.std.proofs.Common.{sym, ◌∙◌, ap, arith}
use Rattle.std.proofs.lemmas.List.{take_all, length-take-le}
use Rattle.std.proofs.lemmas.Bool.Decides.{nat_tests}
use Rattle.numa_script.specs.Lines.{alone, is_silent, line_of}
use Rattle.numa_script.specs.declared.line.Line.TheVariants.{Silent, Malformed}
use Rattle.numa_lines.specs.Lines.{given_part}

silent_take : (n : ℕ) (line : List ℕ) → is_silent (take (suc n) line) ≡ is_silent line
silent_take n [] = refl
silent_take n (b ∷ bs) = refl

seen_silent : (line : List ℕ) → is_silent (given_part line) ≡ is_silent line
unfolding given_part
seen_silent line = silent_take 4096 line

seen_short : (line : List ℕ) → length line ≤ 4097 → given_part line ≡ line
unfolding given_part
seen_short line h = take_all 4097 line h

seen_long : (line : List ℕ) → 4097 ≤ length line → length (given_part line) ≡ 4097
unfolding given_part
seen_long line h = length-take-le 4097 line h

line_of_long : (line : List ℕ) → 4096 < length line → line_of line
    ≡ cond (is_silent line) (alone Silent) (alone Malformed)
unfolding line_of
line_of_long line h =
    let e : nat_lt 4096 (length line) ≡ true = grind (arith, nat_tests) in
    rw e refl

-- what a line says shows in as much of it as is kept
pub line_of_seen : (line : List ℕ) → line_of (given_part line) ≡ line_of line
line_of_seen line =
    elim (nat_le (length line) 4097) as (λ t. nat_le (length line) 4097 ≡ t
    → line_of (given_part line) ≡ line_of line) [
      | true ↦ λ t. (let few : length line ≤ 4097 = grind (arith, nat_tests, t) in
          ap line_of (seen_short line few))
      | false ↦ λ t.
          (let many : 4097 < length line = grind (arith, nat_tests, t) in
          line_of_long (given_part line) (omega (arith, seen_long line (omega arith)))
          ∙ ap (λ s. cond s (alone Silent) (alone Malformed)) (seen_silent line)
          ∙ sym (line_of_long line (omega arith)))
    ] refl
