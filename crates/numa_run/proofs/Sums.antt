-- The sum of two numbers of 64 bits, spelt in two parts where it has more.
use Rattle.std.proofs.Common.{◌≡◌, ℕ, ◌+◌, ◌<◌, ◌≤◌, ◌^◌, List, ◌++◌, sym, ap, ◌∙◌}
use Rattle.std.proofs.Common.{append_assoc, arith}
use Rattle.std.proofs.lemmas.Fmt.{decimal_digit, decimal_step_wide}
use Rattle.std.specs.Prelude.{◌/◌, ◌%◌, decimal}

-- all digits but the last, and the last
decimal-split : (n : ℕ) → 10 ≤ n → n < 10 ^ 64 → decimal n ≡ decimal (n / 10) ++ decimal (n % 10)
decimal-split n many few = decimal_step_wide n many few
    ∙ ap (λ (digits : List ℕ). decimal (n / 10) ++ digits)
    (sym (decimal_digit (n % 10) (omega arith)))

pub sum-split : (text : List ℕ) (one other : ℕ) → 10 ≤ one + other → one + other < 10 ^ 64
    → (text ++ decimal (one / 10 + other / 10 + (one % 10 + other % 10) / 10))
    ++ decimal ((one % 10 + other % 10) % 10) ≡ text ++ decimal (one + other)
sum-split text one other many few =
    let front : one / 10 + other / 10 + (one % 10 + other % 10) / 10 ≡ (one + other) / 10 =
    omega arith in
    let last : (one % 10 + other % 10) % 10 ≡ (one + other) % 10 = omega arith in
    append_assoc text (decimal (one / 10 + other / 10 + (one % 10 + other % 10) / 10))
    (decimal ((one % 10 + other % 10) % 10))
    ∙ (λ i. text ++ (decimal (front i) ++ decimal (last i)))
    ∙ ap (λ (digits : List ℕ). text ++ digits) (sym (decimal-split (one + other) many few))
