-- Marks before the lines of a text, byte by byte.
use Rattle.std.proofs.Common.{◌≡◌, ℕ, ◌==◌, Bool, true, false, Option, Some, None, List, [], ◌∷◌}
use Rattle.std.proofs.Common.{◌++◌, codes, ◌∙◌, length, get_or, arith, ap, refl}
use Rattle.std.specs.Prelude.{position}
use Rattle.std.specs.List.{position_or_len}
use Rattle.std.proofs.lemmas.Bool.{lt-ltb, le-ltb}
use Rattle.std.proofs.lemmas.List.{append_assoc, append-nil}
use Rattle.std.proofs.lemmas.List.Sums.{position_or_len_is}
use Rattle.memchr.specs.Find.{IsFirstByte, is_byte}
use Rattle.numa_lines.specs.Echo.{marked_from, with_marks, is_one_line, echo_of}

pub begun : (text bs : List ℕ) (b : ℕ)
    → ((text ++ codes "=> ") ++ b ∷ []) ++ marked_from (b == 10) bs
    ≡ text ++ marked_from true (b ∷ bs)
unfolding marked_from
begun text bs b =
    append_assoc (text ++ codes "=> ") (b ∷ []) (marked_from (b == 10) bs)
    ∙ append_assoc text (codes "=> ") (b ∷ marked_from (b == 10) bs)

pub inside : (text bs : List ℕ) (b : ℕ)
    → (text ++ b ∷ []) ++ marked_from (b == 10) bs ≡ text ++ marked_from false (b ∷ bs)
unfolding marked_from
inside text bs b = append_assoc text (b ∷ []) (marked_from (b == 10) bs)

pub over : (begins : Bool) (text rest : List ℕ)
    → length rest ≡ 0 → text ++ marked_from begins rest ≡ text
unfolding marked_from
over begins text [] none = append-nil text
over begins text (b ∷ bs) none = absurd (omega (arith, none))

pub echo_of_one_line : (text line answer : List ℕ) → is_one_line answer ≡ true
    → ((text ++ line) ++ codes " => ") ++ answer ≡ text ++ echo_of line answer
unfolding echo_of
echo_of_one_line text line answer is =
    rw is (ap (λ (xs : List ℕ). xs ++ answer) (append_assoc text line (codes " => "))
    ∙ append_assoc text (line ++ codes " => ") answer)

pub echo_of_more : (text line answer : List ℕ) → is_one_line answer ≡ false
    → ((text ++ line) ++ codes "\n") ++ with_marks answer ≡ text ++ echo_of line answer
unfolding echo_of
echo_of_more text line answer isnt =
    rw isnt (ap (λ (xs : List ℕ). xs ++ with_marks answer) (append_assoc text line (codes "\n"))
    ∙ append_assoc text (line ++ codes "\n") (with_marks answer))

pub ruleset marking = (begun, inside, over)

pub ruleset echoing = (echo_of_one_line, echo_of_more)

is-false : (b : Bool) → (b ≡ true → ⊥) → b ≡ false
is-false true isnt = absurd (isnt refl)
is-false false isnt = refl

-- where the first line feed is, as a search finds it
pub first_feed : (text : List ℕ) (found : Option ℕ) → IsFirstByte (is_byte 10) text found
    → position (λ b. b == 10) text ≡ found
first_feed text (Some end) is =
    let here : position_or_len (λ (b : ℕ). b == 10) text ≡ end =
    position_or_len_is (λ (b : ℕ). b == 10) text end 0 (omega (arith, is.0.high))
    (λ k low. is-false (get_or text k 0 == 10) (is.0.before k (omega arith) low)) (λ low. is.1) in
    rw (here, lt-ltb end (length text) is.0.high) refl
first_feed text None is =
    let here : position_or_len (λ (b : ℕ). b == 10) text ≡ length text =
    position_or_len_is (λ (b : ℕ). b == 10) text (length text) 0 (omega arith)
    (λ k low. is-false (get_or text k 0 == 10) (is k (omega arith) low))
    (λ low. absurd (omega (arith, low))) in
    rw (here, le-ltb (length text) (length text) (omega arith)) refl
