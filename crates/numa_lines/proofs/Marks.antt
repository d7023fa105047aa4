-- The last mark of a text, as it is met from the end.
use Rattle.std.proofs.Common.{◌≡◌, ℕ, ◌+◌, Bool, true, false, List, [], ◌∷◌, Option, Some, None}
use Rattle.std.proofs.Common.{length, codes, ap, arith, refl, sym, take, drop, get_or, suc, zero}
use Rattle.std.proofs.Common.{subst, ◌-◌, ◌∙◌, ◌≤◌, ◌<◌, ◌==◌, ◌&&◌, inl, inr}
use Rattle.std.proofs.lemmas.List.{take_all, length-take, length-take-le, take_rest, get_or-drop}
use Rattle.std.proofs.lemmas.List.{get_or-take, get_or_past}
use Rattle.std.proofs.lemmas.Bool.{ne_eqb, cases_lt}
use Rattle.numa_lines.specs.Worked.{begins_with, further, or_here, last_mark}

none_here : (here : Bool) (m : Option ℕ) → here ≡ false → m ≡ None
    → or_here here (further m) ≡ None
none_here true m lacks empty = absurd (cc lacks)
none_here false None lacks empty = refl
none_here false (Some k) lacks empty = absurd (cc empty)

one_here : (here : Bool) (m : Option ℕ) → here ≡ true → m ≡ None
    → or_here here (further m) ≡ Some 0
one_here true None starts empty = refl
one_here true (Some k) starts empty = absurd (cc empty)
one_here false m starts empty = absurd (cc starts)

one_further : (here : Bool) (m : Option ℕ) (k : ℕ) → m ≡ Some k
    → or_here here (further m) ≡ Some (k + 1)
one_further here None k is = absurd (cc is)
one_further here (Some j) k is = cc is

-- no mark begins at the place
abbrev pub Lacks : List ℕ → ℕ → Type 0
Lacks text place = begins_with (codes " => ") (drop place text) ≡ false

fails_second : (a : Bool) → (a && false) ≡ false
fails_second true = refl
fails_second false = refl

fails_third : (a b : Bool) → (a && (b && false)) ≡ false
fails_third true b = fails_second b
fails_third false b = refl

-- no mark is at the front of a text whose third byte is no `>`
no_arrow : (text : List ℕ) → (get_or text 2 0 ≡ 62 → ⊥) → begins_with (codes " => ") text ≡ false
no_arrow [] other = refl
no_arrow (a ∷ []) other = fails_second (32 == a)
no_arrow (a ∷ b ∷ []) other = fails_third (32 == a) (61 == b)
no_arrow (a ∷ b ∷ c ∷ rest) other =
    rw (ne_eqb 62 c (λ is. other (sym is))) (fails_third (32 == a) (61 == b))

-- a mark has its `>` two bytes on
pub lacks_without : (text : List ℕ) (place : ℕ) → (get_or text (place + 2) 0 ≡ 62 → ⊥)
    → Lacks text place
lacks_without text place other =
    no_arrow (drop place text) (λ is. other (sym (get_or-drop place text 2 0) ∙ is))

pub none_at_all : (text : List ℕ) → ((place : ℕ) → Lacks text place) → last_mark text ≡ None
unfolding last_mark
none_at_all [] lacks = refl
none_at_all (b ∷ bs) lacks =
    none_here (begins_with (codes " => ") (b ∷ bs)) (last_mark bs) (lacks 0)
    (none_at_all bs (λ place. lacks (suc place)))

-- the last mark begins where one does, and none behind it
pub is_last : (place : ℕ) (text : List ℕ)
    → begins_with (codes " => ") (drop place text) ≡ true
    → ((later : ℕ) → place < later → Lacks text later) → last_mark text ≡ Some place
unfolding last_mark
is_last zero [] starts lacks = absurd (cc starts)
is_last (suc place) [] starts lacks = absurd (cc starts)
is_last zero (b ∷ bs) starts lacks =
    one_here (begins_with (codes " => ") (b ∷ bs)) (last_mark bs) starts
    (none_at_all bs (λ later. lacks (suc later) (omega arith)))
is_last (suc place) (b ∷ bs) starts lacks =
    one_further (begins_with (codes " => ") (b ∷ bs)) (last_mark bs) place
    (is_last place bs starts (λ later low. lacks (suc later) (omega (arith, low))))
    ∙ ap Some (omega arith)

-- no mark has its `>` at this place or behind it
abbrev pub LacksFrom : List ℕ → ℕ → Type 0
LacksFrom text end = (place : ℕ) → end ≤ place + 2 → Lacks text place

pub lacks_behind : (text : List ℕ) → LacksFrom text (length text)
lacks_behind text place past =
    lacks_without text place
    (λ is. absurd (cc (sym (get_or_past text (place + 2) 0 past) ∙ is)))

-- no `>` stands in the front of a text from the place on
abbrev pub NoArrow : List ℕ → ℕ → Type 0
NoArrow front from =
    (k : ℕ) → from ≤ k → k < length front → (get_or front k 0 == 62) ≡ true → ⊥

pub lacks_more : (text : List ℕ) (from end : ℕ) → end ≤ length text → LacksFrom text end
    → NoArrow (take end text) from → LacksFrom text from
lacks_more text from end within lacks none place low =
    let whole = length-take-le end text within in
    elim (cases_lt (place + 2) end) [
      | inl inside ↦ lacks_without text place (λ is.
          none (place + 2) low (omega (arith, inside, whole))
          (ap (λ b. b == 62) (get_or-take end text (place + 2) 0 (omega (arith, inside)) ∙ is)))
      | inr past ↦ lacks place past
    ]

pub still_within : (text : List ℕ) (place end : ℕ) → end ≤ length text
    → place < length (take end text) → place ≤ length text
still_within text place end within inside =
    omega (arith, inside, within, length-take-le end text within)

-- nor is the `>` there that of a mark
pub lacks_there : (text : List ℕ) (end : ℕ) → 2 ≤ end → LacksFrom text (end + 1)
    → Lacks text (end - 2) → LacksFrom text end
lacks_there text end some lacks here place low =
    elim (cases_lt end (place + 2)) [
      | inl past ↦ lacks place (omega (arith, past))
      | inr most ↦ let same : end - 2 ≡ place = omega (arith, low, most, some) in
          subst (Lacks text) same here
    ]

-- what begins in the rest of a text
pub as_dropped : (text : List ℕ) (place : ℕ)
    → begins_with (codes " => ") (take (length text - place) (drop place text))
    ≡ begins_with (codes " => ") (drop place text)
as_dropped text place = ap (begins_with (codes " => ")) (take_rest text place)

pub all_taken : (line : List ℕ) → length line ≤ 4101 → line ≡ take 4101 line
all_taken line fits = sym (take_all 4101 line fits)

pub full_head : (line : List ℕ) → 4101 < length line → 4101 ≡ length (take 4101 line)
full_head line long = sym (length-take-le 4101 line (omega (arith, long)))

pub inside_head : (line : List ℕ) (end : ℕ)
    → end + 4 ≤ length (take 4101 line) → (end ≤ 4097) × (end + 4 ≤ length line)
inside_head line end inside =
    let count = length-take 4101 line in
    (omega (arith, count, inside), omega (arith, count, inside))
