use Rattle.std.proofs.Common.{◌≡◌, ℕ, List, ◌++◌, length, take, drop, Option, ap, sym, ◌∙◌}
use Rattle.std.proofs.Common.{append_assoc, ◌-◌}
use Rattle.std.specs.Io.KnownBytes.{Appends}
use Rattle.std.proofs.KnownBytes.{Appends-trans}
use Rattle.std.proofs.lemmas.List.{take-append-drop, take_rest}
use Rattle.numa_lines.specs.Written.{AppendsFront}

-- a longer front: a first part of what was left has gone too
pub front_more : (a b c : Option (List ℕ)) (n : ℕ) (bs front rest : List ℕ) → Appends a b front
    → bs ≡ front ++ rest → Appends b c (take n rest) → (f : List ℕ) × Appends a c f
    × (bs ≡ f ++ take (length rest - n) (drop n rest))
front_more a b c n bs front rest h e m = (
  front ++ take n rest,
  Appends-trans a b c front (take n rest) h m,
  e ∙ ap (λ r. front ++ r) (sym (take-append-drop n rest))
      ∙ sym (append_assoc front (take n rest) (drop n rest)) ∙ ap (λ l. (front ++ take n rest) ++ l)
      (sym (take_rest rest n)),
)

-- some front, where more was to follow
pub front_widen : (a b : Option (List ℕ)) (xs ys : List ℕ) → AppendsFront a b xs
    → AppendsFront a b (xs ++ ys)
front_widen a b xs ys (front, rest, h, e) =
    (front, rest ++ ys, h, ap (λ l. l ++ ys) e ∙ append_assoc front rest ys)

-- some front of what comes after bytes that went
pub front_after : (a b c : Option (List ℕ)) (xs ys : List ℕ) → Appends a b xs → AppendsFront b c ys
    → AppendsFront a c (xs ++ ys)
front_after a b c xs ys h (front, rest, m, e) = (
  xs ++ front,
  rest,
  Appends-trans a b c xs front h m,
  ap (λ l. xs ++ l) e
      ∙ sym (append_assoc xs front rest),
)
