-- Values that are there only together.
use Rattle.std.specs.Prelude.{ℕ, Option, Some, None, option_and_then, List, [], ◌∷◌}

-- what the function makes of the values, where each is there
abbrev pub with_two : {A B C : Type 0} → (A → B → C) → Option A → Option B → Option C
with_two f None b = None
with_two f (Some a) None = None
with_two f (Some a) (Some b) = Some (f a b)

abbrev pub with_three : {A B C D : Type 0} → (A → B → C → D) → Option A → Option B → Option C
    → Option D
with_three f None b c = None
with_three f (Some a) None c = None
with_three f (Some a) (Some b) None = None
with_three f (Some a) (Some b) (Some c) = Some (f a b c)

abbrev pub with_four : {A B C D E : Type 0} → (A → B → C → D → E) → Option A → Option B → Option C
    → Option D → Option E
with_four f None b c d = None
with_four f (Some a) None c d = None
with_four f (Some a) (Some b) None d = None
with_four f (Some a) (Some b) (Some c) None = None
with_four f (Some a) (Some b) (Some c) (Some d) = Some (f a b c d)

-- what the function gives for each element, where it gives something for each
abbrev pub each_of : {A B : Type 0} → (A → Option B) → List A → Option (List B)
each_of f [] = Some []
each_of f (x ∷ xs) = with_two (λ y ys. y ∷ ys) (f x) (each_of f xs)

-- the words, if they are this many
abbrev pub two_words : List (List ℕ) → Option (List ℕ × List ℕ)
two_words (a ∷ b ∷ []) = Some (a, b)
two_words _ = None

abbrev pub three_words : List (List ℕ) → Option (List ℕ × List ℕ × List ℕ)
three_words (a ∷ b ∷ c ∷ []) = Some (a, b, c)
three_words _ = None

abbrev pub four_words : List (List ℕ) → Option (List ℕ × List ℕ × List ℕ × List ℕ)
four_words (a ∷ b ∷ c ∷ d ∷ []) = Some (a, b, c, d)
four_words _ = None

-- the values of the words, if they are this many and each has one
abbrev pub two_of : {A B : Type 0} → (List ℕ → Option A) → (List ℕ → Option B) → List (List ℕ)
    → Option (A × B)
two_of f g words = option_and_then (λ v. with_two (λ x y. (x, y)) (f v.0) (g v.1)) (two_words words)

abbrev pub three_of : {A B C : Type 0} → (List ℕ → Option A) → (List ℕ → Option B)
    → (List ℕ → Option C) → List (List ℕ) → Option (A × B × C)
three_of f g h words =
    option_and_then (λ v. with_three (λ x y z. (x, y, z)) (f v.0) (g v.1) (h v.2))
    (three_words words)

abbrev pub four_of : {A B C D : Type 0} → (List ℕ → Option A) → (List ℕ → Option B)
    → (List ℕ → Option C) → (List ℕ → Option D) → List (List ℕ) → Option (A × B × C × D)
four_of f g h i words =
    option_and_then (λ v. with_four (λ x y z w. (x, y, z, w)) (f v.0) (g v.1) (h v.2) (i v.3))
    (four_words words)
