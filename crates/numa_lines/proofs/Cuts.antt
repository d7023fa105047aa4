-- How bytes are cut into lines as they come.
use Rattle.std.specs.Prelude.{◌≡◌, ℕ, ◌++◌, ◌⊎◌, List, [], ◌∷◌, map, refl}
use Rattle.std.proofs.Common.{sym, ◌∙◌, ap, subst, append_assoc, inl, inr}
use Rattle.std.proofs.lemmas.List.{append-nil, map-append}
use Rattle.numa_lines.specs.Lines.{IsPiece, ended_lines, open_line, given_part}
use Rattle.numa_lines.specs.Cuts.{HasCut}
use Rattle.numa_lines.specs.Reading.{Takes}
use Rattle.numa_lines.specs.declared.lines.Lines.{Lines}
use Rattle.numa_lines.proofs.Splitting.{ended_feed, open_feed, ended_piece, open_piece}
use Rattle.numa_lines.proofs.Splitting.{ended_nil, open_nil}

given_nil : given_part [] ≡ []
unfolding given_part
given_nil = refl

pub given_none : map given_part (ended_lines []) ≡ []
given_none = ap (map given_part) ended_nil

pub open_none : [] ≡ given_part (open_line [])
open_none = sym (ap given_part open_nil ∙ given_nil)

-- a line feed ends the open line
given_feed : (front bytes : List ℕ) → IsPiece bytes
    → map given_part (ended_lines (front ++ (bytes ++ 10 ∷ [])))
    ≡ map given_part (ended_lines front) ++ given_part (open_line front ++ bytes) ∷ []
given_feed front bytes piece =
    ap (λ bs. map given_part (ended_lines bs)) (sym (append_assoc front bytes (10 ∷ [])))
    ∙ ap (map given_part) (ended_feed (front ++ bytes))
    ∙ map-append given_part (ended_lines (front ++ bytes)) (open_line (front ++ bytes) ∷ [])
    ∙ ap (λ ls. map given_part ls ++ given_part (open_line (front ++ bytes)) ∷ [])
    (ended_piece front bytes piece)
    ∙ ap (λ l. map given_part (ended_lines front) ++ given_part l ∷ [])
    (open_piece front bytes piece)

open_fed : (front bytes : List ℕ) → [] ≡ given_part (open_line (front ++ (bytes ++ 10 ∷ [])))
open_fed front bytes =
    sym (ap (λ bs. given_part (open_line bs)) (sym (append_assoc front bytes (10 ∷ [])))
    ∙ ap given_part (open_feed (front ++ bytes)) ∙ given_nil)

-- the open line is taken
pub cut_line : (Has : List (List ℕ) → Type 0) (Then : List (List ℕ) → Type 0)
    (line held front bytes : List ℕ) → IsPiece bytes
    → ((whole : List ℕ) → line ≡ given_part whole → held ≡ given_part (whole ++ bytes))
    → ((lines : List (List ℕ)) → Has lines → Then (lines ++ held ∷ []))
    → Has (map given_part (ended_lines front)) × (line ≡ given_part (open_line front))
    → Then (map given_part (ended_lines (front ++ (bytes ++ 10 ∷ []))))
    × ([] ≡ given_part (open_line (front ++ (bytes ++ 10 ∷ []))))
cut_line Has Then line held front bytes piece holds takes (has, is) =
    let all : map given_part (ended_lines front) ++ held ∷ []
    ≡ map given_part (ended_lines (front ++ (bytes ++ 10 ∷ []))) =
    ap (λ l. map given_part (ended_lines front) ++ l ∷ []) (holds (open_line front) is)
    ∙ sym (given_feed front bytes piece) in
    (subst Then all (takes (map given_part (ended_lines front)) has), open_fed front bytes)

-- the open line grows
pub cut_rest : (Has : List (List ℕ) → Type 0) (line held front piece : List ℕ) → IsPiece piece
    → ((whole : List ℕ) → line ≡ given_part whole → held ≡ given_part (whole ++ piece))
    → Has (map given_part (ended_lines front)) × (line ≡ given_part (open_line front))
    → Has (map given_part (ended_lines (front ++ piece)))
    × (held ≡ given_part (open_line (front ++ piece)))
cut_rest Has line held front piece other holds (has, is) = (
  subst (λ ls. Has (map given_part ls)) (sym (ended_piece front piece other)) has,
  holds (open_line front) is ∙ ap given_part (sym (open_piece front piece other)),
)

-- nothing is taken, or some and then some more
module _ {T O X : Type 0} (has_taken : T → O → T → O → List X → Type 0) where
  pub takes_none : (taker : T) (output : O) → Takes has_taken taker output taker output []
  takes_none taker output first begun front =
      subst (has_taken first begun taker output) (sym (append-nil front))

  pub takes_both : (taker : T) (output : O) (mid : T) (mid_output : O) (last : T) (last_output : O)
      (xs ys : List X) → Takes has_taken taker output mid mid_output xs
      → Takes has_taken mid mid_output last last_output ys
      → Takes has_taken taker output last last_output (xs ++ ys)
  takes_both taker output mid mid_output last last_output xs ys one two first begun front h =
      subst (has_taken first begun last last_output) (append_assoc front xs ys)
      (two first begun (front ++ xs) (one first begun front h))

-- what was cut is handed over
pub handed_over : {T O : Type 0} (has_taken : T → O → T → O → List (List ℕ) → Type 0)
    (old : Lines T) (output : O) (mid : Lines T) (mid_output : O) (new : Lines T) (new_output : O)
    (bytes : List ℕ) → Takes (HasCut has_taken) old output mid mid_output bytes
    → Takes has_taken mid.taker mid_output new.taker new_output [] → new.line ≡ mid.line
    → Takes (HasCut has_taken) old output new new_output bytes
handed_over has_taken old output mid mid_output new new_output bytes cuts hands same first begun
    front h =
    let so_far = cuts first begun front h in (
      subst (has_taken first.taker begun new.taker new_output) (append-nil _)
          (hands first.taker begun _ so_far.0),
      same ∙ so_far.1,
    )

-- what is left of a call that meets no fault of its own
pub unless_failed : {A : Type 0} → ⊥ ⊎ A → A
unless_failed (inl fault) = absurd fault
unless_failed (inr done) = done

pub either : {A B C : Type 0} → (A → C) → (B → C) → A ⊎ B → C
either left right (inl a) = left a
either left right (inr b) = right b
