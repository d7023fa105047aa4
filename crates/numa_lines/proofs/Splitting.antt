-- How the lines of a script grow byte by byte, and piece by piece.
use Rattle.std.specs.Prelude.{◌≡◌, ℕ, ◌==◌, ◌++◌, true, false, List, [], ◌∷◌, cond, refl}
use Prim.Native.Nat.{suc}
use Rattle.std.proofs.Common.{sym, ◌∙◌, ap, arith, append_assoc}
use Rattle.std.proofs.lemmas.List.{append-nil}
use Rattle.std.specs.List.{onto_first}
use Rattle.numa_lines.specs.Lines.{IsPiece, lines_of, all_but_last, last_of, ended_lines, open_line}

data IsCons : List (List ℕ) → Type 0 where
  is_cons : (p : List ℕ) (ps : List (List ℕ)) → IsCons (p ∷ ps)

onto_cons : (x : ℕ) (ls : List (List ℕ)) → IsCons (onto_first x ls)
onto_cons x [] = is_cons _ _
onto_cons x (p ∷ ps) = is_cons _ _

lines_cons : (bs : List ℕ) → IsCons (lines_of bs)
lines_cons [] = is_cons _ _
lines_cons (x ∷ xs) =
    elim (x == 10) as (λ t. IsCons (cond t ([] ∷ lines_of xs) (onto_first x (lines_of xs))))
    [ true ↦ is_cons _ _ | false ↦ onto_cons x (lines_of xs) ]

onto_more : (x : ℕ) (ls : List (List ℕ)) → IsCons ls → onto_first x (ls ++ [] ∷ [])
    ≡ onto_first x ls ++ [] ∷ []
onto_more x [] h = elim h [ ]
onto_more x (p ∷ ps) h = refl

-- a line feed opens a new line
lines_feed : (bs : List ℕ) → lines_of (bs ++ 10 ∷ []) ≡ lines_of bs ++ [] ∷ []
lines_feed [] = refl
lines_feed (x ∷ xs) =
    elim (x == 10) as
    (λ t. cond t ([] ∷ lines_of (xs ++ 10 ∷ [])) (onto_first x (lines_of (xs ++ 10 ∷ [])))
    ≡ cond t ([] ∷ lines_of xs) (onto_first x (lines_of xs)) ++ [] ∷ []) [
      | true ↦ ap (λ l. [] ∷ l) (lines_feed xs)
      | false ↦ ap (onto_first x) (lines_feed xs) ∙ onto_more x (lines_of xs) (lines_cons xs)
    ]

onto_hold : (x b : ℕ) (ls : List (List ℕ))
    → onto_first x (all_but_last ls ++ (last_of ls ++ b ∷ []) ∷ []) ≡ all_but_last (onto_first x ls)
    ++ (last_of (onto_first x ls) ++ b ∷ []) ∷ []
onto_hold x b [] = refl
onto_hold x b (p ∷ []) = refl
onto_hold x b (p ∷ q ∷ qs) = refl

below_hold : (b : ℕ) (ls : List (List ℕ)) → IsCons ls
    → [] ∷ (all_but_last ls ++ (last_of ls ++ b ∷ []) ∷ []) ≡ all_but_last ([] ∷ ls)
    ++ (last_of ([] ∷ ls) ++ b ∷ []) ∷ []
below_hold b [] h = elim h [ ]
below_hold b (p ∷ ps) h = refl

-- any other byte goes to the last line
lines_hold : (bs : List ℕ) (b : ℕ) → (b == 10) ≡ false
    → lines_of (bs ++ b ∷ []) ≡ all_but_last (lines_of bs) ++ (last_of (lines_of bs) ++ b ∷ []) ∷ []
lines_hold [] b h = rw h refl
lines_hold (x ∷ xs) b h =
    elim (x == 10) as
    (λ t. cond t ([] ∷ lines_of (xs ++ b ∷ [])) (onto_first x (lines_of (xs ++ b ∷ [])))
    ≡ all_but_last (cond t ([] ∷ lines_of xs) (onto_first x (lines_of xs)))
    ++ (last_of (cond t ([] ∷ lines_of xs) (onto_first x (lines_of xs))) ++ b ∷ []) ∷ []) [
      | true ↦ ap (λ l. [] ∷ l) (lines_hold xs b h) ∙ below_hold b (lines_of xs) (lines_cons xs)
      | false ↦ ap (onto_first x) (lines_hold xs b h) ∙ onto_hold x b (lines_of xs)
    ]

front_of_push : (ls : List (List ℕ)) (l : List ℕ) → all_but_last (ls ++ l ∷ []) ≡ ls
front_of_push [] l = refl
front_of_push (p ∷ []) l = refl
front_of_push (p ∷ q ∷ qs) l = ap (λ k. p ∷ k) (front_of_push (q ∷ qs) l)

last_of_push : (ls : List (List ℕ)) (l : List ℕ) → last_of (ls ++ l ∷ []) ≡ l
last_of_push [] l = refl
last_of_push (p ∷ []) l = refl
last_of_push (p ∷ q ∷ qs) l = last_of_push (q ∷ qs) l

whole : (ls : List (List ℕ)) → IsCons ls → ls ≡ all_but_last ls ++ last_of ls ∷ []
whole [] h = elim h [ ]
whole (p ∷ []) h = refl
whole (p ∷ q ∷ qs) h = ap (λ k. p ∷ k) (whole (q ∷ qs) (is_cons q qs))

pub ended_all : (bs : List ℕ) → ended_lines (bs ++ 10 ∷ []) ≡ lines_of bs
unfolding ended_lines
ended_all bs = ap all_but_last (lines_feed bs) ∙ front_of_push (lines_of bs) []

pub ended_feed : (bs : List ℕ) → ended_lines (bs ++ 10 ∷ []) ≡ ended_lines bs ++ open_line bs ∷ []
unfolding ended_lines open_line
ended_feed bs = ended_all bs ∙ whole (lines_of bs) (lines_cons bs)

pub open_feed : (bs : List ℕ) → open_line (bs ++ 10 ∷ []) ≡ []
unfolding open_line
open_feed bs = ap last_of (lines_feed bs) ∙ last_of_push (lines_of bs) []

pub ended_hold : (bs : List ℕ) (b : ℕ) → (b == 10) ≡ false → ended_lines (bs ++ b ∷ [])
    ≡ ended_lines bs
unfolding ended_lines
ended_hold bs b h = ap all_but_last (lines_hold bs b h) ∙ front_of_push _ _

pub open_hold : (bs : List ℕ) (b : ℕ) → (b == 10) ≡ false → open_line (bs ++ b ∷ []) ≡ open_line bs
    ++ b ∷ []
unfolding open_line
open_hold bs b h = ap last_of (lines_hold bs b h) ∙ last_of_push (all_but_last (lines_of bs)) _

piece_tail : (b : ℕ) (piece : List ℕ) → IsPiece (b ∷ piece) → IsPiece piece
piece_tail b piece h = λ k lt. h (suc k) (omega (arith, lt))

pub ended_piece : (bs piece : List ℕ) → IsPiece piece → ended_lines (bs ++ piece) ≡ ended_lines bs
ended_piece bs [] h = ap ended_lines (append-nil bs)
ended_piece bs (b ∷ piece) h =
    ap ended_lines (sym (append_assoc bs (b ∷ []) piece))
    ∙ ended_piece (bs ++ b ∷ []) piece (piece_tail b piece h)
    ∙ ended_hold bs b (h 0 (omega arith))

pub open_piece : (bs piece : List ℕ) → IsPiece piece → open_line (bs ++ piece) ≡ open_line bs
    ++ piece
open_piece bs [] h = ap open_line (append-nil bs) ∙ sym (append-nil (open_line bs))
open_piece bs (b ∷ piece) h =
    ap open_line (sym (append_assoc bs (b ∷ []) piece))
    ∙ open_piece (bs ++ b ∷ []) piece (piece_tail b piece h)
    ∙ ap (λ l. l ++ piece) (open_hold bs b (h 0 (omega arith)))
    ∙ append_assoc (open_line bs) (b ∷ []) piece

pub ended_nil : ended_lines [] ≡ []
unfolding ended_lines
ended_nil = refl

pub open_nil : open_line [] ≡ []
unfolding open_line
open_nil = refl
