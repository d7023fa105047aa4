-- Shares and moves, one more of them, or one more span.
use Rattle.std.proofs.Common.{◌≡◌, ◌∙◌, ℕ, zero, suc, ◌+◌, ◌-◌, ◌<◌, ◌≤◌, ◌++◌, List, [], ◌∷◌}
use Rattle.std.proofs.Common.{refl, sym, ap, arith, append_assoc}
use Rattle.std.specs.Prelude.{min}
use Rattle.numa_reports.specs.declared.outlook.PageSpan.{PageSpan}
use Rattle.numa_moves.specs.Moving.{less_share, moves_by, shares_behind}
use Rattle.numa_moves.specs.Shares.{share_by, shares_over, shares_within}
use Rattle.numa_moves.specs.declared.moving.ShareMove.{ShareMove}
use Rattle.numa_moves.specs.declared.share.Share.{Share}

pub within-next : (count : ℕ → ℕ) (span : PageSpan) (node : ℕ)
    → shares_within count span (node + 1) ≡ shares_within count span node
    ++ share_by span node (count node)
within-next count span node =
    let next : suc node ≡ node + 1 = omega arith in
    sym (ap (λ (n : ℕ). shares_within count span n) next)

-- what is appended twice
pub more-shares : (start before after l r all : List Share) → before ≡ start ++ l
    → after ≡ before ++ r → all ≡ l ++ r → after ≡ start ++ all
more-shares start before after l r all was is both = is ∙ ap (λ m. m ++ r) was
    ∙ append_assoc start l r ∙ ap (λ m. start ++ m) (sym both)

-- what was appended for a span, and is left
pub span-shares : (count : PageSpan → ℕ → ℕ) (n : ℕ) (left rest all : List PageSpan)
    (span : PageSpan) (before after : List Share) → left ≡ span ∷ rest
    → after ≡ before ++ shares_within (count span) span n
    → before ++ shares_over count n left ≡ shares_over count n all
    → after ++ shares_over count n rest ≡ shares_over count n all
span-shares count n left rest all span before after is added whole =
    ap (λ l. l ++ shares_over count n rest) added
    ∙ append_assoc before (shares_within (count span) span n) (shares_over count n rest)
    ∙ ap (λ (l : List PageSpan). before ++ shares_over count n l) (sym is) ∙ whole

-- as many by another count
pub within-same : (f g : ℕ → ℕ) (span : PageSpan) (nodes : ℕ) → nodes ≤ 256
    → ((node : ℕ) → node < 256 → f node ≡ g node)
    → shares_within f span nodes ≡ shares_within g span nodes
within-same f g span zero few same = refl
within-same f g span (suc node) few same =
    ap (λ l. l ++ share_by span node (f node))
    (within-same f g span node (omega (arith, few)) same)
    ∙ ap (λ (k : ℕ). shares_within g span node ++ share_by span node k)
    (same node (omega (arith, few)))

-- the move of the next share
pub next-move : (go left : ℕ → ℕ) (all ahead rest : List Share) (share : Share) (to moved : ℕ)
    (before after whole : List ShareMove) → ahead ≡ share ∷ rest → to ≡ go share.node
    → moved ≡ min share.there (left share.node)
    → after ≡ before ++ (record { share = share; to = to; moved = moved } ∷ [])
    → before ++ moves_by go left ahead ≡ whole
    → after ++ moves_by go (less_share share left) rest ≡ whole
next-move go left all ahead rest share to moved before after whole is at taken added done =
    let made : ℕ → ℕ → List ShareMove = λ t m. before
    ++ (record { share = share; to = t; moved = m } ∷ moves_by go (less_share share left) rest) in
    ap (λ l. l ++ moves_by go (less_share share left) rest) added
    ∙ append_assoc before (record { share = share; to = to; moved = moved } ∷ [])
    (moves_by go (less_share share left) rest)
    ∙ ap (λ (t : ℕ). made t moved) at
    ∙ ap (λ (m : ℕ). made (go share.node) m) taken
    ∙ ap (λ (l : List Share). before ++ moves_by go left l) (sym is)
    ∙ done

-- what is behind the next move
pub next-behind : (ahead rest : List ShareMove) (move : ShareMove) (before after whole : List Share)
    → ahead ≡ move ∷ rest
    → after ≡ before ++ (share_by move.share.span move.share.node (move.share.there - move.moved)
    ++ share_by move.share.span move.to move.moved)
    → before ++ shares_behind ahead ≡ whole → after ++ shares_behind rest ≡ whole
next-behind ahead rest move before after whole is added done =
    let parts = share_by move.share.span move.share.node (move.share.there - move.moved)
    ++ share_by move.share.span move.to move.moved in
    ap (λ l. l ++ shares_behind rest) added
    ∙ append_assoc before parts (shares_behind rest)
    ∙ ap (λ (l : List ShareMove). before ++ shares_behind l) (sym is)
    ∙ done
