-- What rows become that are put in the place of others.
use Rattle.std.proofs.Common.{◌≡◌, ℕ, ◌+◌, ◌-◌, ◌≤◌, List, ◌++◌, length, take, drop, refl, sym, ap}
use Rattle.std.proofs.Common.{◌∙◌, arith, append_assoc}
use Rattle.std.specs.List.{splice}
use Rattle.std.proofs.lemmas.List.{take_all, take-append-drop, take-take, take_at, drop_at}
use Rattle.std.proofs.lemmas.List.{take-append-le, drop-append-le, length-append, length-drop}
use Rattle.std.proofs.lemmas.List.Edits.{length-paste, take-paste, drop-paste}
use Rattle.std.proofs.lemmas.Slice.{put_mid-paste, between_is}
use borrow.Rule.Slice.PartMut.{put_mid}
use lib.Seq.{paste, take-add, length-take-le}

-- rows that are put back where they stand change nothing
pub paste-self : {X : Type 0} (xs : List X) (at count : ℕ) → paste xs at (drop at xs) count ≡ xs
paste-self xs at count =
    ap (λ l. l ++ drop (at + count) xs) (sym (take-add at count xs))
    ∙ take-append-drop (at + count) xs

-- rows move up or down, and others come in between
pub put-kept : {X : Type 0} (xs moved put rows : List X) (len from to : ℕ) → from ≤ to → to ≤ len
    → len ≤ length xs → from + length rows + (len - to) ≤ length xs
    → moved ≡ paste xs (from + length rows) (drop to xs) (len - to) → put ≡ rows
    → take (len - (to - from) + length rows) (put_mid from (from + length rows - from) moved put)
    ≡ splice (take len xs) from to rows
put-kept {X} xs moved put rows len from to rises within inside fits is same =
    let at : ℕ = from + length rows in
    let left : ℕ = len - to in
    let rest : length (drop to xs) ≡ length xs - to = length-drop to xs in
    let front : List X = take at xs in
    let back : List X = take left (drop to xs) in
    let behind : List X = drop (at + left) xs in
    let short : length front ≡ at = length-take-le at xs (omega arith) in
    let shorter : length back ≡ left = length-take-le left (drop to xs) (omega arith) in
    let size : length moved ≡ length xs = ap length is ∙ length-paste xs at (drop to xs) left
    (omega arith) (omega arith) in
    let whole : put_mid from (from + length rows - from) moved put ≡ paste moved from rows
    (length rows) = put_mid-paste from (from + length rows - from) moved put rows (length rows)
    same (omega arith) refl in
    let count : len - (to - from) + length rows ≡ at + left = omega arith in
    let first : take from moved ≡ take from xs =
    ap (take from) is
    ∙ (take-append-le from (front ++ back) behind (omega (arith, length-append front back))
    ∙ (take-append-le from front back (omega arith) ∙ take-take from at xs (omega arith))) in
    let last : take left (drop at moved) ≡ back =
    ap (λ l. take left (drop at l)) is
    ∙ (ap (take left)
    (drop-append-le at (front ++ back) behind (omega (arith, length-append front back))
    ∙ ap (λ l. l ++ behind) (drop_at front back at short))
    ∙ take_at back behind left shorter) in
    let all : take (at + left) (paste moved from rows (length rows)) ≡ (take from xs ++ rows)
    ++ back =
    take-add at left (paste moved from rows (length rows))
    ∙ (ap (λ l. l ++ take left (drop at (paste moved from rows (length rows))))
    (take-paste moved from rows (length rows) (omega arith) (omega arith)
    ∙ (ap (λ l. l ++ take (length rows) rows) first
    ∙ ap (λ l. take from xs ++ l) (take_all (length rows) rows (omega arith))))
    ∙ ap (λ l. (take from xs ++ rows) ++ l)
    (ap (take left) (drop-paste moved from rows (length rows) (omega arith) (omega arith))
    ∙ last)) in
    ap (λ n. take n (put_mid from (from + length rows - from) moved put)) count
    ∙ (ap (take (at + left)) whole
    ∙ (all
    ∙ (append_assoc (take from xs) rows back
    ∙ (ap (λ l. l ++ (rows ++ back)) (sym (take-take from len xs (omega arith)))
    ∙ ap (λ l. take from (take len xs) ++ (rows ++ l)) (between_is xs to len)))))
