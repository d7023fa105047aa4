-- Writing a set: where its runs end, and the room that its text takes.
use Rattle.std.proofs.Common.{◌≡◌, ℕ, suc, ◌+◌, ◌-◌, ◌*◌, ◌<◌, ◌≤◌, ◌==◌, true, false, cond, eqb}
use Rattle.std.proofs.Common.{List, [], ◌∷◌, ◌++◌, length, get_or, map, All, codes, decimal, refl}
use Rattle.std.proofs.Common.{sym, ap, ◌∙◌, arith, inl, inr, append_assoc, length-append, eq-eqb}
use Rattle.std.specs.List.{prefix_len, range_with_len, join_with_byte}
use Rattle.std.proofs.lemmas.Bool.{cases_lt, cases_eq, ne_eqb}
use Rattle.std.proofs.lemmas.Fmt.{length-decimal-le, decimal_nonempty}
use Rattle.std.proofs.lemmas.List.Sums.{prefix_len-le-length, prefix_len_passes, prefix_len_stops}
use Rattle.std.proofs.lemmas.List.FromFn.{length-range_with_len, get_or-range_with_len}
use Rattle.std.proofs.lemmas.List.{map-append}
use Rattle.std.proofs.lemmas.List.Elements.{All-head}
use Rattle.numa_mask.specs.NodeSet.{has}
use Rattle.numa_mask.specs.Lists.{starts_run, run_end, run_text, with_part}

-- ---- where a run ends

pub run_end-within : (set first : ℕ) → first < 256 → run_end set first < 256
run_end-within set first h =
    omega (
      arith,
      prefix_len-le-length (has set) (range_with_len (first + 1) (255 - first)),
      length-range_with_len (first + 1) (255 - first),
    )

-- each node of a run but its first is a member
pub run_end-has : (set first node : ℕ) → first < node → node ≤ run_end set first
    → has set node ≡ true
run_end-has set first node h l =
    let few : prefix_len (has set) (range_with_len (first + 1) (255 - first)) ≤ 255 - first =
    omega (
      arith,
      prefix_len-le-length (has set) (range_with_len (first + 1) (255 - first)),
      length-range_with_len (first + 1) (255 - first),
    ) in
    let at : get_or (range_with_len (first + 1) (255 - first)) (node - first - 1) 0 ≡ node =
    get_or-range_with_len (first + 1) (255 - first) (node - first - 1) 0 (omega arith)
    ∙ omega arith in
    ap (has set) (sym at) ∙ prefix_len_passes (has set) (range_with_len (first + 1) (255 - first))
    (node - first - 1) 0 (omega arith)

-- the node behind a run is no member
pub run_end-stops : (set first : ℕ) → run_end set first < 255 → has set (run_end set first + 1)
    ≡ false
run_end-stops set first h =
    let many : prefix_len (has set) (range_with_len (first + 1) (255 - first)) < 255 - first =
    omega arith in
    let at : get_or (range_with_len (first + 1) (255 - first))
    (prefix_len (has set) (range_with_len (first + 1) (255 - first))) 0 ≡ run_end set first
    + 1 = get_or-range_with_len (first + 1) (255 - first)
    (prefix_len (has set) (range_with_len (first + 1) (255 - first))) 0 many ∙ omega arith in
    ap (has set) (sym at) ∙ prefix_len_stops (has set) (range_with_len (first + 1) (255 - first)) 0
    (omega (arith, length-range_with_len (first + 1) (255 - first)))

-- one node further
pub run_more : (set first last : ℕ) → last < 255 → has set (last + 1) ≡ true
    → prefix_len (has set) (range_with_len (last + 1) (255 - last)) ≡ 1 + prefix_len (has set)
    (range_with_len (last + 1 + 1) (255 - (last + 1)))
run_more set first last h t =
    let long : 255 - last ≡ suc (255 - (last + 1)) = omega arith in
    ap (λ n. prefix_len (has set) (range_with_len (last + 1) n)) long ∙ rw t refl

pub run_over : (set last : ℕ) → last < 255 → has set (last + 1) ≡ false
    → prefix_len (has set) (range_with_len (last + 1) (255 - last)) ≡ 0
run_over set last h f =
    let long : 255 - last ≡ suc (255 - (last + 1)) = omega arith in
    ap (λ n. prefix_len (has set) (range_with_len (last + 1) n)) long ∙ rw f refl

pub run_full : (set last : ℕ) → 255 ≤ last
    → prefix_len (has set) (range_with_len (last + 1) (255 - last)) ≡ 0
run_full set last h =
    let none : 255 - last ≡ 0 = omega arith in
    ap (λ n. prefix_len (has set) (range_with_len (last + 1) n)) none

-- ---- the room that runs take

pub run_text-length : (first last : ℕ) → first ≤ last → last < 256 → length (run_text first last)
    ≤ 4 * (last - first) + 3
run_text-length first last h l =
    let a : length (decimal first) ≤ 3 = length-decimal-le 3 first (omega arith) (omega arith)
    (omega arith) in
    let b : length (decimal last) ≤ 3 = length-decimal-le 3 last (omega arith) (omega arith)
    (omega arith) in
    elim (cases_eq first last) [
      | inl e ↦ rw (eq-eqb first last e) (omega arith)
      | inr ne ↦
          rw (ne_eqb first last ne)
          (omega (
            arith,
            length-append (decimal first ++ codes "-") (decimal last),
            length-append (decimal first) (codes "-"),
          ))
    ]

pub run_text-some : (first last : ℕ) → first < 256 → 0 < length (run_text first last)
run_text-some first last h =
    elim (cases_eq first last) [
      | inl e ↦ rw (eq-eqb first last e) (decimal_nonempty first (omega arith))
      | inr ne ↦
          rw (ne_eqb first last ne)
          (omega (
            arith,
            decimal_nonempty first (omega arith),
            length-append (decimal first ++ codes "-") (decimal last),
            length-append (decimal first) (codes "-"),
          ))
    ]

no_start : (set node : ℕ) → 0 < node → has set (node - 1) ≡ true → starts_run set node ≡ false
no_start set node h t =
    let some : eqb node 0 ≡ false = ne_eqb node 0 (omega arith) in
    rw (some, t) refl

-- the next run starts behind this one
pub run_apart : (set first next : ℕ) → has set first ≡ true → first < next
    → starts_run set next ≡ true → run_end set first < next
run_apart set first next t h starts =
    elim (cases_lt (run_end set first) next) [
      | inl l ↦ l
      | inr g ↦
          let before : has set (next - 1) ≡ true = elim (cases_lt first (next - 1)) [
            | inl l ↦ run_end-has set first (next - 1) l (omega arith)
            | inr e ↦ let same : next - 1 ≡ first = omega arith in ap (has set) same ∙ t
          ] in
          let odd : true ≡ false = sym starts ∙ no_start set next (omega arith) before in
          cc
    ]

with_part-length : (text part : List ℕ) → length (with_part text part) ≤ length text + 1 + length
    part
with_part-length text part =
    elim (length text == 0) as (λ b. length (cond b part (text ++ (codes "," ++ part)))
    ≤ length text + 1 + length part) [
      | true ↦ omega arith
      | false ↦ omega (arith, length-append text (codes "," ++ part))
    ]

-- a text and one run more take four bytes at most for each node up to the next run
pub room_more : (set first next : ℕ) (text more : List ℕ) → first < 256 → has set first ≡ true
    → first < next → starts_run set next ≡ true → length text ≤ 4 * first
    → more ≡ with_part text (run_text first (run_end set first)) → length more ≤ 4 * next
room_more set first next text more l t h starts room e =
    let apart : run_end set first < next = run_apart set first next t h starts in
    omega (
      arith,
      ap length e,
      with_part-length text (run_text first (run_end set first)),
      run_text-length first (run_end set first) (omega arith) (run_end-within set first l),
      apart,
    )

pub room_here : (set first last : ℕ) (text : List ℕ) → first < 256 → last ≡ run_end set first
    → length text ≤ 4 * first → length text + 1 + length (run_text first last) ≤ 1024
room_here set first last text l e room =
    let within : last < 256 = omega (arith, e, run_end-within set first l) in
    omega (arith, run_text-length first last (omega (arith, e)) within)

-- ---- one part more

join_pushed : (parts : List (List ℕ)) (part last : List ℕ)
    → join_with_byte 44 ((part ∷ parts) ++ last ∷ []) ≡ join_with_byte 44 (part ∷ parts) ++ 44
    ∷ last
join_pushed [] part last = refl
join_pushed (next ∷ parts) part last = ap (λ text. part ++ 44 ∷ text) (join_pushed parts next last)
    ∙ sym (append_assoc part (44 ∷ join_with_byte 44 (next ∷ parts)) (44 ∷ last))

join-some : (part : List ℕ) (parts : List (List ℕ)) → 0 < length part
    → 0 < length (join_with_byte 44 (part ∷ parts))
join-some part [] h = h
join-some part (next ∷ parts) h =
    omega (arith, length-append part (44 ∷ join_with_byte 44 (next ∷ parts)))

pub join_more : (f : ℕ → List ℕ) (firsts : List ℕ) (first : ℕ)
    → ((n : ℕ) → n < 256 → 0 < length (f n)) → All (λ n. n < 256) firsts
    → join_with_byte 44 (map f (firsts ++ first ∷ []))
    ≡ with_part (join_with_byte 44 (map f firsts)) (f first)
join_more f [] first some all = refl
join_more f (n ∷ firsts) first some all =
    let long : 0 < length (join_with_byte 44 (f n ∷ map f firsts)) =
    join-some (f n) (map f firsts) (some n (All-head (λ m. m < 256) n firsts all)) in
    let test : (length (join_with_byte 44 (f n ∷ map f firsts)) == 0) ≡ false =
    ne_eqb (length (join_with_byte 44 (f n ∷ map f firsts))) 0 (omega arith) in
    ap (λ parts. join_with_byte 44 (f n ∷ parts)) (map-append f firsts (first ∷ []))
    ∙ join_pushed (map f firsts) (f n) (f first)
    ∙ sym (ap (λ b. cond b (f first) (join_with_byte 44 (f n ∷ map f firsts) ++ 44 ∷ f first)) test)
