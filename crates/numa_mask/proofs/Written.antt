-- What `list_text` has written while it goes through the members.
use Rattle.std.proofs.Common.{◌≡◌, ℕ, zero, suc, ◌+◌, ◌*◌, ◌<◌, ◌≤◌, true, false, cond, List, []}
use Rattle.std.proofs.Common.{◌∷◌, ◌++◌, length, map, filter, All, Contains, refl, sym, ap, ◌∙◌}
use Rattle.std.proofs.Common.{arith, append_assoc, append-nil, subst}
use Rattle.std.specs.List.{join_with_byte}
use Rattle.std.proofs.lemmas.List.Elements.{All-cons, All-head, All-tail, filter-append}
use Rattle.std.proofs.lemmas.List.Elements.{All-contains, All-filter, Contains-append_right}
use Rattle.std.proofs.lemmas.List.Elements.{All-same}
use Rattle.numa_mask.specs.NodeSet.{has, members}
use Rattle.numa_mask.specs.Lists.{starts_run, run_end, run_text, with_part, text_of}
use Rattle.numa_mask.proofs.Sets.{IsRising, members-rising, members-have, members-below, rising-at}
use Rattle.numa_mask.proofs.Writing.{join_more, run_text-some, room_more, room_here}

-- the members yielded so far have their runs in the text, and four bytes a node hold it up to the
-- next run
pub record IsWritten (set rest : ℕ) (yielded text : List ℕ) : Type 0 where
  pub split : members set ≡ yielded ++ members rest
  pub written : text ≡ join_with_byte 44
      (map (λ first. run_text first (run_end set first)) (filter (starts_run set) yielded))
  pub room : (m : ℕ) → Contains (members rest) m → starts_run set m ≡ true → length text ≤ 4 * m

pub written-start : (set rest : ℕ) (text : List ℕ) → rest ≡ set → text ≡ []
    → IsWritten set rest [] text
written-start set rest text e none = record {
  split = ap members (sym e);
  written = none;
  room = λ m c s. omega (arith, ap length none);
}

-- the next member
next-is : (set rest next node : ℕ) (yielded text : List ℕ) → IsWritten set rest yielded text
    → members rest ≡ node ∷ members next → Contains (members set) node
next-is set rest next node yielded text h e =
    let at : Contains (yielded ++ members rest) node = Contains-append_right yielded (members rest)
    node (let P : List ℕ → Type 0 = λ ns. Contains ns node in
    subst P (sym e) (zero, omega arith, refl)) in
    let P : List ℕ → Type 0 = λ ns. Contains ns node in subst P (sym h.split) at

next-has : (set rest next node : ℕ) (yielded text : List ℕ) → IsWritten set rest yielded text
    → members rest ≡ node ∷ members next → has set node ≡ true
next-has set rest next node yielded text h e = All-contains (λ m. has set m ≡ true) (members set)
    node (members-have set) (next-is set rest next node yielded text h e)

next-below : (set rest next node : ℕ) (yielded text : List ℕ) → IsWritten set rest yielded text
    → members rest ≡ node ∷ members next → node < 256
next-below set rest next node yielded text h e = All-contains (λ m. m < 256) (members set) node
    (members-below set) (next-is set rest next node yielded text h e)

next-room : (set rest next node : ℕ) (yielded text : List ℕ) → IsWritten set rest yielded text
    → members rest ≡ node ∷ members next → starts_run set node ≡ true → length text ≤ 4 * node
next-room set rest next node yielded text h e s =
    h.room node (let P : List ℕ → Type 0 = λ ns. Contains ns node in
    subst P (sym e) (zero, omega arith, refl)) s

-- what comes after it
later-above : (rest next node m : ℕ) → members rest ≡ node ∷ members next
    → Contains (members next) m → node < m
later-above rest next node m e c =
    let rising : IsRising 0 (node ∷ members next) = let P : List ℕ → Type 0 = λ ns. IsRising 0 ns in
    subst P e (members-rising rest) in
    omega (arith, rising-at (node + 1) (members next) c.0 m rising.1 c.1, c.2)

later-in : (rest next node m : ℕ) → members rest ≡ node ∷ members next → Contains (members next) m
    → Contains (members rest) m
later-in rest next node m e c = let P : List ℕ → Type 0 = λ ns. Contains ns m in
    subst P (sym e) (suc c.0, omega (arith, c.1), c.2)

next-split : (set rest next node : ℕ) (yielded text : List ℕ) → IsWritten set rest yielded text
    → members rest ≡ node ∷ members next → members set ≡ (yielded ++ node ∷ []) ++ members next
next-split set rest next node yielded text h e = h.split ∙ ap (λ ns. yielded ++ ns) e
    ∙ sym (append_assoc yielded (node ∷ []) (members next))

yielded-below : (set rest : ℕ) (yielded text : List ℕ) → IsWritten set rest yielded text
    → All (λ m. m < 256) yielded
yielded-below set rest yielded text h =
    front yielded (members rest)
    (All-same (λ m. m < 256) (yielded ++ members rest) (members set) (sym h.split)
    (members-below set))
  where
    front : (xs ys : List ℕ) → All (λ m. m < 256) (xs ++ ys) → All (λ m. m < 256) xs
    front [] ys all = λ k d l. absurd (omega arith)
    front (x ∷ xs) ys all = All-cons (λ m. m < 256) x xs (All-head (λ m. m < 256) x (xs ++ ys) all)
        (front xs ys (All-tail (λ m. m < 256) x (xs ++ ys) all))

-- a member that starts no run
pub written-skip : (set rest next node : ℕ) (yielded text : List ℕ)
    → IsWritten set rest yielded text → members rest ≡ node ∷ members next
    → starts_run set node ≡ false → IsWritten set next (yielded ++ node ∷ []) text
written-skip set rest next node yielded text h e f =
    let same : filter (starts_run set) (yielded ++ node ∷ []) ≡ filter (starts_run set) yielded =
    filter-append (starts_run set) yielded (node ∷ [])
    ∙ ap (λ b. filter (starts_run set) yielded ++ cond b (node ∷ []) []) f
    ∙ append-nil (filter (starts_run set) yielded) in
    record {
      split = next-split set rest next node yielded text h e;
      written = h.written
          ∙ ap
          (λ firsts. join_with_byte 44 (map (λ first. run_text first (run_end set first)) firsts))
          (sym same);
      room = λ m c s. h.room m (later-in rest next node m e c) s;
    }

-- a member that starts a run
pub written-more : (set rest next node last : ℕ) (yielded text more : List ℕ)
    → IsWritten set rest yielded text → members rest ≡ node ∷ members next
    → starts_run set node ≡ true → last ≡ run_end set node
    → more ≡ with_part text (run_text node last) → IsWritten set next (yielded ++ node ∷ []) more
written-more set rest next node last yielded text more h e s end pushed =
    let run : ℕ → List ℕ = λ first. run_text first (run_end set first) in
    let longer : filter (starts_run set) (yielded ++ node ∷ []) ≡ filter (starts_run set) yielded
    ++ node ∷ [] =
    filter-append (starts_run set) yielded (node ∷ [])
    ∙ ap (λ b. filter (starts_run set) yielded ++ cond b (node ∷ []) []) s in
    let is : more ≡ with_part text (run node) = pushed ∙ ap (λ n. with_part text (run_text node n))
    end in
    let joined : join_with_byte 44 (map run (filter (starts_run set) yielded ++ node ∷ []))
    ≡ with_part (join_with_byte 44 (map run (filter (starts_run set) yielded))) (run node) =
    join_more run (filter (starts_run set) yielded) node (λ n l. run_text-some n (run_end set n) l)
    (All-filter (starts_run set) (λ m. m < 256) yielded
    (yielded-below set rest yielded text h)) in
    record {
      split = next-split set rest next node yielded text h e;
      written = is ∙ ap (λ t. with_part t (run node)) h.written ∙ sym joined
          ∙ ap (λ firsts. join_with_byte 44 (map run firsts)) (sym longer);
      room = λ m c starts. room_more set node m text more
          (next-below set rest next node yielded text h e)
          (next-has set rest next node yielded text h e) (later-above rest next node m e c) starts
          (next-room set rest next node yielded text h e s) is;
    }

pub written-room : (set rest next node last : ℕ) (yielded text : List ℕ)
    → IsWritten set rest yielded text → members rest ≡ node ∷ members next
    → starts_run set node ≡ true → last ≡ run_end set node
    → length text + 1 + length (run_text node last) ≤ 1024
written-room set rest next node last yielded text h e s end =
    room_here set node last text (next-below set rest next node yielded text h e) end
    (next-room set rest next node yielded text h e s)

pub written-end : (set rest : ℕ) (yielded text : List ℕ) → IsWritten set rest yielded text
    → members rest ≡ [] → text ≡ text_of set
written-end set rest yielded text h none =
    let all : yielded ≡ members set = sym (append-nil yielded) ∙ ap (λ ns. yielded ++ ns) (sym none)
    ∙ sym h.split in
    h.written ∙ ap
    (λ ns.
    join_with_byte 44
    (map (λ first. run_text first (run_end set first)) (filter (starts_run set) ns))) all
