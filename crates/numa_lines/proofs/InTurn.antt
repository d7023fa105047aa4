-- One read of joined readers.
use Rattle.std.proofs.Common.{◌≡◌, ℕ, zero, suc, ◌-◌, ◌<◌, ◌≤◌, ◌==◌, Bool, true, false, not}
use Rattle.std.proofs.Common.{Option, Some, None, List, [], ◌∷◌, ◌++◌, append_assoc}
use Rattle.std.proofs.Common.{length, get_or, take, refl, sym, ap, subst, ◌∙◌, arith}
use Rattle.std.specs.Prelude.{slice_set}
use Rattle.std.specs.Io.KnownBytes.{Consumes, IsAtEnd, Keeps}
use Rattle.numa_lines.specs.Joined.{bytes_from, bytes_in_turn, ended_then, open_behind, line_end}

-- behind a part of some bytes the last of them counts
pub open_behind-take : (begun : Bool) (n : ℕ) (bytes : List ℕ) → n < length bytes
    → open_behind begun (take (suc n) bytes) ≡ not (get_or bytes n 0 == 10)
open_behind-take begun n [] lt = absurd (omega arith)
open_behind-take begun zero (b ∷ bytes) lt = refl
open_behind-take begun (suc n) (b ∷ bytes) lt =
    open_behind-take (not (b == 10)) n bytes (omega arith)

pub open_behind-append : (begun : Bool) (a b : List ℕ)
    → open_behind begun (a ++ b) ≡ open_behind (open_behind begun a) b
open_behind-append begun [] b = refl
open_behind-append begun (x ∷ a) b = open_behind-append (not (x == 10)) a b

-- known bytes that were kept are consumed as before
pub kept-consumes : (a b c : Option (List ℕ)) (bs : List ℕ) → Keeps a b → Consumes b c bs
    → Consumes a c bs
kept-consumes None b c bs kept takes = tt
kept-consumes (Some xs) None c bs kept takes = absurd kept
kept-consumes (Some xs) (Some ys) None bs kept takes = absurd takes
kept-consumes (Some xs) (Some ys) (Some zs) bs kept takes = sym kept ∙ takes

pub kept-kept : (a b c : Option (List ℕ)) → Keeps a b → Keeps b c → Keeps a c
kept-kept None b c kept then = tt
kept-kept (Some xs) None c kept then = absurd kept
kept-kept (Some xs) (Some ys) None kept then = absurd then
kept-kept (Some xs) (Some ys) (Some zs) kept then = then ∙ kept

-- some bytes of a reader
pub given-read : (begun : Bool) (before after rest : Option (List ℕ)) (chunk : List ℕ)
    → Consumes before after chunk
    → Consumes (ended_then begun before rest)
    (ended_then (open_behind begun chunk) after rest) chunk
given-read begun None after rest chunk takes = tt
given-read begun (Some xs) None rest chunk takes = absurd takes
given-read begun (Some xs) (Some ys) None chunk takes = tt
given-read begun (Some xs) (Some ys) (Some more) chunk takes =
    ap (λ (bytes : List ℕ). bytes ++ (line_end (open_behind begun bytes) ++ more)) takes
    ∙ ap (λ (b : Bool). (chunk ++ ys) ++ (line_end b ++ more)) (open_behind-append begun chunk ys)
    ∙ append_assoc chunk ys (line_end (open_behind (open_behind begun chunk) ys) ++ more)

-- a reader that has nothing left: the open line is ended, and the others follow
pub given-end : (begun : Bool) (before after rest : Option (List ℕ)) → Consumes before after []
    → IsAtEnd after → Consumes (ended_then begun before rest) rest (line_end begun)
given-end begun None after rest takes end = tt
given-end begun (Some xs) None rest takes end = absurd takes
given-end begun (Some xs) (Some ys) None takes end = tt
given-end begun (Some xs) (Some ys) (Some more) takes end =
    ap (λ (bytes : List ℕ). bytes ++ (line_end (open_behind begun bytes) ++ more)) (takes ∙ end)

pub none-consumed : (a b : Option (List ℕ)) → Consumes a b [] → Keeps a b
none-consumed None b takes = tt
none-consumed (Some xs) None takes = absurd takes
none-consumed (Some xs) (Some ys) takes = sym takes

pub kept-self : (a : Option (List ℕ)) → Keeps a a
kept-self None = tt
kept-self (Some xs) = refl

set-first : (buf : List ℕ) → 0 < length buf → take 1 (slice_set buf 0 10) ≡ 10 ∷ []
set-first [] room = absurd (omega (arith, room))
set-first (b ∷ bs) room = refl

-- a reader gave some bytes
pub read-some : {R : Type 0} (remaining : R → Option (List ℕ)) (reader : Option R)
    (readers : List R) (r s : R) (begun : Bool) (start : Option (List ℕ)) (count : ℕ) (buf : List ℕ)
    → Keeps start (bytes_from remaining begun reader readers) → reader ≡ Some r → 0 < count
    → count ≤ length buf → Consumes (remaining r) (remaining s) (take count buf)
    → Consumes start
    (ended_then (not (get_or buf (count - 1) 0 == 10)) (remaining s)
    (bytes_in_turn remaining readers)) (take count buf)
read-some {R} remaining reader readers r s begun start count buf kept is pos bound takes =
    let rest = bytes_in_turn remaining readers in
    let here : Keeps start (ended_then begun (remaining r) rest) =
    subst (λ (o : Option R). Keeps start (bytes_from remaining begun o readers)) is kept in
    let more : count ≡ suc (count - 1) = omega (arith, pos) in
    let same : open_behind begun (take count buf) ≡ not (get_or buf (count - 1) 0 == 10) =
    ap (λ (n : ℕ). open_behind begun (take n buf)) more
    ∙ open_behind-take begun (count - 1) buf (omega (arith, pos, bound)) in
    let left = ended_then (open_behind begun (take count buf)) (remaining s) rest in
    subst (λ (b : Bool). Consumes start (ended_then b (remaining s) rest) (take count buf)) same
    (kept-consumes start (ended_then begun (remaining r) rest) left (take count buf) here
    (given-read begun (remaining r) (remaining s) rest (take count buf) takes))

-- a reader with an open line had nothing left
pub read-end : {R : Type 0} (remaining : R → Option (List ℕ)) (reader : Option R) (readers : List R)
    (r s : R) (begun : Bool) (start left : Option (List ℕ)) (count : ℕ) (buf : List ℕ)
    → Keeps start (bytes_from remaining begun reader readers) → reader ≡ Some r → count ≤ 0
    → begun ≡ true → left ≡ bytes_in_turn remaining readers
    → Consumes (remaining r) (remaining s) (take count buf)
    → (count ≡ 0 → 0 < length buf → IsAtEnd (remaining s)) → 0 < length buf
    → Consumes start left (take 1 (slice_set buf 0 10))
read-end {R} remaining reader readers r s begun start left count buf kept is small was same takes
    end room =
    let rest = bytes_in_turn remaining readers in
    let here : Keeps start (ended_then begun (remaining r) rest) =
    subst (λ (o : Option R). Keeps start (bytes_from remaining begun o readers)) is kept in
    let none : count ≡ 0 = omega (arith, small) in
    let taken : Consumes (remaining r) (remaining s) [] =
    subst (λ (n : ℕ). Consumes (remaining r) (remaining s) (take n buf)) none takes in
    let ended : Consumes (ended_then begun (remaining r) rest) rest (line_end begun) =
    given-end begun (remaining r) (remaining s) rest taken (end none room) in
    let feed : line_end begun ≡ take 1 (slice_set buf 0 10) =
    ap (λ (b : Bool). line_end b) was ∙ sym (set-first buf room) in
    subst (λ (bytes : List ℕ). Consumes start left bytes) feed
    (subst (λ (o : Option (List ℕ)). Consumes start o (line_end begun)) (sym same)
    (kept-consumes start (ended_then begun (remaining r) rest) rest (line_end begun) here ended))

-- a reader with no open line had nothing left
pub read-nothing : {R : Type 0} (remaining : R → Option (List ℕ)) (reader : Option R)
    (readers : List R) (r s : R) (begun : Bool) (start left : Option (List ℕ)) (count : ℕ)
    (buf : List ℕ)
    → Keeps start (bytes_from remaining begun reader readers) → reader ≡ Some r → count ≤ 0
    → begun ≡ false → left ≡ bytes_in_turn remaining readers
    → Consumes (remaining r) (remaining s) (take count buf)
    → (count ≡ 0 → 0 < length buf → IsAtEnd (remaining s)) → 0 < length buf → Keeps start left
read-nothing {R} remaining reader readers r s begun start left count buf kept is small was same
    takes end room =
    let rest = bytes_in_turn remaining readers in
    let here : Keeps start (ended_then begun (remaining r) rest) =
    subst (λ (o : Option R). Keeps start (bytes_from remaining begun o readers)) is kept in
    let none : count ≡ 0 = omega (arith, small) in
    let taken : Consumes (remaining r) (remaining s) [] =
    subst (λ (n : ℕ). Consumes (remaining r) (remaining s) (take n buf)) none takes in
    let ended : Consumes (ended_then begun (remaining r) rest) rest (line_end begun) =
    given-end begun (remaining r) (remaining s) rest taken (end none room) in
    let all = ended_then begun (remaining r) rest in
    let nothing : Consumes all rest [] =
    subst (λ (b : Bool). Consumes all rest (line_end b)) was ended in
    subst (λ (o : Option (List ℕ)). Keeps start o) (sym same)
    (kept-kept start all rest here (none-consumed all rest nothing))
