-- Beginnings of a log, which the number of their commands tells apart, and the versions up to them.
use Rattle.std.proofs.Common.{◌≡◌, ◌≤◌, ◌<◌, ◌+◌, ◌⊎◌, ℕ, List, [], ◌∷◌, ◌++◌, length, refl, ap}
use Rattle.std.proofs.Common.{sym, ◌∙◌, subst, inl, inr, ⊎_elim, arith, append_assoc}
use Rattle.std.proofs.Common.{length-append}
use Rattle.std.proofs.lemmas.List.{append-nil}
use mathlib.Core.List.{IsPrefix}
use Rattle.numa_requests.specs.declared.command.Command.{Command}
use Rattle.numa_publish.specs.declared.batch.Batch.{Batch}
use Rattle.numa_publish.specs.Batches.{history_of, before_last, versions_of, Extends, IsLog}
use Rattle.numa_publish.proofs.Lists.{prefix_self, prefix_trans, prefix_extends, history-append}
use Rattle.numa_publish.proofs.Lists.{extends_self, extends_trans}

-- of two beginnings of one list one is a beginning of the other
pub prefix_either : {A : Type 0} (xs ys zs : List A) → IsPrefix xs zs → IsPrefix ys zs
    → (IsPrefix xs ys) ⊎ (IsPrefix ys xs)
prefix_either [] ys zs p q = inl (ys, refl)
prefix_either (x ∷ xs) [] zs p q = inr (x ∷ xs, refl)
prefix_either (x ∷ xs) (y ∷ ys) [] p q = absurd (cc (p.1))
prefix_either (x ∷ xs) (y ∷ ys) (z ∷ zs) p q =
    let same : x ≡ y = cc (p.1, q.1) in
    ⊎_elim (λ (r : IsPrefix xs ys). inl (r.0, cc (r.1, same)))
    (λ (r : IsPrefix ys xs). inr (r.0, cc (r.1, same)))
    (prefix_either xs ys zs (p.0, cc (p.1)) (q.0, cc (q.1)))

-- what begins a list with one element more begins the list, or is all of it
pub at_end : {A : Type 0} (xs : List A) (b : A) (ys : List A) (e : A)
    → IsPrefix (xs ++ b ∷ []) (ys ++ e ∷ []) → (IsPrefix (xs ++ b ∷ []) ys) ⊎ ((xs ≡ ys) × (b ≡ e))
at_end [] b [] e p = inr (refl, cc (p.1))
at_end [] b (y ∷ ys) e p = inl (ys, cc (p.1))
at_end (x ∷ xs) b [] e p =
    absurd (omega (
      arith,
      ap (λ w. length w) p.1,
      length-append (xs ++ b ∷ []) p.0,
      length-append xs (b ∷ []),
    ))
at_end (x ∷ xs) b (y ∷ ys) e p =
    let same : x ≡ y = cc (p.1) in
    ⊎_elim (λ (r : IsPrefix (xs ++ b ∷ []) ys). inl (r.0, cc (r.1, same)))
    (λ (r : (xs ≡ ys) × (b ≡ e)). inr (cc (r.0, same), r.1))
    (at_end xs b ys e (p.0, cc (p.1)))

-- the versions before a batch that follows
pub before_last-snoc : (log : List Batch) (b : Batch) (count : ℕ) (earlier : List ℕ)
    → before_last (log ++ b ∷ []) count earlier
    ≡ (length (history_of log) + count) ∷ before_last log count earlier
before_last-snoc [] b count earlier =
    let same : count ≡ 0 + count = omega arith in ap (λ (n : ℕ). n ∷ earlier) same
before_last-snoc (x ∷ log) b count earlier =
    let all : length (history_of log) + (length x.commands + count)
    ≡ length (history_of log ++ x.commands) + count =
    omega (arith, length-append (history_of log) x.commands) in
    before_last-snoc log b (length x.commands + count) (count ∷ earlier)
    ∙ ap (λ (n : ℕ). n ∷ before_last log (length x.commands + count) (count ∷ earlier)) all

-- the versions up to a batch
pub versions-snoc : (log : List Batch) (b : Batch) → versions_of (log ++ b ∷ [])
    ≡ length (history_of (log ++ b ∷ [])) ∷ versions_of log
versions-snoc log b =
    let none : length (history_of log) + 0 ≡ length (history_of log) = omega arith in
    ap (λ (ns : List ℕ). length (history_of (log ++ b ∷ [])) ∷ ns)
    (before_last-snoc log b 0 [] ∙ ap (λ (n : ℕ). n ∷ before_last log 0 []) none)

-- ---- what is a log

pub log_begins : (xs ys : List Batch) → IsPrefix xs ys → IsLog ys → IsLog xs
log_begins xs ys p h earlier b q = h earlier b (prefix_trans _ _ _ q p)

pub log_grows : (log : List Batch) (e : Batch) → IsLog log → 0 < length e.commands
    → IsLog (log ++ e ∷ [])
log_grows log e h may earlier b p =
    ⊎_elim (λ (q : IsPrefix (earlier ++ b ∷ []) log). h earlier b q)
    (λ (q : (earlier ≡ log) × (b ≡ e)).
    subst (λ (batch : Batch). 0 < length batch.commands) (sym q.1) may) (at_end earlier b log e p)

-- a beginning with as many commands as the whole is the whole
pub log_whole : (xs ys : List Batch) → IsPrefix xs ys → IsLog ys
    → length (history_of ys) ≤ length (history_of xs) → xs ≡ ys
log_whole xs ys p h le =
    go p.0 p.1
  where
    go : (rest : List Batch) → xs ++ rest ≡ ys → xs ≡ ys
    go [] e = sym (append-nil xs) ∙ e
    go (b ∷ rest) e =
        let some : 0 < length b.commands = h xs b (rest, append_assoc xs (b ∷ []) rest ∙ e) in
        let all : history_of ys ≡ (history_of rest ++ b.commands) ++ history_of xs =
        ap history_of (sym e) ∙ history-append xs (b ∷ rest) in
        absurd (omega (
          arith,
          le,
          some,
          ap (λ (w : List Command). length w) all,
          length-append (history_of rest ++ b.commands) (history_of xs),
          length-append (history_of rest) b.commands,
        ))

-- two beginnings of one log with as many commands are one
pub fronts_same : (xs ys both : List Batch) → IsPrefix xs both → IsPrefix ys both → IsLog both
    → length (history_of xs) ≡ length (history_of ys) → xs ≡ ys
fronts_same xs ys both p q h n =
    ⊎_elim (λ (r : IsPrefix xs ys). log_whole xs ys r (log_begins ys both q h) (omega (arith, n)))
    (λ (r : IsPrefix ys xs). sym (log_whole ys xs r (log_begins xs both p h) (omega (arith, n))))
    (prefix_either xs ys both p q)

-- of two beginnings of one log the one with fewer commands begins the other
pub fronts_shorter : (xs ys both : List Batch) → IsPrefix xs both → IsPrefix ys both → IsLog both
    → length (history_of xs) ≤ length (history_of ys) → IsPrefix xs ys
fronts_shorter xs ys both p q h le =
    ⊎_elim (λ (r : IsPrefix xs ys). r)
    (λ (r : IsPrefix ys xs).
    subst (λ (l : List Batch). IsPrefix l ys) (log_whole ys xs r (log_begins xs both p h) le)
    (prefix_self ys))
    (prefix_either xs ys both p q)

-- ---- the versions up to a beginning

longer : (rest xs ys : List Batch) → xs ++ rest ≡ ys → Extends (versions_of xs) (versions_of ys)
longer [] xs ys e =
    subst (λ (l : List Batch). Extends (versions_of xs) (versions_of l)) (sym (append-nil xs) ∙ e)
    (extends_self (versions_of xs))
longer (b ∷ rest) xs ys e =
    extends_trans (versions_of xs) (versions_of (xs ++ b ∷ [])) (versions_of ys)
    (length (history_of (xs ++ b ∷ [])) ∷ [], versions-snoc xs b)
    (longer rest (xs ++ b ∷ []) ys (append_assoc xs (b ∷ []) rest ∙ e))

-- those up to a beginning come before those up to the whole
pub versions_begin : (xs ys : List Batch) → IsPrefix xs ys
    → Extends (versions_of xs) (versions_of ys)
versions_begin xs ys p = longer p.0 xs ys p.1

-- what the one with fewer commands of two beginnings of one log shows, the other shows too
pub shown_before : (xs ys both : List Batch) → IsPrefix xs both → IsPrefix ys both → IsLog both
    → length (history_of xs) ≤ length (history_of ys)
    → Extends (history_of xs) (history_of ys) × Extends (versions_of xs) (versions_of ys)
shown_before xs ys both p q h le =
    let begins = fronts_shorter xs ys both p q h le in
    (prefix_extends xs ys begins, versions_begin xs ys begins)
