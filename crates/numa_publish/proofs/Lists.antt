-- Beginnings of a log, and what a history extends.
use Rattle.std.proofs.Common.{◌≡◌, ◌≤◌, ◌+◌, List, [], ◌∷◌, ◌++◌, length, Option, Result, Ok, Err}
use Rattle.std.proofs.Common.{IfOk, refl, ap, sym, ◌∙◌, arith, append_assoc, length-append}
use Rattle.std.proofs.lemmas.List.{append-nil}
use Rattle.core.specs.Option.{ok_or}
use Rattle.core.specs.Result.{result_ok}
use mathlib.Core.List.{IsPrefix}
use Rattle.numa_requests.specs.declared.command.Command.{Command}
use Rattle.numa_publish.specs.declared.batch.Batch.{Batch}
use Rattle.numa_publish.specs.Batches.{history_of, Extends}

pub prefix_self : {A : Type 0} (xs : List A) → IsPrefix xs xs
prefix_self xs = ([], append-nil xs)

pub prefix_trans : {A : Type 0} (xs ys zs : List A) → IsPrefix xs ys → IsPrefix ys zs
    → IsPrefix xs zs
prefix_trans xs ys zs p q =
    (p.0 ++ q.0, sym (append_assoc xs p.0 q.0) ∙ (ap (λ w. w ++ q.0) p.1 ∙ q.1))

pub extends_self : {A : Type 0} (xs : List A) → Extends xs xs
extends_self xs = ([], refl)

pub extends_trans : {A : Type 0} (xs ys zs : List A) → Extends xs ys → Extends ys zs → Extends xs zs
extends_trans xs ys zs p q =
    (q.0 ++ p.0, q.1 ∙ (ap (λ w. q.0 ++ w) p.1 ∙ sym (append_assoc q.0 p.0 xs)))

pub no_length : {A : Type 0} (xs : List A) → length xs ≤ 0 → xs ≡ []
no_length [] le = refl
no_length (x ∷ xs) le = absurd (omega arith)

-- of two ends of one list the longer extends the shorter
pub extends_shorter : {A : Type 0} (a b xs ys : List A) → a ++ xs ≡ b ++ ys → length xs ≤ length ys
    → Extends xs ys
extends_shorter [] b xs ys e le =
    let n : length b ≤ 0 = omega (arith, ap (λ w. length w) e, length-append b ys) in
    ([], sym (e ∙ ap (λ w. w ++ ys) (no_length b n)))
extends_shorter (x ∷ a) [] xs ys e le = (x ∷ a, sym e)
extends_shorter (x ∷ a) (y ∷ b) xs ys e le = extends_shorter a b xs ys (cc (e)) le

pub history-append : (xs ys : List Batch) → history_of (xs ++ ys) ≡ history_of ys ++ history_of xs
history-append [] ys = sym (append-nil (history_of ys))
history-append (x ∷ xs) ys = ap (λ w. w ++ x.commands) (history-append xs ys)
    ∙ append_assoc (history_of ys) (history_of xs) x.commands

pub history-snoc : (xs : List Batch) (b : Batch) → history_of (xs ++ b ∷ []) ≡ b.commands
    ++ history_of xs
history-snoc xs b = history-append xs (b ∷ [])

pub count-snoc : (xs : List Batch) (b : Batch) → length (history_of (xs ++ b ∷ []))
    ≡ length b.commands + length (history_of xs)
count-snoc xs b = ap (λ (w : List Command). length w) (history-snoc xs b)
    ∙ length-append b.commands (history_of xs)

pub prefix_extends : (xs ys : List Batch) → IsPrefix xs ys → Extends (history_of xs) (history_of ys)
prefix_extends xs ys p = (history_of p.0, sym (ap history_of p.1) ∙ history-append xs p.0)

-- what holds of a result's value holds of it under another refusal
pub ok_or_kept : {A E F : Type 0} (r : Result A E) (o : Option A) (s : Result A F) (f : F)
    (P : A → Type 0) → o ≡ result_ok r → s ≡ ok_or o f → IfOk r P → IfOk s P
ok_or_kept (Ok x) o s f P a b p = rw (b, a) p
ok_or_kept (Err e) o s f P a b p = rw (b, a) tt
