-- The script that a handle keeps, before and after a line.
use Rattle.std.proofs.Common.{◌≡◌, ℕ, List, Result, Option, Some, sym, ap, ◌∙◌, subst}
use Rattle.std.specs.Prelude.{unwrap_or}
use Rattle.numaplan_handles.specs.Dialogs.{Serves, ServesKept}
use Rattle.numaplan_handles.specs.Kinds.{dialog_of}
use Rattle.numaplan_handles.specs.declared.dialog.Dialog.{Dialog}
use Rattle.numaplan_handles.specs.declared.dialog.LineRefusal.{LineRefusal}
use Rattle.numaplan_handles.specs.declared.kept.Kept.{Kept}
use Rattle.numaplan_handles.specs.declared.kept.Kept.TheVariants as kept

same : (found before : Dialog) → Some found ≡ Some before → found ≡ before
same found before e = ap (λ (d : Option Dialog). unwrap_or d found) e

pub serves-kept : (old : Kept) (found before later : Dialog) (line : List ℕ)
    (answer : Result ℕ LineRefusal) → old ≡ kept.Script found → dialog_of (Some old) ≡ Some before
    → Serves found line answer later
    → Serves before line answer later
serves-kept old found before later line answer e is serves =
    subst (λ (d : Dialog). Serves d line answer later)
    (same found before (sym (ap (λ (k : Kept). dialog_of (Some k)) e) ∙ is)) serves

-- the same handle's value, before it was taken out and after it was put back
pub serves-same : (old old_kept new new_kept : Option Dialog) (line : List ℕ)
    (answer : Result ℕ LineRefusal) → old ≡ old_kept → new ≡ new_kept
    → ServesKept line old_kept new_kept answer
    → ServesKept line old new answer
serves-same old old_kept new new_kept line answer e f serves =
    subst (λ (d : Option Dialog). ServesKept line d new answer) (sym e)
    (subst (λ (d : Option Dialog). ServesKept line old_kept d answer) (sym f) serves)
