-- No frame is tried twice in a walk.
use Rattle.std.proofs.Common.{◌≡◌, ℕ, ◌+◌, ◌≤◌, List, [], ◌∷◌, Bool, true, false, refl, sym, subst}
use Rattle.std.proofs.Common.{arith}
use Rattle.std.specs.Prelude.{◌||◌, Option, Some, None}
use Rattle.numa_machine.specs.declared.frame.Frame.{Frame}
use Rattle.numa_pool.specs.declared.view.Entry.{Entry}
use Rattle.numa_pool.specs.declared.view.Entry.TheVariants.{Load, Won, Lost, Gave}
use Rattle.numa_pool.specs.Frames.{is_frame, one_if}
use Rattle.numa_pool.specs.Walk.{shows, met, Searches, Wins, IsWalk, tries_of, TriesOnce}
use Rattle.numa_pool.proofs.Totals.{is_frame-same}

abbrev Once : List Entry → ℕ → ℕ → Type 0
Once es n k = (tries_of n k es ≤ 1) × (met es n k ≡ false → tries_of n k es ≡ 0)

unmet : (a b : Bool) → (a || b) ≡ false → b ≡ false
unmet true b e = absurd (cc)
unmet false b e = e

-- a try of an unmet frame
one_more : (es : List Entry) (f : Frame) (n k : ℕ) → met es f.node f.number ≡ false → Once es n k
    → (t : Bool) → is_frame f n k ≡ t → (one_if t + tries_of n k es ≤ 1)
    × ((t || met es n k) ≡ false → one_if t + tries_of n k es ≡ 0)
one_more es f n k free o true e =
    let same = is_frame-same f n k e in
    let here : met es n k ≡ false = subst (λ (p : ℕ × ℕ). met es p.0 p.1 ≡ false)
    (λ i. (same.0 i, same.1 i)) free in
    let zero_yet = o.1 here in
    (omega arith, λ h. absurd (cc))
one_more es f n k free o false e = let a = o.0 in (omega arith, λ h. let z = o.1 h in omega arith)

once : (frames ns : List ℕ) (es : List Entry) → Searches frames ns es → (n k : ℕ) → Once es n k
once frames ns [] s n k = (omega arith, λ h. refl)
once frames ns (Load m w x ∷ es) s n k =
    let o = once frames ns es s.0 n k in
    let a = o.0 in
    (omega arith, λ h. let z = o.1 (unmet (shows (Load m w x) n k) (met es n k) h) in omega arith)
once frames ns (Lost f ∷ es) s n k = one_more es f n k s.1.2 (once frames ns es s.0 n k)
    (is_frame f n k) refl
once frames ns (Won f ∷ es) s n k = absurd s
once frames ns (Gave f ∷ es) s n k = absurd s

won_once : (frames ns : List ℕ) (f : Frame) (es : List Entry) → Wins frames ns f es → (n k : ℕ)
    → tries_of n k es ≤ 1
won_once frames ns f [] h n k = absurd h
won_once frames ns f (e ∷ es) h n k =
    let o = one_more es f n k h.2.2 (once frames ns es h.1 n k) (is_frame f n k) refl in
    let a : one_if (is_frame f n k) + tries_of n k es ≤ 1 = o.0 in
    subst (λ (x : Entry). tries_of n k (x ∷ es) ≤ 1) (sym h.0) a

pub tries_once : (frames ns : List ℕ) (found : Option Frame) (es : List Entry)
    → IsWalk frames ns found es → TriesOnce es
tries_once frames ns None es h n k = (once frames ns es h.0 n k).0
tries_once frames ns (Some f) es h n k = won_once frames ns f es h n k
