-- What is held once one more process was added.
use Rattle.std.proofs.Common.{◌≡◌, ◌∙◌, ℕ, zero, suc, List, [], ◌∷◌, ◌++◌, ◌+◌, ◌<◌, ap, ap₂}
use Rattle.std.proofs.Common.{append_assoc, arith, get_or, length, subst, sym, take}
use Rattle.numa_moves.specs.Held.{Before, Held, IsLeft, Told, held_by, held_from}
use Rattle.numa_moves.specs.declared.scene.Scene.{Scene}

-- a member is of the scene
pub left-in : (scene other : Scene) (before : Before) → other ≡ scene → IsLeft scene before
    → IsLeft other before
left-in scene other before same left = subst (λ (s : Scene). IsLeft s before) (sym same) left

-- what the first processes hold is what those before the last of them hold, and it
held-more : (before : Before) (procs : List Told) (made k : ℕ) (told : Told)
    → k < length {A = Told} procs → get_or procs k told ≡ told
    → held_from before made (take (suc k) procs)
    ≡ held_from before made (take k procs) ++ held_by before (made + k) told ∷ []
held-more before [] made k told inside read = absurd (omega (arith, inside))
held-more before (proc ∷ procs) made zero told inside read =
    let here : made ≡ made + 0 = omega arith in
    ap₂ (λ (m : ℕ) (t : Told). held_by before m t ∷ []) here read
held-more before (proc ∷ procs) made (suc k) told inside read =
    let here : suc made + k ≡ made + suc k = omega arith in
    ap (λ (l : List Held). held_by before made proc ∷ l)
    (held-more before procs (suc made) k told (omega (arith, inside)) read
    ∙ ap (λ (m : ℕ). held_from before (suc made) (take k procs) ++ held_by before m told ∷ [])
    here)

-- one process more
pub held-next : (before : Before) (procs : List Told) (k : ℕ) (told : Told)
    (old so after : List Held) → k < length {A = Told} procs → get_or procs k told ≡ told
    → so ≡ old ++ held_from before 0 (take k procs) → after ≡ so ++ held_by before k told ∷ []
    → after ≡ old ++ held_from before 0 (take (k + 1) procs)
held-next before procs k told old so after inside read was is =
    let next : suc k ≡ k + 1 = omega arith in
    let here : 0 + k ≡ k = omega arith in
    let done : List Held = held_from before 0 (take k procs) in
    is ∙ ap (λ (l : List Held). l ++ held_by before k told ∷ []) was
    ∙ append_assoc old done (held_by before k told ∷ [])
    ∙ ap (λ (m : ℕ). old ++ (done ++ held_by before m told ∷ [])) (sym here)
    ∙ ap (λ (l : List Held). old ++ l) (sym (held-more before procs 0 k told inside read))
    ∙ ap (λ (n : ℕ). old ++ held_from before 0 (take n procs)) next
