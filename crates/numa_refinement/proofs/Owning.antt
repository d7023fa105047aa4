-- Who owns a frame after a step is who holds it.
use Rattle.std.proofs.Common.{◌≡◌, ◌≢◌, ◌⊎◌, ℕ, zero, suc, ◌<◌, List, [], ◌∷◌, length, Bool, true}
use Rattle.std.proofs.Common.{false, Some, None, refl, sym, ap, ◌∙◌, subst, inl, inr, arith, set}
use Rattle.std.specs.Prelude.{◌↔◌, ◌&&◌, if◌then◌else◌}
use mathlib.Core.Option.{some, some-injective}
use native.Mathlib.Decide.{ℕ_discrete}
use lib.ListN.{get_elem?}
use Rattle.atomic_table.proofs.Lists.{at_set, set_here, set_else}
use Rattle.numa_core.specs.World.{World, is_frame as is_core_frame}
use Rattle.numa_core.specs.Steps.{with_owner}
use Rattle.numa_machine.specs.declared.frame.Frame.{Frame}
use Rattle.numa_pool.specs.declared.view.View.{View}
use Rattle.numa_pool.specs.Frames.{is_frame, times, one_if, without}
use Rattle.numa_pool.specs.Rule.{PoolRule}
use Rattle.numa_pool.specs.Steps.{after_try, after_give}
use Rattle.numa_pool.proofs.Totals.{is_frame-same, times_without-here, times_without-else}
use Rattle.numa_refinement.proofs.Meeting.{eq_turned}
use Rattle.numa_refinement.specs.Tie.{OwnsWhatIsHeld}

pub frame_turned : (f : Frame) (n k : ℕ) → is_core_frame f n k ≡ is_frame f n k
frame_turned f n k = λ i. eq_turned n f.node i && eq_turned k f.number i

pub at_bound : (views : List View) (id : ℕ) (v : View) → get_elem? views id ≡ some v
    → id < length views
at_bound [] id v e = absurd (cc)
at_bound (x ∷ xs) zero v e = omega arith
at_bound (x ∷ xs) (suc id) v e = let r = at_bound xs id v e in omega arith

module _ (world : World) (views : List View) (id : ℕ) (v : View) (at : get_elem? views id ≡ some v)
    (ties : OwnsWhatIsHeld world views) where
  -- a won try is a Try that finds the frame without an owner: then the worker owns it
  pub wins_alike : (f : Frame) → world.owner f.node f.number ≡ None
      → OwnsWhatIsHeld (with_owner world f (Some id)) (set views id (after_try v f true))
  wins_alike f free n k j = by (is_frame f n k) refl
    where
      new : View
      new = after_try v f true

      Held : Type 0
      Held = (w : View) × (get_elem? (set views id new) j ≡ some w) × (0 < times n k w.held)

      owner_is : (b : Bool) → is_frame f n k ≡ b → (with_owner world f (Some id)).owner n k
          ≡ (if b then Some id else world.owner n k)
      owner_is b e = ap (λ c. if c then Some id else world.owner n k) (frame_turned f n k ∙ e)

      here : Held → Dec (j ≡ id) → is_frame f n k ≡ true → Some id ≡ Some j
      here h (yes e) t = ap Some (sym e)
      here h (no d) t =
          let same = is_frame-same f n k t in
          let other : get_elem? views j ≡ some h.0 = sym (set_else views id j new d) ∙ h.1 in
          let owner : world.owner n k ≡ Some j = (ties n k j).1 (h.0, other, h.2) in
          let none : world.owner n k ≡ None = subst (λ (p : ℕ × ℕ). world.owner p.0 p.1 ≡ None)
          (λ i. (same.0 i, same.1 i)) free in
          absurd (cc)

      by : (b : Bool) → is_frame f n k ≡ b → ((with_owner world f (Some id)).owner n k ≡ Some j)
          ↔ Held
      by true t = (
        (λ o. let is : Some id ≡ Some j = sym (owner_is true t) ∙ o in
            let same : id ≡ j = cc in
            let one : one_if (is_frame f n k) ≡ 1 = ap one_if t in (
              new,
              subst (λ i. get_elem? (set views id new) i ≡ some new) same
                  (set_here views id new (at_bound views id v at)),
              omega arith,
            )),
        (λ h. owner_is true t ∙ here h (ℕ_discrete j id) t),
      )
      by false t = (
        (λ o. let old = (ties n k j).0 (sym (owner_is false t) ∙ o) in keep old (ℕ_discrete j id)),
        (λ h. owner_is false t ∙ back h (at_set views id j new h.0 h.1)),
      )
        where
          keep : ((w : View) × (get_elem? views j ≡ some w) × (0 < times n k w.held)) → Dec (j ≡ id)
              → Held
          keep old (no d) = (old.0, set_else views id j new d ∙ old.1, old.2)
          keep old (yes e) =
              let same : old.0 ≡ v =
              some-injective old.0 v (sym old.1 ∙ ap (get_elem? views) e ∙ at) in
              let pos : 0 < times n k v.held = subst (λ (u : View). 0 < times n k u.held) same
              old.2 in (
                new,
                subst (λ i. get_elem? (set views id new) i ≡ some new) (sym e)
                    (set_here views id new (at_bound views id v at)),
                omega arith,
              )

          back : (h : Held) → ((j ≡ id) × (new ≡ h.0)) ⊎ ((j ≢ id) × (get_elem? views j ≡ some h.0))
              → world.owner n k ≡ Some j
          back h (inr e) = (ties n k j).1 (h.0, e.1, h.2)
          back h (inl e) =
              let zero_w : one_if (is_frame f n k) ≡ 0 = ap one_if t in
              let pos : 0 < times n k new.held = subst (λ (u : View). 0 < times n k u.held)
              (sym e.1) h.2 in
              (ties n k j).1 (v, ap (get_elem? views) e.0 ∙ at, omega arith)

  -- a fetch_and is a Give by the worker that owns the frame: then nobody owns it
  pub gives_alike : (frames words : List ℕ) → PoolRule frames words views → (f : Frame)
      → 0 < times f.node f.number v.held
      → OwnsWhatIsHeld (with_owner world f None) (set views id (after_give v f))
  gives_alike frames words rule f mine n k j = by (is_frame f n k) refl
    where
      new : View
      new = after_give v f

      Held : Type 0
      Held = (w : View) × (get_elem? (set views id new) j ≡ some w) × (0 < times n k w.held)

      owner_is : (b : Bool) → is_frame f n k ≡ b → (with_owner world f None).owner n k
          ≡ (if b then None else world.owner n k)
      owner_is b e = ap (λ c. if c then None else world.owner n k) (frame_turned f n k ∙ e)

      gone : (h : Held) → ((j ≡ id) × (new ≡ h.0)) ⊎ ((j ≢ id) × (get_elem? views j ≡ some h.0))
          → is_frame f n k ≡ true → ⊥
      gone h (inl e) t =
          let same = is_frame-same f n k t in
          let none : times n k new.held ≡ 0 =
          subst (λ (p : ℕ × ℕ). times n k (without p.0 p.1 v.held) ≡ 0)
          (λ i. (sym same.0 i, sym same.1 i)) (times_without-here n k v.held) in
          let pos : 0 < times n k new.held = subst (λ (u : View). 0 < times n k u.held) (sym e.1)
          h.2 in
          absurd (omega arith)
      gone h (inr e) t =
          let same = is_frame-same f n k t in
          let own : 0 < times n k v.held = subst (λ (p : ℕ × ℕ). 0 < times p.0 p.1 v.held)
          (λ i. (same.0 i, same.1 i)) mine in
          e.0 (rule.one_holder n k j id h.0 v e.1 at h.2 own)

      by : (b : Bool) → is_frame f n k ≡ b → ((with_owner world f None).owner n k ≡ Some j) ↔ Held
      by true t = (
        (λ o. let is : None ≡ Some j = sym (owner_is true t) ∙ o in absurd (cc)),
        (λ h. absurd (gone h (at_set views id j new h.0 h.1) t)),
      )
      by false t = (
        (λ o. let old = (ties n k j).0 (sym (owner_is false t) ∙ o) in keep old (ℕ_discrete j id)),
        (λ h. owner_is false t ∙ back h (at_set views id j new h.0 h.1)),
      )
        where
          stays : times n k new.held ≡ times n k v.held
          stays = times_without-else f.node f.number n k v.held t

          keep : ((w : View) × (get_elem? views j ≡ some w) × (0 < times n k w.held)) → Dec (j ≡ id)
              → Held
          keep old (no d) = (old.0, set_else views id j new d ∙ old.1, old.2)
          keep old (yes e) =
              let same : old.0 ≡ v =
              some-injective old.0 v (sym old.1 ∙ ap (get_elem? views) e ∙ at) in
              let pos : 0 < times n k v.held = subst (λ (u : View). 0 < times n k u.held) same
              old.2 in (
                new,
                subst (λ i. get_elem? (set views id new) i ≡ some new) (sym e)
                    (set_here views id new (at_bound views id v at)),
                let s = stays in omega arith,
              )

          back : (h : Held) → ((j ≡ id) × (new ≡ h.0)) ⊎ ((j ≢ id) × (get_elem? views j ≡ some h.0))
              → world.owner n k ≡ Some j
          back h (inr e) = (ties n k j).1 (h.0, e.1, h.2)
          back h (inl e) =
              let s = stays in
              let pos : 0 < times n k new.held = subst (λ (u : View). 0 < times n k u.held)
              (sym e.1) h.2 in
              (ties n k j).1 (v, ap (get_elem? views) e.0 ∙ at, omega arith)
