-- The current node of a walk is the frame search's.
use Rattle.std.proofs.Common.{◌≡◌, ℕ, suc, ◌+◌, ◌*◌, ◌<◌, List, [], ◌∷◌, Bool, true, false, not}
use Rattle.std.proofs.Common.{Option, Some, None, is_some, refl, ap, ◌∙◌, inl, inr, arith, eq-eqb}
use Rattle.std.specs.Prelude.{slice_index, slice_get, nat_lt, ◌==◌, ◌&&◌, if◌then◌else◌}
use Rattle.std.specs.Option.{option_map_or}
use Rattle.numa_core.specs.World.{Setup, FrameSearch, first_place, one_further, has_unmet}
use Rattle.numa_core.specs.World.{at_current, may_look, may_try}
use Rattle.numa_core.specs.Steps.{goes_on, going_on, over_by}
use Rattle.numa_requests.specs.declared.event.CoreReply.TheVariants.{Still}
use Rattle.numa_core.proofs.Cursors.{any_below-true, any_below-false}
use Rattle.numa_core.proofs.InARow.{is_lt}
use Rattle.numa_machine.specs.declared.frame.Frame.{Frame}
use Rattle.numa_pool.specs.declared.view.Entry.{Entry}
use Rattle.numa_pool.specs.Walk.{IsFull, HasUnmet, IsCurrent, AllFull, IsNext}
use Rattle.numa_refinement.specs.Tie.{HasMet, IsAt}

-- the test of the first place, where the first of the nodes passes or does not
abbrev at_first : (ℕ → Bool) → (ℕ → Bool) → List ℕ → Bool
at_first unmet test ns = option_map_or (λ rank. test (slice_index ns rank)) (first_place unmet ns)
    false

at_first-here : (unmet test : ℕ → Bool) (n : ℕ) (ns : List ℕ) → unmet n ≡ true
    → at_first unmet test (n ∷ ns) ≡ test n
at_first-here unmet test n ns e =
    ap (λ b. option_map_or (λ rank. test (slice_index (n ∷ ns) rank))
    (if b then Some 0 else one_further (first_place unmet ns)) false) e

at_first-further : (unmet test : ℕ → Bool) (n : ℕ) (ns : List ℕ) → unmet n ≡ false
    → at_first unmet test (n ∷ ns) ≡ at_first unmet test ns
at_first-further unmet test n ns e =
    ap (λ b. option_map_or (λ rank. test (slice_index (n ∷ ns) rank))
    (if b then Some 0 else one_further (first_place unmet ns)) false) e ∙ go (first_place unmet ns)
  where
    go : (o : Option ℕ) → option_map_or (λ rank. test (slice_index (n ∷ ns) rank)) (one_further o)
        false ≡ option_map_or (λ rank. test (slice_index ns rank)) o false
    go None = refl
    go (Some r) = let e : r + 1 ≡ suc r = omega arith in ap (λ j. test (slice_index (n ∷ ns) j)) e

module _ (s : Setup) (frame_search : FrameSearch) (es : List Entry) (same : HasMet frame_search es)
  where
    unmet-true : (n : ℕ) → HasUnmet s.machine.frames es n → has_unmet s frame_search n ≡ true
    unmet-true n h = any_below-true (λ k. not (frame_search.met n k))
        (slice_index s.machine.frames n)
        h.0 h.1 (ap not (same n h.0 ∙ h.2))

    unmet-false : (n : ℕ) → IsFull s.machine.frames es n → has_unmet s frame_search n ≡ false
    unmet-false n h = any_below-false (λ k. not (frame_search.met n k))
        (slice_index s.machine.frames n) (λ k l. ap not (same n k ∙ h k l))

    current-in : (test : ℕ → Bool) (ns : List ℕ) (n : ℕ) → IsCurrent s.machine.frames es ns n
        → at_first (has_unmet s frame_search) test ns ≡ test n
    current-in test [] n h = absurd h
    current-in test (m ∷ ns) n (inl t) = at_first-here (has_unmet s frame_search) test m ns
        (unmet-true m t.1) ∙ ap test t.0
    current-in test (m ∷ ns) n (inr t) = at_first-further (has_unmet s frame_search) test m ns
        (unmet-false m t.0) ∙ current-in test ns n t.1

    -- what holds of the current node holds of this one
    pub current : (test : ℕ → Bool) (n : ℕ) → IsCurrent s.machine.frames es frame_search.nodes n
        → at_current s frame_search test ≡ test n
    current test n h = current-in test frame_search.nodes n h

    abbrev Place : List ℕ → ℕ → Type 0
    Place ns n = (rank : ℕ) × (first_place (has_unmet s frame_search) ns ≡ Some rank)
        × (slice_get ns rank ≡ Some n)

    place-in : (ns : List ℕ) (n : ℕ) → IsCurrent s.machine.frames es ns n → Place ns n
    place-in [] n h = absurd h
    place-in (m ∷ ns) n (inl t) = (
      0,
      ap (λ b. if b then Some 0 else one_further (first_place (has_unmet s frame_search) ns))
          (unmet-true m t.1),
      ap Some t.0,
    )
    place-in (m ∷ ns) n (inr t) =
        let rest = place-in ns n t.1 in
        let next : rest.0 + 1 ≡ suc rest.0 = omega arith in (
          suc rest.0,
          ap (λ b. if b then Some 0 else one_further (first_place (has_unmet s frame_search) ns))
              (unmet-false m t.0) ∙ ap one_further rest.1 ∙ ap Some next,
          rest.2,
        )

    pub is-at : (n : ℕ) → IsCurrent s.machine.frames es frame_search.nodes n → IsAt s frame_search n
    is-at n h = place-in frame_search.nodes n h

    pub still : (n : ℕ) → IsCurrent s.machine.frames es frame_search.nodes n
        → (goes_on s frame_search ≡ Still) × (going_on s frame_search ≡ Some frame_search)
    still n h = let at = is-at n h in (
      ap (λ o. if is_some o then Still else over_by frame_search) at.1,
      ap (λ o. if is_some o then Some frame_search else None) at.1,
    )

    no-place : (ns : List ℕ) → AllFull s.machine.frames es ns
        → first_place (has_unmet s frame_search) ns ≡ None
    no-place [] h = refl
    no-place (n ∷ ns) h =
        ap (λ b. if b then Some 0 else one_further (first_place (has_unmet s frame_search) ns))
        (unmet-false n h.0) ∙ ap one_further (no-place ns h.1)

    pub over : AllFull s.machine.frames es frame_search.nodes
        → (goes_on s frame_search ≡ over_by frame_search)
        × (going_on s frame_search ≡ None)
    over h = let at = no-place frame_search.nodes h in (
      ap (λ o. if is_some o then Still else over_by frame_search) at,
      ap (λ o. if is_some o then Some frame_search else None) at,
    )

    -- a word of the current node may be looked at
    pub may_look-current : (n w : ℕ) → IsCurrent s.machine.frames es frame_search.nodes n
        → 64 * w < slice_index s.machine.frames n → may_look s frame_search w ≡ true
    may_look-current n w h l = current (λ m. nat_lt (64 * w) (slice_index s.machine.frames m)) n h
        ∙ is_lt (64 * w) (slice_index s.machine.frames n) l

    -- a frame that may come next may be tried
    pub may_try-next : (f : Frame) → IsNext s.machine.frames es frame_search.nodes f
        → may_try s frame_search f ≡ true
    may_try-next f h =
        current (λ m. (m == f.node)
        && (nat_lt f.number (slice_index s.machine.frames m)
        && not (frame_search.met m f.number))) f.node h.0
        ∙ all (f.node == f.node) (nat_lt f.number (slice_index s.machine.frames f.node))
        (frame_search.met f.node f.number) (eq-eqb f.node f.node refl)
        (is_lt f.number (slice_index s.machine.frames f.node) h.1) (same f.node f.number ∙ h.2)
      where
        all : (a b c : Bool) → a ≡ true → b ≡ true → c ≡ false → (a && (b && not c)) ≡ true
        all true true false p q r = refl
        all true true true p q r = absurd (cc)
        all true false c p q r = absurd (cc)
        all false b c p q r = absurd (cc)
