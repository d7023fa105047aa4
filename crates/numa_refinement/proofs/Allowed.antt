-- Why the core refuses none of these events, and what they do.
use Rattle.std.proofs.Common.{◌≡◌, ℕ, ◌<◌, nat_le, true, false, Some, None, Ok, is_some, refl, ap}
use Rattle.std.proofs.Common.{◌∙◌, arith, eq-eqb, if◌then◌else◌}
use Rattle.std.specs.Prelude.{◌==◌}
use Rattle.std.specs.Option.{option_map_or}
use Rattle.std.proofs.lemmas.Bool.Decides.{nat_tests}
use Rattle.numa_machine.specs.declared.frame.Frame.{Frame}
use Rattle.numa_core.specs.World.{Setup, World, FrameSearch, frame_search_of, owner_of, last_of}
use Rattle.numa_core.specs.World.{may_look, may_try, frame_search_after_look, frame_search_past}
use Rattle.numa_core.specs.Steps.{answer_of, effect_of, goes_on, going_on, won_by, with_owner}
use Rattle.numa_core.specs.Steps.{with_worker}
use Rattle.numa_requests.specs.declared.event.Event.TheVariants.{Look, Try, Give}
use Rattle.numa_requests.specs.declared.event.CoreReply.TheVariants.{Given}

pub no_less : (a b : ℕ) → b < a → nat_le a b ≡ false
no_less a b l = grind (arith, nat_tests)

module _ (s : Setup) (world : World) (version id : ℕ) (there : nat_le s.workers id ≡ false) where
  module _ (frame_search : FrameSearch) (busy : frame_search_of world id ≡ Some frame_search) where
    pub look-answer : (w : ℕ) → may_look s frame_search w ≡ true
        → answer_of s world version (Look id w)
        ≡ Ok (goes_on s (frame_search_after_look s world w frame_search))
    look-answer w may = rw (there, busy, may) refl

    pub look-effect : (w : ℕ) → effect_of s world version (Look id w) ≡ with_worker world id
        (last_of world id) (going_on s (frame_search_after_look s world w frame_search))
    look-effect w =
        ap (λ o. with_worker world id (last_of world id)
        (option_map_or (λ h. going_on s (frame_search_after_look s world w h)) o None)) busy

    pub won-answer : (f : Frame) → may_try s frame_search f ≡ true → owner_of world f ≡ None
        → answer_of s world version (Try id f) ≡ Ok (won_by s frame_search f)
    won-answer f may free = rw (there, busy, may, free) refl

    pub lost-answer : (f : Frame) (j : ℕ) → may_try s frame_search f ≡ true
        → owner_of world f ≡ Some j → answer_of s world version (Try id f)
        ≡ Ok (goes_on s (frame_search_past f frame_search))
    lost-answer f j may owned = rw (there, busy, may, owned) refl

    pub lost-effect : (f : Frame) (j : ℕ) → owner_of world f ≡ Some j
        → effect_of s world version (Try id f) ≡ with_worker world id (last_of world id)
        (going_on s (frame_search_past f frame_search))
    lost-effect f j owned =
        ap (λ o. if is_some o then with_worker world id (last_of world id)
        (option_map_or (λ h. going_on s (frame_search_past f h)) (frame_search_of world id)
        None) else with_worker (with_owner world f (Some id)) id (last_of world id) None) owned
        ∙ ap
        (λ o. with_worker world id (last_of world id)
        (option_map_or (λ h. going_on s (frame_search_past f h)) o None)) busy

  pub won-effect : (f : Frame) → owner_of world f ≡ None → effect_of s world version (Try id f)
      ≡ with_worker (with_owner world f (Some id)) id (last_of world id) None
  won-effect f free =
      ap (λ o. if is_some o then with_worker world id (last_of world id)
      (option_map_or (λ h. going_on s (frame_search_past f h)) (frame_search_of world id) None)
      else with_worker (with_owner world f (Some id)) id (last_of world id) None) free

  pub give-answer : (f : Frame) → frame_search_of world id ≡ None → owner_of world f ≡ Some id
      → answer_of s world version (Give id f) ≡ Ok Given
  give-answer f idle mine = let same : (id == id) ≡ true = eq-eqb id id refl in
      rw (there, idle, mine, same) refl
