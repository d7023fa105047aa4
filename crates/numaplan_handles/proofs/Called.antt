-- What a call did to the host that a handle keeps.
use Rattle.std.proofs.Common.{◌≡◌, ◌∙◌, ap, refl, subst, sym, true}
use Rattle.std.proofs.lemmas.Bool.{both_ways}
use Rattle.std.specs.Prelude.{Option, Some, is_some, unwrap_or}
use Rattle.numa_host_script.specs.declared.running.RunningHost.{RunningHost}
use Rattle.numaplan_handles.specs.Calls.{Calls}
use Rattle.numaplan_handles.specs.Hosts.{OfRunning}
use Rattle.numaplan_handles.specs.Kinds.{host_of}
use Rattle.numaplan_handles.specs.declared.kept.Kept.{Kept}
use Rattle.numaplan_handles.specs.declared.kept.Kept.TheVariants as kept

-- it is told of the host that was there, and the one that is there then
pub called : {A : Type 0} (told : RunningHost → A → RunningHost → Type 0)
    (old new : Option Kept) (found : Kept) (running after : RunningHost) (answer : A)
    → old ≡ Some found → found ≡ kept.Host running → host_of new ≡ Some after
    → told running answer after → Calls (OfRunning told) (host_of old) (Some answer) (host_of new)
called told old new found running after answer was is now' so =
    let there : host_of old ≡ Some running = ap host_of (was ∙ ap Some is) in (
      λ none. absurd (both_ways true (ap is_some (sym there ∙ none)) refl),
      λ before same. (
        after,
        now',
        subst (λ (r : RunningHost). told r answer after)
            (ap (λ (o : Option RunningHost). unwrap_or o running) (sym there ∙ same)) so,
      ),
    )
