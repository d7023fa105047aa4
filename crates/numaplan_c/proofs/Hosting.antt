-- What a call of a host's handle answers that reads a policy first, and one that opens it.
use Rattle.std.proofs.Common.{◌≡◌, ◌∙◌, ℕ, Ok, Err, Option, None, Some, ap, arith, refl, subst, sym}
use Rattle.std.proofs.Common.{false, true}
use Rattle.std.proofs.lemmas.Bool.{both_ways}
use Rattle.std.specs.Prelude.{MatchResult, Result, is_some}
use Rattle.numa_host_script.specs.declared.running.RunningHost.{RunningHost}
use Rattle.numa_mode.specs.Policy.{Specification}
use Rattle.numa_requests.specs.declared.host_command.HostCommand.{HostCommand}
use Rattle.numa_script.specs.declared.policy.WordError.{WordError}
use Rattle.numaplan_c.specs.Border.{Opens}
use Rattle.numaplan_c.specs.Codes.{memory_code, word_code}
use Rattle.numaplan_c.specs.Hosted.{HostTell}
use Rattle.numaplan_c.specs.Hosts.{HostAnswers, HostAnswersRead}
use Rattle.numaplan_handles.specs.Calls.{Keeps}
use Rattle.numaplan_handles.specs.Handles.{host_in}
use Rattle.numaplan_handles.specs.Hosts.{OfRunning}
use Rattle.numaplan_handles.specs.Kinds.{host_of}
use Rattle.numaplan_handles.specs.declared.host_handle.HostHandle.{HostHandle}
use Rattle.numaplan_handles.specs.declared.kept.Kept.{Kept}

-- the policy was read, of a host that was asked its rules
pub told-bound : {A : Type 0} (code_of : A → ℕ) (tells : A → Type 0) (untold : Type 0)
    (told : Specification → RunningHost → A → RunningHost → Type 0) (old between new : HostHandle)
    (code : ℕ) (said : Result Specification WordError) (value : Specification)
    (faulty : WordError → Type 0) → Ok value ≡ said → host_in between ≡ host_in old
    → HostTell code_of tells untold (told value) between code new
    → MatchResult said (λ spec. HostTell code_of tells untold (told spec) old code new) faulty
told-bound {A} code_of tells untold told old between new code said value faulty is same so =
    subst (λ (found : Result Specification WordError). MatchResult found
    (λ spec. HostTell code_of tells untold (told spec) old code new) faulty) is
    (subst (λ (kept : Option RunningHost).
    (kept ≡ None → (code ≡ 1) × (host_in new ≡ None) × untold)
    × ((running : RunningHost) → kept ≡ Some running → (answer : A) × (code ≡ code_of answer)
    × tells answer × OfRunning (told value) kept (host_in new) answer)) same so)

-- the same of a command
pub answered-bound : (command : Specification → HostCommand) (old between new : Option RunningHost)
    (code : ℕ) (said : Result Specification WordError) (value : Specification) → Ok value ≡ said
    → between ≡ old → HostAnswers between (command value) code new
    → HostAnswersRead said word_code command old code new
answered-bound command old between new code said value is same so =
    subst (λ (found : Result Specification WordError).
    HostAnswersRead found word_code command old code new) is
    (subst (λ (kept : Option RunningHost). HostAnswers kept (command value) code new) same so)

-- a handle that isn't open keeps no host
pub none-kept : (kept : Option Kept) → is_some kept ≡ false → host_of kept ≡ None
none-kept None shut = refl
none-kept (Some it) shut = absurd (both_ways true shut refl)

-- what is made is kept, or memory lacks
pub opened : {K E : Type 0} (value : K) (answer : Result (Unit {0}) E) (old kept : Option K)
    (code : ℕ) → old ≡ None → Keeps value answer kept → code ≡ memory_code answer
    → Opens old code kept
opened value (Ok done) old kept code none keeps is =
    (λ zero. ap is_some keeps.0, λ some. absurd (some is))
opened value (Err why) old kept code none keeps is =
    let three : code ≡ 3 = is in (
      λ zero. absurd (omega (arith, three, zero)),
      λ some. keeps.1 ∙ sym none,
    )
