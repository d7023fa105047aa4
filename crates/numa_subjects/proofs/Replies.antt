-- Which texts tell a fault or a refusal.
use Rattle.std.proofs.Common.{◌≡◌, ℕ, List, refl, ◌∙◌, ap}
use Rattle.numa_script.specs.Replies.{is_fault}
use Rattle.numa_script.specs.Texts.{text_of}
use Rattle.numa_script.specs.declared.policy.WordError.TheVariants as word
use Rattle.numa_script.specs.declared.reply.Reply.{Reply}
use Rattle.numa_script.specs.declared.reply.Reply.TheVariants as reply
use Rattle.numa_subjects.specs.Faults.{tells_fault}

-- exactly the text of a fault or a refusal does
pub text_tells_fault : (said : Reply) → tells_fault (text_of said) ≡ is_fault said
unfolding text_of
text_tells_fault reply.Silent = refl
text_tells_fault reply.BadWords = refl
text_tells_fault reply.BadState = refl
text_tells_fault reply.LimitsOk = refl
text_tells_fault reply.BadLimits = refl
text_tells_fault reply.RulesOk = refl
text_tells_fault reply.CpusOk = refl
text_tells_fault reply.Ready = refl
text_tells_fault (reply.BadMachine fault) = refl
text_tells_fault (reply.BadWord (word.List fault)) = refl
text_tells_fault (reply.BadWord (word.Policy fault)) = refl
text_tells_fault (reply.Accepted version) = refl
text_tells_fault (reply.Published version) = refl
text_tells_fault reply.Still = refl
text_tells_fault (reply.Exhausted version) = refl
text_tells_fault (reply.Won win) = refl
text_tells_fault (reply.Found frame) = refl
text_tells_fault reply.Full = refl
text_tells_fault reply.Given = refl
text_tells_fault (reply.Back frame) = refl
text_tells_fault (reply.Refused cause) = refl
text_tells_fault reply.Placed = refl
text_tells_fault reply.HostReady = refl
text_tells_fault (reply.HostRefused cause) = refl
text_tells_fault reply.AtOk = refl
text_tells_fault reply.RoomOk = refl
text_tells_fault reply.MemoryMigrateOk = refl
text_tells_fault (reply.Moved moved left) = refl
text_tells_fault (reply.MovedTo node) = refl
text_tells_fault (reply.Sent version moved left late) = refl
text_tells_fault (reply.PlacedRefused cause) = refl
text_tells_fault (reply.MoveRefused cause) = refl
text_tells_fault (reply.HugeRefused cause) = refl

pub fault_of_text : (answer : List ℕ) (said : Reply) → answer ≡ text_of said
    → tells_fault answer ≡ is_fault said
fault_of_text answer said is = ap (λ text. tells_fault text) is ∙ text_tells_fault said
