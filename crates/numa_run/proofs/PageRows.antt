-- Worked rows: the texts of answers about pages.
use Rattle.std.proofs.Common.{◌≡◌, true, [], codes, refl}
use Rattle.numa_requests.specs.declared.page_refusal.MoveRefusal.TheVariants as move
use Rattle.numa_requests.specs.declared.page_refusal.PlacedRefusal.TheVariants as cause
use Rattle.numa_script.specs.PageTexts.{late_words}
use Rattle.numa_script.specs.Texts.{text_of}
use Rattle.numa_script.specs.declared.reply.Reply.TheVariants as reply
use Rattle.numa_run.specs.MovedTexts.{flow_text}

refused-row : text_of (reply.PlacedRefused cause.NodesNotAllowed)
    ≡ codes "refused NodesNotAllowed EINVAL\n"
unfolding text_of
refused-row = refl

not-placed-row : text_of (reply.MoveRefused move.NotPlaced)
    ≡ codes "refused NotPlaced ENOENT\n"
unfolding text_of
not-placed-row = refl

no-flow-row : flow_text 2 0 10 ≡ []
no-flow-row = refl

late-words-row : late_words true ≡ codes " EIO"
late-words-row = refl
