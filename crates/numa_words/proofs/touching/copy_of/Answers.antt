use Rattle.std.proofs.Common.{◌≡◌, ℕ, Bor, Option, ap, sym, ◌∙◌}
use Rattle.std.specs.Option.{option_copied}
use Rattle.std.proofs.lemmas.Result.{IfOk-weaker}
use Rattle.numa_placed.specs.Laid.{Laid, spot_at}
use Rattle.numa_words.specs.Touching.{spots_there}
use Rattle.numa_words.proofs.touching.copy_of.Goals as goal

pub returns-in-Some : goal.returns-in-Some
returns-in-Some c =
    IfOk-weaker c.copy.result (λ copy. copy ≡ c.in-Some.placed.now)
    (λ copy. (page : ℕ) → spot_at copy page ≡ spots_there (option_copied c.args.there) page)
    (λ copy so page. ap (λ (l : Laid). spot_at l page) so
    ∙ sym (ap (λ (o : Option (Bor Laid)). spots_there (option_copied o) page) c.in-Some.is))
    c.copy.ensures
