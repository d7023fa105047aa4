use Rattle.std.proofs.Common.{◌≡◌, ◌∙◌, ◌<◌, ◌+◌, ◌++◌, ◌∷◌, [], ℕ, List, ap, get_or, length}
use Rattle.std.proofs.Common.{map, take, refl}
use Rattle.std.proofs.Math.Seq.{take-suc}
use Rattle.std.proofs.lemmas.List.{map-append}
use Rattle.std.proofs.Common.{add-one}
use Rattle.clap.specs.Words.{App, Rule, Text, app_of, with_rule}
use Rattle.clap.specs.Simple.{new_shape}
use Rattle.numa_command_line.specs.Usage.{rule_said}
use Rattle.numa_command_line.specs.declared.usage.Argument.{Argument}
use Rattle.numa_command_line.proofs.usage.own_command.Goals as goal

abbrev own_by : Text → List Rule → App
own_by name rules = record { top = record (new_shape name) { rules = rules }; subs = [] }

-- the arguments so far, and one more
own_more : (name : Text) (xs : List Argument) (i : ℕ) (x : Argument) (before after : App)
    → i < length xs
    → before ≡ own_by name (map rule_said (take i xs))
    → after ≡ with_rule before (rule_said (get_or xs i x))
    → after ≡ own_by name (map rule_said (take (i + 1) xs))
own_more name xs i x before after below is more =
    let longer : map rule_said (take i xs) ++ rule_said (get_or xs i x)
    ∷ [] ≡ map rule_said (take (i + 1) xs) =
    rw (add-one, take-suc xs i x, map-append rule_said (take i xs)) refl in
    more ∙ (ap (λ (a : App). with_rule a (rule_said (get_or xs i x))) is ∙ ap (own_by name) longer)

pub loop-said-preserved : goal.loop-said-preserved
loop-said-preserved c = record {
  app = own_more c.args.word.now.name.now c.args.word.now.arguments.now c.loop-said.said-index _
      (app_of c.loop-said.command) (app_of c.in_ok-command.command) c.loop-said-test.true
      c.loop-said.invariant.app c.in_ok-command.ensures.app;
  local = c.in_ok-command.ensures.local;
}
