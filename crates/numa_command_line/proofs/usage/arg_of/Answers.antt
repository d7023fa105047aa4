use Rattle.std.proofs.Common.{◌≡◌, ◌++◌, ◌∷◌, [], List, Bool, true, map, ap, refl, sym, ◌∙◌}
use Rattle.std.proofs.lemmas.List.{map-append}
use Rattle.std.proofs.lemmas.Result.{IfOk-weaker}
use Rattle.std.specs.Borrow.{Bor}
use Rattle.clap.specs.Words.{AddsAliases, Rule, Text, rule_of}
use Rattle.clap.specs.declared.builder.arg.Arg.{Arg}
use Rattle.numa_command_line.specs.Usage.{needed, number, option, rule_by, rule_said}
use Rattle.numa_command_line.specs.declared.usage.Takes.{Takes}
use Rattle.numa_command_line.proofs.usage.arg_of.Goals as goal

-- the text of a name
abbrev text : Bor Text × Bool → Text
text name = name.0.now

-- an argument that gets another name
with_other : (first arg : Arg) (other : Bor Text) (is_required : Bool) (plain : Rule)
    → AddsAliases first arg ((other, true) ∷ []) → rule_of first ≡ needed is_required plain
    → plain.aliases ≡ []
    → rule_of arg ≡ record (needed is_required plain) { aliases = other.now ∷ [] }
with_other first arg other is_required plain adds one none =
    ap rule_of adds.0
    ∙ (λ i. record (one i) { aliases = map text (adds.1 i) })
    ∙ ap (λ (names : List Text). record (needed is_required plain) { aliases = names })
    (map-append text _ _
    ∙ ap (λ (names : List Text). names ++ (other.now ∷ []))
    (ap (λ (rule : Rule). rule.aliases) one ∙ none))

pub returns-in-NumberOr-clause-rule : goal.returns-in-NumberOr-clause-rule
returns-in-NumberOr-clause-rule c =
    let said = c.args.said.now in
    IfOk-weaker c.visible_alias.result
    (λ (arg : Arg). AddsAliases c.number-in-NumberOr.result arg
    ((c.in-NumberOr.other, true) ∷ []))
    (λ (arg : Arg). rule_of arg ≡ rule_said said)
    (λ (arg : Arg) adds. with_other c.number-in-NumberOr.result arg _ said.is_required
    (number said.name.now) adds
    c.number-in-NumberOr.ensures.rule refl
    ∙ sym (ap (λ (takes : Takes). needed said.is_required (rule_by takes said.name.now))
    c.in-NumberOr.is)) c.visible_alias.ensures

pub returns-in-TextOr-clause-rule : goal.returns-in-TextOr-clause-rule
returns-in-TextOr-clause-rule c =
    let said = c.args.said.now in
    IfOk-weaker c.visible_alias-in-TextOr.result
    (λ (arg : Arg). AddsAliases c.option-in-TextOr.result arg ((c.in-TextOr.other, true) ∷ []))
    (λ (arg : Arg). rule_of arg ≡ rule_said said)
    (λ (arg : Arg) adds. with_other c.option-in-TextOr.result arg _ said.is_required
    (option said.name.now) adds
    c.option-in-TextOr.ensures.rule refl
    ∙ sym (ap (λ (takes : Takes). needed said.is_required (rule_by takes said.name.now))
    c.in-TextOr.is)) c.visible_alias-in-TextOr.ensures
