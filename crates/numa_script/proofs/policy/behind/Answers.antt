use Rattle.std.proofs.Common.{◌≡◌, ◌++◌, sym, ap, ◌∙◌, length, take, drop, take-append-drop}
use Rattle.std.proofs.lemmas.List.{take_rest}
use Rattle.std.proofs.lemmas.Slice.Eq.{bytes_eq-Decides}
use Rattle.numa_script.proofs.policy.behind.Goals as goal

pub returns-then-is : goal.returns-then-is
returns-then-is c =
    let size = length c.args.front.now in
    let same : take size c.args.word.now ≡ c.args.front.now =
    (bytes_eq-Decides (take size c.args.word.now) c.args.front.now).0
    (sym c.is.ensures ∙ c.if-is.true) in
    rw take_rest
    (sym (take-append-drop size c.args.word.now)
    ∙ ap (λ front. front ++ drop size c.args.word.now) same)
