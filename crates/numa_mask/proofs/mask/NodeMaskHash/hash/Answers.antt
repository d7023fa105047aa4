use Rattle.std.proofs.Common.{ℕ, List, fold, sym, ap, ◌∙◌}
use Rattle.std.specs.Hash.{slice, u64}
use Rattle.numa_mask.specs.Words.{words_of, words_of-number}
use Rattle.numa_mask.proofs.mask.NodeMaskHash.hash.Goals as goal

pub returns : goal.returns
returns g c =
    c.hash.ensures
    ∙ ap (λ (words : List ℕ). fold g.H.Hasher.write c.args.state.now (slice u64 words))
    (sym (words_of-number c.self.inside.words c.self.invariant))
    ∙ ap (λ (n : ℕ). fold g.H.Hasher.write c.args.state.now (slice u64 (words_of n))) c.self.view_is
