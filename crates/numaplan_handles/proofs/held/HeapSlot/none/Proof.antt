-- `none` holds the null pointer, and owns nothing.
use Rattle.std.proofs.Common.{◌≡◌, [], ◌∷◌, refl}
use Rattle.std.specs.Prelude.{None}
use mir.Val.{Val}
use base.Logic.{SProp, emp}
use base.Fml.{ftrue}
use types.Kit.{‵, raw, ◌⊛◌, ◌$◌, ◌∵◌, !, qed, by, move, keep, drop, split, use0}
use types.Run.{lit, no_more, and_then, returns, enter}
use types.ByLocal.{alloc_all, pass_all, free_all, look_at, sets}
use types.Part.{agg}
use contract.Monad.{fact, fact_i}
use contract.Running.{tables}
use denote.RattleType.{owns}
use denote.RawPtr.{null_ptr}
use denote.Signature.{types_at}
use denote.Steps.{nothing}
use denote.Triple.Walked.{Stays, walk_of}
use Rattle.std.proofs.raw_atomic.Walks.{proved_at, leaves}
use Rattle.numaplan_handles.proofs.Words.{HeapSlot, word, word_good, held_in}
use Rattle.numaplan_handles.specs.contracts.held.HeapSlot.none.{ended, clauses}
use Rattle.numaplan_handles.specs.contracts.held.HeapSlot.none.Key.{name as #self}
use Rattle.numaplan_handles.proofs.held.HeapSlot.none.Statement.{statement}
use Rattle.numaplan_handles.proofs.held.HeapSlot.none.Code as code

pub none_spec : {M : Type 1} → statement M
none_spec 𝓤 𝓛 𝓜 𝓡 wired =
    let 𝓣 = tables 𝓤 𝓛.H 𝓜 𝓡 𝓡.env in
    let c = clauses 𝓛 𝓜.mem 𝓡.returns in
    let fn = code.function in
    let stays : Stays ended.signature.params ended.kept = tt in
    proved_at 𝓛 ended stays c 𝓜 𝓡 tt #self fn (code.unfolded 𝓤 𝓛.H 𝓜 𝓡 wired) (λ z are.
    let Post : Val → SProp 𝓤 = (walk_of 𝓛 ended stays c).post z in
    let d : HeapSlot.Denot = record { at = null_ptr; kept = None } in
    qed 𝓛 ((‵ ftrue ⊛ ‵ (owns (types_at ended.signature.params z.0.0) z.0.3 z.0.4))
    ∷ raw ((c z.0.0 z.0.3).requires z.1) ∷ []) ∵
    split ! $ move ! (1 ∷ []) $ drop ! $
    enter ! 𝓣.C 𝓣.Λ fn [] Post $ alloc_all ! (λ l. pass_all ! refl tt $
    sets ! (agg ! (and_then ! (lit ! tt) (no_more !))) refl (word_good null_ptr) $
    use0 𝓛 (raw (fact 𝓤 (d.kept ≡ None))) (fact_i 𝓤 (d.kept ≡ None) (emp 𝓤) refl) $
    nothing ! $ held_in ! d $ nothing ! $
    returns ! (look_at ! 0 refl) $ free_all ! refl $
    keep ! (3 ∷ 0 ∷ 1 ∷ 2 ∷ []) $ by ! (leaves 𝓛 ended stays c z (word null_ptr) d tt tt)))
