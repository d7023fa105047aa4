-- `of` keeps the pointer, and with it what the place owned.
use Rattle.std.proofs.Common.{◌≡◌, List, [], ◌∷◌, ◌++◌, refl, sym, subst}
use Rattle.std.specs.Prelude.{Some}
use mir.Val.{Val}
use base.Logic.{SProp, ent, emp, id⊢}
use base.Fml.{ftrue}
use prog.Wp.{WpFn}
use types.Kit.{‵, raw, ◌⊛◌, ◌$◌, ◌∵◌, !, qed, by, move, keep, split, fsplit, fjoin, use0, suffices}
use types.Run.{stop, fld, of_opd, no_more, and_then, returns, enter}
use types.ByLocal.{alloc_all, pass_all, free_all, look_at, get, get_in, sets}
use types.Part.{agg, sub, whole}
use contract.Monad.{fact, fact_i}
use contract.Running.{tables}
use denote.RattleType.{RattleType, owns}
use denote.Signature.{types_at, plain}
use denote.Steps.{nothing}
use denote.Triple.Walked.{Stays, stay_dropped, walk_of, Goes-dropped}
use denote.Exit.{yes}
use Rattle.std.proofs.raw_atomic.Walks.{proved_at, leaves}
use Rattle.numaplan_handles.specs.contracts.kept.Kept as kept
use Rattle.numaplan_handles.proofs.Words.{HeapSlot, RawBox, word, word_good, ptr_good, place_out}
use Rattle.numaplan_handles.proofs.Words.{held_in}
use Rattle.numaplan_handles.specs.contracts.held.HeapSlot.of.{ended, clauses}
use Rattle.numaplan_handles.specs.contracts.held.HeapSlot.of.Key.{name as #self}
use Rattle.numaplan_handles.proofs.held.HeapSlot.of.Statement.{statement}
use Rattle.numaplan_handles.proofs.held.HeapSlot.of.Code as code

abbrev From : RattleType
From = RawBox kept.the_row

pub of_spec : {M : Type 1} → statement M
of_spec 𝓤 𝓛 𝓜 𝓡 wired =
    let 𝓣 = tables 𝓤 𝓛.H 𝓜 𝓡 𝓡.env in
    let c = clauses 𝓛 𝓜.mem 𝓡.returns in
    let fn = code.function in
    let stays : Stays ended.signature.params ended.kept =
    (stay_dropped (plain (λ _. From)) yes, tt) in
    proved_at 𝓛 ended stays c 𝓜 𝓡 (Goes-dropped 𝓛 0 (plain (λ _. From)) yes (λ κs x f. refl), tt)
    #self fn (code.unfolded 𝓤 𝓛.H 𝓜 𝓡 wired) (λ z are.
    let from = z.0.3.0 in let w : Val = word from.at in
    let Post : Val → SProp 𝓤 = (walk_of 𝓛 ended stays c).post z in
    let Run : List Val → SProp 𝓤 = λ ws. WpFn 𝓤 𝓛.H 𝓣.C 𝓣.Λ fn ws Post in
    let d : HeapSlot.Denot = record { at = from.at; kept = Some from.value } in
    qed 𝓛 ((‵ ftrue ⊛ ‵ (owns (types_at ended.signature.params z.0.0) z.0.3 z.0.4))
    ∷ raw ((c z.0.0 z.0.3).requires z.1) ∷ []) ∵
    split ! $ move ! (1 ∷ []) $ fsplit ! $ place_out ! kept.the_row from z.0.4.0 (λ is.
    suffices ! (Run (w ∷ []))
    (subst (λ (ws : List Val). ent 𝓤 (Run (w ∷ [])) (Run ws)) (sym (λ i. is i ++ []))
    (id⊢ 𝓤 (Run (w ∷ [])))) $
    enter ! 𝓣.C 𝓣.Λ fn (w ∷ []) Post $ alloc_all ! (λ l. pass_all ! refl (word_good from.at, tt) $
    sets ! (of_opd ! (get_in ! (fld ! refl (stop !)) (sub ! 0 refl (whole !)))) refl
    (ptr_good from.at) $
    sets ! (of_opd ! (get ! refl)) refl (ptr_good from.at) $
    sets ! (agg ! (and_then ! (get ! refl) (no_more !))) refl (word_good from.at) $
    held_in ! d $
    use0 𝓛 (raw (fact 𝓤 (d.kept ≡ Some from.value)))
    (fact_i 𝓤 (d.kept ≡ Some from.value) (emp 𝓤) refl) $
    nothing ! $ nothing ! $ fjoin ! $ returns ! (look_at ! 0 refl) $ free_all ! refl $
    keep ! (4 ∷ 0 ∷ 2 ∷ 1 ∷ []) $ by ! (leaves 𝓛 ended stays c z w d (tt, tt) (tt, tt)))))
