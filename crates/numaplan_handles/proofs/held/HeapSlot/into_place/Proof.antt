-- `into_place` gives back the pointer, and with it what was kept.
use Rattle.std.proofs.Common.{◌≡◌, List, [], ◌∷◌, ◌++◌, refl, sym, subst}
use Rattle.std.specs.Prelude.{Option, Some, true, is_some}
use mir.Val.{Val}
use base.Logic.{SProp, ent, emp, id⊢}
use base.Fml.{ftrue}
use prog.Wp.{WpFn}
use types.Kit.{‵, raw, ◌⊛◌, ◌$◌, ◌∵◌, !, qed, by, move, keep, split, fsplit, fjoin, rewrite, use0}
use types.Kit.{suffices}
use types.Run.{stop, fld, of_opd, no_more, and_then, returns, enter}
use types.ByLocal.{alloc_all, pass_all, free_all, look_at, get, get_in, sets}
use types.Part.{agg, sub, whole}
use contract.Monad.{fact, fact_i}
use contract.Running.{tables}
use denote.RattleType.{RattleType, owns}
use denote.Signature.{types_at, plain}
use denote.Steps.{nothing, heard}
use denote.Triple.Walked.{Stays, stay_dropped, walk_of, Goes-dropped}
use denote.Exit.{yes}
use Rattle.std.proofs.raw_atomic.Walks.{proved_at, leaves}
use Rattle.numaplan_handles.specs.declared.kept.Kept.{Kept}
use Rattle.numaplan_handles.specs.contracts.kept.Kept as kept
use Rattle.numaplan_handles.specs.Held.{held_owns}
use Rattle.numaplan_handles.proofs.Words.{HeapSlot, RawBox, word, word_good, ptr_good, held_out}
use Rattle.numaplan_handles.proofs.Words.{place_in, some_of}
use Rattle.numaplan_handles.specs.contracts.held.HeapSlot.into_place.{ended, clauses}
use Rattle.numaplan_handles.specs.contracts.held.HeapSlot.into_place.Key.{name as #self}
use Rattle.numaplan_handles.proofs.held.HeapSlot.into_place.Statement.{statement}
use Rattle.numaplan_handles.proofs.held.HeapSlot.into_place.Code as code

abbrev Made : RattleType
Made = RawBox kept.the_row

pub into_place_spec : {M : Type 1} → statement M
into_place_spec 𝓤 𝓛 𝓜 𝓡 wired =
    let 𝓣 = tables 𝓤 𝓛.H 𝓜 𝓡 𝓡.env in
    let c = clauses 𝓛 𝓜.mem 𝓡.returns in
    let fn = code.function in
    let stays : Stays ended.signature.params ended.kept =
    (stay_dropped (plain (λ _. HeapSlot)) yes, tt) in
    proved_at 𝓛 ended stays c 𝓜 𝓡 (
      Goes-dropped 𝓛 0 (plain (λ _. HeapSlot)) yes (λ κs x f. refl),
      tt,
    )
    #self fn (code.unfolded 𝓤 𝓛.H 𝓜 𝓡 wired) (λ z are.
    let self = z.0.3.0 in let w : Val = word self.at in
    let Post : Val → SProp 𝓤 = (walk_of 𝓛 ended stays c).post z in
    let Run : List Val → SProp 𝓤 = λ ws. WpFn 𝓤 𝓛.H 𝓣.C 𝓣.Λ fn ws Post in
    qed 𝓛 ((‵ ftrue ⊛ ‵ (owns (types_at ended.signature.params z.0.0) z.0.3 z.0.4))
    ∷ raw (fact 𝓤 (is_some self.kept ≡ true)) ∷ []) ∵
    move ! (1 ∷ []) $ heard ! (is_some self.kept ≡ true)
    (λ full. let found = some_of self.kept full in
    let x = found.0 in let d : Made.Denot = record { at = self.at; value = x } in
    split ! $ move ! (1 ∷ []) $ fsplit ! $ held_out ! self z.0.4.0 (λ is.
    rewrite ! 0 (λ (k : Option Kept). ‵ (held_owns self.at k)) found.1 refl $
    suffices ! (Run (w ∷ []))
    (subst (λ (ws : List Val). ent 𝓤 (Run (w ∷ [])) (Run ws)) (sym (λ i. is i ++ []))
    (id⊢ 𝓤 (Run (w ∷ [])))) $
    enter ! 𝓣.C 𝓣.Λ fn (w ∷ []) Post $ alloc_all ! (λ l. pass_all ! refl (word_good self.at, tt) $
    sets ! (of_opd ! (get_in ! (fld ! refl (stop !)) (sub ! 0 refl (whole !)))) refl
    (ptr_good self.at) $
    sets ! (of_opd ! (get ! refl)) refl (ptr_good self.at) $
    sets ! (agg ! (and_then ! (get ! refl) (no_more !))) refl (word_good self.at) $
    place_in ! kept.the_row d $
    use0 𝓛 (raw (fact 𝓤 (self.kept ≡ Some d.value)))
    (fact_i 𝓤 (self.kept ≡ Some d.value) (emp 𝓤) found.1) $
    nothing ! $ nothing ! $ fjoin ! $ returns ! (look_at ! 0 refl) $ free_all ! refl $
    keep ! (4 ∷ 0 ∷ 2 ∷ 1 ∷ []) $ by ! (leaves 𝓛 ended stays c z w d (tt, tt) (tt, tt))))))
