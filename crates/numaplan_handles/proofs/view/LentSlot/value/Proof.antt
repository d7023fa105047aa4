-- `value` follows the pointer to the value. Part of what keeps it lent is borrowed for as long as the
-- slot is, so the value is lent for that long too.
use Rattle.std.proofs.Common.{◌≡◌, List, [], ◌∷◌, refl, sym, ap, ◌∙◌}
use Rattle.std.specs.Prelude.{Option, true, is_some}
use contract.BorrowLft.{meet_⊑_left}
use mir.Syntax.{named}
use mir.Val.{Val, vptr}
use base.Logic.{fst∗, never}
use base.Fml.{ftrue, flft}
use types.Logic.{sem}
use types.Kit.{‵, raw, ◌⊛◌, at_ret, ◌$◌, ◌∵◌, !, qed, move, keep, drop, split, join, rewrite, fsplit}
use types.Kit.{fjoin, feq_i, feq_l, fpick, suffices, frame, done, use1, use2}
use types.Run.{load, stop, fld, of_opd, addr, first, blocks, exec, returns, enter}
use types.Part.{look_in, sub, whole}
use types.ByLocal.{alloc_all, pass_all, free_all, look_at, get, through, sets, sets_last, env}
use types.Tokens.{bor_new, bor_fracture}
use contract.Monad.{fact}
use contract.Running.{tables}
use denote.Builtin.{RefOf}
use denote.Exit.{yes}
use denote.Memory.{cell_at, shared_of}
use denote.Moves.{moves_from}
use denote.Opens.{hide}
use denote.RattleType.{owns}
use denote.RawPtr.{Ptr, in_a_block}
use denote.Ref.{ShrRef, shr_vals, shr_Tells}
use denote.Signature.{plain}
use denote.Steps.{nothing, heard, looks, shuts}
use denote.Struct.Lending.{lent_at}
use denote.Triple.Walked.{says, Stays, stay_dropped, walk_of, ends_at, Goes-dropped}
use Rattle.std.proofs.VecSteps.Shapes.{after}
use Rattle.std.proofs.raw_atomic.Walks.{proved}
use Rattle.numaplan_handles.specs.Held.{view_owns}
use Rattle.numaplan_handles.specs.declared.kept.Kept.{Kept}
use Rattle.numaplan_handles.specs.contracts.kept.Kept.{the_row as Value}
use Rattle.numaplan_handles.proofs.kept.Kept.TheLaws.{the_row_laws as L}
use Rattle.numaplan_handles.proofs.Views.{LentSlot, copy, opens, view_out}
use Rattle.numaplan_handles.proofs.Words.{word, some_of}
use Rattle.numaplan_handles.specs.contracts.view.LentSlot.value.{ended, clauses}
use Rattle.numaplan_handles.specs.contracts.view.LentSlot.value.Key.{name as #self}
use Rattle.numaplan_handles.proofs.view.LentSlot.value.Statement.{statement}
use Rattle.numaplan_handles.proofs.view.LentSlot.value.Code as code

pub value_spec : {M : Type 1} → statement M
value_spec 𝓤 𝓛 𝓜 𝓡 wired =
    let 𝓣 = tables 𝓤 𝓛.H 𝓜 𝓡 𝓡.env in
    let c = clauses 𝓛 𝓜.mem 𝓡.returns in
    let fn = code.function in
    let Self = RefOf (0 ∷ []) tt (plain (λ _. LentSlot)) (λ _. tt) in
    let stays : Stays ended.signature.params ended.kept = (stay_dropped Self yes, tt) in
    proved 𝓛 ended stays c 𝓜 𝓡 (Goes-dropped 𝓛 1 Self yes (λ κs x f. refl), tt)
    #self fn (code.unfolded 𝓤 𝓛.H 𝓜 𝓡 wired)
    (λ κs. (shr_vals, tt)) (λ κs. (shr_Tells (named 0) κs.0 LentSlot, tt))
    (λ κs qs bounds a _ are.
    let κ = κs.0 in let q = qs.0 in let self = a.0.now in
    let rb = a.0.ref_ptr.0 in let ro = a.0.ref_ptr.1 in let α = self.lifetime ∷ [] in
    let y : (walk_of 𝓛 ended stays c).Ghost = ((κs, qs, bounds, a, (vptr rb ro ∷ [], tt)), tt) in
    let Post : Val → _ = (walk_of 𝓛 ended stays c).post y in
    qed 𝓛 (((‵ (flft κ q) ⊛ ‵ ftrue)
    ⊛ ‵ (owns (ShrRef (named 0) κ LentSlot ∷ []) a (vptr rb ro ∷ [], tt)))
    ∷ raw (fact 𝓤 (is_some self.kept ≡ true)) ∷ []) ∵
    move ! (1 ∷ []) $ heard ! (is_some self.kept ≡ true)
    (λ full. let found = some_of self.kept full in let x = found.0 in
    split ! $ split ! $ move ! (2 ∷ []) $ fsplit ! $ fsplit ! $ feq_l ! (λ e. keep ! (0 ∷ 2 ∷ []) $
    enter ! 𝓣.C 𝓣.Λ fn (vptr rb ro ∷ []) Post $ alloc_all ! (λ l. pass_all ! refl ((tt, tt), tt) $
    looks ! tt LentSlot (opens 𝓛) self rb ro (λ part us.
    -- [the slot's cell; what it owns; the way back; the slot, lent]
    move ! (1 ∷ []) $
    use1 𝓛 (‵ (LentSlot.own_val self us) ⊛ ‵ (LentSlot.own_val self us)) ((copy 𝓛).twice self us) $
    split ! $ view_out ! self us (λ is.
    rewrite ! 0 (λ (k : Option Kept). ‵ (view_owns self.at self.lifetime k)) found.1 refl $
    fsplit ! $ fpick ! (λ held. bor_new ! tt κ $ bor_fracture ! tt (λ r. flft α r) held $
    -- [a share of the lifetime, borrowed; what comes back at its end; the value, lent; own; cell; ..]
    move ! (2 ∷ []) $
    in_a_block ! self.at (λ p. lent_at Value p x α)
    (fst∗ 𝓤 (never 𝓤) (sem 𝓛 (shared_of Value x 0 0 α))) (λ b o at. fsplit ! $ drop ! $
    move ! (1 ∷ 0 ∷ []) $
    use2 𝓛 (‵ (shared_of Value x b o κ))
    (moves_from 𝓛 (shared_of Value x b o) (L.shr_laws x b o) κ α α (meet_⊑_left α κ)) $
    -- [the value, lent; what comes back; own; cell; the way back; ..]
    hide ! $
    let Cell = λ (vs : List Val). ‵ (cell_at part LentSlot.mir vs rb ro) in
    let pointer = is ∙ ap (λ (p : Ptr). word p ∷ []) at in
    rewrite ! 3 Cell pointer refl $
    sets ! (of_opd ! (load ! (through ! refl (fld ! refl (stop !)))
    (look_in ! 3 (sub ! 0 refl (whole !))))) refl (tt, tt) $
    sets ! (of_opd ! (get ! refl)) refl (tt, tt) $
    first ! $ blocks ! $ sets_last ! (addr ! (through ! refl (stop !))) refl (tt, tt) $
    exec ! 𝓣.C 𝓣.Λ (env fn.locals l) (after 3 fn.body) (at_ret _ Post) $
    sets ! (of_opd ! (get ! refl)) refl (tt, tt) $
    rewrite ! 3 Cell (sym pointer) refl $
    feq_i ! (List Val) (vptr b o ∷ []) (vptr b o ∷ []) refl $ fjoin ! $
    move ! (3 ∷ 2 ∷ 4 ∷ []) $ shuts ! tt LentSlot part self us rb ro $
    returns ! (look_at ! 0 refl) $ free_all ! refl $ keep ! (1 ∷ 0 ∷ []) $
    suffices ! _ (ends_at 𝓛 ended stays c y (vptr b o) (record { ref_ptr = (b, o); now = x })
    (tt, tt) (tt, tt)) $ says ! found.1 $
    nothing ! $ move ! (2 ∷ 0 ∷ []) $ join ! $ frame ! $ nothing ! $ nothing ! $ fjoin ! $
    done !))))))))
