-- `into_box` makes the box again, of what the place owns.
use Rattle.std.proofs.Common.{◌≡◌, List, [], ◌∷◌, ◌++◌, refl, sym, ap, subst}
use lib.Dec.{T as Holds}
use mir.Syntax.{a_type, dcons, dnil}
use mir.Val.{Val, has_ty, WT}
use mir.MapTy.{inst_fn}
use base.Fraction.{full_share}
use base.Logic.{SProp, ent, emp, id⊢}
use base.Fml.{ftrue, flft}
use prog.Wp.{WpFn}
use types.Kit.{‵, raw, ◌⊛◌, some, later, at_ret, ◌$◌, ◌∵◌, !, qed, by, move, keep, drop, split}
use types.Kit.{join, fsplit, fjoin, pick, rewrite, feq_i, suffices, use0, use1, await}
use types.Run.{stop, fld, of_opd, no_more, and_then, first, blocks, exec, returns, enter}
use types.ByLocal.{alloc_all, pass_all, free_all, look_at, get, get_in, sets, lands_last, env}
use types.Part.{sub, whole}
use contract.Monad.{fact, fact_i}
use contract.BorrowLft.{◌⊑◌, ⊑_refl}
use contract.Running.{tables}
use denote.RattleType.{RattleType, owns}
use denote.RawPtr.{ptr_val}
use denote.Signature.{types_at, plain}
use denote.Steps.{nothing, only, heard}
use denote.Exit.{no, yes}
use denote.Param.{param, layout, bounded}
use denote.Triple.Call.{calls_at_last}
use denote.Triple.Clauses.{Lasts, lasts}
use denote.Triple.Spec.{triple_of}
use denote.Triple.Walked.{Stays, stay_dropped, walk_of, Goes-dropped}
use Rattle.core.proofs.alloc.Calls.{Goes-blank, handle_tells}
use Rattle.core.proofs.alloc.Shapes.{after}
use Rattle.core.proofs.atomic.Steps.{fm}
use Rattle.std.specs.contracts.alloc.Global as heap
use Rattle.std.specs.contracts.impls.GlobalAllocator.TheImpl.{ghosts, dict}
use Rattle.std.proofs.impls.GlobalAllocator.TheImpl.Met as heap_met
use denote.Param.NoDrop.{glues}
use Rattle.std_alloc.specs.contracts.boxed.Box as boxed
use Rattle.std_alloc.proofs.BoxSteps.Form as box
use Rattle.std_alloc.proofs.BoxSteps.Steps.{box_out, box_in}
use Rattle.std_alloc.specs.contracts.boxed.Box.from_raw as callee
use Rattle.std_alloc.proofs.boxed.Box.from_raw.Met.{met}
use Rattle.std.proofs.raw_atomic.Walks.{proved_at, leaves}
use Rattle.numaplan_handles.proofs.Words.{Handle, handle_drop, handle_laws, RawBox, word, word_good}
use Rattle.numaplan_handles.proofs.Words.{ptr_good, place_out}
use Rattle.numaplan_handles.specs.contracts.place.RawBox.into_box.{ended, clauses}
use Rattle.numaplan_handles.specs.contracts.place.RawBox.into_box.Key.{name as #self}
use Rattle.numaplan_handles.proofs.place.RawBox.into_box.Statement.{statement}
use Rattle.numaplan_handles.proofs.place.RawBox.into_box.Code as code
use Rattle.numaplan_handles.proofs.Destruct++none.drop.Code as handle_code

pub into_box_spec : {M : Type 1} → statement M
unfolding handle_code.code
into_box_spec {M} 𝓤 𝓛 𝓜 𝓡 wired T L drops glue =
    let 𝓣 = tables 𝓤 𝓛.H 𝓜 𝓡 𝓡.env in
    let E : box.Bx =
    record {
      row = T;
      laws = L;
      al =
          record { row = Handle; laws = handle_laws; g = ghosts; d = dict; drops = handle_drop };
    } in
    let R : RattleType = param 0 T in let B : RattleType = boxed.the_row R heap.the_row ghosts in
    let P = RawBox R in
    let En = ended T drops in let c = clauses T drops 𝓛 𝓜.mem 𝓡.returns in
    let inst = bounded (a_type ∷ []) (T, tt) (dcons drops dnil) in let fn =
    inst_fn inst code.function in
    let stays : Stays En.signature.params En.kept =
    (stay_dropped (plain (λ _. P)) no, (stay_dropped (plain (λ _. heap.the_row)) yes, tt)) in
    let Made = triple_of 𝓛 (callee.signature T Handle ghosts dict handle_drop)
    (callee.spec T Handle ghosts dict handle_drop 𝓛 𝓜.mem 𝓡.returns) in
    let Mades = callee.ended T Handle ghosts dict handle_drop in
    let known = met 𝓤 𝓛 𝓜 𝓡 (code.calls-std_alloc::boxed::Box::from_raw 𝓡.env wired) T Handle L
    handle_laws ghosts dict handle_drop
    (heap_met.passed 𝓡.env (code.calls-std_heap::GlobalAllocator::allocate 𝓡.env wired)
    (code.calls-std_heap::GlobalAllocator::deallocate 𝓡.env wired)
    (code.calls-std_heap::GlobalAllocator::grow 𝓡.env wired)
    (code.calls-std_heap::GlobalAllocator::shrink 𝓡.env wired) M 𝓤 𝓛 𝓜 𝓡)
    (glues "numaplan_handles::Destruct++none::drop" 𝓡.env
    (code.calls-numaplan_handles::Destruct++none::drop 𝓡.env wired) Handle handle_laws M 𝓤 𝓛 𝓜
    𝓡) in
    proved_at 𝓛 En stays c 𝓜 𝓡 (
      Goes-blank 𝓛 1 (plain (λ _. P)) no (λ κs x f. tt),
      (Goes-dropped 𝓛 1 (plain (λ _. heap.the_row)) yes (λ κs x f. refl), tt),
    ) (#self inst) fn
    (code.unfolded 𝓤 𝓛.H 𝓜 𝓡 wired (T, tt) drops) (λ z are.
    let κ = z.0.0.0 in let q = z.0.1.0 in let v = z.0.3.0 in let a = z.0.3.1.0 in let lives =
    κ ⊑ T.lives in
    let Post : Val → SProp 𝓤 = (walk_of 𝓛 En stays c).post z in
    let Run : List Val → SProp 𝓤 = λ ws. WpFn 𝓤 𝓛.H 𝓣.C 𝓣.Λ fn ws Post in
    qed 𝓛 (((‵ (flft κ q) ⊛ ‵ ftrue) ⊛ ‵ (owns (types_at En.signature.params z.0.0) z.0.3 z.0.4))
    ∷ (raw (fact 𝓤 lives) ⊛ ‵ ftrue) ∷ []) ∵
    move ! (1 ∷ []) $ split ! $ heard ! lives
    (λ within. drop ! $ split ! $ split ! $ move ! (2 ∷ []) $ fsplit ! $
    place_out ! R v z.0.4.0 (λ is. move ! (1 ∷ []) $ fsplit ! $ handle_tells E.al ! a z.0.4.1.0
    (λ hv ish fits.
    let w : Val = word v.at in
    let y : Made.Ghost = (
      (
        (κ, ([], tt)),
        (q, (full_share, tt)),
        tt,
        (a, (v.at, tt)),
        (hv ∷ [], (ptr_val v.at ∷ [], tt)),
      ),
      v.value,
    ) in
    keep ! (0 ∷ 2 ∷ 3 ∷ []) $
    -- [the handle; the memory; the lifetime's token]
    nothing ! $ feq_i ! (List Val) (ptr_val v.at ∷ []) (ptr_val v.at ∷ []) refl $ fjoin ! $ move !
    (1 ∷ 0 ∷ []) $ fjoin ! $
    nothing ! $ use0 𝓛 (‵ (flft [] full_share)) (𝓛.lfts.lft-nil full_share) $ join ! $ move !
    (3 ∷ 0 ∷ []) $ join ! $ join ! $ move ! (1 ∷ []) $
    use0 𝓛 (raw (fact 𝓤 ([] ⊑ Handle.lives))) (fact_i 𝓤 ([] ⊑ Handle.lives) (emp 𝓤) (⊑_refl []))
    $ join ! $
    use0 𝓛 (raw (fact 𝓤 lives)) (fact_i 𝓤 lives (emp 𝓤) within) $ join ! $ move ! (1 ∷ 0 ∷ [])
    $ join ! $ use1 𝓛 (raw (Made.pre y)) (id⊢ 𝓤 _) $
    suffices ! (Run (w ∷ hv ∷ []))
    (subst (λ (ws : List Val). ent 𝓤 (Run (w ∷ hv ∷ [])) (Run ws))
    (sym (λ i. is i ++ (ish i ++ []))) (id⊢ 𝓤 (Run (w ∷ hv ∷ [])))) $
    enter ! 𝓣.C 𝓣.Λ fn (w ∷ hv ∷ []) Post $ alloc_all !
    (λ l. pass_all ! refl (word_good v.at, (fits, tt)) $ let Ev = env fn.locals l in
    sets ! (of_opd ! (get_in ! (fld ! refl (stop !)) (sub ! 0 refl (whole !)))) refl (ptr_good v.at)
    $ first ! $ blocks ! $
    calls_at_last ! (fm 𝓛 𝓜 𝓡) Made known y
    (and_then ! (get ! refl) (and_then ! (get ! refl) (no_more !))) (λ u.
    use1 𝓛
    (later (some
    (λ (r : B.Denot).
    ((‵ (flft κ q) ⊛ ‵ (flft [] full_share) ⊛ ‵ ftrue) ⊛ ‵ (B.own_val r (u ∷ [])))
    ⊛ some (λ (ls : Lasts Mades y.0.0 y.0.3). ‵ (lasts Mades y.0.0 y.0.3 ls) ⊛
    (raw (fact 𝓤 (r.value ≡ v.value)) ⊛ raw (fact 𝓤 (r.alloc ≡ a))))))) (id⊢ 𝓤 (Made.post y u))
    $
    await ! tt $ pick !
    (λ r. split ! $ move ! (1 ∷ []) $ pick !
    (λ _. split ! $ drop ! $ split ! $ move ! (1 ∷ []) $ drop ! $ heard ! (r.value ≡ v.value)
    (λ same.
    split ! $ split ! $ move ! (1 ∷ []) $ drop ! $ move ! (1 ∷ []) $
    -- [the box; the lifetime's token]
    box_out E ! r (u ∷ []) (λ b o hr at us fine. box_in E ! r b o r.value at refl $ rewrite ! 0
    (λ (xs : List Val). ‵ (B.own_val r xs)) (sym us) refl $
    let good = subst (λ (x : Val). Holds (has_ty (layout B) x) × WT x) (sym (ap only us))
    (box.box_typed E hr b o fine) in
    lands_last ! refl good $ exec ! 𝓣.C 𝓣.Λ Ev (after 2 fn.body) (at_ret Ev Post) $ sets !
    (of_opd ! (get ! refl)) refl good $
    use0 𝓛 (raw (fact 𝓤 (r.value ≡ v.value))) (fact_i 𝓤 (r.value ≡ v.value) (emp 𝓤) same) $
    nothing ! $ nothing ! $ fjoin ! $ nothing ! $ fjoin ! $ returns ! (look_at ! 0 refl) $ free_all
    ! refl $
    nothing ! $ move ! (4 ∷ 0 ∷ []) $ join ! $ keep ! (0 ∷ 1 ∷ 3 ∷ 2 ∷ []) $ by !
    (leaves 𝓛 En stays c z u r (tt, (tt, tt)) (tt, (tt, tt)))))))))))))
