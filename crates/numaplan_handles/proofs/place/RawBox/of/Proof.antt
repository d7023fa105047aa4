-- `of` takes the box apart, and keeps what it owned.
use Rattle.std.proofs.Common.{◌≡◌, List, [], ◌∷◌, ◌++◌, refl, sym, ap, subst}
use mir.Syntax.{a_type, dcons, dnil}
use mir.Val.{Val}
use mir.MapTy.{inst_fn}
use base.Fraction.{full_share}
use base.Logic.{SProp, ent, emp, id⊢}
use base.Fml.{ftrue, flft}
use prog.Wp.{WpFn}
use types.Kit.{‵, raw, ◌⊛◌, some, later, ◌$◌, ◌∵◌, !, qed, by, move, keep, drop, split, join}
use types.Kit.{fsplit, fjoin, pick, feq_l, suffices, use0, use1, await}
use types.Run.{of_opd, no_more, and_then, returns, enter}
use types.ByLocal.{alloc_all, pass_all, free_all, look_at, get, sets, lands_as}
use types.Part.{agg}
use contract.Monad.{fact, fact_i}
use contract.BorrowLft.{◌⊑◌, ⊑_refl}
use contract.Running.{tables}
use denote.RattleType.{RattleType, owns}
use denote.RawPtr.{Ptr}
use denote.Builtin.{RawPtr}
use denote.Signature.{types_at, plain}
use denote.Steps.{nothing, only, heard}
use denote.Exit.{no}
use denote.Param.{param, bounded}
use denote.Param.NoDrop.{glues}
use denote.Triple.Call.{calls_at}
use denote.Triple.Clauses.{Lasts, lasts}
use denote.Triple.Spec.{triple_of}
use denote.Triple.Walked.{Stays, stay_dropped, walk_of}
use Rattle.core.proofs.alloc.Calls.{Goes-blank}
use Rattle.core.proofs.atomic.Steps.{fm}
use Rattle.std.specs.contracts.alloc.Global as heap
use Rattle.std.specs.contracts.impls.GlobalAllocator.TheImpl.{ghosts, dict}
use Rattle.std.proofs.impls.GlobalAllocator.TheImpl.Met as heap_met
use Rattle.std_alloc.specs.contracts.boxed.Box as boxed
use Rattle.std_alloc.proofs.BoxSteps.Form as box
use Rattle.std_alloc.proofs.BoxSteps.Steps.{box_out, box_in}
use Rattle.std_alloc.specs.contracts.boxed.Box.into_raw as callee
use Rattle.std_alloc.proofs.boxed.Box.into_raw.Met.{met}
use Rattle.std.proofs.raw_atomic.Walks.{proved_at, leaves}
use Rattle.numaplan_handles.specs.Ownership.{owns_at}
use Rattle.numaplan_handles.proofs.Words.{Handle, handle_drop, handle_laws, RawBox, word, word_good}
use Rattle.numaplan_handles.proofs.Words.{ptr_good, place_in}
use Rattle.numaplan_handles.specs.contracts.place.RawBox.of.{ended, clauses}
use Rattle.numaplan_handles.specs.contracts.place.RawBox.of.Key.{name as #self}
use Rattle.numaplan_handles.proofs.place.RawBox.of.Statement.{statement}
use Rattle.numaplan_handles.proofs.place.RawBox.of.Code as code
use Rattle.numaplan_handles.proofs.Destruct++none.drop.Code as handle_code

pub of_spec : {M : Type 1} → statement M
unfolding handle_code.code
of_spec {M} 𝓤 𝓛 𝓜 𝓡 wired T L drops glue =
    let 𝓣 = tables 𝓤 𝓛.H 𝓜 𝓡 𝓡.env in
    let E : box.Bx =
    record {
      row = T;
      laws = L;
      al =
          record { row = Handle; laws = handle_laws; g = ghosts; d = dict; drops = handle_drop };
    } in
    let R : RattleType = param 0 T in let B : RattleType = boxed.the_row R heap.the_row ghosts in
    let En = ended T drops in let c = clauses T drops 𝓛 𝓜.mem 𝓡.returns in
    let inst = bounded (a_type ∷ []) (T, tt) (dcons drops dnil) in let fn =
    inst_fn inst code.function in
    let stays : Stays En.signature.params En.kept = (stay_dropped (plain (λ _. B)) no, tt) in
    let Raw = triple_of 𝓛 (callee.signature T Handle ghosts dict handle_drop drops)
    (callee.spec T Handle ghosts dict handle_drop drops 𝓛 𝓜.mem 𝓡.returns) in
    let Raws = callee.ended T Handle ghosts dict handle_drop drops in
    let known = met 𝓤 𝓛 𝓜 𝓡 (code.calls-std_alloc::boxed::Box::into_raw 𝓡.env wired) T Handle L
    handle_laws ghosts dict handle_drop drops
    (heap_met.passed 𝓡.env (code.calls-std_heap::GlobalAllocator::allocate 𝓡.env wired)
    (code.calls-std_heap::GlobalAllocator::deallocate 𝓡.env wired)
    (code.calls-std_heap::GlobalAllocator::grow 𝓡.env wired)
    (code.calls-std_heap::GlobalAllocator::shrink 𝓡.env wired) M 𝓤 𝓛 𝓜 𝓡)
    (glues "numaplan_handles::Destruct++none::drop" 𝓡.env
    (code.calls-numaplan_handles::Destruct++none::drop 𝓡.env wired) Handle handle_laws M 𝓤 𝓛 𝓜
    𝓡) glue in
    proved_at 𝓛 En stays c 𝓜 𝓡 (Goes-blank 𝓛 1 (plain (λ _. B)) no (λ κs x f. tt), tt) (#self inst)
    fn (code.unfolded 𝓤 𝓛.H 𝓜 𝓡 wired (T, tt) drops) (λ z are.
    let κ = z.0.0.0 in let q = z.0.1.0 in let v = z.0.3.0 in let lives = κ ⊑ T.lives in
    let Post : Val → SProp 𝓤 = (walk_of 𝓛 En stays c).post z in
    let Run : List Val → SProp 𝓤 = λ ws. WpFn 𝓤 𝓛.H 𝓣.C 𝓣.Λ fn ws Post in
    qed 𝓛 (((‵ (flft κ q) ⊛ ‵ ftrue) ⊛ ‵ (owns (types_at En.signature.params z.0.0) z.0.3 z.0.4))
    ∷ (raw (fact 𝓤 lives) ⊛ ‵ ftrue) ∷ []) ∵
    move ! (1 ∷ []) $ split ! $ heard ! lives
    (λ within. drop ! $ split ! $ split ! $ move ! (2 ∷ []) $ fsplit ! $
    box_out E ! v z.0.4.0 (λ b o hv at is fits. box_in E ! v b o v.value at refl $
    let w : Val = box.word E hv b o in let typed = box.box_typed E hv b o fits in
    let y : Raw.Ghost = (((κ, ([], tt)), (q, (full_share, tt)), tt, (v, tt), (w ∷ [], tt)), tt) in
    -- [the box; nothing; the lifetime's token; nothing]
    fjoin ! $ move ! (2 ∷ []) $ drop ! $ nothing ! $
    use0 𝓛 (‵ (flft [] full_share)) (𝓛.lfts.lft-nil full_share) $ join ! $ move ! (2 ∷ 0 ∷ [])
    $ join ! $ join ! $
    nothing ! $ use0 𝓛 (raw (fact 𝓤 ([] ⊑ Handle.lives)))
    (fact_i 𝓤 ([] ⊑ Handle.lives) (emp 𝓤) (⊑_refl [])) $ join ! $
    use0 𝓛 (raw (fact 𝓤 lives)) (fact_i 𝓤 lives (emp 𝓤) within) $ join ! $ move ! (1 ∷ 0 ∷ [])
    $ join ! $ use1 𝓛 (raw (Raw.pre y)) (id⊢ 𝓤 _) $
    suffices ! (Run (w ∷ []))
    (subst (λ (ws : List Val). ent 𝓤 (Run (w ∷ [])) (Run ws)) (sym (λ i. is i ++ []))
    (id⊢ 𝓤 (Run (w ∷ [])))) $
    enter ! 𝓣.C 𝓣.Λ fn (w ∷ []) Post $ alloc_all !
    (λ l. pass_all ! refl (typed, tt) $ sets ! (of_opd ! (get ! refl)) refl typed $
    calls_at ! (fm 𝓛 𝓜 𝓡) Raw known y (and_then ! (get ! refl) (no_more !)) (λ u.
    use1 𝓛
    (later (some
    (λ (p : Ptr).
    ((‵ (flft κ q) ⊛ ‵ (flft [] full_share) ⊛ ‵ ftrue) ⊛ ‵ (RawPtr.own_val p (u ∷ [])))
    ⊛ some (λ (ls : Lasts Raws y.0.0 y.0.3). ‵ (lasts Raws y.0.0 y.0.3 ls) ⊛ ‵
    (owns_at R p v.value))))) (id⊢ 𝓤 (Raw.post y u)) $
    await ! tt $ pick !
    (λ p. split ! $ move ! (1 ∷ []) $ pick !
    (λ _. split ! $ drop ! $ move ! (1 ∷ []) $ split ! $ split ! $ move ! (1 ∷ []) $ drop !
    $ move ! (1 ∷ []) $
    feq_l ! (λ eu. let d : (RawBox R).Denot = record { at = p; value = v.value } in
    lands_as ! (ap only eu) refl (ptr_good p) $ sets ! (agg ! (and_then ! (get ! refl) (no_more !)))
    refl (word_good p) $
    move ! (1 ∷ []) $ place_in ! R d $ use0 𝓛 (raw (fact 𝓤 (d.value ≡ v.value)))
    (fact_i 𝓤 (d.value ≡ v.value) (emp 𝓤) refl) $
    nothing ! $ nothing ! $ fjoin ! $ returns ! (look_at ! 0 refl) $ free_all ! refl $
    nothing ! $ move ! (4 ∷ 0 ∷ []) $ join ! $ keep ! (0 ∷ 1 ∷ 3 ∷ 2 ∷ []) $ by !
    (leaves 𝓛 En stays c z (word p) d (tt, tt) (tt, tt))))))))))
