-- What a `LentSlot` owns can be had twice, so threads look into one at once. Assumes `Logic`.
use Rattle.std.proofs.Common.{◌≡◌, List, [], ◌∷◌, ◌++◌, refl, ap, ◌∙◌}
use Rattle.std.specs.Prelude.{ℕ, Option, Some, None}
use seplogic.Ra.Ura.{Ura}
use base.Fml.{Lft, Share, Fml, fex, flft, fsep}
use base.Logic.{ent, sep, emp, emp∗}
use base.Share as half
use mir.Val.{Val, of_list, vstruct}
use types.Logic.{Logic, sem}
use types.Kit.{Item, Goal, Seq, ‵, ◌⊛◌, ◌$◌, ◌∵◌, !, qed, move, drop, split, fsplit, fjoin, fpick}
use types.Kit.{fpack, feq_l, frame, use1, done}
use denote.Copied.{whole-copied}
use denote.Laws.{Copy}
use denote.Opens.{Opens}
use denote.RattleType.{RattleType}
use denote.RawPtr.{Ptr}
use denote.SharingLaws.{contraction}
use denote.Struct.Lending.{lent_at, lent_at_shr_laws}
use denote.Struct.Owning.{shape, to}
use denote.Struct.Struct.{Struct, struct_copy}
use denote.Struct.Laws.{RawPtr-copy}
use Rattle.numaplan_handles.specs.Held.{view_owns}
use Rattle.numaplan_handles.specs.declared.kept.Kept.{Kept}
use Rattle.numaplan_handles.specs.contracts.kept.Kept.{the_row as Value}
use Rattle.numaplan_handles.proofs.kept.Kept.TheLaws.{the_row_laws as L}
use Rattle.numaplan_handles.specs.contracts.view.LentSlot as lent
use Rattle.numaplan_handles.proofs.view.LentSlot.TheLaws.{lowers}
use Rattle.numaplan_handles.proofs.Words.{word}

abbrev pub LentSlot : RattleType
LentSlot = lent.the_row

module _ {M : Type 1} {𝓤 : Ura M} (𝓛 : Logic 𝓤) where
  owned_twice : (p : Ptr) (life : ℕ) (held : Option Kept)
      → ent 𝓤 (sem 𝓛 (view_owns p life held))
      (sep 𝓤 (sem 𝓛 (view_owns p life held)) (sem 𝓛 (view_owns p life held)))
  owned_twice p life None = emp∗ 𝓤 (emp 𝓤)
  owned_twice p life (Some x) =
      let κ : Lft = life ∷ [] in
      let Part : Share → Fml = λ part. flft κ part in
      let Lent : Fml = lent_at Value p x κ in
      qed 𝓛 (‵ (fsep (fex Share Part) Lent) ∷ []) ∵
      fsplit ! $ fpick ! (λ part.
      use1 𝓛 (‵ (Part (half.left part)) ⊛ ‵ (Part (half.right part))) (𝓛.lfts.lft_split κ part) $
      split ! $ move ! (2 ∷ []) $
      use1 𝓛 (‵ Lent ⊛ ‵ Lent)
      (contraction 𝓛 (lent_at Value p x) (lent_at_shr_laws Value L.shr_laws p x) κ) $ split ! $
      move ! (2 ∷ []) $ fpack ! Share Part (half.left part) $ move ! (0 ∷ 1 ∷ []) $ fjoin ! $
      frame ! $ move ! (1 ∷ []) $ fpack ! Share Part (half.right part) $
      move ! (0 ∷ 1 ∷ []) $ fjoin ! $ done !)

  pub copy : Copy 𝓛 LentSlot
  copy = record {
    twice = λ s vs.
        let Data : Fml = (Struct (shape lent.the_type)).own_val (to lent.the_type s) vs in
        let Own : Fml = view_owns s.at s.lifetime s.kept in
        qed 𝓛 (‵ (fsep Data Own) ∷ []) ∵ fsplit ! $
        use1 𝓛 (‵ Data ⊛ ‵ Data)
        ((struct_copy 𝓛 (shape lent.the_type) (RawPtr-copy.copies M 𝓤 𝓛, tt)).twice
        (to lent.the_type s) vs) $ split ! $ move ! (2 ∷ []) $
        use1 𝓛 (‵ Own ⊛ ‵ Own) (owned_twice s.at s.lifetime s.kept) $ split ! $
        move ! (2 ∷ 0 ∷ []) $ fjoin ! $ frame ! $ move ! (1 ∷ 0 ∷ []) $ fjoin ! $ done !;
  }

  pub opens : Opens 𝓛 LentSlot
  opens = (whole-copied 𝓛 LentSlot (λ s b o. refl) lowers.lowered lowers.val_is copy).opens

-- it is taken apart into what it owns
module _ {M : Type 1} {𝓤 : Ura M} {𝓛 : Logic 𝓤} {K : Type 0} {Γ : List (Item 𝓤)} {G : Goal 𝓤 𝓛.H}
  where
    pub view_out : K → (s : LentSlot.Denot) (vs : List Val)
        → (vs ≡ word s.at ∷ [] → Seq K 𝓛 (‵ (view_owns s.at s.lifetime s.kept) ∷ Γ) G)
        → Seq K 𝓛 (‵ (LentSlot.own_val s vs) ∷ Γ) G
    view_out t s vs k =
        fsplit t $ fpick t (λ vss. fsplit t $ feq_l t (λ ev. fsplit t $ feq_l t (λ ep. drop t $
        k (ev ∙ ap (λ (ps : List Val). vstruct (of_list (ps ++ [])) ∷ []) ep))))
