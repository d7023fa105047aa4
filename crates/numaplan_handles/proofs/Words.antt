-- The machine values of a `RawBox` and of a `HeapSlot`: each is a struct of one pointer. Assumes
-- `Logic`.
use Rattle.std.proofs.Common.{◌≡◌, List, [], ◌∷◌, ◌++◌, refl, sym, ap, subst, ◌∙◌, lit<}
use Rattle.std.specs.Prelude.{true, Option, Some, None, is_some}
use lib.Dec.{T}
use seplogic.Ra.Ura.{Ura}
use mir.Raw.{raw as bare}
use mir.Syntax.{Dict, impl, ty_ptr, tcons, tnil, dnil}
use mir.Val.{Val, vstruct, vcons, vnil, of_list, has_ty, WT}
use types.Logic.{Logic}
use types.Kit.{Item, Goal, Seq, Step, step, ‵, ◌$◌, drop, fsplit, fjoin, fpick, fpack, feq_i, feq_l}
use denote.RattleType.{RattleType, Valss}
use denote.Builtin.{RawPtr}
use denote.RawPtr.{Ptr, block_ptr, null_ptr, ptr_val}
use denote.Steps.{nothing}
use denote.Exit.{no}
use denote.Param.{arg, layout}
use denote.Param.Laws.{Laws, arg_laws}
use denote.Struct.Struct.{within}
use denote.Struct.Owning.{shape}
use Rattle.std.specs.contracts.alloc.Global as heap
use Rattle.std.proofs.alloc.Global.TheLaws as heap_laws
use Rattle.numaplan_handles.specs.contracts.held.HeapSlot as held
use Rattle.numaplan_handles.specs.contracts.place.RawBox as place
use Rattle.numaplan_handles.specs.Held.{held_owns}
use Rattle.numaplan_handles.specs.Ownership.{owns_at}

abbrev pub HeapSlot : RattleType
HeapSlot = held.the_row

abbrev pub RawBox : RattleType → RattleType
RawBox R = place.the_row R

-- the struct that holds this pointer
abbrev pub word : Ptr → Val
word p = vstruct (vcons (ptr_val p) vnil)

pub ptr_good : (p : Ptr) → T (has_ty ty_ptr (ptr_val p)) × WT (ptr_val p)
ptr_good (block_ptr b o) = (tt, tt)
ptr_good null_ptr = (tt, record { fits = lit< tt })

pub word_good : (p : Ptr) → T (has_ty (layout HeapSlot) (word p)) × WT (word p)
word_good (block_ptr b o) = (tt, (tt, tt))
word_good null_ptr = (tt, (record { fits = lit< tt }, tt))

module _ {M : Type 1} {𝓤 : Ura M} {𝓛 : Logic 𝓤} {K : Type 0} {Γ : List (Item 𝓤)} {G : Goal 𝓤 𝓛.H}
  where
    -- a `HeapSlot` is made of what it owns
    pub held_in : K → (d : HeapSlot.Denot)
        → Step K 𝓛 (‵ (HeapSlot.own_val d (word d.at ∷ [])) ∷ Γ) G (‵ (held_owns d.at d.kept) ∷ Γ) G
    held_in t d = step (λ s. let v : Val = word d.at in
        nothing t $ feq_i t (List Val) (ptr_val d.at ∷ []) (ptr_val d.at ∷ []) refl $ fjoin t $
        feq_i t (List Val) (v ∷ []) (v ∷ []) refl $ fjoin t $
        fpack t (Valss (RawPtr ∷ [])) (within (shape held.the_type) (d.at, tt) (v ∷ []))
        (ptr_val d.at ∷ [], tt) $ fjoin t $ s)

    -- and is taken apart into it
    pub held_out : K → (d : HeapSlot.Denot) (vs : List Val)
        → (vs ≡ word d.at ∷ [] → Seq K 𝓛 (‵ (held_owns d.at d.kept) ∷ Γ) G)
        → Seq K 𝓛 (‵ (HeapSlot.own_val d vs) ∷ Γ) G
    held_out t d vs k =
        fsplit t $ fpick t (λ vss. fsplit t $ feq_l t (λ ev. fsplit t $ feq_l t (λ ep. drop t $
        k (ev ∙ ap (λ (ps : List Val). vstruct (of_list (ps ++ [])) ∷ []) ep))))

    -- the same of a `RawBox`
    pub place_in : K → (R : RattleType) (d : (RawBox R).Denot)
        → Step K 𝓛 (‵ ((RawBox R).own_val d (word d.at ∷ [])) ∷ Γ) G
        (‵ (owns_at R d.at d.value) ∷ Γ)
        G
    place_in t R d = step (λ s. let v : Val = word d.at in
        nothing t $ feq_i t (List Val) (ptr_val d.at ∷ []) (ptr_val d.at ∷ []) refl $ fjoin t $
        feq_i t (List Val) (v ∷ []) (v ∷ []) refl $ fjoin t $
        fpack t (Valss (RawPtr ∷ [])) (within (shape (place.the_type R)) (d.at, tt) (v ∷ []))
        (ptr_val d.at ∷ [], tt) $ fjoin t $ s)

    pub place_out : K → (R : RattleType) (d : (RawBox R).Denot) (vs : List Val)
        → (vs ≡ word d.at ∷ [] → Seq K 𝓛 (‵ (owns_at R d.at d.value) ∷ Γ) G)
        → Seq K 𝓛 (‵ ((RawBox R).own_val d vs) ∷ Γ) G
    place_out t R d vs k =
        fsplit t $ fpick t (λ vss. fsplit t $ feq_l t (λ ev. fsplit t $ feq_l t (λ ep. drop t $
        k (ev ∙ ap (λ (ps : List Val). vstruct (of_list (ps ++ [])) ∷ []) ep))))

-- the allocator's handle, as an argument of a generic call, and its drop, which does nothing
abbrev pub Handle : RattleType
Handle = arg (bare (layout heap.the_row)) no heap.the_row

pub handle_laws : Laws Handle
handle_laws = arg_laws (bare (layout heap.the_row)) no heap.the_row heap_laws.the_row_laws refl

abbrev pub handle_drop : Dict
handle_drop = impl ("numaplan_handles::Destruct++none::drop" ∷ []) (tcons (layout Handle) tnil) dnil

-- an option that isn't None is Some
pub some_of : {A : Type 0} → (o : Option A) → is_some o ≡ true → (x : A) × (o ≡ Some x)
some_of None e = absurd (subst T (sym e) tt)
some_of (Some x) e = (x, refl)
