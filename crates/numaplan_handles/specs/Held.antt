-- What a C caller holds.
use Rattle.std.specs.Prelude.{ℕ, Option, Some, None, [], ◌∷◌}
use base.Fml.{Fml, Share, fex, flft, fsep, ftrue}
use denote.RawPtr.{Ptr}
use denote.Struct.Lending.{lent_at}
use Rattle.numaplan_handles.specs.Ownership.{owns_at}
use Rattle.numaplan_handles.specs.declared.kept.Kept.{Kept}
use Rattle.numaplan_handles.specs.contracts.kept.Kept.{the_row}

-- nothing, or a value on the heap and the right to free it
abbrev pub held_owns : Ptr → Option Kept → Fml
held_owns p None = ftrue
held_owns p (Some x) = owns_at the_row p x

-- nothing, or a value on the heap that is lent for a lifetime, and a part of what keeps that from
-- its end
abbrev pub view_owns : Ptr → ℕ → Option Kept → Fml
view_owns p life None = ftrue
view_owns p life (Some x) = fsep (fex Share (λ part. flft (life ∷ []) part))
    (lent_at the_row p x (life ∷ []))
