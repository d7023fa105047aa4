-- What is known of a number is that of its value.
use Rattle.std.proofs.Common.{◌≡◌, ℕ, List, Option, Some, None, length, get_or, refl, sym, ap}
use Rattle.std.proofs.Common.{subst, ◌∙◌, arith, slice_get, inl}
use Rattle.std.proofs.Math.ListN.{length-set}
use Rattle.std.proofs.lemmas.List.{get_or_read}
use Rattle.numa_mode.specs.Policy.{PolicyRecord}
use Rattle.numa_space.specs.Policies.{where_live}
use Rattle.numa_compile.specs.Copies.{AreKnown, Grows, IsNumber}
use Rattle.numa_compile.proofs.KnownLemmas.{known-set, known-grow}
use Rattle.numa_compile.proofs.numbers.number_for_range.Goals as goal

pub number_for-requires-clause-in_force : goal.number_for-requires-clause-in_force
number_for-requires-clause-in_force c =
    let is : c.policy-policy.result ≡ get_or c.args.values.now c.args.value None =
    c.policy-policy.ensures ∙ get_or_read c.args.values.now c.args.value
    c.index-values-value.result c.requires.within c.index-values-value.is None in
    λ r there. c.requires.in_force r (sym is ∙ there)

pub returns-clause-known : goal.returns-clause-known
returns-clause-known c =
    let values : List (Option PolicyRecord) = c.args.values.now in
    let keys : List PolicyRecord = c.number_for.new.records.keys in
    let is : c.policy-policy.result ≡ get_or values c.args.value None = c.policy-policy.ensures
    ∙ get_or_read values c.args.value c.index-values-value.result c.requires.within
    c.index-values-value.is None in
    let numbered : IsNumber (slice_get keys) (where_live (get_or values c.args.value None))
    c.in_ok-number.number =
    subst (λ (p : Option PolicyRecord). IsNumber (slice_get keys) (where_live p)
    c.in_ok-number.number) is c.in_ok-number.ensures.number in
    let kept : AreKnown (slice_get keys) values c.args.known.now.items =
    known-grow c.args.records.now.keys keys c.policy-policy.result values c.args.known.now.items
    c.in_ok-number.ensures.grows c.requires.known in
    subst (λ (now : List (Option (Option ℕ))). AreKnown (slice_get keys) values now)
    (sym c.note.ensures)
    (known-set (slice_get keys) values c.args.known.now.items c.args.value c.in_ok-number.number
    (omega (arith, c.requires.within, c.requires.size)) numbered kept)

pub note-requires : goal.note-requires
note-requires c = omega (arith, c.requires.within, c.requires.size)

pub returns-clause-size : goal.returns-clause-size
returns-clause-size c = ap length c.note.ensures ∙ length-set c.args.known.now.items c.args.value
    (Some c.in_ok-number.number) ∙ c.requires.size

pub number_for-requires-clause-ready : goal.number_for-requires-clause-ready
number_for-requires-clause-ready c = c.requires.ready

pub number_for-requires-clause-nodes : goal.number_for-requires-clause-nodes
number_for-requires-clause-nodes c = c.requires.nodes

pub number_for-requires-clause-serves : goal.number_for-requires-clause-serves
number_for-requires-clause-serves c = c.requires.serves

pub number_for-requires-clause-room : goal.number_for-requires-clause-room
number_for-requires-clause-room c = c.requires.room

pub returns-in-Some-clause-serves : goal.returns-in-Some-clause-serves
returns-in-Some-clause-serves c = c.requires.serves

pub returns-in-Some-clause-known : goal.returns-in-Some-clause-known
returns-in-Some-clause-known c = c.requires.known

pub returns-in-Some-clause-size : goal.returns-in-Some-clause-size
returns-in-Some-clause-size c = c.requires.size

pub returns-in-Some-clause-grows : goal.returns-in-Some-clause-grows
returns-in-Some-clause-grows c = inl refl

pub returns-clause-serves : goal.returns-clause-serves
returns-clause-serves c = c.in_ok-number.ensures.serves

pub returns-clause-rest : goal.returns-clause-rest
returns-clause-rest c = c.in_ok-number.ensures.rest

pub returns-clause-grows : goal.returns-clause-grows
returns-clause-grows c =
    let is : c.policy-policy.result ≡ get_or c.args.values.now c.args.value None =
    c.policy-policy.ensures ∙ get_or_read c.args.values.now c.args.value
    c.index-values-value.result c.requires.within c.index-values-value.is None in
    subst (λ (p : Option PolicyRecord). Grows c.args.records.now.keys p
    c.number_for.new.records.keys) is c.in_ok-number.ensures.grows

pub returns-clause-number : goal.returns-clause-number
returns-clause-number c =
    let is : c.policy-policy.result ≡ get_or c.args.values.now c.args.value None =
    c.policy-policy.ensures ∙ get_or_read c.args.values.now c.args.value
    c.index-values-value.result c.requires.within c.index-values-value.is None in
    subst (λ (p : Option PolicyRecord). IsNumber (slice_get c.number_for.new.records.keys)
    (where_live p) c.in_ok-number.number) is c.in_ok-number.ensures.number
