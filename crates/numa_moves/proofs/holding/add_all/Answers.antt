use Rattle.std.proofs.Common.{◌≡◌, ◌∙◌, ◌<◌, ◌≤◌, ◌++◌, List, ap, arith, length, get_or, map, sym}
use Rattle.std.proofs.lemmas.List.{append-nil, take_all}
use Rattle.std.proofs.lemmas.Option.{get_or_from_slice_get}
use Rattle.numa_moves.specs.Held.{Told, held_from, held_in, processes_in, told_of}
use Rattle.numa_moves.specs.declared.scene.Scene.{Scene}
use Rattle.numa_moves.proofs.Adding.{held-next, left-in}
use Rattle.numa_moves.proofs.holding.add_all.Goals as goal

pub loop-place-init : goal.loop-place-init
loop-place-init c before left so = sym (append-nil (map held_in c.args.holdings.now.items))

pub loop-place-preserved : goal.loop-place-preserved
loop-place-preserved c before left so =
    let k = c.loop-place.place in
    let scene : Scene = c.args.scene in
    let member = c.member.result in
    let told : Told = told_of member in
    let procs : List Told = processes_in scene in
    let inside : k < length {A = Told} procs =
    omega (arith, c.loop-place-test.true, c.members-place-end.ensures) in
    let read : get_or procs k told ≡ told =
    get_or_from_slice_get procs k told told c.member.ensures.told in
    held-next before procs k told (map held_in c.args.holdings.now.items)
    (map held_in c.loop-place.holdings.items) (map held_in c.add_one.new.holdings.items) inside
    read (c.loop-place.invariant before left so)
    (c.in_ok-add_one.ensures before
    (left-in scene member.scene before c.member.ensures.scene left) so)

pub returns : goal.returns
returns c before left so =
    let k = c.loop-place.place in
    let procs : List Told = processes_in c.args.scene in
    let all : length {A = Told} procs ≤ k =
    omega (arith, c.loop-place-test.false, c.members-place-end.ensures) in
    c.loop-place.invariant before left so
    ∙ ap (λ (l : List Told). map held_in c.args.holdings.now.items ++ held_from before 0 l)
    (take_all k procs all)
