use Rattle.std.proofs.Common.{◌+◌, refl, sym, ◌∙◌, arith}
use Rattle.numa_machine.specs.Sizes.{whole}
use Rattle.numa_requests.specs.declared.command.Command.TheVariants.{Map}
use Rattle.numa_compile.proofs.CommandLemmas.{map-inside, map-rest, map-window}
use Rattle.numa_compile.proofs.SpanLemmas.{open-found}
use Rattle.numa_compile.proofs.recompiler.map.mapped_window.Goals as goal

pub returns-then-begins_beside-clause-open : goal.returns-then-begins_beside-clause-open
returns-then-begins_beside-clause-open c =
    let found = c.find_window-window in
    (map-rest c.args.space.now c.args.plan.now found.result c.requires.behind.start c.requires.behind.bytes
    c.requires.behind.offset c.requires.behind.size c.requires.behind.behind c.survey.ensures.rising
    c.survey.ensures.maximal
    (found.ensures.first ∙ sym c.requires.behind.begins)
    (found.ensures.end ∙ sym c.requires.behind.ends) found.ensures.place found.ensures.window
    c.if-begins_beside.ensures.beside (record {
      first = found.result.first;
      end = found.result.end;
      from = found.result.from + 1;
      to = found.result.to;
      to_now = found.result.to_now;
      near =
          found.result.near;
    }) refl refl refl refl refl).0

pub returns-then-begins_beside-clause-inside : goal.returns-then-begins_beside-clause-inside
returns-then-begins_beside-clause-inside c =
    let found = c.find_window-window in
    map-inside c.args.space.now c.args.plan.now found.result c.requires.behind.start
    (whole c.requires.behind.size c.requires.behind.bytes)
    (found.ensures.first ∙ sym c.requires.behind.begins)
    (found.ensures.end ∙ sym c.requires.behind.ends) (omega (arith, found.ensures.place))
    c.survey.ensures.rising c.survey.ensures.maximal c.requires.behind.bytes
    c.requires.behind.offset c.requires.behind.size refl c.requires.behind.behind
    (record {
      first = found.result.first;
      end = found.result.end;
      from = found.result.from + 1;
      to =
          found.result.to;
      to_now = found.result.to_now;
      near = found.result.near;
    }) refl refl refl

pub returns-then-begins_beside-clause-few : goal.returns-then-begins_beside-clause-few
returns-then-begins_beside-clause-few c =
    let found = c.find_window-window in
    (map-rest c.args.space.now c.args.plan.now found.result c.requires.behind.start c.requires.behind.bytes
    c.requires.behind.offset c.requires.behind.size c.requires.behind.behind c.survey.ensures.rising
    c.survey.ensures.maximal
    (found.ensures.first ∙ sym c.requires.behind.begins)
    (found.ensures.end ∙ sym c.requires.behind.ends) found.ensures.place found.ensures.window
    c.if-begins_beside.ensures.beside (record {
      first = found.result.first;
      end = found.result.end;
      from = found.result.from + 1;
      to = found.result.to;
      to_now = found.result.to_now;
      near =
          found.result.near;
    }) refl refl refl refl refl).1

pub returns-clause-open : goal.returns-clause-open
returns-clause-open c =
    let found = c.find_window-window in
    open-found c.args.space.now c.args.plan.now found.result
    (Map c.requires.behind.start c.requires.behind.bytes c.requires.behind.offset
    c.requires.behind.size) c.requires.behind.behind tt
    c.survey.ensures.rising c.survey.ensures.maximal (found.ensures.first ∙ sym c.requires.behind.begins)
    (found.ensures.end ∙ sym c.requires.behind.ends)
    found.ensures.place found.ensures.window

pub returns-clause-inside : goal.returns-clause-inside
returns-clause-inside c =
    let found = c.find_window-window in
    map-inside c.args.space.now c.args.plan.now found.result c.requires.behind.start
    (whole c.requires.behind.size c.requires.behind.bytes)
    (found.ensures.first ∙ sym c.requires.behind.begins)
    (found.ensures.end ∙ sym c.requires.behind.ends) (omega (arith, found.ensures.place))
    c.survey.ensures.rising c.survey.ensures.maximal c.requires.behind.bytes
    c.requires.behind.offset c.requires.behind.size refl c.requires.behind.behind
    found.result refl refl refl

pub returns-clause-few : goal.returns-clause-few
returns-clause-few c =
    let found = c.find_window-window in
    map-window c.args.space.now c.args.plan.now found.result c.requires.behind.start c.requires.behind.bytes
    c.requires.behind.offset c.requires.behind.size c.requires.behind.behind c.survey.ensures.rising
    c.survey.ensures.maximal
    (found.ensures.first ∙ sym c.requires.behind.begins)
    (found.ensures.end ∙ sym c.requires.behind.ends) found.ensures.place found.ensures.window
    c.if-begins_beside.ensures.inside

pub find_window-window-requires : goal.find_window-window-requires
find_window-window-requires c =
    omega (arith, c.requires.behind.begins, c.requires.behind.ends)
