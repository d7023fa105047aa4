use Rattle.std.proofs.Common.{None, refl}
use Rattle.std.specs.Prelude.{Ok}
use Rattle.numa_page_state.proofs.Migrating.{few-left, migrates-freely}
use Rattle.numa_page_state.proofs.Follows.{followed-ok}
use Rattle.numa_page_state.proofs.frames.follow_freely.Goals as goal

pub returns : goal.returns
returns c =
    followed-ok c.args.placed.now c.follow-moved.new.self None None c.args.old.now c.args.new.now _
    c.keep_with_held.new.last (Ok c.follow-moved.result) c.follow-moved.result refl
    (migrates-freely c.args.placed.now c.follow-moved.new.self c.args.old.now c.args.new.now None
    (Ok c.follow-moved.result) (refl, c.follow-moved.ensures) tt tt) c.keep_with_held.ensures

pub keep_with_held-requires : goal.keep_with_held-requires
keep_with_held-requires c =
    few-left c.args.placed.now c.follow-moved.new.self None None c.args.old.now c.args.new.now None
    c.follow-moved.result
    (migrates-freely c.args.placed.now c.follow-moved.new.self c.args.old.now c.args.new.now None
    (Ok c.follow-moved.result) (refl, c.follow-moved.ensures) tt tt)
