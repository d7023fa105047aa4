use Rattle.std.proofs.Common.{List, [], append-nil, arith, subst}
use Rattle.numa_pool.specs.declared.view.Entry.{Entry}
use Rattle.numa_pool.specs.Walk.{IsWalk, LoadsOnce}
use Rattle.numa_pool.proofs.Composing.{composes}
use Rattle.numa_pool.proofs.laws.walks_compose.Goals as goal

pub returns : goal.returns
returns c frames nodes found es distinct walks =
    subst (λ (l : List Entry). IsWalk frames nodes found l × LoadsOnce l) (append-nil es)
    (composes frames nodes [] [] (tt, tt) (λ n w. omega arith) distinct found es walks)
