use Rattle.numa_refinement.proofs.Desking.{has-earlier}
use Rattle.numa_refinement.proofs.desk.learn.Goals as goal

pub returns : goal.returns
returns c world le has =
    let begins = c.compare.ensures.begins le in
    has-earlier world c.args.reader.history c.args.receipt.now.history c.args.reader.versions
    c.args.receipt.now.versions has begins.0 begins.1
