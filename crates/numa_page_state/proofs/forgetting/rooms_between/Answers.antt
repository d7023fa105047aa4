use Rattle.numa_page_state.proofs.Unmapping.{paced-none, paced-some}
use Rattle.numa_page_state.proofs.forgetting.rooms_between.Goals as goal

pub returns-in-None : goal.returns-in-None
returns-in-None c = rw c.in-None.is (λ lying spots have lay lie. paced-none lying spots have)

pub returns-in-Some : goal.returns-in-Some
returns-in-Some c = rw c.in-Some.is (λ lying spots have lay lie.
    paced-some c.args.before.now c.args.after.now c.in-Some.have c.between.result
    c.stated_counts-lay.result c.stated_counts-lie.result lying spots c.stated_counts-lay.ensures
    c.stated_counts-lie.ensures c.between.ensures have lay lie)
