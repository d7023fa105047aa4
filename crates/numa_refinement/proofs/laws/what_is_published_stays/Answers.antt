use Rattle.numa_refinement.proofs.Desking.{earlier, lasts, receipted, shows, stays, viewed}
use Rattle.numa_refinement.proofs.laws.what_is_published_stays.Goals as goal

pub returns-clause-desk : goal.returns-clause-desk
returns-clause-desk c = shows

pub returns-clause-stays : goal.returns-clause-stays
returns-clause-stays c s world m history is = stays s world m.version m.event m.answer history is

pub returns-clause-view : goal.returns-clause-view
returns-clause-view c = viewed

pub returns-clause-receipt : goal.returns-clause-receipt
returns-clause-receipt c world reader learnt receipt own told e is =
    receipted world reader.history receipt.history learnt.history own told e is

pub returns-clause-earlier : goal.returns-clause-earlier
returns-clause-earlier c = earlier

pub returns-clause-lasts : goal.returns-clause-lasts
returns-clause-lasts c s world m history versions has = lasts s world m.version m.event m.answer
    history versions has
