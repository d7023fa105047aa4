use Rattle.numa_space.proofs.Looked.{look_up-meaning, look_up-sound, list-kept}
use Rattle.numa_space.proofs.space.Space.list_at.Goals as goal

pub returns-clause-meaning : goal.returns-clause-meaning
returns-clause-meaning c history stands = look_up-meaning (λ list. list.items) c.args.self.now
    c.args.task c.args.page c.args.cpu c.list_of_page.result c.list_of_page.ensures history stands

pub returns-clause-sound : goal.returns-clause-sound
returns-clause-sound c = look_up-sound (λ list. list.items) c.args.self.now c.args.task c.args.page
    c.args.cpu c.list_of_page.result c.list_of_page.ensures
    (list-kept c.self.inside c.args.self.now c.self.invariant c.self.view_is c.args.task c.args.page
    c.args.cpu)
