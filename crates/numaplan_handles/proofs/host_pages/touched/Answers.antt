use Rattle.std.proofs.Common.{Option, subst}
use Rattle.numa_host_script.specs.Acting.{changed_outcome}
use Rattle.numa_host_script.specs.Standing.{Changes}
use Rattle.numa_script.specs.declared.page_line.PageLine.TheVariants as page
use Rattle.numa_script.specs.declared.reply.Reply.{Reply}
use Rattle.numaplan_handles.proofs.host_pages.touched.Goals as goal

pub returns-in-Some : goal.returns-in-Some
returns-in-Some c = record {
  does = record {
    host = c.change.ensures.host;
    runs = subst (λ (told : Option Reply). Changes c.args.running.now told c.change.new.self
        c.args.process (λ lacked at. changed_outcome lacked at c.args.process
        (page.Populate c.args.start c.args.length c.args.toucher.task c.args.toucher.cpu)))
        c.in-Some.is c.change.ensures.runs;
  };
  told = tt;
}

pub returns-in-None : goal.returns-in-None
returns-in-None c = record {
  does = record {
    host = c.change.ensures.host;
    runs = subst (λ (told : Option Reply). Changes c.args.running.now told c.change.new.self
        c.args.process (λ lacked at. changed_outcome lacked at c.args.process
        (page.Populate c.args.start c.args.length c.args.toucher.task c.args.toucher.cpu)))
        c.in-None.is c.change.ensures.runs;
  };
  told = c.arrived_in.ensures;
}
