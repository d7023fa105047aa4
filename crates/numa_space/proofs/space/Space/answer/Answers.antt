use Rattle.std.proofs.Common.{◌≡◌, IfOk, IfErr, sym, subst}
use Rattle.numa_space.specs.Changed.{IsChange}
use Rattle.numa_space.specs.Steps.{IsAnswer, MayNeedRoom}
use Rattle.numa_requests.specs.declared.command.Command.{Command}
use Rattle.numa_requests.specs.declared.refusal.Refusal.TheVariants.{NoMemory}
use Rattle.numa_space.proofs.space.Space.answer.Goals as goal

pub returns-in-Map : goal.returns-in-Map
returns-in-Map c =
    let P : Command → Type 0 = λ command. IsAnswer c.args.self.now command c.map.result
    c.map.new.self in
    let Q : Command → Type 0 = λ command. IfErr c.map.result (λ refusal. refusal ≡ NoMemory
    → MayNeedRoom command) in
    let R : Command → Type 0 = λ command. IfOk c.map.result (IsChange c.args.self.now command) in
    record {
      answer = subst P (sym c.in-Map.is) c.map.ensures.answer;
      change = subst R (sym c.in-Map.is) c.map.ensures.change;
      room = subst Q (sym c.in-Map.is) c.map.ensures.room;
    }

pub returns-in-Unmap : goal.returns-in-Unmap
returns-in-Unmap c =
    let P : Command → Type 0 = λ command. IsAnswer c.args.self.now command c.unmap.result
    c.unmap.new.self in
    let Q : Command → Type 0 = λ command. IfErr c.unmap.result (λ refusal. refusal ≡ NoMemory
    → MayNeedRoom command) in
    let R : Command → Type 0 = λ command. IfOk c.unmap.result (IsChange c.args.self.now command) in
    record {
      answer = subst P (sym c.in-Unmap.is) c.unmap.ensures.answer;
      change = subst R (sym c.in-Unmap.is) c.unmap.ensures.change;
      room = subst Q (sym c.in-Unmap.is) c.unmap.ensures.room;
    }

pub returns-in-Mbind : goal.returns-in-Mbind
returns-in-Mbind c =
    let P : Command → Type 0 = λ command. IsAnswer c.args.self.now command c.bind.result
    c.bind.new.self in
    let Q : Command → Type 0 = λ command. IfErr c.bind.result (λ refusal. refusal ≡ NoMemory
    → MayNeedRoom command) in
    let R : Command → Type 0 = λ command. IfOk c.bind.result (IsChange c.args.self.now command) in
    record {
      answer = subst P (sym c.in-Mbind.is) c.bind.ensures.answer;
      change = subst R (sym c.in-Mbind.is) c.bind.ensures.change;
      room = subst Q (sym c.in-Mbind.is) c.bind.ensures.room;
    }

pub returns-in-SetTask : goal.returns-in-SetTask
returns-in-SetTask c =
    let P : Command → Type 0 = λ command. IsAnswer c.args.self.now command c.set_task.result
    c.set_task.new.self in
    let Q : Command → Type 0 = λ command. IfErr c.set_task.result (λ refusal. refusal ≡ NoMemory
    → MayNeedRoom command) in
    let R : Command → Type 0 = λ command. IfOk c.set_task.result (IsChange c.args.self.now command) in
    record {
      answer = subst P (sym c.in-SetTask.is) c.set_task.ensures.answer;
      change = subst R (sym c.in-SetTask.is) c.set_task.ensures.change;
      room = subst Q (sym c.in-SetTask.is) c.set_task.ensures.room;
    }

pub returns-in-SetHome : goal.returns-in-SetHome
returns-in-SetHome c =
    let P : Command → Type 0 = λ command. IsAnswer c.args.self.now command c.set_home.result
    c.set_home.new.self in
    let Q : Command → Type 0 = λ command. IfErr c.set_home.result (λ refusal. refusal ≡ NoMemory
    → MayNeedRoom command) in
    let R : Command → Type 0 = λ command. IfOk c.set_home.result (IsChange c.args.self.now command) in
    record {
      answer = subst P (sym c.in-SetHome.is) c.set_home.ensures.answer;
      change = subst R (sym c.in-SetHome.is) c.set_home.ensures.change;
      room = subst Q (sym c.in-SetHome.is) c.set_home.ensures.room;
    }

pub returns-in-SetWeight : goal.returns-in-SetWeight
returns-in-SetWeight c =
    let P : Command → Type 0 = λ command. IsAnswer c.args.self.now command c.set_weight.result
    c.set_weight.new.self in
    let Q : Command → Type 0 = λ command. IfErr c.set_weight.result (λ refusal. refusal ≡ NoMemory
    → MayNeedRoom command) in
    let R : Command → Type 0 = λ command. IfOk c.set_weight.result (IsChange c.args.self.now command) in
    record {
      answer = subst P (sym c.in-SetWeight.is) c.set_weight.ensures.answer;
      change = subst R (sym c.in-SetWeight.is) c.set_weight.ensures.change;
      room = subst Q (sym c.in-SetWeight.is) c.set_weight.ensures.room;
    }

pub returns-in-SetMems : goal.returns-in-SetMems
returns-in-SetMems c =
    let P : Command → Type 0 = λ command. IsAnswer c.args.self.now command c.set_mems.result
    c.set_mems.new.self in
    let Q : Command → Type 0 = λ command. IfErr c.set_mems.result (λ refusal. refusal ≡ NoMemory
    → MayNeedRoom command) in
    let R : Command → Type 0 = λ command. IfOk c.set_mems.result (IsChange c.args.self.now command) in
    record {
      answer = subst P (sym c.in-SetMems.is) c.set_mems.ensures.answer;
      change = subst R (sym c.in-SetMems.is) c.set_mems.ensures.change;
      room = subst Q (sym c.in-SetMems.is) c.set_mems.ensures.room;
    }

pub returns-in-Inherit : goal.returns-in-Inherit
returns-in-Inherit c =
    let P : Command → Type 0 = λ command. IsAnswer c.args.self.now command c.inherit.result
    c.inherit.new.self in
    let Q : Command → Type 0 = λ command. IfErr c.inherit.result (λ refusal. refusal ≡ NoMemory
    → MayNeedRoom command) in
    let R : Command → Type 0 = λ command. IfOk c.inherit.result (IsChange c.args.self.now command) in
    record {
      answer = subst P (sym c.in-Inherit.is) c.inherit.ensures.answer;
      change = subst R (sym c.in-Inherit.is) c.inherit.ensures.change;
      room = subst Q (sym c.in-Inherit.is) c.inherit.ensures.room;
    }
