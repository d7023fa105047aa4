use Rattle.std.proofs.Common.{◌≡◌, take, map, []}
use Rattle.clap.specs.Words.{app_of}
use Rattle.clap.specs.Simple.{new_shape}
use Rattle.numa_command_line.specs.Usage.{IsLocal, rule_said}
use Rattle.numa_command_line.proofs.usage.own_command.Given as goal

-- the command has the arguments so far
abbrev pub invariant-loop-said : goal.invariant-loop-said
invariant-loop-said l = record {
  app : app_of l.command ≡ record {
    top = record (new_shape l.fn.word.name.now)
        { rules = map rule_said (take l.said-index l.fn.word.arguments.now) };
    subs = [];
  };
  local : IsLocal l.command;
}
