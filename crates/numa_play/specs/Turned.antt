-- A line as the twin of a script has it, which goes by the other rules.
use Rattle.std.specs.Prelude.{Option, None, Some}
use Rattle.numa_machine.specs.declared.rules.Rules.{Rules}
use Rattle.numa_rules.specs.Others.{other_rules}
use Rattle.numa_script.specs.Lines.{alone}
use Rattle.numa_script.specs.declared.line.Line.{Line}
use Rattle.numa_script.specs.declared.line.Line.TheVariants as line
use Rattle.numa_script.specs.declared.line.ScriptLine.{ScriptLine}

-- the rules that a line chooses instead, if it chooses any
abbrev pub rules_instead : Line → Option Rules
rules_instead (line.Rules rules) = Some (other_rules rules)
rules_instead said = None

-- a line that chooses rules chooses the other ones
abbrev pub turned_by : Option Rules → ScriptLine → ScriptLine
turned_by (Some rules) said = alone (line.Rules rules)
turned_by None said = said

abbrev pub turned : ScriptLine → ScriptLine
turned said = turned_by (rules_instead said.line) said
