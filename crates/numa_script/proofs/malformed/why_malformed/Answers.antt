use Rattle.std.proofs.Common.{◌∙◌, ap, is_some, rules}
use Rattle.numa_script.specs.Causes.{fault_of}
use Rattle.numa_script.proofs.Malformations.{malformed_line}
use Rattle.numa_script.proofs.malformed.why_malformed.Goals as goal

pub returns-then-is_silent_line-clause-fault : goal.returns-then-is_silent_line-clause-fault
unfolding fault_of
returns-then-is_silent_line-clause-fault c = search rules

pub returns-then-is_silent_line-clause-malformed : goal.returns-then-is_silent_line-clause-malformed
returns-then-is_silent_line-clause-malformed c =
    ap is_some (returns-then-is_silent_line-clause-fault c) ∙ malformed_line c.args.line.now

pub returns-then-line-gt-LIMIT-clause-fault : goal.returns-then-line-gt-LIMIT-clause-fault
unfolding fault_of
returns-then-line-gt-LIMIT-clause-fault c = search rules

pub returns-then-line-gt-LIMIT-clause-malformed : goal.returns-then-line-gt-LIMIT-clause-malformed
returns-then-line-gt-LIMIT-clause-malformed c =
    ap is_some (returns-then-line-gt-LIMIT-clause-fault c) ∙ malformed_line c.args.line.now

pub returns-in_err-fault-clause-fault : goal.returns-in_err-fault-clause-fault
unfolding fault_of
returns-in_err-fault-clause-fault c = search rules

pub returns-in_err-fault-clause-malformed : goal.returns-in_err-fault-clause-malformed
returns-in_err-fault-clause-malformed c =
    ap is_some (returns-in_err-fault-clause-fault c) ∙ malformed_line c.args.line.now

pub returns-clause-fault : goal.returns-clause-fault
unfolding fault_of
returns-clause-fault c = search rules

pub returns-clause-malformed : goal.returns-clause-malformed
returns-clause-malformed c = ap is_some (returns-clause-fault c) ∙ malformed_line c.args.line.now
