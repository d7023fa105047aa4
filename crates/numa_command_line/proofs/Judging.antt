-- What the parse's outcome means for the job.
use Rattle.std.proofs.Common.{◌≡◌, ◌∙◌, ◌&&◌, Bool, true, false, refl, sym, ap, subst}
use Rattle.std.proofs.Common.{List, [], Option, None, Result, Ok, Err, inl, inr}
use Rattle.clap.specs.Words.{App, HasKind, IsAmong, Row, fault_of}
use Rattle.clap.specs.Words.{kind_of, subcommand_of}
use Rattle.clap.specs.declared.error.Error.{Error}
use Rattle.clap.specs.declared.error.kind.ErrorKind.TheVariants as kind
use Rattle.numa_command_line.specs.Asked.{Answers, HasNoJob, IsJobOf, IsShown, IsTold}
use Rattle.numa_command_line.specs.Asked.{doings_found}
use Rattle.numa_command_line.specs.Grammar.{StandsIn, program}
use Rattle.numa_command_line.specs.Jobs.{IsMade, IsRefusal, Text, doings_of}
use Rattle.numa_command_line.specs.declared.jobs.Job.{Job}
use Rattle.numa_command_line.specs.declared.jobs.JobFault.{JobFault}
use Rattle.numa_command_line.specs.declared.jobs.JobFault.TheVariants.{Help, Usage, NoMemory}

-- where the parse refuses nothing, what is made of its matches is the job of the words
pub made_is_job : (program : App) (words : List Text) (found : Option (Text × List Row))
    (answer : Result Job JobFault)
    → fault_of program words ≡ [] → found ≡ subcommand_of program words
    → IsMade doings_of (doings_found words found) answer → IsJobOf program words answer
made_is_job program words found (Ok job) none is made =
    (none, ap (doings_found words) (sym is) ∙ made)
made_is_job program words found (Err (Usage text)) none is made =
    inr (none, ap (doings_found words) (sym is) ∙ made)
made_is_job program words found (Err (Help text)) none is made = absurd made
made_is_job program words found (Err NoMemory) none is made = tt

shown_is_no_lack : IsShown kind.OutOfMemory → ⊥
shown_is_no_lack (inl e) = cc
shown_is_no_lack (inr e) = cc

-- where it refuses something, no job is there
pub told_is_no_job : (program : App) (words : List Text) (error : Error) (fault : JobFault)
    → HasKind (fault_of program words) error → IsTold error fault → HasNoJob program words fault
told_is_no_job program words error (Help text) (inl lack) shown =
    absurd (shown_is_no_lack (subst IsShown lack shown))
told_is_no_job program words error (Help text) (inr among) shown = (kind_of error, among, shown)
told_is_no_job program words error (Usage text) (inl lack) told = absurd (told.0 lack)
told_is_no_job program words error (Usage text) (inr among) told =
    inl (kind_of error, among, told.1)
told_is_no_job program words error NoMemory kinds told = tt

pub simple_first : (a b : Bool) → (a && b) ≡ true → a ≡ true
simple_first true b e = refl
simple_first false b e = e

-- a refusal is right where nothing is wanted
pub refused_is_made : {X Y : Type 0} (seen : X → Y) (wanted : Option Y) (fault : JobFault)
    → wanted ≡ None → IsRefusal fault → IsMade seen wanted (Err fault)
refused_is_made seen wanted (Usage text) none refusal = none
refused_is_made seen wanted (Help text) none refusal = absurd refusal
refused_is_made seen wanted NoMemory none refusal = tt

-- where two programs parse a line alike, its job is the same
same_job : (a b : App) (words : List Text) (answer : Result Job JobFault)
    → fault_of a words ≡ fault_of b words → subcommand_of a words ≡ subcommand_of b words
    → IsJobOf a words answer → IsJobOf b words answer
same_job a b words (Ok job) refused found is =
    (sym refused ∙ is.0, ap (doings_found words) (sym found) ∙ is.1)
same_job a b words (Err (Help text)) refused found is =
    (is.0, subst (IsAmong is.0) refused is.1, is.2)
same_job a b words (Err (Usage text)) refused found (inl is) =
    inl (is.0, subst (IsAmong is.0) refused is.1, is.2)
same_job a b words (Err (Usage text)) refused found (inr is) =
    inr (sym refused ∙ is.0, ap (doings_found words) (sym found) ∙ is.1)
same_job a b words (Err NoMemory) refused found is = tt

pub job_by_stand_in : (app : App) (words : List Text) (answer : Result Job JobFault)
    → StandsIn words app → IsJobOf app words answer → Answers words answer
job_by_stand_in app words answer stands is = (
  program stands.0,
  (stands.0, stands.1, refl),
  same_job app (program stands.0) words answer stands.2 stands.3 is,
)
