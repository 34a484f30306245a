-- What a text of a script is read as.
use Rattle.std.specs.Prelude.{◌≡◌, ◌⊎◌, ℕ, List, []}
use Rattle.pit_model.specs.Pit.{Pit}
use Rattle.pit_text.specs.Cutting.{cut_of, end_line}
use Rattle.pit_text.specs.Stands.{StandsWhole, StopsAt, FailsWhole, NamesFault}
use Rattle.pit_script.specs.Causes.{script_cause_of}
use Rattle.pit_script.specs.Jobs.{Job, jobs_of, script_line, script_end}
use Rattle.pit_script.specs.declared.error.ScriptCause.TheVariants.{NoMemory}
use Rattle.pit_script.specs.declared.error.ScriptError.{ScriptError}
use Rattle.pit_script.specs.declared.fact.ScriptFact.{ScriptFact}

-- the pit that a script is for, and its jobs
pub record ScriptState : Type 0 where
  pub pit : Pit
  pub jobs : List Job

abbrev pub StandsForJobs : Pit → List ℕ → List Job → Type 0
StandsForJobs pit text jobs = (facts : List ScriptFact) × StandsWhole (script_line pit) script_end (cut_of text) facts × (jobs ≡ jobs_of facts)

-- Memory runs out at a line: neither it nor a line before it has a fault. Or it runs out at the end of a text that has no line.
abbrev pub WantsMemoryAt : Pit → List ℕ → ℕ → Type 0
WantsMemoryAt pit text line = StopsAt (script_line pit) (cut_of text) line ⊎ ((cut_of text ≡ []) × (line ≡ end_line text))

-- the first fault of the text, or out of memory
abbrev pub IsScriptError : Pit → List ℕ → ScriptError → Type 0
IsScriptError pit text error =
    ((error.cause ≡ NoMemory) × WantsMemoryAt pit text error.line)
    ⊎ NamesFault script_cause_of (FailsWhole (script_line pit) script_end (cut_of text) (end_line text) error.line) error.cause
