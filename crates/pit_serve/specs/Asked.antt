-- What a line of a session asks for.
use Rattle.std.specs.Prelude.{ℕ, ◌<◌, ◌==◌, ◌||◌, nat_lt, Bool, true, if◌then◌else◌, List, [], ◌∷◌, length, Result, Ok, Err, ⊤}
use Rattle.pit_model.specs.Pit.{Pit}
use Rattle.pit_text.specs.Cutting.{without_return, fields_of, is_last, is_comment}
use Rattle.pit_text.specs.Stands.{◌>>=◌}
use Rattle.pit_script.specs.Lines.{no_field, in_job, line_of_word}
use Rattle.pit_script.specs.declared.error.ScriptFault.{ScriptFault}
use Rattle.pit_script.specs.declared.error.ScriptFault.TheVariants.{UnknownWord}
use Rattle.pit_script.specs.declared.fact.ScriptFact.{ScriptFact}
use Rattle.pit_script.specs.declared.fact.ScriptFact.TheVariants as says
use Rattle.pit_script.specs.declared.step.JobEnd.TheVariants as ending
use Rattle.pit_script.specs.declared.step.Step.TheVariants as step
use Rattle.pit_serve.specs.Words.{word_in}
use Rattle.pit_serve.specs.declared.asked.Asked.{Asked}
use Rattle.pit_serve.specs.declared.asked.Asked.TheVariants as asked
use Rattle.pit_serve.specs.declared.asked.TheConstants.{LINE_MAX}
use Rattle.pit_serve.specs.declared.fault.RequestFault.TheVariants as fault
use Rattle.pit_serve.specs.declared.request.Request.{Request}
use Rattle.pit_serve.specs.declared.request.Request.TheVariants as ask
use Rattle.pit_serve.specs.declared.word.RequestWord.{RequestWord}
use Rattle.pit_serve.specs.declared.word.RequestWord.TheVariants as word

-- the request that a line of a script is; a line that is none begins with no word of a session
abbrev pub request_of : ScriptFact → Result Request ScriptFault
request_of says.Begin = Ok ask.Begin
request_of (says.Does (step.Read block)) = Ok (ask.Read block)
request_of (says.Does (step.Put block period)) = Ok (ask.Put block period)
request_of (says.Does (step.Clear block)) = Ok (ask.Clear block)
request_of (says.Does other) = Err UnknownWord
request_of (says.Ends ending.Commit) = Ok ask.Commit
request_of (says.Ends other) = Err UnknownWord

-- a request without a field behind its word, where it may stand
abbrev pub lone : Bool → Request → List (List ℕ) → Result Request ScriptFault
lone may_stand request fields = no_field (in_job may_stand (Ok request)) fields

-- a request that begins with this word, by its fields behind it; how many jobs have begun isn't asked here
abbrev pub request_of_word : Pit → Bool → RequestWord → List (List ℕ) → Result Request ScriptFault
request_of_word pit is_open (word.Line line) fields = line_of_word pit is_open 0 line fields >>= request_of
request_of_word pit is_open word.Abandon fields = lone is_open ask.Abandon fields
request_of_word pit is_open word.Value fields = lone true ask.Value fields

unfoldable pub request_of_line : Pit → Bool → List (List ℕ) → Result Request ScriptFault
request_of_line pit is_open [] = Err UnknownWord
request_of_line pit is_open (first ∷ fields) = word_in first >>= (λ word. request_of_word pit is_open word fields)

abbrev pub asked_or : Result Request ScriptFault → Asked
asked_or (Ok request) = asked.Request request
asked_or (Err cause) = asked.Wrong (fault.Line cause)

-- a line without its end
unfoldable pub asked_within : Pit → Bool → List ℕ → Asked
asked_within pit is_open line =
    if is_last line then asked.End
    else if is_comment line || length (fields_of line) == 0 then asked.Nothing
    else asked_or (request_of_line pit is_open (fields_of line))

-- A line without its line feed, where a transaction is open or none is. How long it is is looked at before anything else.
unfoldable pub asked_of : Pit → Bool → List ℕ → Asked
asked_of pit is_open line =
    if nat_lt LINE_MAX (length line) then asked.Wrong fault.LineTooLong else asked_within pit is_open (without_return line)

-- each block and period is one of the pit
abbrev pub IsRequestIn : Pit → Request → Type 0
IsRequestIn pit (ask.Read block) = block < pit.blocks
IsRequestIn pit (ask.Put block period) = (block < pit.blocks) × (period < pit.periods)
IsRequestIn pit (ask.Clear block) = block < pit.blocks
IsRequestIn pit request = ⊤

abbrev pub IsAskedIn : Pit → Asked → Type 0
IsAskedIn pit (asked.Request request) = IsRequestIn pit request
IsAskedIn pit other = ⊤
