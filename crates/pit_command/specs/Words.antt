-- What the words give each subcommand.
use Rattle.std.specs.Prelude.{◌≡◌, ◌⊎◌, ℕ, nat_le, nat_lt, Bool, true, false, ◌&&◌, ◌||◌, if◌then◌else◌, List, [], ◌∷◌, length, map, Any, Option, None, Some, is_some, Ok, Err, IfSome, option_map, codes}
use Rattle.std.specs.Str.Parse.{ParsesUnsigned}
use Rattle.clap.specs.Matches.{found_of, one_text}
use Rattle.clap.specs.declared.error.kind.ErrorKind.{ErrorKind}
use Rattle.clap.specs.declared.error.kind.ErrorKind.TheVariants.{ArgumentConflict, TooManyValues, MissingRequiredArgument, ValueValidation, WrongNumberOfValues}
use Rattle.clap.specs.declared.parser.matches.ArgMatches.{ArgMatches}
use Rattle.pit_step.specs.declared.input.Input.{Input}
use Rattle.pit_step.specs.declared.input.Input.TheVariants.{Model, Precedence, Blocks, Start, Solution, History, Schedule, Old, New, Edit}
use Rattle.pit_command.specs.declared.origin.Origin.{Origin}
use Rattle.pit_command.specs.declared.origin.Origin.TheVariants.{New as begun_anew, Continued}
use Rattle.pit_command.specs.declared.words.ValueWords.{ValueWords}
use Rattle.pit_command.specs.declared.words.CheckWords.{CheckWords}
use Rattle.pit_command.specs.declared.words.TableWords.{TableWords}
use Rattle.pit_command.specs.declared.words.DiffWords.{DiffWords}
use Rattle.pit_command.specs.declared.words.InfoWords.{InfoWords}
use Rattle.pit_command.specs.declared.words.ShowWords.{ShowWords}
use Rattle.pit_command.specs.declared.plan_words.PlanWords.{PlanWords}
use Rattle.pit_command.specs.declared.words.ReplayWords.{ReplayWords}
use Rattle.pit_command.specs.declared.words.LogWords.{LogWords}
use Rattle.pit_command.specs.declared.merge_words.MergeWords.{MergeWords}
use Rattle.pit_command.specs.Limits.{retries_max, edits_max, planners_max}
use Rattle.pit_command.specs.Inputs.{path_of, history_path, scripts_of, edits_of, streams_of, stream_words, plan_inputs, merge_inputs, live_inputs}
use Rattle.pit_command.specs.declared.live_words.LiveWords.{LiveWords}
use Rattle.pit_command.specs.Pairs.{are_pairs}

-- ---- flags and numbers

-- whether the words give a flag
pub record IsFlag (given : ArgMatches) (name : List ℕ) (is_given : Bool) : Type 0 where
  pub absent : one_text (found_of given) name ≡ None → is_given ≡ false
  pub yes : one_text (found_of given) name ≡ Some (codes "true") → is_given ≡ true
  pub no : one_text (found_of given) name ≡ Some (codes "false") → is_given ≡ false

-- a text is the number of its digits, if it is one of so many bits
abbrev pub ReadsAs : ℕ → List ℕ → Option ℕ → Type 0
ReadsAs bits text None = ParsesUnsigned {E = Unit {0}} bits 10 text (Err tt)
ReadsAs bits text (Some n) = ParsesUnsigned {E = Unit {0}} bits 10 text (Ok n)

-- the number that the words give an option, if they give one and it is a number of so many bits
pub record IsNumber (given : ArgMatches) (name : List ℕ) (bits : ℕ) (number : Option ℕ) : Type 0 where
  pub absent : one_text (found_of given) name ≡ None → number ≡ None
  pub present : (text : List ℕ) → one_text (found_of given) name ≡ Some text → ReadsAs bits text number

-- the number that the words give, but no more than there may be; 3 where they give none
abbrev pub retries_in : Option ℕ → ℕ
retries_in None = 3
retries_in (Some n) = if nat_le n retries_max then n else retries_max

pub record IsRetries (given : ArgMatches) (retries : ℕ) : Type 0 where
  pub number : Option ℕ
  pub given_is : IsNumber given (codes "retries") 16 number
  pub are : retries ≡ retries_in number

-- ---- what a plan or a merge begins with

-- the path that the words give for the history that is carried on
abbrev pub continue_path : ArgMatches → Option (List ℕ)
continue_path given = path_of given History

-- the words carry a history on, and name a start too, or another file for the history
abbrev pub has_conflict : ArgMatches → Bool
has_conflict given = is_some (continue_path given) && (is_some (path_of given Start) || is_some (history_path given))

-- they begin anew, or carry a history on and name neither
abbrev pub IsOrigin : ArgMatches → Origin → Type 0
IsOrigin given (begun_anew words) =
    (continue_path given ≡ None) × (option_map (λ path. path.now) words.start ≡ path_of given Start) × (option_map (λ path. path.now) words.history ≡ history_path given)
IsOrigin given (Continued path) = (Some path.now ≡ continue_path given) × (path_of given Start ≡ None) × (history_path given ≡ None)

-- the words name more
abbrev pub has_many : ArgMatches → Bool
has_many given = nat_lt edits_max (length (edits_of given))

-- the words name more
abbrev pub has_many_planners : ArgMatches → Bool
has_many_planners given = nat_lt planners_max (length (stream_words given))

-- ---- why they are refused

abbrev pub IsConflict : ArgMatches → ErrorKind → Type 0
IsConflict given kind = (has_conflict given ≡ true) × (kind ≡ ArgumentConflict)

abbrev pub AreMany : ArgMatches → ErrorKind → Type 0
AreMany given kind = (has_many given ≡ true) × (kind ≡ TooManyValues)

-- one of the inputs has no path
abbrev pub IsLacking : ArgMatches → List Input → ErrorKind → Type 0
IsLacking given inputs kind = Any (λ input. path_of given input ≡ None) inputs × (kind ≡ MissingRequiredArgument)

-- ---- the subcommands

pub record AreValueWords (given : ArgMatches) (words : ValueWords) : Type 0 where
  pub model : Some words.model.now ≡ path_of given Model
  pub solution : Some words.solution.now ≡ path_of given Solution

pub record AreCheckWords (given : ArgMatches) (words : CheckWords) : Type 0 where
  pub model : Some words.model.now ≡ path_of given Model
  pub precedence : Some words.precedence.now ≡ path_of given Precedence
  pub solution : Some words.solution.now ≡ path_of given Solution
  pub all : IsFlag given (codes "all") words.is_all

pub record AreTableWords (given : ArgMatches) (words : TableWords) : Type 0 where
  pub model : Some words.model.now ≡ path_of given Model
  pub schedule : Some words.schedule.now ≡ path_of given Schedule

pub record AreDiffWords (given : ArgMatches) (words : DiffWords) : Type 0 where
  pub model : Some words.model.now ≡ path_of given Model
  pub old : Some words.old.now ≡ path_of given Old
  pub new : Some words.new.now ≡ path_of given New

pub record AreInfoWords (given : ArgMatches) (words : InfoWords) : Type 0 where
  pub model : Some words.model.now ≡ path_of given Model
  pub precedence : Some words.precedence.now ≡ path_of given Precedence
  pub blocks : option_map (λ path. path.now) words.blocks ≡ path_of given Blocks

pub record AreShowWords (given : ArgMatches) (words : ShowWords) : Type 0 where
  pub model : Some words.model.now ≡ path_of given Model
  pub schedule : Some words.schedule.now ≡ path_of given Schedule
  pub at : IsNumber given (codes "at") 32 words.at

pub record ArePlanWords (given : ArgMatches) (words : PlanWords) : Type 0 where
  pub origin : IsOrigin given words.origin
  pub model : Some words.model.now ≡ path_of given Model
  pub precedence : Some words.precedence.now ≡ path_of given Precedence
  pub blocks : option_map (λ path. path.now) words.blocks ≡ path_of given Blocks
  pub scripts : map (λ path. path.now) words.scripts.now ≡ scripts_of given
  pub retries : IsRetries given words.retries
  pub in_turn : IsFlag given (codes "in-turn") words.is_in_turn
  pub strict : IsFlag given (codes "strict") words.is_strict

pub record AreReplayWords (given : ArgMatches) (words : ReplayWords) : Type 0 where
  pub model : Some words.model.now ≡ path_of given Model
  pub precedence : Some words.precedence.now ≡ path_of given Precedence
  pub history : Some words.history.now ≡ path_of given History

pub record AreLogWords (given : ArgMatches) (words : LogWords) : Type 0 where
  pub model : Some words.model.now ≡ path_of given Model
  pub precedence : Some words.precedence.now ≡ path_of given Precedence
  pub history : Some words.history.now ≡ path_of given History
  pub writes : IsFlag given (codes "writes") words.with_writes

pub record AreMergeWords (given : ArgMatches) (words : MergeWords) : Type 0 where
  pub origin : IsOrigin given words.origin
  pub model : Some words.model.now ≡ path_of given Model
  pub precedence : Some words.precedence.now ≡ path_of given Precedence
  pub edits : map (λ path. path.now) words.edits.now ≡ edits_of given
  pub from : IsNumber given (codes "from") 32 words.from
  pub partial : IsFlag given (codes "partial") words.is_partial

pub record AreLiveWords (given : ArgMatches) (words : LiveWords) : Type 0 where
  pub model : Some words.model.now ≡ path_of given Model
  pub precedence : Some words.precedence.now ≡ path_of given Precedence
  pub blocks : option_map (λ path. path.now) words.blocks ≡ path_of given Blocks
  pub history : Some words.history.now ≡ path_of given History
  pub streams : option_map (λ streams. map (λ word. word.now) streams.now) words.streams ≡ streams_of given
  pub pairs : are_pairs (stream_words given) ≡ true

-- there are too many planners, or else a word for streams isn't a pair of paths
abbrev pub IsStreamsFault : ArgMatches → ErrorKind → Type 0
IsStreamsFault given kind =
    ((has_many_planners given ≡ true) × (kind ≡ WrongNumberOfValues)) ⊎ ((has_many_planners given ≡ false) × (are_pairs (stream_words given) ≡ false) × (kind ≡ ValueValidation))

-- what `live` is refused for: that an input is lacking is told first
abbrev pub IsLiveFault : ArgMatches → ErrorKind → Type 0
IsLiveFault given kind = IsLacking given live_inputs kind ⊎ IsStreamsFault given kind

-- there is no edit, or there are too many
abbrev pub AreNoEdits : ArgMatches → ErrorKind → Type 0
AreNoEdits given kind = AreMany given kind ⊎ ((has_many given ≡ false) × IsLacking given (Edit 1 ∷ []) kind)

-- what `plan` is refused for: that words exclude one another is told first
abbrev pub IsPlanFault : ArgMatches → ErrorKind → Type 0
IsPlanFault given kind = IsConflict given kind ⊎ ((has_conflict given ≡ false) × IsLacking given plan_inputs kind)

-- and `merge`: then that there are too many edits
abbrev pub IsMergeFault : ArgMatches → ErrorKind → Type 0
IsMergeFault given kind = IsConflict given kind ⊎ ((has_conflict given ≡ false) × (AreMany given kind ⊎ ((has_many given ≡ false) × IsLacking given merge_inputs kind)))
