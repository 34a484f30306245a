-- What the words of the command line ask for.
use Rattle.std.specs.Prelude.{◌≡◌, ◌⊎◌, ℕ, true, false, List, [], ◌∷◌, None, Some, option_map, codes}
use Rattle.std.specs.List.{list_any}
use Rattle.std.specs.Str.{bytes_eq}
use Rattle.clap.specs.Matches.{found_of, subcommand_name_of}
use Rattle.clap.specs.Walk.{rows_of}
use Rattle.clap.specs.Simple.{subcommand_rows_of}
use Rattle.clap.specs.declared.error.kind.ErrorKind.{ErrorKind}
use Rattle.clap.specs.declared.error.kind.ErrorKind.TheVariants.{MissingSubcommand}
use Rattle.clap.specs.declared.parser.matches.ArgMatches.{ArgMatches}
use Rattle.pit_step.specs.declared.input.Input.{Input}
use Rattle.pit_command.specs.declared.commands.Command.{Command}
use Rattle.pit_command.specs.declared.commands.Command.TheVariants.{Value, Check, Table, Diff, Info, Show, Plan, Replay, Log, Merge, Live}
use Rattle.pit_command.specs.Inputs.{subcommands, value_inputs, check_inputs, table_inputs, diff_inputs, pit_inputs, show_inputs, replay_inputs, log_inputs}
use Rattle.pit_command.specs.Words.{IsLacking, AreValueWords, AreCheckWords, AreTableWords, AreDiffWords, AreInfoWords, AreShowWords, ArePlanWords, AreReplayWords, AreLogWords, AreMergeWords, AreLiveWords, IsPlanFault, IsMergeFault, IsLiveFault}

-- the subcommand of this name, with these words, asks for a command
abbrev pub Asks : List ℕ → ArgMatches → Command → Type 0
Asks name given (Value words) = (bytes_eq name (codes "value") ≡ true) × AreValueWords given words
Asks name given (Check words) = (bytes_eq name (codes "check") ≡ true) × AreCheckWords given words
Asks name given (Table words) = (bytes_eq name (codes "table") ≡ true) × AreTableWords given words
Asks name given (Diff words) = (bytes_eq name (codes "diff") ≡ true) × AreDiffWords given words
Asks name given (Info words) = (bytes_eq name (codes "info") ≡ true) × AreInfoWords given words
Asks name given (Show words) = (bytes_eq name (codes "show") ≡ true) × AreShowWords given words
Asks name given (Plan words) = (bytes_eq name (codes "plan") ≡ true) × ArePlanWords given words
Asks name given (Replay words) = (bytes_eq name (codes "replay") ≡ true) × AreReplayWords given words
Asks name given (Log words) = (bytes_eq name (codes "log") ≡ true) × AreLogWords given words
Asks name given (Merge words) = (bytes_eq name (codes "merge") ≡ true) × AreMergeWords given words
Asks name given (Live words) = (bytes_eq name (codes "live") ≡ true) × AreLiveWords given words

-- no subcommand has this name
abbrev pub IsUnknown : List ℕ → ErrorKind → Type 0
IsUnknown name kind = (list_any (λ known. bytes_eq name known.0) subcommands ≡ false) × (kind ≡ MissingSubcommand)

-- a view of this name, with these words, wants a path; `clap` has seen to it that none does
abbrev pub IsShort : List (List ℕ × List Input) → List ℕ → ArgMatches → ErrorKind → Type 0
IsShort [] name given kind = ⊥
IsShort (view ∷ others) name given kind = ((bytes_eq name view.0 ≡ true) × IsLacking given view.1 kind) ⊎ IsShort others name given kind

abbrev pub views : List (List ℕ × List Input)
views =
    (codes "value", value_inputs) ∷ (codes "check", check_inputs) ∷ (codes "table", table_inputs) ∷ (codes "diff", diff_inputs) ∷ (codes "info", pit_inputs)
    ∷ (codes "show", show_inputs) ∷ (codes "replay", replay_inputs) ∷ (codes "log", log_inputs) ∷ []

-- what the subcommand of this name, with these words, is refused for
abbrev pub IsFaulty : List ℕ → ArgMatches → ErrorKind → Type 0
IsFaulty name given kind =
    IsUnknown name kind ⊎ (((bytes_eq name (codes "plan") ≡ true) × IsPlanFault given kind) ⊎ (((bytes_eq name (codes "merge") ≡ true) × IsMergeFault given kind)
    ⊎ (((bytes_eq name (codes "live") ≡ true) × IsLiveFault given kind) ⊎ IsShort views name given kind)))

-- the subcommand that the words name, and the words that are for it
pub record AreBehind (matches : ArgMatches) (name : List ℕ) (given : ArgMatches) : Type 0 where
  pub name_is : subcommand_name_of matches ≡ Some name
  pub given_is : option_map (λ found. found.1) (subcommand_rows_of matches) ≡ Some (rows_of (found_of given))

-- the words ask for a command
pub record IsAsked (matches : ArgMatches) (command : Command) : Type 0 where
  pub name : List ℕ
  pub given : ArgMatches
  pub behind : AreBehind matches name given
  pub asks : Asks name given command

-- or they are refused
abbrev pub IsRefusal : ArgMatches → ErrorKind → Type 0
IsRefusal matches kind =
    ((subcommand_name_of matches ≡ None) × (kind ≡ MissingSubcommand)) ⊎ ((name : List ℕ) × (given : ArgMatches) × AreBehind matches name given × IsFaulty name given kind)
