-- The inputs of the subcommands, and the paths that the words give them.
use Rattle.std.specs.Prelude.{ℕ, List, [], ◌∷◌, Option, unwrap_or, option_map, codes}
use Rattle.clap.specs.Matches.{found_of, first_value, matched_of, raw_values}
use Rattle.clap.specs.declared.parser.matches.ArgMatches.{ArgMatches}
use Rattle.pit_step.specs.declared.input.Input.{Input}
use Rattle.pit_step.specs.declared.input.Input.TheVariants.{Model, Precedence, Blocks, Start, Solution, Script, History, Schedule, Old, New, Edit}

-- the inputs that each subcommand always has, in the order of the words
abbrev pub value_inputs : List Input
value_inputs = Model ∷ Solution ∷ []

abbrev pub check_inputs : List Input
check_inputs = Model ∷ Precedence ∷ Solution ∷ []

abbrev pub table_inputs : List Input
table_inputs = Model ∷ Schedule ∷ []

abbrev pub diff_inputs : List Input
diff_inputs = Model ∷ Old ∷ New ∷ []

abbrev pub pit_inputs : List Input
pit_inputs = Model ∷ Precedence ∷ []

abbrev pub show_inputs : List Input
show_inputs = Model ∷ Schedule ∷ []

abbrev pub plan_inputs : List Input
plan_inputs = Model ∷ Precedence ∷ Script 1 ∷ []

abbrev pub replay_inputs : List Input
replay_inputs = Model ∷ Precedence ∷ History ∷ []

abbrev pub log_inputs : List Input
log_inputs = Model ∷ Precedence ∷ History ∷ []

abbrev pub merge_inputs : List Input
merge_inputs = Model ∷ Precedence ∷ Edit 1 ∷ []

abbrev pub live_inputs : List Input
live_inputs = Model ∷ Precedence ∷ History ∷ []

-- the subcommands, each with the inputs that it requires
abbrev pub subcommands : List (List ℕ × List Input)
subcommands =
    (codes "value", value_inputs) ∷ (codes "check", check_inputs) ∷ (codes "table", table_inputs) ∷ (codes "diff", diff_inputs) ∷ (codes "info", pit_inputs)
    ∷ (codes "show", show_inputs) ∷ (codes "plan", plan_inputs) ∷ (codes "replay", replay_inputs) ∷ (codes "log", log_inputs) ∷ (codes "merge", merge_inputs)
    ∷ (codes "live", live_inputs) ∷ []

-- the name of the argument for an input; of `plan`, `merge` and `live` the history is the one that is carried on
abbrev pub argument_of : Input → List ℕ
argument_of Model = codes "MODEL"
argument_of Precedence = codes "PREC"
argument_of Blocks = codes "blocks"
argument_of Start = codes "start"
argument_of Solution = codes "SOLUTION"
argument_of (Script number) = codes "SCRIPT"
argument_of History = codes "HISTORY"
argument_of Schedule = codes "SOLUTION"
argument_of Old = codes "OLD"
argument_of New = codes "NEW"
argument_of (Edit number) = codes "EDIT"

-- the path that the words give for an input; the first one, where they give several
abbrev pub path_of : ArgMatches → Input → Option (List ℕ)
path_of given input = first_value (found_of given) (argument_of input)

-- all paths that they give for it
abbrev pub paths_of : ArgMatches → Input → List (List ℕ)
paths_of given input = unwrap_or (option_map raw_values (matched_of (found_of given) (argument_of input))) []

abbrev pub scripts_of : ArgMatches → List (List ℕ)
scripts_of given = paths_of given (Script 1)

abbrev pub edits_of : ArgMatches → List (List ℕ)
edits_of given = paths_of given (Edit 1)

-- the words that they give for the streams of planners, where they give any
abbrev pub streams_of : ArgMatches → Option (List (List ℕ))
streams_of given = option_map raw_values (matched_of (found_of given) (codes "STREAMS"))

abbrev pub stream_words : ArgMatches → List (List ℕ)
stream_words given = unwrap_or (streams_of given) []

-- the path that the words give for the history that is written
abbrev pub history_path : ArgMatches → Option (List ℕ)
history_path given = first_value (found_of given) (codes "history")
