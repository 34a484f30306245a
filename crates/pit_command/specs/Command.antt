-- What the command line is.
use Rattle.std.specs.Prelude.{◌≡◌, ◌⊎◌, ℕ, true, false, List, [], ◌∷◌, Option, Some, map, codes, pos}
use Rattle.std.specs.List.{All}
use Rattle.clap.specs.Walk.{Row, Rule}
use Rattle.clap.specs.Takes.{is_given}
use Rattle.clap.specs.Simple.{App, Shape, app_of, new_rule, new_shape, on_top}
use Rattle.clap.specs.declared.builder.command.Command.{Command}
use Rattle.clap.specs.declared.builder.command.Command.TheViews.{out-Command}
use Rattle.clap.specs.Lexer.{usize_max}
use Rattle.clap.specs.declared.builder.action.ArgAction.TheVariants.{Append, SetTrue}
use Rattle.clap.specs.declared.builder.value_parser.ValueParser.TheVariants.{Signed}
use Rattle.pit_step.specs.declared.input.Input.{Input}
use Rattle.pit_step.specs.declared.input.Input.TheVariants.{Model, Precedence, Blocks, Start, History, Schedule}
use Rattle.pit_command.specs.declared.rules.Argument.{Argument}
use Rattle.pit_command.specs.declared.rules.Argument.TheVariants.{File, Schedule as ScheduleArgument, Option as InputOption, History as HistoryOption, Continued, All as AllFlag, Writes, InTurn, Strict, Partial, At, From, Retries, Scripts, Edits, Carried, Streams}
use Rattle.pit_command.specs.declared.subcommand.Subcommand.{Subcommand}
use Rattle.pit_command.specs.Inputs.{argument_of, subcommands, value_inputs, check_inputs, diff_inputs, replay_inputs, log_inputs}

-- the argument for an input: a positional that is required
abbrev pub file_rule : Input → Rule
file_rule input = record (new_rule (argument_of input)) { required = true }

-- a subcommand with an argument for each of its inputs, in the order of the words
abbrev pub engine_shape : List ℕ → List Input → Shape
engine_shape name inputs = record (new_shape name) { rules = map file_rule inputs }

abbrev pub value_shape : Shape
value_shape = engine_shape (codes "value") value_inputs

-- a flag: `--name`
abbrev pub flag_rule : List ℕ → Rule
flag_rule name = record (new_rule name) { action = Some SetTrue; long = Some name }

-- the same with a flag before them
abbrev pub flagged_shape : List ℕ → List ℕ → List Input → Shape
flagged_shape name flag inputs = record (new_shape name) { rules = flag_rule flag ∷ map file_rule inputs }

abbrev pub check_shape : Shape
check_shape = flagged_shape (codes "check") (codes "all") check_inputs

abbrev pub replay_shape : Shape
replay_shape = engine_shape (codes "replay") replay_inputs

abbrev pub log_shape : Shape
log_shape = flagged_shape (codes "log") (codes "writes") log_inputs

-- the option for an input: `--name FILE`
abbrev pub option_rule : Input → Rule
option_rule input = record (new_rule (argument_of input)) { long = Some (argument_of input); value_names = 1 }

-- the argument for a schedule, which help calls by another name
abbrev pub schedule_rule : Rule
schedule_rule = record (new_rule (argument_of Schedule)) { value_names = 1; required = true }

-- `--at N`, a whole number of 32 bits
abbrev pub at_rule : Rule
at_rule = record (new_rule (codes "at")) { long = Some (codes "at"); value_names = 1; parser = Some (Signed (pos 0) (pos 4294967295)) }

abbrev pub table_shape : Shape
table_shape = record (new_shape (codes "table")) { rules = file_rule Model ∷ schedule_rule ∷ [] }

abbrev pub diff_shape : Shape
diff_shape = engine_shape (codes "diff") diff_inputs

abbrev pub info_shape : Shape
info_shape = record (new_shape (codes "info")) { rules = file_rule Model ∷ file_rule Precedence ∷ option_rule Blocks ∷ [] }

abbrev pub show_shape : Shape
show_shape = record (new_shape (codes "show")) { rules = file_rule Model ∷ schedule_rule ∷ at_rule ∷ [] }

-- `--history FILE`
abbrev pub history_rule : Rule
history_rule = record (new_rule (codes "history")) { long = Some (codes "history"); value_names = 1 }

-- `--continue FILE`, of an input
abbrev pub continue_rule : Rule
continue_rule = record (new_rule (argument_of History)) { long = Some (codes "continue"); value_names = 1 }

-- `--retries N`, a whole number up to 1,000, and 3 where it isn't given
abbrev pub retries_rule : Rule
retries_rule = record (new_rule (codes "retries")) {
  long = Some (codes "retries");
  value_names = 1;
  defaults = codes "3" ∷ [];
  parser = Some (Signed (pos 0) (pos 1000));
}

-- the scripts: positionals, of which one at least is required
abbrev pub scripts_rule : Rule
scripts_rule = record (new_rule (codes "SCRIPT")) {
  action = Some Append;
  range = Some (record { start_inclusive = 1; end_inclusive = usize_max });
  required = true;
}

abbrev pub plan_with : List Rule → Shape
plan_with others = record (new_shape (codes "plan")) { rules = file_rule Model ∷ file_rule Precedence ∷ option_rule Blocks ∷ others }

abbrev pub plan_shape : Shape
plan_shape = plan_with (option_rule Start ∷ continue_rule ∷ history_rule ∷ flag_rule (codes "in-turn") ∷ flag_rule (codes "strict") ∷ retries_rule ∷ scripts_rule ∷ [])

-- `--from N`, a whole number of 32 bits
abbrev pub from_rule : Rule
from_rule = record (new_rule (codes "from")) { long = Some (codes "from"); value_names = 1; parser = Some (Signed (pos 0) (pos 4294967295)) }

-- the edits: positionals, of which one at least is required
abbrev pub edits_rule : Rule
edits_rule = record (new_rule (codes "EDIT")) {
  action = Some Append;
  range = Some (record { start_inclusive = 1; end_inclusive = usize_max });
  required = true;
}

abbrev pub merge_with : List Rule → Shape
merge_with others =
    record (new_shape (codes "merge")) { rules = file_rule Model ∷ file_rule Precedence ∷ option_rule Start ∷ others }

abbrev pub merge_shape : Shape
merge_shape = merge_with (continue_rule ∷ history_rule ∷ from_rule ∷ flag_rule (codes "partial") ∷ edits_rule ∷ [])

-- `--continue FILE`, which is required
abbrev pub carried_rule : Rule
carried_rule = record (new_rule (argument_of History)) { long = Some (codes "continue"); value_names = 1; required = true }

-- the streams of planners: positionals, of which there may be none
abbrev pub streams_rule : Rule
streams_rule = record (new_rule (codes "STREAMS")) {
  action = Some Append;
  value_names = 1;
  range = Some (record { start_inclusive = 1; end_inclusive = usize_max });
}

abbrev pub live_shape : Shape
live_shape = record (new_shape (codes "live")) { rules = file_rule Model ∷ file_rule Precedence ∷ option_rule Blocks ∷ carried_rule ∷ streams_rule ∷ [] }

-- what the program tells the parser of an argument
abbrev pub rule_for : Argument → Rule
rule_for (File input) = file_rule input
rule_for ScheduleArgument = schedule_rule
rule_for (InputOption input) = option_rule input
rule_for HistoryOption = history_rule
rule_for Continued = continue_rule
rule_for AllFlag = flag_rule (codes "all")
rule_for Writes = flag_rule (codes "writes")
rule_for InTurn = flag_rule (codes "in-turn")
rule_for Strict = flag_rule (codes "strict")
rule_for Partial = flag_rule (codes "partial")
rule_for At = at_rule
rule_for From = from_rule
rule_for Retries = retries_rule
rule_for Scripts = scripts_rule
rule_for Edits = edits_rule
rule_for Carried = carried_rule
rule_for Streams = streams_rule

-- and of a subcommand
abbrev pub shape_for : Subcommand → Shape
shape_for s = record (new_shape s.name.now) { rules = map rule_for s.arguments.now }

-- a subcommand, of which no argument is global
abbrev pub IsSubcommand : Shape → Command → Type 0
IsSubcommand shape c = (app_of c ≡ record { top = shape; subs = [] }) × ((out-Command c).has_globals ≡ false)

-- `pit`, which wants one of these subcommands
abbrev pub app_with : List Shape → App
app_with shapes = record {
  top = record (new_shape (codes "pit")) {
    is_leaf = false;
    has_version = true;
    subcommand_required = true;
  };
  subs = shapes;
}

-- the same, to which more may be added
abbrev pub app_begun : List Shape → App
app_begun [] = on_top (λ s. record s { is_leaf = true }) (app_with [])
app_begun (first ∷ rest) = app_with (first ∷ rest)

abbrev pub pit_app : App
pit_app = app_with (value_shape ∷ check_shape ∷ table_shape ∷ diff_shape ∷ info_shape ∷ show_shape ∷ plan_shape ∷ replay_shape ∷ log_shape ∷ merge_shape ∷ live_shape ∷ [])

-- the words gave the argument of each input
abbrev pub GivesEach : List Input → List Row → Type 0
GivesEach inputs rows = All (λ input. is_given (argument_of input) rows ≡ true) inputs

-- the words name one of these, and give what it requires; or they ask for help
abbrev pub IsAmong : List (List ℕ × List Input) → List ℕ × List Row → Type 0
IsAmong [] asked = asked.0 ≡ codes "help"
IsAmong (one ∷ others) asked = ((asked.0 ≡ one.0) × GivesEach one.1 asked.1) ⊎ IsAmong others asked

-- the words name a subcommand, and give all that it requires
abbrev pub AsksAll : Option (List ℕ × List Row) → Type 0
AsksAll found = (asked : List ℕ × List Row) × (found ≡ Some asked) × IsAmong subcommands asked
