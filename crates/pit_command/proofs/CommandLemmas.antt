-- What a line that the command takes asks for.
use Rattle.std.proofs.Common.{◌≡◌, ◌∷◌, ◌||◌, if◌then◌else◌, true, false, not, refl, inl, inr, List, [], Bool, Option, Some, None, is_some, option_map, codes, IfOk, Result, Ok, Err, subst, sym}
use Rattle.std.specs.Option.{option_map_or}
use Rattle.std.proofs.lemmas.List.Elements.{All-from_recursion}
use Rattle.pit_step.specs.declared.input.Input.{Input}
use Rattle.pit_step.specs.declared.input.Input.TheVariants.{Model, Precedence, Solution, Script, History, Schedule, Old, New, Edit}
use Rattle.pit_command.specs.Inputs.{argument_of}
use Rattle.clap.specs.Walk.{Row, Text, nothing_held, walk, walk_from, settled, finished, rows_after, rows_of}
use Rattle.clap.specs.Matches.{found_of}
use Rattle.clap.specs.Takes.{is_given}
use Rattle.clap.specs.Kinds.{Kinds, or_else, check_kinds}
use Rattle.clap.specs.Simple.{App, Shape, argument_words, built, built_leaf, entered, inherited, label_of, names_of, rows_at, matches_of, subcommand_of}
use Rattle.clap.specs.Faults.{check_fault, defaults_fault, entered_fault, fault_of, level_fault, settle_fault, walk_fault}
use Rattle.clap.specs.Walk.{answers_to}
use Rattle.pit_command.specs.Command.{AsksAll, GivesEach, check_shape, diff_shape, info_shape, log_shape, live_shape, merge_shape, pit_app, plan_shape, replay_shape, show_shape, table_shape, value_shape}
use Rattle.clap.specs.Simple.{HasMatchesOf, help_shape, subcommand_rows_of}
use Rattle.clap.specs.Kinds.{FailsBy}
use Rattle.clap.specs.Faults.{is_simple_and_free}
use Rattle.clap.specs.declared.error.Error.{Error}
use Rattle.clap.specs.declared.parser.matches.ArgMatches.{ArgMatches}

abbrev pit : App
pit = built pit_app

abbrev value_built : Shape
value_built = built_leaf (inherited pit_app.top value_shape)

abbrev check_built : Shape
check_built = built_leaf (inherited pit_app.top check_shape)

abbrev table_built : Shape
table_built = built_leaf (inherited pit_app.top table_shape)

abbrev diff_built : Shape
diff_built = built_leaf (inherited pit_app.top diff_shape)

abbrev info_built : Shape
info_built = built_leaf (inherited pit_app.top info_shape)

abbrev show_built : Shape
show_built = built_leaf (inherited pit_app.top show_shape)

abbrev plan_built : Shape
plan_built = built_leaf (inherited pit_app.top plan_shape)

abbrev replay_built : Shape
replay_built = built_leaf (inherited pit_app.top replay_shape)

abbrev log_built : Shape
log_built = built_leaf (inherited pit_app.top log_shape)

abbrev merge_built : Shape
merge_built = built_leaf (inherited pit_app.top merge_shape)

abbrev live_built : Shape
live_built = built_leaf (inherited pit_app.top live_shape)

abbrev help_built : Shape
help_built = built_leaf help_shape

-- the subs are these
subs_are : pit.subs ≡ value_built ∷ check_built ∷ table_built ∷ diff_built ∷ info_built ∷ show_built ∷ plan_built ∷ replay_built ∷ log_built ∷ merge_built ∷ live_built ∷ help_built ∷ []
subs_are = refl

first_empty : (a b : Kinds) → or_else a b ≡ [] → a ≡ []
first_empty [] b h = refl
first_empty (k ∷ ks) b h = cc

then_empty : (a b : Kinds) → or_else a b ≡ [] → b ≡ []
then_empty [] b h = h
then_empty (k ∷ ks) b h = cc

both_given : (a b : Bool) → check_kinds false false (not a || (not b || false)) ≡ [] → (a ≡ true) × (b ≡ true)
both_given true true h = (refl, refl)
both_given true false h = cc
both_given false b h = cc

all_given : (a b c : Bool) → check_kinds false false (not a || (not b || (not c || false))) ≡ [] → (a ≡ true) × (b ≡ true) × (c ≡ true)
all_given true true true h = (refl, refl, refl)
all_given true true false h = cc
all_given true false c h = cc
all_given false b c h = cc

-- the last check of a level that fails by nothing
last_check : (a b c d e : Kinds) → or_else a (or_else b (or_else c (or_else d e))) ≡ [] → (b ≡ []) × (e ≡ [])
last_check a b c d e h =
    let h1 = then_empty a (or_else b (or_else c (or_else d e))) h in
    let h2 = then_empty b (or_else c (or_else d e)) h1 in
    (first_empty b (or_else c (or_else d e)) h1, then_empty d e (then_empty c (or_else d e) h2))

level_checked : (s : Shape) (names : _) (words : List Text) (has : Bool) (below : Kinds) → level_fault s names nothing_held words has below ≡ []
    → (below ≡ []) × (check_fault s (rows_after s.rules names words) has ≡ [])
level_checked s names words has below h =
    let end = (walk s.rules names nothing_held words).held in
    last_check (walk_fault s names (walk_from nothing_held) words) below (settle_fault s.rules s.args_override_self end)
    (defaults_fault (settled s.rules end).rows s.rules) (check_fault s (finished s.rules end) has) h

met : (rows : List Row) (has : Bool) → check_fault pit.top rows has ≡ [] → has ≡ true
met rows true h = refl
met rows false h = cc

-- which of the subcommands a word names, by what the tests of their names say
abbrev pick : Bool → Bool → Bool → Bool → Bool → Bool → Bool → Bool → Bool → Bool → Bool → Bool → Option Shape
pick v c t d i s p r l m w k =
    if v then Some value_built else (if c then Some check_built else (if t then Some table_built else (if d then Some diff_built else (if i then Some info_built
    else (if s then Some show_built else (if p then Some plan_built else (if r then Some replay_built else (if l then Some log_built
    else (if m then Some merge_built else (if w then Some live_built else (if k then Some help_built else None)))))))))))

abbrev Gives : List Row → Input → Type 0
Gives rows input = is_given (argument_of input) rows ≡ true

no_asks : false ≡ true → ⊥
no_asks h = cc

-- the words of a subcommand that requires two inputs, and of one that requires three
two_given : (rows : List Row) (a b : Input) → (is_given (argument_of a) rows ≡ true) × (is_given (argument_of b) rows ≡ true) → GivesEach (a ∷ b ∷ []) rows
two_given rows a b g = All-from_recursion (Gives rows) (a ∷ b ∷ []) (g.0, (g.1, tt))

three_given : (rows : List Row) (a b c : Input) → (is_given (argument_of a) rows ≡ true) × (is_given (argument_of b) rows ≡ true) × (is_given (argument_of c) rows ≡ true)
    → GivesEach (a ∷ b ∷ c ∷ []) rows
three_given rows a b c g = All-from_recursion (Gives rows) (a ∷ b ∷ c ∷ []) (g.0, (g.1, (g.2, tt)))

picked : (v c t d i s p r l m w k : Bool) (words : List Text) → is_some (option_map (λ s. rows_at s words) (pick v c t d i s p r l m w k)) ≡ true
    → option_map_or (λ s. level_fault s [] nothing_held words false []) (pick v c t d i s p r l m w k) [] ≡ []
    → AsksAll (option_map (λ s. rows_at s words) (pick v c t d i s p r l m w k))
picked true c t d i s p r l m w k words has h =
    let rows = rows_after value_built.rules [] words in
    let g = both_given (is_given (codes "MODEL") rows) (is_given (codes "SOLUTION") rows) (level_checked value_built [] words false [] h).1 in
    (rows_at value_built words, refl, inl (refl, two_given rows Model Solution g))
picked false true t d i s p r l m w k words has h =
    let rows = rows_after check_built.rules [] words in
    let g = all_given (is_given (codes "MODEL") rows) (is_given (codes "PREC") rows) (is_given (codes "SOLUTION") rows) (level_checked check_built [] words false [] h).1 in
    (rows_at check_built words, refl, inr (inl (refl, three_given rows Model Precedence Solution g)))
picked false false true d i s p r l m w k words has h =
    let rows = rows_after table_built.rules [] words in
    let g = both_given (is_given (codes "MODEL") rows) (is_given (codes "SOLUTION") rows) (level_checked table_built [] words false [] h).1 in
    (rows_at table_built words, refl, inr (inr (inl (refl, two_given rows Model Schedule g))))
picked false false false true i s p r l m w k words has h =
    let rows = rows_after diff_built.rules [] words in
    let g = all_given (is_given (codes "MODEL") rows) (is_given (codes "OLD") rows) (is_given (codes "NEW") rows) (level_checked diff_built [] words false [] h).1 in
    (rows_at diff_built words, refl, inr (inr (inr (inl (refl, three_given rows Model Old New g)))))
picked false false false false true s p r l m w k words has h =
    let rows = rows_after info_built.rules [] words in
    let g = both_given (is_given (codes "MODEL") rows) (is_given (codes "PREC") rows) (level_checked info_built [] words false [] h).1 in
    (rows_at info_built words, refl, inr (inr (inr (inr (inl (refl, two_given rows Model Precedence g))))))
picked false false false false false true p r l m w k words has h =
    let rows = rows_after show_built.rules [] words in
    let g = both_given (is_given (codes "MODEL") rows) (is_given (codes "SOLUTION") rows) (level_checked show_built [] words false [] h).1 in
    (rows_at show_built words, refl, inr (inr (inr (inr (inr (inl (refl, two_given rows Model Schedule g)))))))
picked false false false false false false true r l m w k words has h =
    let rows = rows_after plan_built.rules [] words in
    let g = all_given (is_given (codes "MODEL") rows) (is_given (codes "PREC") rows) (is_given (codes "SCRIPT") rows) (level_checked plan_built [] words false [] h).1 in
    (rows_at plan_built words, refl, inr (inr (inr (inr (inr (inr (inl (refl, three_given rows Model Precedence (Script 1) g))))))))
picked false false false false false false false true l m w k words has h =
    let rows = rows_after replay_built.rules [] words in
    let g = all_given (is_given (codes "MODEL") rows) (is_given (codes "PREC") rows) (is_given (codes "HISTORY") rows) (level_checked replay_built [] words false [] h).1 in
    (rows_at replay_built words, refl, inr (inr (inr (inr (inr (inr (inr (inl (refl, three_given rows Model Precedence History g)))))))))
picked false false false false false false false false true m w k words has h =
    let rows = rows_after log_built.rules [] words in
    let g = all_given (is_given (codes "MODEL") rows) (is_given (codes "PREC") rows) (is_given (codes "HISTORY") rows) (level_checked log_built [] words false [] h).1 in
    (rows_at log_built words, refl, inr (inr (inr (inr (inr (inr (inr (inr (inl (refl, three_given rows Model Precedence History g))))))))))
picked false false false false false false false false false true w k words has h =
    let rows = rows_after merge_built.rules [] words in
    let g = all_given (is_given (codes "MODEL") rows) (is_given (codes "PREC") rows) (is_given (codes "EDIT") rows) (level_checked merge_built [] words false [] h).1 in
    (rows_at merge_built words, refl, inr (inr (inr (inr (inr (inr (inr (inr (inr (inl (refl, three_given rows Model Precedence (Edit 1) g)))))))))))
picked false false false false false false false false false false true k words has h =
    let rows = rows_after live_built.rules [] words in
    let g = all_given (is_given (codes "MODEL") rows) (is_given (codes "PREC") rows) (is_given (codes "HISTORY") rows) (level_checked live_built [] words false [] h).1 in
    (rows_at live_built words, refl, inr (inr (inr (inr (inr (inr (inr (inr (inr (inr (inl (refl, three_given rows Model Precedence History g))))))))))))
picked false false false false false false false false false false false true words has h = (rows_at help_built words, refl, inr (inr (inr (inr (inr (inr (inr (inr (inr (inr (inr refl)))))))))))
picked false false false false false false false false false false false false words has h = absurd (no_asks has)

entered_asks : (stop : Option (Text × List Text)) → is_some (entered pit stop) ≡ true → entered_fault pit stop ≡ [] → AsksAll (entered pit stop)
entered_asks None has h = absurd (no_asks has)
entered_asks (Some word) has h =
    picked (answers_to word.0 (label_of value_built)) (answers_to word.0 (label_of check_built)) (answers_to word.0 (label_of table_built))
    (answers_to word.0 (label_of diff_built)) (answers_to word.0 (label_of info_built)) (answers_to word.0 (label_of show_built))
    (answers_to word.0 (label_of plan_built)) (answers_to word.0 (label_of replay_built)) (answers_to word.0 (label_of log_built)) (answers_to word.0 (label_of merge_built)) (answers_to word.0 (label_of live_built))
    (answers_to word.0 (label_of help_built)) word.1 has h

-- a line by which nothing fails asks for a subcommand, with all that it requires
pub asks_all : (words : List Text) → fault_of pit_app words ≡ [] → AsksAll (subcommand_of pit_app words)
asks_all words h =
    let stop = (walk pit.top.rules (names_of pit) nothing_held (argument_words pit words)).stopped in
    let c = level_checked pit.top (names_of pit) (argument_words pit words) (is_some (entered pit stop)) (entered_fault pit stop) h in
    entered_asks stop (met (rows_after pit.top.rules (names_of pit) (argument_words pit words)) (is_some (entered pit stop)) c.1) c.0

answer_asks : (words : List Text) (r : Result ArgMatches Error) → FailsBy (fault_of pit_app words) r
    → IfOk r (HasMatchesOf pit_app words) → IfOk r (λ m. AsksAll (subcommand_rows_of m))
answer_asks words (Ok m) f h = subst AsksAll (sym (h refl).1) (asks_all words f)
answer_asks words (Err e) f h = tt

-- the same, of a command that is `pit`
pub pit_asks : (a : App) (words : List Text) (r : Result ArgMatches Error) → a ≡ pit_app
    → (is_simple_and_free a ≡ true → FailsBy (fault_of a words) r)
    → IfOk r (HasMatchesOf a words) → IfOk r (λ m. AsksAll (subcommand_rows_of m))
pit_asks a words r same kinds matches =
    answer_asks words r (subst (λ x. is_simple_and_free x ≡ true → FailsBy (fault_of x words) r) same kinds refl)
    (subst (λ x. IfOk r (HasMatchesOf x words)) same matches)

-- what is given, of a command that is `pit`
pub pit_gives : (a : App) (words : List Text) (r : Result ArgMatches Error) → a ≡ pit_app
    → IfOk r (HasMatchesOf a words) → IfOk r (λ m. rows_of (found_of m) ≡ matches_of pit_app words)
pit_gives a words (Ok m) same matches = (subst (λ x. HasMatchesOf x words m) same matches refl).0
pit_gives a words (Err e) same matches = tt

-- what is matched, of a command that is `pit`
pub pit_finds : (a : App) (words : List Text) (r : Result ArgMatches Error) → a ≡ pit_app
    → IfOk r (HasMatchesOf a words) → IfOk r (λ m. subcommand_rows_of m ≡ subcommand_of pit_app words)
pit_finds a words (Ok m) same matches = (subst (λ x. HasMatchesOf x words m) same matches refl).1
pit_finds a words (Err e) same matches = tt

-- what fails, of a command that is `pit`
pub pit_fails : (a : App) (words : List Text) (r : Result ArgMatches Error) → a ≡ pit_app
    → (is_simple_and_free a ≡ true → FailsBy (fault_of a words) r) → FailsBy (fault_of pit_app words) r
pit_fails a words r same kinds = subst (λ x. is_simple_and_free x ≡ true → FailsBy (fault_of x words) r) same kinds refl
