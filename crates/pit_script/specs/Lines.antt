-- What one line of a script says.
use Rattle.std.specs.Prelude.{◌≡◌, ℕ, ◌<◌, Bool, true, false, nat_le, if◌then◌else◌, List, [], ◌∷◌, Option, Some, None, Result, Ok, Err}
use Rattle.pit_num.specs.Decimal.{whole_of, micro_of}
use Rattle.pit_model.specs.Pit.{Pit}
use Rattle.pit_text.specs.Bounds.{upper_bound_of}
use Rattle.pit_text.specs.Stands.{◌>>=◌}
use Rattle.pit_script.specs.Benches.{has_bench}
use Rattle.pit_script.specs.Numbers.{read_as, shift_of, period_or_none_of}
use Rattle.pit_script.specs.Words.{word_in}
use Rattle.pit_script.specs.declared.error.ScriptFault.{ScriptFault}
use Rattle.pit_script.specs.declared.error.ScriptFault.TheVariants.{UnknownWord, FieldCount, BlockRange, ResourceRange, PeriodRange, Order, NoBench, JobCount}
use Rattle.pit_script.specs.declared.fact.ScriptFact.{ScriptFact}
use Rattle.pit_script.specs.declared.fact.ScriptFact.TheVariants as says
use Rattle.pit_script.specs.declared.step.JobEnd.{JobEnd}
use Rattle.pit_script.specs.declared.step.JobEnd.TheVariants as ending
use Rattle.pit_script.specs.declared.step.Step.{Step}
use Rattle.pit_script.specs.declared.step.Step.TheVariants as step
use Rattle.pit_script.specs.declared.step.Way.{Way}
use Rattle.pit_script.specs.declared.step.Way.TheVariants as way
use Rattle.pit_script.specs.declared.step.TheConstants.{JOBS_MAX}
use Rattle.pit_script.specs.declared.word.Word.{Word}
use Rattle.pit_script.specs.declared.word.Word.TheVariants as word

-- ---- the number of fields behind the word, which is exact

abbrev pub no_field : {X : Type 0} → Result X ScriptFault → List (List ℕ) → Result X ScriptFault
no_field says [] = says
no_field says (a ∷ more) = Err FieldCount

abbrev pub one_field : (List ℕ → Result ScriptFact ScriptFault) → List (List ℕ) → Result ScriptFact ScriptFault
one_field says [] = Err FieldCount
one_field says (a ∷ []) = says a
one_field says (a ∷ b ∷ more) = Err FieldCount

abbrev pub two_fields : (List ℕ → List ℕ → Result ScriptFact ScriptFault) → List (List ℕ) → Result ScriptFact ScriptFault
two_fields says [] = Err FieldCount
two_fields says (a ∷ []) = Err FieldCount
two_fields says (a ∷ b ∷ []) = says a b
two_fields says (a ∷ b ∷ c ∷ more) = Err FieldCount

abbrev pub three_fields : (List ℕ → List ℕ → List ℕ → Result ScriptFact ScriptFault) → List (List ℕ) → Result ScriptFact ScriptFault
three_fields says [] = Err FieldCount
three_fields says (a ∷ []) = Err FieldCount
three_fields says (a ∷ b ∷ []) = Err FieldCount
three_fields says (a ∷ b ∷ c ∷ []) = says a b c
three_fields says (a ∷ b ∷ c ∷ d ∷ more) = Err FieldCount

-- ---- where a line may stand, and ranges

abbrev pub in_job : {X : Type 0} → Bool → Result X ScriptFault → Result X ScriptFault
in_job is_open says = if is_open then says else Err Order

-- a job begins outside of one, where there is room for it, and all else stands inside of one
abbrev pub MayStand : Bool → ℕ → ScriptFact → Type 0
MayStand is_open jobs says.Begin = (is_open ≡ false) × (jobs < JOBS_MAX)
MayStand is_open jobs (says.Does done) = is_open ≡ true
MayStand is_open jobs (says.Ends end) = is_open ≡ true

abbrev pub below : ℕ → ℕ → ScriptFault → Result ℕ ScriptFault
below count n cause = if nat_le count n then Err cause else Ok n

abbrev pub below_if_some : ℕ → Option ℕ → Result (Option ℕ) ScriptFault
below_if_some periods None = Ok None
below_if_some periods (Some t) = below periods t PeriodRange >>= (λ t. Ok (Some t))

abbrev pub does : Step → Result ScriptFact ScriptFault
does done = Ok (says.Does done)

-- a block is put into a period, alone or with what is carried along
abbrev pub placing : Option Way → ℕ → ℕ → Step
placing None block period = step.Put block period
placing (Some how) block period = step.Carry how block period

-- ---- the lines, each by its fields behind the word, and by whether a job is open

unfoldable pub begin_line : Bool → ℕ → List (List ℕ) → Result ScriptFact ScriptFault
begin_line is_open jobs fields =
    no_field (if is_open then Err Order else if nat_le JOBS_MAX jobs then Err JobCount else Ok says.Begin) fields

unfoldable pub end_line_of : JobEnd → Bool → List (List ℕ) → Result ScriptFact ScriptFault
end_line_of end is_open fields = no_field (in_job is_open (Ok (says.Ends end))) fields

unfoldable pub read_step : ℕ → Bool → List (List ℕ) → Result ScriptFact ScriptFault
read_step blocks is_open fields = one_field (λ b. in_job is_open (
    read_as whole_of b >>= (λ block. below blocks block BlockRange >>= (λ block. does (step.Read block))))) fields

unfoldable pub clear_step : ℕ → Bool → List (List ℕ) → Result ScriptFact ScriptFault
clear_step blocks is_open fields = one_field (λ b. in_job is_open (
    read_as whole_of b >>= (λ block. below blocks block BlockRange >>= (λ block. does (step.Clear block))))) fields

unfoldable pub put_step : Option Way → ℕ → ℕ → Bool → List (List ℕ) → Result ScriptFact ScriptFault
put_step carried blocks periods is_open fields = two_fields (λ b t. in_job is_open (
    read_as whole_of b >>= (λ block. read_as whole_of t >>= (λ period.
    below blocks block BlockRange >>= (λ block. below periods period PeriodRange >>= (λ period. does (placing carried block period))))))) fields

unfoldable pub shift_step : ℕ → Bool → List (List ℕ) → Result ScriptFact ScriptFault
shift_step blocks is_open fields = two_fields (λ b d. in_job is_open (
    read_as whole_of b >>= (λ block. read_as shift_of d >>= (λ shift.
    below blocks block BlockRange >>= (λ block. does (step.Shift block shift.0 shift.1)))))) fields

unfoldable pub bench_step : ℕ → Bool → List (List ℕ) → Result ScriptFact ScriptFault
bench_step periods is_open fields = two_fields (λ z t. in_job is_open (
    read_as micro_of z >>= (λ height. read_as whole_of t >>= (λ period.
    below periods period PeriodRange >>= (λ period. does (step.Bench height period)))))) fields

unfoldable pub expect_step : ℕ → ℕ → Bool → List (List ℕ) → Result ScriptFact ScriptFault
expect_step blocks periods is_open fields = two_fields (λ b t. in_job is_open (
    read_as whole_of b >>= (λ block. read_as period_or_none_of t >>= (λ period.
    below blocks block BlockRange >>= (λ block. below_if_some periods period >>= (λ period. does (step.Expect block period))))))) fields

unfoldable pub revise_step : ℕ → ℕ → Bool → List (List ℕ) → Result ScriptFact ScriptFault
revise_step resources periods is_open fields = three_fields (λ r t v. in_job is_open (
    read_as whole_of r >>= (λ resource. read_as whole_of t >>= (λ period. read_as upper_bound_of v >>= (λ upper.
    below resources resource ResourceRange >>= (λ resource. below periods period PeriodRange >>= (λ period. does (step.Revise resource period upper)))))))) fields

-- a line that begins with this word
abbrev pub line_of_word : Pit → Bool → ℕ → Word → List (List ℕ) → Result ScriptFact ScriptFault
line_of_word pit is_open jobs word.Begin fields = begin_line is_open jobs fields
line_of_word pit is_open jobs word.Read fields = read_step pit.blocks is_open fields
line_of_word pit is_open jobs word.Put fields = put_step None pit.blocks pit.periods is_open fields
line_of_word pit is_open jobs word.Clear fields = clear_step pit.blocks is_open fields
line_of_word pit is_open jobs word.Shift fields = shift_step pit.blocks is_open fields
line_of_word pit is_open jobs word.Bench fields = bench_step pit.periods is_open fields
line_of_word pit is_open jobs word.Expect fields = expect_step pit.blocks pit.periods is_open fields
line_of_word pit is_open jobs word.Cone fields = put_step (Some way.Cone) pit.blocks pit.periods is_open fields
line_of_word pit is_open jobs word.Push fields = put_step (Some way.Push) pit.blocks pit.periods is_open fields
line_of_word pit is_open jobs word.Revise fields = revise_step pit.resources pit.periods is_open fields
line_of_word pit is_open jobs word.Commit fields = end_line_of ending.Commit is_open fields
line_of_word pit is_open jobs word.Abort fields = end_line_of ending.Abort is_open fields

-- what a line says by itself, where so many jobs have ended, and one is open or none
unfoldable pub ranged_fact : Pit → Bool → ℕ → List (List ℕ) → Result ScriptFact ScriptFault
ranged_fact pit is_open jobs [] = Err UnknownWord
ranged_fact pit is_open jobs (first ∷ fields) = word_in first >>= (λ word. line_of_word pit is_open jobs word fields)

-- a bench that it names has a block
abbrev pub known_bench : Pit → ScriptFact → Result ScriptFact ScriptFault
known_bench pit says.Begin = Ok says.Begin
known_bench pit (says.Does (step.Bench height period)) = if has_bench pit height then does (step.Bench height period) else Err NoBench
known_bench pit (says.Does other) = does other
known_bench pit (says.Ends end) = Ok (says.Ends end)

-- what a line says
unfoldable pub line_fact : Pit → Bool → ℕ → List (List ℕ) → Result ScriptFact ScriptFault
line_fact pit is_open jobs fields = ranged_fact pit is_open jobs fields >>= known_bench pit
