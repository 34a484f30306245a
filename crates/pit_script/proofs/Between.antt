-- A job is what stands between its begin and its end.
use Rattle.std.proofs.Common.{◌≡◌, ℕ, nat_le, Bool, true, false, cond, is_some, length, List, [], ◌∷◌, ◌++◌, Result, Ok, Err, Option, Some, None, ap, subst, sym, ◌∙◌, refl}
use Rattle.std.specs.Prelude.{map}
use Rattle.std.specs.List.{fold}
use Rattle.std.proofs.lemmas.Bool.{true≢false, false≢true}
use Rattle.std.proofs.lemmas.List.{append-nil, append_assoc, map-append}
use Rattle.std.proofs.lemmas.List.Sums.{fold-append}
use Rattle.std.proofs.lemmas.Grind.{flat_map-append}
use Rattle.pit_num.specs.Decimal.{whole_of, micro_of}
use Rattle.pit_model.specs.Pit.{Pit}
use Rattle.pit_text.specs.Bounds.{upper_bound_of}
use Rattle.pit_text.specs.Cutting.{Cut}
use Rattle.pit_text.specs.Stands.{◌>>=◌, StatesAfter, StandsWhole}
use Rattle.pit_script.specs.Benches.{has_bench}
use Rattle.pit_script.specs.Between.{lines_of_job, lines_of_jobs}
use Rattle.pit_script.specs.Jobs.{Job, Progress, with_fact, progress_of, jobs_of, script_line, script_end}
use Rattle.pit_script.specs.Lines.{no_field, one_field, two_fields, three_fields, in_job, below, begin_line, end_line_of, read_step, clear_step, put_step, shift_step, bench_step, expect_step, placing, below_if_some, revise_step, line_of_word, ranged_fact, known_bench, line_fact}
use Rattle.pit_script.specs.Numbers.{read_as, shift_of, period_or_none_of}
use Rattle.pit_script.specs.Words.{word_in}
use Rattle.pit_script.specs.declared.error.ScriptFault.{ScriptFault}
use Rattle.pit_script.specs.declared.error.ScriptFault.TheVariants.{FieldCount, UnknownWord, BlockRange, ResourceRange, PeriodRange, Order, NoBench, JobCount, Unended}
use Rattle.pit_script.specs.declared.fact.ScriptFact.{ScriptFact}
use Rattle.pit_script.specs.declared.fact.ScriptFact.TheVariants as says
use Rattle.pit_script.specs.declared.step.JobEnd.{JobEnd}
use Rattle.pit_script.specs.declared.step.JobEnd.TheVariants as ending
use Rattle.pit_script.specs.declared.step.Step.{Step}
use Rattle.pit_script.specs.declared.step.Step.TheVariants as step
use Rattle.pit_script.specs.declared.step.Way.{Way}
use Rattle.pit_script.specs.declared.step.Way.TheVariants as way
use Rattle.pit_script.specs.declared.step.TheConstants.{JOBS_MAX}
use Rattle.pit_script.specs.declared.word.Word.{Word}
use Rattle.pit_script.specs.declared.word.Word.TheVariants as word
use Rattle.pit_script.proofs.Progressing.{progress_of-none, progress_of-more}

-- a job begins outside of one, and all else stands inside of one
abbrev MayBe : Bool → ScriptFact → Type 0
MayBe is_open says.Begin = is_open ≡ false
MayBe is_open (says.Does done) = is_open ≡ true
MayBe is_open (says.Ends end) = is_open ≡ true

-- a line that is read may be there
abbrev Lies : Bool → Result ScriptFact ScriptFault → Type 0
Lies is_open r = (fact : ScriptFact) → r ≡ Ok fact → MayBe is_open fact

-- ---- one step behind another

lies_err : (o : Bool) (cause : ScriptFault) → Lies o (Err cause)
lies_err o cause fact is = cc

lies_ok : (o : Bool) (fact : ScriptFact) → MayBe o fact → Lies o (Ok fact)
lies_ok o fact may other is = let same : fact ≡ other = cc in subst (λ (f : ScriptFact). MayBe o f) same may

lies_then : {X : Type 0} (o : Bool) (r : Result X ScriptFault) (f : X → Result ScriptFact ScriptFault) → ((x : X) → Lies o (f x)) → Lies o (r >>= f)
lies_then o (Ok x) f more = more x
lies_then o (Err e) f more = lies_err o e

lies_behind : (o : Bool) (r : Result ScriptFact ScriptFault) (f : ScriptFact → Result ScriptFact ScriptFault) → Lies o r → ((fact : ScriptFact) → MayBe o fact → Lies o (f fact)) → Lies o (r >>= f)
lies_behind o (Ok x) f lies more = more x (lies x refl)
lies_behind o (Err e) f lies more = lies_err o e

lies_if : (o b : Bool) (r s : Result ScriptFact ScriptFault) → Lies o r → Lies o s → Lies o (cond b r s)
lies_if o true r s one other = one
lies_if o false r s one other = other

lies_in_job : (o : Bool) (r : Result ScriptFact ScriptFault) → (o ≡ true → Lies o r) → Lies o (in_job o r)
lies_in_job true r lies = lies refl
lies_in_job false r lies = lies_err false Order

-- ---- fields

lies_none : (o : Bool) (said : Result ScriptFact ScriptFault) (fields : List (List ℕ)) → Lies o said → Lies o (no_field said fields)
lies_none o said [] lies = lies
lies_none o said (a ∷ more) lies = lies_err o FieldCount

lies_one : (o : Bool) (said : List ℕ → Result ScriptFact ScriptFault) (fields : List (List ℕ)) → ((a : List ℕ) → Lies o (said a)) → Lies o (one_field said fields)
lies_one o said [] lies = lies_err o FieldCount
lies_one o said (a ∷ []) lies = lies a
lies_one o said (a ∷ b ∷ more) lies = lies_err o FieldCount

lies_two : (o : Bool) (said : List ℕ → List ℕ → Result ScriptFact ScriptFault) (fields : List (List ℕ)) → ((a b : List ℕ) → Lies o (said a b)) → Lies o (two_fields said fields)
lies_two o said [] lies = lies_err o FieldCount
lies_two o said (a ∷ []) lies = lies_err o FieldCount
lies_two o said (a ∷ b ∷ []) lies = lies a b
lies_two o said (a ∷ b ∷ c ∷ more) lies = lies_err o FieldCount

lies_three : (o : Bool) (said : List ℕ → List ℕ → List ℕ → Result ScriptFact ScriptFault) (fields : List (List ℕ)) → ((a b c : List ℕ) → Lies o (said a b c)) → Lies o (three_fields said fields)
lies_three o said [] lies = lies_err o FieldCount
lies_three o said (a ∷ []) lies = lies_err o FieldCount
lies_three o said (a ∷ b ∷ []) lies = lies_err o FieldCount
lies_three o said (a ∷ b ∷ c ∷ []) lies = lies a b c
lies_three o said (a ∷ b ∷ c ∷ d ∷ more) lies = lies_err o FieldCount

-- ---- lines

lies_begin : (o : Bool) (jobs : ℕ) (fields : List (List ℕ)) → Lies o (begin_line o jobs fields)
unfolding begin_line
lies_begin false jobs fields = lies_none false _ fields (lies_if false (nat_le JOBS_MAX jobs) _ _ (lies_err false JobCount) (lies_ok false says.Begin refl))
lies_begin true jobs fields = lies_none true _ fields (lies_err true Order)

lies_end : (how : JobEnd) (o : Bool) (fields : List (List ℕ)) → Lies o (end_line_of how o fields)
unfolding end_line_of
lies_end how o fields = lies_none o _ fields (lies_in_job o _ (λ inside. lies_ok o (says.Ends how) inside))

lies_read : (blocks : ℕ) (o : Bool) (fields : List (List ℕ)) → Lies o (read_step blocks o fields)
unfolding read_step
lies_read blocks o fields =
    lies_one o _ fields (λ b. lies_in_job o _ (λ inside. lies_then o (read_as whole_of b) _ (λ block. lies_then o (below blocks block BlockRange) _ (λ n. lies_ok o (says.Does (step.Read n)) inside))))

lies_clear : (blocks : ℕ) (o : Bool) (fields : List (List ℕ)) → Lies o (clear_step blocks o fields)
unfolding clear_step
lies_clear blocks o fields =
    lies_one o _ fields (λ b. lies_in_job o _ (λ inside. lies_then o (read_as whole_of b) _ (λ block. lies_then o (below blocks block BlockRange) _ (λ n. lies_ok o (says.Does (step.Clear n)) inside))))

lies_put : (carried : Option Way) (blocks periods : ℕ) (o : Bool) (fields : List (List ℕ)) → Lies o (put_step carried blocks periods o fields)
unfolding put_step
lies_put carried blocks periods o fields =
    lies_two o _ fields (λ b t. lies_in_job o _ (λ inside. lies_then o (read_as whole_of b) _ (λ block. lies_then o (read_as whole_of t) _ (λ period.
    lies_then o (below blocks block BlockRange) _ (λ n. lies_then o (below periods period PeriodRange) _ (λ m. lies_ok o (says.Does (placing carried n m)) inside))))))

lies_shift : (blocks : ℕ) (o : Bool) (fields : List (List ℕ)) → Lies o (shift_step blocks o fields)
unfolding shift_step
lies_shift blocks o fields =
    lies_two o _ fields (λ b d. lies_in_job o _ (λ inside. lies_then o (read_as whole_of b) _ (λ block. lies_then o (read_as shift_of d) _ (λ shift.
    lies_then o (below blocks block BlockRange) _ (λ n. lies_ok o (says.Does (step.Shift n shift.0 shift.1)) inside)))))

lies_bench : (periods : ℕ) (o : Bool) (fields : List (List ℕ)) → Lies o (bench_step periods o fields)
unfolding bench_step
lies_bench periods o fields =
    lies_two o _ fields (λ z t. lies_in_job o _ (λ inside. lies_then o (read_as micro_of z) _ (λ height. lies_then o (read_as whole_of t) _ (λ period.
    lies_then o (below periods period PeriodRange) _ (λ m. lies_ok o (says.Does (step.Bench height m)) inside)))))

lies_expect : (blocks periods : ℕ) (o : Bool) (fields : List (List ℕ)) → Lies o (expect_step blocks periods o fields)
unfolding expect_step
lies_expect blocks periods o fields =
    lies_two o _ fields (λ b t. lies_in_job o _ (λ inside. lies_then o (read_as whole_of b) _ (λ block. lies_then o (read_as period_or_none_of t) _ (λ period.
    lies_then o (below blocks block BlockRange) _ (λ n. lies_then o (below_if_some periods period) _ (λ m. lies_ok o (says.Does (step.Expect n m)) inside))))))

lies_revise : (resources periods : ℕ) (o : Bool) (fields : List (List ℕ)) → Lies o (revise_step resources periods o fields)
unfolding revise_step
lies_revise resources periods o fields =
    lies_three o _ fields (λ r t v. lies_in_job o _ (λ inside. lies_then o (read_as whole_of r) _ (λ resource. lies_then o (read_as whole_of t) _ (λ period. lies_then o (read_as upper_bound_of v) _ (λ upper.
    lies_then o (below resources resource ResourceRange) _ (λ n. lies_then o (below periods period PeriodRange) _ (λ m. lies_ok o (says.Does (step.Revise n m upper)) inside)))))))

lies_word : (pit : Pit) (o : Bool) (jobs : ℕ) (w : Word) (fields : List (List ℕ)) → Lies o (line_of_word pit o jobs w fields)
lies_word pit o jobs word.Begin fields = lies_begin o jobs fields
lies_word pit o jobs word.Read fields = lies_read pit.blocks o fields
lies_word pit o jobs word.Put fields = lies_put None pit.blocks pit.periods o fields
lies_word pit o jobs word.Clear fields = lies_clear pit.blocks o fields
lies_word pit o jobs word.Shift fields = lies_shift pit.blocks o fields
lies_word pit o jobs word.Bench fields = lies_bench pit.periods o fields
lies_word pit o jobs word.Expect fields = lies_expect pit.blocks pit.periods o fields
lies_word pit o jobs word.Cone fields = lies_put (Some way.Cone) pit.blocks pit.periods o fields
lies_word pit o jobs word.Push fields = lies_put (Some way.Push) pit.blocks pit.periods o fields
lies_word pit o jobs word.Revise fields = lies_revise pit.resources pit.periods o fields
lies_word pit o jobs word.Commit fields = lies_end ending.Commit o fields
lies_word pit o jobs word.Abort fields = lies_end ending.Abort o fields

lies_ranged : (pit : Pit) (o : Bool) (jobs : ℕ) (fields : List (List ℕ)) → Lies o (ranged_fact pit o jobs fields)
unfolding ranged_fact
lies_ranged pit o jobs [] = lies_err o UnknownWord
lies_ranged pit o jobs (first ∷ fields) = lies_then o (word_in first) (λ w. line_of_word pit o jobs w fields) (λ w. lies_word pit o jobs w fields)

lies_known : (o : Bool) (pit : Pit) (fact : ScriptFact) → MayBe o fact → Lies o (known_bench pit fact)
lies_known o pit says.Begin may = lies_ok o says.Begin may
lies_known o pit (says.Does (step.Read block)) may = lies_ok o (says.Does (step.Read block)) may
lies_known o pit (says.Does (step.Put block period)) may = lies_ok o (says.Does (step.Put block period)) may
lies_known o pit (says.Does (step.Clear block)) may = lies_ok o (says.Does (step.Clear block)) may
lies_known o pit (says.Does (step.Shift block is_back by)) may = lies_ok o (says.Does (step.Shift block is_back by)) may
lies_known o pit (says.Does (step.Bench height period)) may =
    lies_if o (has_bench pit height) _ _ (lies_ok o (says.Does (step.Bench height period)) may) (lies_err o NoBench)
lies_known o pit (says.Does (step.Expect block period)) may = lies_ok o (says.Does (step.Expect block period)) may
lies_known o pit (says.Does (step.Carry how block period)) may = lies_ok o (says.Does (step.Carry how block period)) may
lies_known o pit (says.Does (step.Revise resource period upper)) may = lies_ok o (says.Does (step.Revise resource period upper)) may
lies_known o pit (says.Ends end) may = lies_ok o (says.Ends end) may

lies_line : (pit : Pit) (o : Bool) (jobs : ℕ) (fields : List (List ℕ)) → Lies o (line_fact pit o jobs fields)
unfolding line_fact
lies_line pit o jobs fields = lies_behind o (ranged_fact pit o jobs fields) (known_bench pit) (lies_ranged pit o jobs fields) (lies_known o pit)

-- ---- what lines leave, written out

abbrev opened : Option (List Step) → List ScriptFact
opened None = []
opened (Some steps) = says.Begin ∷ map says.Does steps

abbrev written : Progress → List ScriptFact
written at = lines_of_jobs at.jobs ++ opened at.current

-- a line that may be there is written behind it
wrote : (jobs : List Job) (current : Option (List Step)) (fact : ScriptFact) → MayBe (is_some current) fact
    → written (with_fact (record { jobs = jobs; current = current }) fact) ≡ written (record { jobs = jobs; current = current }) ++ fact ∷ []
wrote jobs None says.Begin may = ap (λ (ls : List ScriptFact). ls ++ says.Begin ∷ []) (sym (append-nil (lines_of_jobs jobs)))
wrote jobs (Some steps) says.Begin may = absurd (true≢false may)
wrote jobs None (says.Does s) may = absurd (false≢true may)
wrote jobs (Some steps) (says.Does s) may =
    ap (λ (ls : List ScriptFact). lines_of_jobs jobs ++ says.Begin ∷ ls) (map-append says.Does steps (s ∷ []))
    ∙ sym (append_assoc (lines_of_jobs jobs) (says.Begin ∷ map says.Does steps) (says.Does s ∷ []))
wrote jobs None (says.Ends end) may = absurd (false≢true may)
wrote jobs (Some steps) (says.Ends end) may =
    let job : Job = record { steps = steps; end = end } in
    append-nil (lines_of_jobs (jobs ++ job ∷ []))
    ∙ flat_map-append lines_of_job jobs (job ∷ [])
    ∙ ap (λ (ls : List ScriptFact). lines_of_jobs jobs ++ ls) (append-nil (lines_of_job job))
    ∙ sym (append_assoc (lines_of_jobs jobs) (says.Begin ∷ map says.Does steps) (says.Ends end ∷ []))

following : (pit : Pit) (earlier : List ScriptFact) (lines : List Cut) (facts : List ScriptFact) → StatesAfter (script_line pit) earlier lines facts
    → written (progress_of earlier) ≡ earlier → written (progress_of (earlier ++ facts)) ≡ earlier ++ facts
following pit earlier [] facts states so =
    subst (λ (fs : List ScriptFact). written (progress_of fs) ≡ fs) (sym (ap (λ (fs : List ScriptFact). earlier ++ fs) states ∙ append-nil earlier)) so
following pit earlier (line ∷ lines) [] states so = absurd states
following pit earlier (line ∷ lines) (fact ∷ facts) (says, states) so =
    let at : Progress = progress_of earlier in
    let may : MayBe (is_some at.current) fact = lies_line pit (is_some at.current) (length at.jobs) line.fields fact says in
    let one : written (progress_of (earlier ++ fact ∷ [])) ≡ earlier ++ fact ∷ [] =
    ap written (progress_of-more earlier fact) ∙ wrote at.jobs at.current fact may ∙ ap (λ (ls : List ScriptFact). ls ++ fact ∷ []) so in
    subst (λ (fs : List ScriptFact). written (progress_of fs) ≡ fs) (append_assoc earlier (fact ∷ []) facts)
    (following pit (earlier ++ fact ∷ []) lines facts states one)

none-open : (current : Option (List Step)) → cond (is_some current) (Some Unended) None ≡ None → opened current ≡ []
none-open None is = refl
none-open (Some steps) is = cc

pub jobs-between : (pit : Pit) (lines : List Cut) (facts : List ScriptFact) → StandsWhole (script_line pit) script_end lines facts → facts ≡ lines_of_jobs (jobs_of facts)
jobs-between pit lines facts whole =
    let all : written (progress_of facts) ≡ facts = following pit [] lines facts whole.stands (ap written progress_of-none) in
    sym all
    ∙ ap (λ (ls : List ScriptFact). lines_of_jobs (jobs_of facts) ++ ls) (none-open (progress_of facts).current whole.whole)
    ∙ append-nil (lines_of_jobs (jobs_of facts))

-- ---- and the other way

fold-steps : (jobs : List Job) (steps more : List Step)
    → fold with_fact (record { jobs = jobs; current = Some steps }) (map says.Does more) ≡ record { jobs = jobs; current = Some (steps ++ more) }
fold-steps jobs steps [] = ap (λ (ss : List Step). record { jobs = jobs; current = Some ss }) (sym (append-nil steps))
fold-steps jobs steps (s ∷ more) =
    fold-steps jobs (steps ++ s ∷ []) more
    ∙ ap (λ (ss : List Step). record { jobs = jobs; current = Some ss }) (append_assoc steps (s ∷ []) more)

fold-job : (jobs : List Job) (job : Job) → fold with_fact (record { jobs = jobs; current = None }) (lines_of_job job) ≡ record { jobs = jobs ++ job ∷ []; current = None }
fold-job jobs job =
    fold-append with_fact (record { jobs = jobs; current = Some [] }) (map says.Does job.steps) (says.Ends job.end ∷ [])
    ∙ ap (λ (at : Progress). with_fact at (says.Ends job.end)) (fold-steps jobs [] job.steps)

fold-jobs : (jobs more : List Job) → fold with_fact (record { jobs = jobs; current = None }) (lines_of_jobs more) ≡ record { jobs = jobs ++ more; current = None }
fold-jobs jobs [] = ap (λ (js : List Job). record { jobs = js; current = None }) (sym (append-nil jobs))
fold-jobs jobs (job ∷ more) =
    fold-append with_fact (record { jobs = jobs; current = None }) (lines_of_job job) (lines_of_jobs more)
    ∙ ap (λ (at : Progress). fold with_fact at (lines_of_jobs more)) (fold-job jobs job)
    ∙ fold-jobs (jobs ++ job ∷ []) more
    ∙ ap (λ (js : List Job). record { jobs = js; current = None }) (append_assoc jobs (job ∷ []) more)

pub jobs-written : (jobs : List Job) → jobs_of (lines_of_jobs jobs) ≡ jobs
unfolding progress_of
jobs-written jobs = ap (λ (at : Progress). at.jobs) (fold-jobs [] jobs)
