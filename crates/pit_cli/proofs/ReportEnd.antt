-- How a run ended can be read from its report, byte by byte.
use Rattle.std.proofs.Common.{◌≡◌, ℕ, ℤ, pos, negsuc, zero, suc, ◌+◌, ◌-◌, ◌<◌, ◌/◌, ◌%◌, ◌^◌, ◌==◌, nat_lt, Bool, true, false, cond, ◌&&◌, not, if◌then◌else◌, List, [], ◌∷◌, ◌++◌, length, replicate, codes, decimal, Result, Ok, Err, refl, sym, ap, ◌∙◌, append_assoc, arith}
use Rattle.std.specs.Fmt.{digits, digits_onto, digit_glyph}
use Rattle.std.specs.List.{flat_map, list_all}
use Rattle.std.proofs.lemmas.Bool.{ne_eqb}
use Rattle.pit_num.specs.Printed.{fixed_text, unsigned_text, places}
use Rattle.pit_model.specs.Pit.{Pit}
use Rattle.pit_plan.specs.Schedule.{Commit, held_period, value_of}
use Rattle.pit_plan.specs.Shortfalls.{shortfalls_of}
use Rattle.pit_plan.specs.declared.short.Short.{Short}
use Rattle.pit_desk.specs.declared.reply.Refusal.{Refusal}
use Rattle.pit_desk.specs.declared.reply.Refusal.TheVariants as refusal
use Rattle.pit_job.specs.declared.outcome.Outcome.{Outcome}
use Rattle.pit_job.specs.declared.outcome.Outcome.TheVariants as outcome
use Rattle.pit_job.specs.declared.outcome.RunEnd.{RunEnd}
use Rattle.pit_job.specs.declared.outcome.RunEnd.TheVariants as end
use Rattle.pit_run.specs.Reports.{RunState}
use Rattle.pit_cli.specs.ReportText.{outcome_text, job_text, jobs_text, stopped_text, run_end_text, run_text, runs_text}
use Rattle.pit_step.specs.LineTexts.{value_text, field_text, micro_text, load_words, short_text, shorts_text}
use Rattle.pit_step.specs.RefusalText.{numbered_text, refused_text}
use Rattle.pit_step.specs.declared.status.Status.{Status}
use Rattle.pit_step.specs.declared.status.Status.TheVariants.{Fine, Failed}
use Rattle.pit_step.specs.declared.fault.CliFault.{CliFault}
use Rattle.pit_step.specs.declared.fault.CliFault.TheVariants.{Stopped}
use Rattle.pit_output.specs.Outputs.{status_of_shorts}
use Rattle.pit_cli.specs.Output.{is_whole, all_whole, was_granted, all_granted, status_by, ended_of, report_text}

abbrev Ending : Type 0
Ending = Result Status CliFault

-- ---- a reader of reports

-- a line begins; the word before a planner's number, and that number; what is said of it; the word before a job's number, and that number; what is
-- said of the job; the rest of the line
data Place : Type 0 where
  begins : Place
  word : Place
  number : Place
  said : Place
  job_word : Place
  job_number : Place
  told : Place
  rest : Place

abbrev after : Place → ℕ → Place
after begins c = if c == 112 then word else rest
after word c = if c == 32 then number else word
after number c = if c == 32 then said else number
after said c = if c == 106 then job_word else rest
after job_word c = if c == 32 then job_number else job_word
after job_number c = if c == 32 then told else job_number
after told c = rest
after rest c = if c == 10 then begins else rest

abbrev worse : Ending → Ending
worse (Ok status) = Ok Failed
worse (Err fault) = Err fault

module _ (is_strict : Bool) where
  -- a line that begins with `s` tells of a shortfall. One of a planner that doesn't go on with `j` tells that it stopped. One of a job that goes on
  -- with `r` tells that it was refused.
  abbrev noted : Place → ℕ → Ending → Ending
  noted begins c ending = if c == 115 then worse ending else ending
  noted word c ending = ending
  noted number c ending = ending
  noted said c ending = if c == 106 then ending else Err Stopped
  noted job_word c ending = ending
  noted job_number c ending = ending
  noted told c ending = if (c == 114) && is_strict then worse ending else ending
  noted rest c ending = ending

  abbrev read : Place → Ending → List ℕ → Ending
  read place ending [] = ending
  read place ending (c ∷ text) = read (after place c) (noted place c ending) text

  -- a text takes the reader from place to place, and changes what it has noted so
  abbrev Reads : Place → Place → (Ending → Ending) → List ℕ → Type 0
  Reads from to change text = (ending : Ending) (more : List ℕ) → read from ending (text ++ more) ≡ read to (change ending) more

  abbrev same : Ending → Ending
  same ending = ending

  abbrev ok_of : Status → Ending
  ok_of status = Ok status

  abbrev stopped : Ending
  stopped = Err Stopped

  reads_then : (from to last : Place) (change next : Ending → Ending) (text others : List ℕ) → Reads from to change text → Reads to last next others
      → Reads from last (λ ending. next (change ending)) (text ++ others)
  reads_then from to last change next text others p q =
      λ ending more. ap (read from ending) (append_assoc text others more) ∙ p ending (others ++ more) ∙ q (change ending) more

  -- ---- numbers have neither spaces nor line feeds

  abbrev AreHigh : List ℕ → Type 0
  AreHigh [] = Unit {0}
  AreHigh (c ∷ text) = (32 < c) × AreHigh text

  high_append : (text others : List ℕ) → AreHigh text → AreHigh others → AreHigh (text ++ others)
  high_append [] others p q = q
  high_append (c ∷ text) others p q = (p.0, high_append text others p.1 q)

  either_glyph : (b : Bool) (d : ℕ) → 32 < cond b (48 + d) (87 + d)
  either_glyph true d = omega arith
  either_glyph false d = omega arith

  either_text : (b : Bool) (text others : List ℕ) → AreHigh text → AreHigh others → AreHigh (cond b text others)
  either_text true text others p q = p
  either_text false text others p q = q

  high_onto : (k n : ℕ) (text : List ℕ) → AreHigh text → AreHigh (digits_onto k 10 false n text)
  high_onto zero n text p = p
  high_onto (suc k) n text p =
      let next : AreHigh (digit_glyph false (n % 10) ∷ text) = (either_glyph (nat_lt (n % 10) 10) (n % 10), p) in
      either_text (n / 10 == 0) (digit_glyph false (n % 10) ∷ text) (digits_onto k 10 false (n / 10) (digit_glyph false (n % 10) ∷ text)) next
      (high_onto k (n / 10) (digit_glyph false (n % 10) ∷ text) next)

  high_decimal : (n : ℕ) → AreHigh (decimal n)
  unfolding digits
  high_decimal n = high_onto 64 n [] tt

  high_zeros : (k : ℕ) → AreHigh (replicate k 48)
  high_zeros zero = tt
  high_zeros (suc k) = (omega arith, high_zeros k)

  high_unsigned : (k n : ℕ) → AreHigh (unsigned_text k n)
  unfolding unsigned_text
  high_unsigned k n =
      high_append (decimal (n / 10 ^ k)) (46 ∷ places k (n % 10 ^ k)) (high_decimal (n / 10 ^ k))
      (omega arith, high_append (replicate (k - length (decimal (n % 10 ^ k))) 48) (decimal (n % 10 ^ k)) (high_zeros (k - length (decimal (n % 10 ^ k)))) (high_decimal (n % 10 ^ k)))

  high_fixed : (k : ℕ) (z : ℤ) → AreHigh (fixed_text k z)
  high_fixed k (pos n) = high_unsigned k n
  high_fixed k (negsuc n) = (omega arith, high_unsigned k (n + 1))

  -- they keep the reader in a planner's number, in a job's, and in the rest of a line
  number_high : (text : List ℕ) → AreHigh text → Reads number number same text
  number_high [] high = λ ending more. refl
  number_high (c ∷ text) high =
      λ ending more.
      ap (λ (b : Bool). read (if b then said else number) ending (text ++ more)) (ne_eqb c 32 (λ is. omega (arith, is, high.0))) ∙ number_high text high.1 ending more

  job_high : (text : List ℕ) → AreHigh text → Reads job_number job_number same text
  job_high [] high = λ ending more. refl
  job_high (c ∷ text) high =
      λ ending more.
      ap (λ (b : Bool). read (if b then told else job_number) ending (text ++ more)) (ne_eqb c 32 (λ is. omega (arith, is, high.0))) ∙ job_high text high.1 ending more

  rest_high : (text : List ℕ) → AreHigh text → Reads rest rest same text
  rest_high [] high = λ ending more. refl
  rest_high (c ∷ text) high =
      λ ending more.
      ap (λ (b : Bool). read (if b then begins else rest) ending (text ++ more)) (ne_eqb c 10 (λ is. omega (arith, is, high.0))) ∙ rest_high text high.1 ending more

  -- ---- within a line

  abbrev Passes : List ℕ → Type 0
  Passes text = Reads rest rest same text

  passes_then : (text others : List ℕ) → Passes text → Passes others → Passes (text ++ others)
  passes_then text others p q = reads_then rest rest rest same same text others p q

  passes_number : (word_text : List ℕ) (n : ℕ) → Passes word_text → Passes (numbered_text word_text n)
  unfolding numbered_text
  passes_number word_text n p = passes_then word_text (decimal n) p (rest_high (decimal n) (high_decimal n))

  passes_field : (n : ℕ) → Passes (field_text n 32)
  passes_field n = passes_then (decimal n) (32 ∷ []) (rest_high (decimal n) (high_decimal n)) (λ e m. refl)

  passes_load : (resource period : ℕ) (load limit : ℤ) → Passes (load_words resource period load limit)
  unfolding load_words
  passes_load resource period load limit =
      passes_then (field_text resource 32) (field_text period 32 ++ (micro_text load 32 ++ fixed_text 6 limit)) (passes_field resource)
      (passes_then (field_text period 32) (micro_text load 32 ++ fixed_text 6 limit) (passes_field period)
      (passes_then (micro_text load 32) (fixed_text 6 limit) (passes_then (fixed_text 6 load) (32 ∷ []) (rest_high (fixed_text 6 load) (high_fixed 6 load)) (λ e m. refl))
      (rest_high (fixed_text 6 limit) (high_fixed 6 limit))))

  passes_refusal : (why : Refusal) → Passes (refused_text why)
  passes_refusal (refusal.Ahead start commits) =
      passes_then (numbered_text (codes "ahead ") start) (numbered_text (codes " ") commits) (passes_number (codes "ahead ") start (λ e m. refl)) (passes_number (codes " ") commits (λ e m. refl))
  passes_refusal (refusal.Moved block version) =
      passes_then (numbered_text (codes "moved ") block) (numbered_text (codes " ") version) (passes_number (codes "moved ") block (λ e m. refl)) (passes_number (codes " ") version (λ e m. refl))
  passes_refusal (refusal.Misread block) = passes_number (codes "misread ") block (λ e m. refl)
  passes_refusal (refusal.Precedence block before) =
      passes_then (codes "precedence ") (field_text block 32 ++ decimal before) (λ e m. refl)
      (passes_then (field_text block 32) (decimal before) (passes_field block) (rest_high (decimal before) (high_decimal before)))
  passes_refusal (refusal.Over resource period load limit) =
      passes_then (codes "over ") (load_words resource period load limit) (λ e m. refl) (passes_load resource period load limit)

  -- ---- whole lines

  abbrev ReadsLines : (Ending → Ending) → List ℕ → Type 0
  ReadsLines change text = Reads begins begins change text

  reads_planner : (planner : ℕ) → Reads begins number same (numbered_text (codes "planner ") planner)
  unfolding numbered_text
  reads_planner planner =
      reads_then begins number number same same (codes "planner ") (decimal planner) (λ e m. refl) (number_high (decimal planner) (high_decimal planner))

  reads_numbered : (from : Place) (change : Ending → Ending) (words : List ℕ) (n : ℕ) → Reads from rest change words → Reads from rest change (numbered_text words n)
  unfolding numbered_text
  reads_numbered from change words n p = reads_then from rest rest change same words (decimal n) p (rest_high (decimal n) (high_decimal n))

  reads_job_number : (job : ℕ) → Reads number job_number same (numbered_text (codes " job ") job)
  unfolding numbered_text
  reads_job_number job = reads_then number job_number job_number same same (codes " job ") (decimal job) (λ e m. refl) (job_high (decimal job) (high_decimal job))

  abbrev at_job : Outcome → Ending → Ending
  at_job (outcome.Refused why tries) ending = if is_strict then worse ending else ending
  at_job other ending = ending

  reads_outcome : (what : Outcome) → Reads told rest (at_job what) (outcome_text what)
  reads_outcome (outcome.Committed n tries) =
      reads_then told rest rest same same (numbered_text (codes "committed ") n) (numbered_text (codes " tries ") tries) (reads_numbered told same (codes "committed ") n (λ e m. refl))
      (passes_number (codes " tries ") tries (λ e m. refl))
  reads_outcome (outcome.Withdrawn tries) = reads_numbered told same (codes "withdrawn tries ") tries (λ e m. refl)
  reads_outcome (outcome.Refused why tries) =
      reads_then told rest rest (at_job (outcome.Refused why tries)) same (codes "refused ") (refused_text why ++ numbered_text (codes " tries ") tries) (λ e m. refl)
      (passes_then (refused_text why) (numbered_text (codes " tries ") tries) (passes_refusal why) (passes_number (codes " tries ") tries (λ e m. refl)))

  reads_job : (planner job : ℕ) (what : Outcome) → ReadsLines (at_job what) (job_text planner job what)
  unfolding job_text
  reads_job planner job what =
      reads_then begins number begins same (at_job what) (numbered_text (codes "planner ") planner) (numbered_text (codes " job ") job ++ (codes " " ++ (outcome_text what ++ codes "\n")))
      (reads_planner planner)
      (reads_then number job_number begins same (at_job what) (numbered_text (codes " job ") job) (codes " " ++ (outcome_text what ++ codes "\n")) (reads_job_number job)
      (reads_then job_number told begins same (at_job what) (codes " ") (outcome_text what ++ codes "\n") (λ e m. refl)
      (reads_then told rest begins (at_job what) same (outcome_text what) (codes "\n") (reads_outcome what) (λ e m. refl))))

  abbrev by_jobs : List Outcome → Ending → Ending
  by_jobs [] ending = ending
  by_jobs (what ∷ more) ending = by_jobs more (at_job what ending)

  reads_jobs : (planner job : ℕ) (outcomes : List Outcome) → ReadsLines (by_jobs outcomes) (jobs_text planner job outcomes)
  unfolding jobs_text
  reads_jobs planner job [] = λ e m. refl
  reads_jobs planner job (what ∷ more) =
      reads_then begins begins begins (at_job what) (by_jobs more) (job_text planner job what) (jobs_text planner (job + 1) more) (reads_job planner job what) (reads_jobs planner (job + 1) more)

  abbrev stops : Ending → Ending
  stops ending = Err Stopped

  reads_stopped : (planner job : ℕ) (why : List ℕ) → Reads rest begins same why → ReadsLines stops (stopped_text planner job why)
  unfolding stopped_text
  reads_stopped planner job why p =
      reads_then begins number begins same stops (numbered_text (codes "planner ") planner) (numbered_text (codes " stopped at job ") job ++ why) (reads_planner planner)
      (reads_then number rest begins stops same (numbered_text (codes " stopped at job ") job) why (reads_numbered number stops (codes " stopped at job ") job (λ e m. refl)) p)

  abbrev at_end : RunEnd → Ending → Ending
  at_end ended ending = if is_whole ended then ending else Err Stopped

  reads_end : (planner : ℕ) (ended : RunEnd) → ReadsLines (at_end ended) (run_end_text planner ended)
  unfolding run_end_text
  reads_end planner end.Whole = λ e m. refl
  reads_end planner (end.Full job) = reads_stopped planner job (codes ": full\n") (λ e m. refl)
  reads_end planner (end.NoMemory job) = reads_stopped planner job (codes ": no memory\n") (λ e m. refl)
  reads_end planner (end.NoEntry job) = reads_stopped planner job (codes ": no entry\n") (λ e m. refl)
  reads_end planner end.NoThread =
      reads_then begins number begins same stops (numbered_text (codes "planner ") planner) (codes " not started\n") (reads_planner planner) (λ e m. refl)

  abbrev by_runs : List RunState → Ending → Ending
  by_runs [] ending = ending
  by_runs (run ∷ runs) ending = by_runs runs (at_end run.ended (by_jobs run.jobs ending))

  reads_runs : (runs : List RunState) → ReadsLines (by_runs runs) (runs_text runs)
  unfolding runs_text
  reads_runs [] = λ e m. refl
  reads_runs (run ∷ runs) =
      reads_then begins begins begins (λ ending. at_end run.ended (by_jobs run.jobs ending)) (by_runs runs) (run_text run) (flat_map run_text runs)
      (reads_then begins begins begins (by_jobs run.jobs) (at_end run.ended) (jobs_text run.planner 1 run.jobs) (run_end_text run.planner run.ended) (reads_jobs run.planner 1 run.jobs) (reads_end run.planner run.ended))
      (reads_runs runs)

  reads_value : (z : ℤ) → ReadsLines same (codes "value " ++ value_text z)
  reads_value z =
      reads_then begins rest begins same same (codes "value ") (value_text z) (λ e m. refl)
      (reads_then rest rest begins same same (fixed_text 18 z) (10 ∷ []) (rest_high (fixed_text 18 z) (high_fixed 18 z)) (λ e m. refl))

  reads_load : (resource period : ℕ) (load limit : ℤ) → Reads rest begins same (load_words resource period load limit ++ 10 ∷ [])
  reads_load resource period load limit =
      reads_then rest rest begins same same (load_words resource period load limit) (10 ∷ []) (passes_load resource period load limit) (λ e m. refl)

  abbrev by_shorts : List Short → Ending → Ending
  by_shorts [] ending = ending
  by_shorts (short ∷ shorts) ending = by_shorts shorts (worse ending)

  reads_shorts : (shorts : List Short) → ReadsLines (by_shorts shorts) (shorts_text shorts)
  unfolding shorts_text
  reads_shorts [] = λ e m. refl
  reads_shorts (short ∷ shorts) =
      reads_then begins begins begins worse (by_shorts shorts) (short_text short) (flat_map short_text shorts)
      (reads_then begins rest begins worse same (codes "short ") (load_words short.resource short.period short.load short.limit ++ 10 ∷ []) (λ e m. refl)
      (reads_load short.resource short.period short.load short.limit)) (reads_shorts shorts)

  -- ---- the end of the report

  -- a status, where jobs were granted or not
  abbrev graded : Bool → Status → Status
  graded are_granted status = if is_strict && not are_granted then Failed else status

  job_status : (what : Outcome) (status : Status) → at_job what (Ok status) ≡ Ok (graded (was_granted what) status)
  job_status (outcome.Committed n tries) status = by is_strict
    where
      by : (b : Bool) → ok_of status ≡ ok_of (if b && false then Failed else status)
      by true = refl
      by false = refl
  job_status (outcome.Withdrawn tries) status = by is_strict
    where
      by : (b : Bool) → ok_of status ≡ ok_of (if b && false then Failed else status)
      by true = refl
      by false = refl
  job_status (outcome.Refused why tries) status = by is_strict
    where
      by : (b : Bool) → (if b then ok_of Failed else ok_of status) ≡ ok_of (if b && true then Failed else status)
      by true = refl
      by false = refl

  graded_twice : (one other : Bool) (status : Status) → graded other (graded one status) ≡ graded (one && other) status
  graded_twice one other status = by is_strict one other
    where
      by : (b one other : Bool) → (if b && not other then Failed else (if b && not one then Failed else status)) ≡ (if b && not (one && other) then Failed else status)
      by true true true = refl
      by true true false = refl
      by true false true = refl
      by true false false = refl
      by false one other = refl

  jobs_status : (jobs : List Outcome) (status : Status) → by_jobs jobs (Ok status) ≡ Ok (graded (list_all was_granted jobs) status)
  jobs_status [] status = by is_strict
    where
      by : (b : Bool) → ok_of status ≡ ok_of (if b && false then Failed else status)
      by true = refl
      by false = refl
  jobs_status (what ∷ more) status =
      ap (by_jobs more) (job_status what status)
      ∙ jobs_status more (graded (was_granted what) status)
      ∙ ap (λ (s : Status). Ok s) (graded_twice (was_granted what) (list_all was_granted more) status)

  jobs_stopped : (jobs : List Outcome) → by_jobs jobs stopped ≡ stopped
  jobs_stopped [] = refl
  jobs_stopped (what ∷ more) = ap (by_jobs more) (one what) ∙ jobs_stopped more
    where
      either : (b : Bool) → (if b then stopped else stopped) ≡ stopped
      either true = refl
      either false = refl

      one : (what : Outcome) → at_job what stopped ≡ stopped
      one (outcome.Committed n tries) = refl
      one (outcome.Withdrawn tries) = refl
      one (outcome.Refused why tries) = either is_strict

  by_stopped : (runs : List RunState) → by_runs runs stopped ≡ stopped
  by_stopped [] = refl
  by_stopped (run ∷ runs) = ap (λ (e : Ending). by_runs runs (at_end run.ended e)) (jobs_stopped run.jobs) ∙ ap (by_runs runs) (either (is_whole run.ended)) ∙ by_stopped runs
    where
      either : (b : Bool) → (if b then stopped else stopped) ≡ stopped
      either true = refl
      either false = refl

  by_each : (runs : List RunState) (status : Status) → by_runs runs (Ok status) ≡ (if all_whole runs then Ok (graded (all_granted runs) status) else Err Stopped)
  by_each [] status = by is_strict
    where
      by : (b : Bool) → ok_of status ≡ ok_of (if b && false then Failed else status)
      by true = refl
      by false = refl
  by_each (run ∷ runs) status =
      let granted = list_all was_granted run.jobs in
      ap (λ (e : Ending). by_runs runs (at_end run.ended e)) (jobs_status run.jobs status)
      ∙ by (is_whole run.ended) (graded granted status) (by_each runs (graded granted status))
      ∙ ap (λ (s : Status). if all_whole (run ∷ runs) then Ok s else Err Stopped) (graded_twice granted (all_granted runs) status)
    where
      by : (b : Bool) (s : Status) → by_runs runs (Ok s) ≡ (if all_whole runs then Ok (graded (all_granted runs) s) else Err Stopped)
          → by_runs runs (if b then Ok s else Err Stopped) ≡ (if b && all_whole runs then Ok (graded (all_granted runs) s) else Err Stopped)
      by true s others = others
      by false s others = by_stopped runs

  by_failed : (shorts : List Short) → by_shorts shorts (Ok Failed) ≡ Ok Failed
  by_failed [] = refl
  by_failed (short ∷ shorts) = by_failed shorts

  by_fault : (shorts : List Short) → by_shorts shorts stopped ≡ stopped
  by_fault [] = refl
  by_fault (short ∷ shorts) = by_fault shorts

  by_some : (shorts : List Short) → by_shorts shorts (Ok Fine) ≡ Ok (status_of_shorts shorts)
  by_some [] = refl
  by_some (short ∷ shorts) = by_failed shorts

  by_graded : (failed : Bool) (shorts : List Short) → by_shorts shorts (Ok (if failed then Failed else Fine)) ≡ Ok (if failed then Failed else status_of_shorts shorts)
  by_graded true shorts = by_failed shorts
  by_graded false shorts = by_some shorts

  by_all : (all granted : Bool) (shorts : List Short) → by_shorts shorts (if all then Ok (graded granted Fine) else Err Stopped) ≡ (if all then Ok (status_by is_strict granted shorts) else Err Stopped)
  by_all true granted shorts = by_graded (is_strict && not granted) shorts
  by_all false granted shorts = by_fault shorts

  abbrev end_in : List ℕ → Ending
  end_in report = read begins (Ok Fine) (report ++ [])

  end_in_report : (pit : Pit) (commits : List Commit) (runs : List RunState) → end_in (report_text pit commits runs) ≡ ended_of is_strict runs (shortfalls_of pit (held_period commits))
  end_in_report pit commits runs =
      let shorts = shortfalls_of pit (held_period commits) in
      let value = value_of pit (held_period commits) in
      reads_then begins begins begins (by_runs runs) (by_shorts shorts) (runs_text runs) (codes "value " ++ (value_text value ++ shorts_text shorts)) (reads_runs runs)
      (λ e m. ap (λ (t : List ℕ). read begins e (t ++ m)) (sym (append_assoc (codes "value ") (value_text value) (shorts_text shorts)))
      ∙ reads_then begins begins begins same (by_shorts shorts) (codes "value " ++ value_text value) (shorts_text shorts) (reads_value value) (reads_shorts shorts) e m)
      (Ok Fine) []
      ∙ ap (by_shorts shorts) (by_each runs Fine)
      ∙ by_all (all_whole runs) (all_granted runs) shorts

  -- two runs with one report ended the same way
  pub one_report : (pit other : Pit) (commits others : List Commit) (runs more : List RunState) → report_text pit commits runs ≡ report_text other others more
      → ended_of is_strict runs (shortfalls_of pit (held_period commits)) ≡ ended_of is_strict more (shortfalls_of other (held_period others))
  one_report pit other commits others runs more is = sym (end_in_report pit commits runs) ∙ ap end_in is ∙ end_in_report other others more
