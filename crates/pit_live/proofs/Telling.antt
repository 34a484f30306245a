-- What standard error is told, one text behind the other.
use Rattle.std.proofs.Common.{◌≡◌, ℕ, ◌<◌, Bool, true, false, List, ◌++◌, length, ◌&&◌, Option, Result, refl, sym, ap, subst, ◌∙◌, arith, length-append, append_assoc}
use Rattle.std.specs.Prelude.{codes}
use Rattle.pit_num.proofs.CallerLemmas.{appends_more}
use Rattle.pit_model.specs.Pit.{Pit}
use Rattle.pit_plan.specs.Schedule.{Commit, held_period, value_of}
use Rattle.pit_plan.specs.Shortfalls.{shortfalls_of}
use Rattle.pit_desk.specs.History.{commits_of}
use Rattle.pit_step.specs.LineTexts.{value_text, shorts_text}
use Rattle.pit_step.specs.Devices.{writing_of}
use Rattle.pit_step.specs.declared.fault.CliFault.{CliFault}
use Rattle.pit_step.specs.declared.fault.CliFault.TheVariants.{NoMemory}
use Rattle.pit_step.specs.declared.status.Status.{Status}
use Rattle.pit_live.specs.LiveFiles.{FileKnown}
use Rattle.pit_live.specs.Sittings.{sittings_text, live_report, live_end}
use Rattle.pit_live.specs.Live.{Carried, Lived, HasLived, IsUntoldFault, IsUntold, IsTold, IsLiveEnd}
use Rattle.pit_live.specs.Inside.Sessions.{IsToldMore, IsReported}
use Rattle.pit_live.specs.declared.sitting.Sitting.{Sitting}

-- a report has a line
pub some_report : (pit : Pit) (commits : List Commit) (sittings : List Sitting) → 0 < length (live_report pit commits sittings)
some_report pit commits sittings =
    let rest = value_text (value_of pit (held_period commits)) ++ shorts_text (shortfalls_of pit (held_period commits)) in
    let word : length (codes "value ") ≡ 6 = refl in
    omega (arith, length-append (sittings_text sittings) (codes "value " ++ rest), length-append (codes "value ") rest, word)

told_more : (a b c : Option (List ℕ)) (had_failed failed : Bool) (first text : List ℕ) (is_told : Bool) → 0 < length text → IsTold (writing_of a b had_failed) first true
    → IsTold (writing_of b c failed) text is_told → IsTold (writing_of a c failed) (first ++ text) is_told
told_more a b c had_failed failed first text true some before after = (appends_more a b c first text before.0 after.0, λ more. after.1 some)
told_more a b c had_failed failed first text false some before after =
    let front = after.0 in (
      record {
        written = first ++ front.written;
        rest = front.rest;
        whole = ap (λ (t : List ℕ). first ++ t) front.whole ∙ sym (append_assoc first front.written front.rest);
        appended = appends_more a b c first front.written before.0 front.appended;
      },
      after.1,
    )

untold_more : (a b : Option (List ℕ)) (failed : Bool) (first text : List ℕ) → IsTold (writing_of a b failed) first false → IsTold (writing_of a b failed) (first ++ text) false
untold_more a b failed first text (front, bad) = (
  record {
    written = front.written;
    rest = front.rest ++ text;
    whole = ap (λ (t : List ℕ). t ++ text) front.whole ∙ append_assoc front.written front.rest text;
    appended = front.appended;
  },
  bad,
)

module _ (a b c : Option (List ℕ)) (had_failed failed : Bool) where
  -- where the first text wasn't told, the device was left alone
  abbrev pub IsSilent : Bool → Type 0
  IsSilent was_told = was_told ≡ false → (c ≡ b) × (failed ≡ had_failed)

  both_told : (first text : List ℕ) (was_told is_told : Bool) → 0 < length text → IsTold (writing_of a b had_failed) first was_told → IsSilent was_told
      → IsToldMore was_told (writing_of b c failed) text is_told → IsTold (writing_of a c failed) (first ++ text) is_told
  both_told first text true is_told some before silent after = told_more a b c had_failed failed first text is_told some before after
  both_told first text false true some before silent after = absurd after
  both_told first text false false some before silent after =
      let same = silent refl in
      subst (λ (o : Option (List ℕ)). IsTold (writing_of a o failed) (first ++ text) false) (sym same.0)
      (subst (λ (f : Bool). IsTold (writing_of a b f) (first ++ text) false) (sym same.1) (untold_more a b had_failed first text before))

  -- the sessions ended, and that was told or not
  pub live_ended : (carried : Carried) (file : FileKnown) (lived : Lived) (was_told : Bool) (result : Result Status CliFault) → HasLived carried file lived
      → IsTold (writing_of a b had_failed) carried.notices was_told → IsSilent was_told → IsReported lived was_told (writing_of b c failed) result
      → IsLiveEnd carried file (writing_of a c failed) result
  live_ended carried file lived was_told result has before silent reported =
      let same : lived.desk.plan.pit ≡ carried.pit = has.sat.closed.goes_on.same_pit in
      let commits = commits_of lived.desk.history in
      let some = some_report lived.desk.plan.pit commits lived.sittings in
      record {
        lived = lived;
        has = has;
        is_told = reported.is_told;
        told = subst (λ (p : Pit). IsTold (writing_of a c failed) (carried.notices ++ live_report p commits lived.sittings) reported.is_told) same
            (both_told carried.notices (live_report lived.desk.plan.pit commits lived.sittings) was_told reported.is_told some before silent reported.told);
        ended = subst (λ (p : Pit). result ≡ live_end (lived.is_filed && reported.is_told) lived.sittings (shortfalls_of p (held_period commits))) same reported.ended;
      }

  -- there was no memory for the report
  pub live_wants : (carried : Carried) (file : FileKnown) (lived : Lived) (was_told : Bool) (fault : CliFault) → HasLived carried file lived
      → IsTold (writing_of a b had_failed) carried.notices was_told → fault ≡ NoMemory → c ≡ b → failed ≡ had_failed → IsUntold carried file (writing_of a c failed) fault
  live_wants carried file lived was_told fault has before wants same sound = record {
    why = subst (λ (f : CliFault). IsUntoldFault carried file f) (sym wants) (lived, has);
    is_told = was_told;
    told = subst (λ (o : Option (List ℕ)). IsTold (writing_of a o failed) carried.notices was_told) (sym same)
        (subst (λ (f : Bool). IsTold (writing_of a b f) carried.notices was_told) (sym sound) before);
  }
