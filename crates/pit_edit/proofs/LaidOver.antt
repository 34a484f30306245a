-- What entries leave of a block is what was held before them, with their writes laid over.
use Rattle.std.proofs.Common.{◌≡◌, ℕ, List, [], ◌∷◌, ◌++◌, append_assoc, append-nil, Option, sym, ap, ◌∙◌}
use Rattle.pit_plan.specs.Schedule.{Commit, held_period}
use Rattle.pit_plan.proofs.CallerLemmas.{held_period-push}
use Rattle.pit_desk.specs.History.{Call, Answered, commit_of, commits_of}
use Rattle.pit_desk.specs.declared.reply.EntryReply.{EntryReply}
use Rattle.pit_desk.specs.declared.reply.EntryReply.TheVariants.{Committed, Refused, Withdrawn}
use Rattle.pit_desk.proofs.CallerLemmas.{commits_of-push}
use Rattle.pit_edit.specs.LaidOver.{laid_on, laid_over}

-- one entry
held-behind : (b : ℕ) (before : List Answered) (e : Answered) → held_period (commits_of (before ++ e ∷ [])) b ≡ laid_on b (held_period (commits_of before) b) e
held-behind b before e = by e.call e.reply
  where
    by : (call : Call) (reply : EntryReply) → held_period (commits_of (before ++ record { call = call; reply = reply } ∷ [])) b ≡ laid_on b (held_period (commits_of before) b) (record { call = call; reply = reply })
    by call (Committed number) =
        ap (λ (cs : List Commit). held_period cs b) (commits_of-push before (record { call = call; reply = Committed number }))
        ∙ held_period-push (commits_of before) (commit_of call) b
    by call (Refused why) =
        ap (λ (cs : List Commit). held_period cs b) (commits_of-push before (record { call = call; reply = Refused why }) ∙ append-nil (commits_of before))
    by call Withdrawn =
        ap (λ (cs : List Commit). held_period cs b) (commits_of-push before (record { call = call; reply = Withdrawn }) ∙ append-nil (commits_of before))

pub laid-over : (b : ℕ) (before entries : List Answered) → held_period (commits_of (before ++ entries)) b ≡ laid_over b (held_period (commits_of before) b) entries
unfolding laid_over
laid-over b before [] = ap (λ (es : List Answered). held_period (commits_of es) b) (append-nil before)
laid-over b before (e ∷ entries) =
    ap (λ (es : List Answered). held_period (commits_of es) b) (sym (append_assoc before (e ∷ []) entries))
    ∙ (laid-over b (before ++ e ∷ []) entries ∙ ap (λ (held : Option ℕ). laid_over b held entries) (held-behind b before e))
