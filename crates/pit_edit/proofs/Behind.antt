-- What is so of the last entry of a desk.
use Rattle.std.proofs.Common.{◌≡◌, ℕ, ◌+◌, ◌-◌, ◌<◌, ◌≤◌, List, [], ◌∷◌, ◌++◌, length, take, get_or, Option, Some, None, IfSome, refl, sym, ap, subst, ◌∙◌, arith}
use Rattle.std.specs.Prelude.{slice_get}
use Rattle.std.proofs.lemmas.List.{append-nil, take_at, get_or_push, length_push, same_from_push}
use Rattle.pit_plan.specs.Standing.{Standing, IsPlanOf, version_of}
use Rattle.pit_desk.specs.History.{Answered, commits_by, commits_of}
use Rattle.pit_desk.specs.Legal.{IsDue, Follows}
use Rattle.pit_desk.specs.declared.reply.Refusal.{Refusal}
use Rattle.pit_desk.specs.declared.reply.EntryReply.{EntryReply}
use Rattle.pit_desk.specs.declared.reply.EntryReply.TheVariants.{Refused}
use Rattle.pit_desk.proofs.CallerLemmas.{commits_of-push}
use Rattle.pit_log.specs.Causes.{block_of, writer_of, cause_of}
use Rattle.pit_log.specs.Makers.{AreMakers}
use Rattle.pit_log.proofs.CallerLemmas.{block-known, versions-within}
use Rattle.pit_edit.specs.declared.answer.Answer.{Answer}
use Rattle.pit_edit.specs.Inside.Answers.{answer_by}

get-last : (before : List Answered) (e : Answered) → slice_get (before ++ e ∷ []) (length before) ≡ Some e
get-last [] e = refl
get-last (x ∷ xs) e = get-last xs e

-- an entry that wasn't refused has no cause
pub uncaused : (before : List Answered) (e : Answered) (reply : EntryReply) → e.reply ≡ reply → block_of (record e { reply = reply }) ≡ None → None ≡ cause_of before e
uncaused before e reply is none = sym (ap (writer_of before) (ap (λ (r : EntryReply). block_of (record e { reply = r })) is ∙ none))

module _ (history before : List Answered) (e : Answered) (plan : Standing) (cut : history ≡ before ++ e ∷ []) (follows : Follows history plan) where
  due : IsDue plan.pit before e
  due =
      subst (λ (h : List Answered). IsDue plan.pit h e) (ap (λ (h : List Answered). take (length before) h) cut ∙ take_at before (e ∷ []) (length before) refl)
      (follows.legal (length before) e (ap (λ (h : List Answered). slice_get h (length before)) cut ∙ get-last before e))

  pub last-known : IfSome (block_of e) (λ b. b < plan.pit.blocks)
  last-known = block-known plan.pit (commits_of before) e follows.sound due.fits due.reply

  -- a refused one has left the plan as it was
  pub last-stands : (why : Refusal) → e.reply ≡ Refused why → IsPlanOf plan (commits_of before)
  last-stands why is =
      subst (IsPlanOf plan)
      (ap commits_of cut
      ∙ (commits_of-push before e ∙ (ap (λ (r : EntryReply). commits_of before ++ commits_by (record e { reply = r })) is ∙ append-nil (commits_of before))))
      follows.stands

  pub last-within : (makers : List ℕ) → AreMakers before makers → (why : Refusal) → e.reply ≡ Refused why → (b : ℕ) → b < plan.pit.blocks → version_of plan b ≤ length makers
  last-within makers made why is = versions-within before plan makers (last-stands why is) made

-- the last place has the last entry
pub last-place : (history before : List Answered) (e found : Answered) (i : ℕ) → history ≡ before ++ e ∷ [] → i ≡ length history - 1 → found ≡ get_or history i found → found ≡ e
last-place history before e found i cut place at =
    let long = ap length cut ∙ length_push before e in
    at ∙ (ap (λ (h : List Answered). get_or h i found) cut ∙ get_or_push before e found i (omega (arith, place, long)))

-- a list ends in one way
pub same-last : (history before other : List Answered) (e f : Answered) → history ≡ before ++ e ∷ [] → history ≡ other ++ f ∷ [] → (before ≡ other) × (e ≡ f)
same-last history before other e f cut also = same_from_push before other e f (sym cut ∙ also)

-- what an entry behind others says, part by part
pub said-by : (before : List Answered) (e : Answered) (number : ℕ) (reply : EntryReply) (cause : Option ℕ) → number ≡ length before + 1 → reply ≡ e.reply → cause ≡ cause_of before e
    → ◌≡◌ {A = Answer} (record { entry = Some number; reply = Some reply; cause = cause }) (answer_by before e)
said-by before e number reply cause counted replied caused =
    let with_number : ℕ → Answer = λ n. record { entry = Some n; reply = Some reply; cause = cause } in
    let with_reply : EntryReply → Answer = λ r. record { entry = Some (length before + 1); reply = Some r; cause = cause } in
    let with_cause : Option ℕ → Answer = λ x. record { entry = Some (length before + 1); reply = Some e.reply; cause = x } in
    ap with_number counted ∙ (ap with_reply replied ∙ ap with_cause caused)
