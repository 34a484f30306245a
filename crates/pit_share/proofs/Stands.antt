-- What an answer Committed says of the commits that are seen.
use Rattle.std.proofs.Common.{◌≡◌, ℕ, ◌+◌, List, [], ◌∷◌, ◌++◌, length, take, Some, refl, sym, ap, ◌∙◌, subst, arith, take_all, append_assoc}
use Rattle.std.specs.Prelude.{slice_get}
use mathlib.Core.List.{IsPrefix}
use Rattle.pit_model.specs.Pit.{Pit}
use Rattle.pit_plan.specs.Schedule.{Commit}
use Rattle.pit_desk.specs.History.{Answered, Call, commit_of, commits_of}
use Rattle.pit_desk.specs.Replies.{IsReply}
use Rattle.pit_desk.specs.declared.reply.EntryReply.{EntryReply}
use Rattle.pit_desk.specs.declared.reply.EntryReply.TheVariants.{Committed}
use Rattle.pit_desk.proofs.CallerLemmas.{commits_of-push, commits_of-prefix, reads-held}
use Rattle.pit_desk.specs.Noted.{AreHeld}
use Rattle.pit_share.specs.Endings.{IsAnswered}
use Rattle.pit_share.proofs.Prefixes.{take-prefix}

-- what stands behind so many others
get-behind : {X : Type 0} (xs : List X) (y : X) (zs : List X) → slice_get (xs ++ y ∷ zs) (length xs) ≡ Some y
get-behind [] y zs = refl
get-behind (x ∷ xs) y zs = get-behind xs y zs

module _ (pit : Pit) (call : Call) (reply : EntryReply) (old seen_entries : List Answered) (before : ℕ) (answer : IsAnswered pit call reply old seen_entries) (is : reply ≡ Committed (before + 1)) where
  abbrev seen : List Commit
  seen = commits_of seen_entries

  abbrev front : List Commit
  front = commits_of answer.before

  number-is : before ≡ length front
  number-is = let due = subst (λ (r : EntryReply). IsReply pit front call r) is answer.due in omega (arith, due.3)

  begins : IsPrefix (front ++ commit_of call ∷ []) seen
  begins =
      let stands = subst (λ (r : EntryReply). IsPrefix (answer.before ++ record { call = call; reply = r } ∷ []) seen_entries) is answer.stands in
      let e : Answered = record { call = call; reply = Committed (before + 1) } in
      subst (λ (l : List Commit). IsPrefix l seen) (commits_of-push answer.before e) (commits_of-prefix (answer.before ++ e ∷ []) seen_entries stands)

  pub commit-seen : slice_get seen before ≡ Some (commit_of call)
  commit-seen =
      ap (λ (l : List Commit). slice_get l before) (sym begins.1 ∙ append_assoc front (commit_of call ∷ []) begins.0)
      ∙ (ap (λ n. slice_get (front ++ commit_of call ∷ begins.0) n) number-is ∙ get-behind front (commit_of call) begins.0)

  front-is : take before seen ≡ front
  front-is =
      let whole : IsPrefix front seen = (commit_of call ∷ begins.0, sym (append_assoc front (commit_of call ∷ []) begins.0) ∙ begins.1) in
      ap (λ n. take n seen) number-is ∙ (take-prefix (length front) front seen whole (omega arith) ∙ take_all (length front) front (omega arith))

  pub reads-seen : AreHeld (take before seen) call.reads
  reads-seen =
      let due = subst (λ (r : EntryReply). IsReply pit front call r) is answer.due in
      subst (λ (l : List Commit). AreHeld l call.reads) (sym front-is) (reads-held front call.reads due.1.right)
