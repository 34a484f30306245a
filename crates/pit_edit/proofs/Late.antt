-- An edit is refused as moved exactly where a block that it writes is late.
use Rattle.std.proofs.Common.{◌≡◌, ◌≢◌, ◌↔◌, ℕ, ◌≤◌, Bool, true, false, true≢false, List, [], length, Option, Some, refl, sym, ◌∙◌, arith}
use Rattle.std.specs.Prelude.{Contains}
use Rattle.std.proofs.lemmas.Bool.{false≢true}
use Rattle.std.proofs.lemmas.List.Elements.{All-weaker, All-contains, All-contains_itself}
use Rattle.pit_model.specs.Pit.{Pit}
use Rattle.pit_plan.specs.Schedule.{Commit, last_number}
use Rattle.pit_desk.specs.Least.{IsLeastIn, NonePasses}
use Rattle.pit_desk.specs.Replies.{is_moved, IsReply}
use Rattle.pit_desk.specs.declared.reply.Refusal.TheVariants.{Ahead, Moved, Misread, Precedence, Over}
use Rattle.pit_desk.specs.declared.reply.EntryReply.{EntryReply}
use Rattle.pit_desk.specs.declared.reply.EntryReply.TheVariants.{Committed, Refused, Withdrawn}
use Rattle.pit_edit.specs.Changes.{Edit, base_of, is_late, late_of}
use Rattle.pit_edit.specs.Calls.{edit_call}
use Rattle.pit_edit.specs.EditText.{was_moved}
use Rattle.pit_edit.proofs.Filters.{filter-none, none-passes}
use Rattle.pit_edit.proofs.Lookups.{pairs_of, block-of, pair-of}

module _ (commits : List Commit) (edit : Edit) (blocks : List ℕ) where
  abbrev late : List ℕ
  late = late_of edit.start (last_number commits) blocks

  abbrev reads : List (ℕ × Option ℕ)
  reads = pairs_of (base_of edit) blocks

  on_time : NonePasses (is_moved commits edit.start) reads → (b : ℕ) → Contains blocks b → is_late edit.start (last_number commits) b ≡ false
  on_time none b among = by (is_late edit.start (last_number commits) b) refl
    where
      by : (x : Bool) → is_late edit.start (last_number commits) b ≡ x → is_late edit.start (last_number commits) b ≡ false
      by true is = absurd (none b (record { pair = (b, base_of edit b); among = pair-of (base_of edit) blocks b among; block_is = refl; passes = is }))
      by false is = is

  none-late : NonePasses (is_moved commits edit.start) reads → late ≡ []
  none-late none =
      filter-none (is_late edit.start (last_number commits)) blocks
      (All-weaker (Contains blocks) (λ b. is_late edit.start (last_number commits) b ≡ false) (on_time none) blocks (All-contains_itself blocks))

  some-late : (block : ℕ) → IsLeastIn (is_moved commits edit.start) reads (Some block) → late ≢ []
  some-late block least = λ none.
      let pair = least.passes.pair in
      let on_time = All-contains (λ (b : ℕ). is_late edit.start (last_number commits) b ≡ false) blocks pair.0 (none-passes (is_late edit.start (last_number commits)) blocks none)
      (block-of (base_of edit) blocks pair least.passes.among) in
      true≢false (sym least.passes.passes ∙ on_time)

  pub moved-late : (pit : Pit) (reply : EntryReply) → edit.start ≤ length commits → IsReply pit commits (edit_call edit blocks) reply → (was_moved (Some reply) ≡ true) ↔ (late ≢ [])
  moved-late pit (Committed number) seen due = (λ is. absurd (false≢true is), λ some. absurd (some (none-late due.1.unmoved)))
  moved-late pit (Refused (Ahead start count)) seen due = (λ is. absurd (false≢true is), λ some. absurd (omega (arith, seen, due.1.2)))
  moved-late pit (Refused (Moved block version)) seen due = (λ is. some-late block due.1.1, λ some. refl)
  moved-late pit (Refused (Misread block)) seen due = (λ is. absurd (false≢true is), λ some. absurd (some (none-late due.1.1)))
  moved-late pit (Refused (Precedence block before)) seen due = (λ is. absurd (false≢true is), λ some. absurd (some (none-late due.1.0.unmoved)))
  moved-late pit (Refused (Over resource period load limit)) seen due = (λ is. absurd (false≢true is), λ some. absurd (some (none-late due.1.0.unmoved)))
  moved-late pit Withdrawn seen due = (λ is. absurd (false≢true is), λ some. absurd (cc due))
