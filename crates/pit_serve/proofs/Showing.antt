-- Answers that are no endings, and replies that there was no memory for.
use Rattle.std.proofs.Common.{◌≡◌, ℕ, Bool, List, [], Option, is_some, ap, sym, ◌∙◌, subst}
use Rattle.std.specs.Io.KnownBytes.{Appends}
use Rattle.pit_desk.specs.History.{Answered}
use Rattle.pit_desk.specs.declared.reply.EntryReply.{EntryReply}
use Rattle.pit_journal.specs.EndingText.{ending_line}
use Rattle.pit_share.specs.Planners.{PlannerState}
use Rattle.pit_serve.specs.Phases.{PhaseState}
use Rattle.pit_serve.specs.Phases.PhaseState.{Idle, Open}
use Rattle.pit_serve.specs.Replies.{answer_text}
use Rattle.pit_serve.specs.Serving.{IsPlain, IsShown}
use Rattle.pit_serve.specs.declared.answer.Answer.{Answer}
use Rattle.pit_serve.specs.declared.answer.Answer.TheVariants.{Begun, Held, Moved, Busy, Done, Ended, Full, Abandoned, Value, Wrong}
use Rattle.pit_serve.proofs.Turning.{appends_none}

pub plain_shown : (phase : PhaseState) (answer : Answer) (durable : Option (List Answered)) → IsPlain answer → IsShown phase answer durable
plain_shown phase (Ended reply is_saved) durable plain = absurd plain
plain_shown (Idle planner) (Begun job start) durable plain = tt
plain_shown (Idle planner) (Held block period) durable plain = tt
plain_shown (Idle planner) (Moved block version) durable plain = tt
plain_shown (Idle planner) Busy durable plain = tt
plain_shown (Idle planner) Done durable plain = tt
plain_shown (Idle planner) Full durable plain = tt
plain_shown (Idle planner) Abandoned durable plain = tt
plain_shown (Idle planner) (Value commits value) durable plain = tt
plain_shown (Idle planner) (Wrong fault) durable plain = tt
plain_shown (Open transaction) (Begun job start) durable plain = tt
plain_shown (Open transaction) (Held block period) durable plain = tt
plain_shown (Open transaction) (Moved block version) durable plain = tt
plain_shown (Open transaction) Busy durable plain = tt
plain_shown (Open transaction) Done durable plain = tt
plain_shown (Open transaction) Full durable plain = tt
plain_shown (Open transaction) Abandoned durable plain = tt
plain_shown (Open transaction) (Value commits value) durable plain = tt
plain_shown (Open transaction) (Wrong fault) durable plain = tt

pub untold : {O : Type 0} (contents : O → Option (List ℕ)) (old new : O) → new ≡ old → Appends (contents old) (contents new) []
untold {O} contents old new same = subst (λ (o : O). Appends (contents old) (contents o) []) (sym same) (appends_none (contents old))

-- the line of an ending that is shown
pub shown_line : (phase : PhaseState) (planner : PlannerState) (answer : Answer) (reply : EntryReply) (is_saved : Bool) (durable : Option (List Answered)) → phase ≡ Idle planner → answer ≡ Ended reply is_saved
    → IsShown phase answer durable → ending_line (is_some durable) reply ≡ answer_text answer
unfolding answer_text
shown_line phase planner answer reply is_saved durable idle ended is =
    let shown : IsShown (Idle planner) (Ended reply is_saved) durable =
    subst (λ (p : PhaseState). IsShown p (Ended reply is_saved) durable) idle (subst (λ (a : Answer). IsShown phase a durable) ended is) in
    ap (λ (b : Bool). ending_line b reply) (sym shown.0) ∙ ap answer_text (sym ended)
