-- The words of a reply.
use Rattle.std.specs.Prelude.{ℕ, List, ◌++◌, codes, decimal}
use Rattle.pit_plan.specs.declared.breach.Breach.TheVariants.{Precedence, Over}
use Rattle.pit_desk.specs.declared.reply.EntryReply.{EntryReply}
use Rattle.pit_desk.specs.declared.reply.EntryReply.TheVariants.{Committed, Refused, Withdrawn}
use Rattle.pit_desk.specs.declared.reply.Refusal.{Refusal}
use Rattle.pit_desk.specs.declared.reply.Refusal.TheVariants as refusal
use Rattle.pit_step.specs.LineTexts.{breach_words}

-- a word, a space and a whole number
unfoldable pub numbered_text : List ℕ → ℕ → List ℕ
numbered_text word n = word ++ decimal n

abbrev pub refused_text : Refusal → List ℕ
refused_text (refusal.Ahead start commits) = numbered_text (codes "ahead ") start ++ numbered_text (codes " ") commits
refused_text (refusal.Moved block version) = numbered_text (codes "moved ") block ++ numbered_text (codes " ") version
refused_text (refusal.Misread block) = numbered_text (codes "misread ") block
refused_text (refusal.Precedence block before) = breach_words (Precedence block before)
refused_text (refusal.Over resource period load limit) = breach_words (Over resource period load limit)

-- `committed N`, `withdrawn`, or `refused` and why
abbrev pub reply_words : EntryReply → List ℕ
reply_words (Committed number) = numbered_text (codes "committed ") number
reply_words (Refused why) = codes "refused " ++ refused_text why
reply_words Withdrawn = codes "withdrawn"
