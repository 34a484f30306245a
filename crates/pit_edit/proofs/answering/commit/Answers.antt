use Rattle.std.proofs.Common.{refl}
use Rattle.pit_desk.specs.Calls.{work_call, entry_reply}
use Rattle.pit_desk.specs.declared.entry.Act.TheVariants as act
use Rattle.pit_edit.proofs.answering.commit.Goals as goal

pub answered-requires-clause-last : goal.answered-requires-clause-last
answered-requires-clause-last g c = record {
  before = c.args.desk.now.history;
  entry = record { call = work_call c.args.work act.Commit; reply = entry_reply c.in-Ok.reply };
  cut = c.in-Ok.ensures.entry.history;
  reply_is = refl;
  made = c.requires.makers;
}

pub returns-clause-answer : goal.returns-clause-answer
returns-clause-answer g c = record {
  due = entry_reply c.in-Ok.reply;
  is_due = c.in-Ok.ensures.reply;
  after_is = c.in-Ok.ensures.entry.history;
  answer_is = c.answered.ensures.answer c.args.desk.now.history (record { call = work_call c.args.work act.Commit; reply = entry_reply c.in-Ok.reply }) c.in-Ok.ensures.entry.history refl c.requires.makers;
}
