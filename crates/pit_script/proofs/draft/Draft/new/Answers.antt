use Rattle.pit_script.proofs.Drafts.{kept-none, progress-none}
use Rattle.pit_script.proofs.draft.Draft.new.Goals as goal

pub invariant_of-result : goal.invariant_of-result
invariant_of-result g c = kept-none c.new.result.items c.new-2.result.items c.new.ensures.items c.new-2.ensures.items

pub returns : goal.returns
returns g c = progress-none c.new.result.items c.new-2.result.items c.new.ensures.items c.new-2.ensures.items
