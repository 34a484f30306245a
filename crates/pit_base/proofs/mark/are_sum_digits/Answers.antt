use Rattle.std.proofs.Common.{sym, ◌∙◌}
use Rattle.std.proofs.lemmas.List.Sums.{AllPass-from_list_all, list_all-from_AllPass}
use Rattle.pit_base.specs.Marks.{is_hex}
use Rattle.pit_base.proofs.mark.are_sum_digits.Goals as goal

pub returns : goal.returns
returns c = (
  λ is. (c.if-digits-ne-DIGITS.false, AllPass-from_list_all is_hex c.args.digits.now (sym c.are_hex.ensures ∙ is)),
  λ are. c.are_hex.ensures ∙ list_all-from_AllPass is_hex c.args.digits.now are.1,
)
