use Rattle.std.proofs.Common.{◌≡◌, true, rules}
use Rattle.pit_text.specs.Numbers.{is_ascii}
use Rattle.pit_script.proofs.Fields.{IsUtf8-is_ascii}
use Rattle.pit_script.proofs.number.upper.Goals as goal

pub returns-in_default : goal.returns-in_default
returns-in_default c =
    let ascii : is_ascii c.args.field.now ≡ true = search rules in
    absurd (c.in_default.ensures.cases.0 (IsUtf8-is_ascii c.args.field.now ascii))
