use Rattle.std.proofs.Common.{cond, is_some, Some, None, Bool, inr, refl, ap, sym, ◌∙◌}
use Rattle.pit_text.specs.Cutting.{cut_of, end_line}
use Rattle.pit_text.specs.Stands.{FailsAtEnd}
use Rattle.pit_script.specs.Jobs.{Progress, script_line, script_end}
use Rattle.pit_script.specs.declared.error.ScriptFault.TheVariants.{Unended}
use Rattle.pit_script.proofs.script.read.Goals as goal

pub returns-then-is_open-clause-result : goal.returns-then-is_open-clause-result
returns-then-is_open-clause-result g c =
    let read = c.in_ok-draft.ensures.result in
    let end : FailsAtEnd (script_line c.args.benches) script_end (cut_of c.args.text.now) (end_line c.args.text.now) c.in_ok-draft.end Unended = record {
      facts = read.0;
      stands = read.1;
      number = read.3;
      wanting = ap (λ (p : Progress). cond (is_some p.current) (Some Unended) None) (sym read.2) ∙ ap (λ (b : Bool). cond b (Some Unended) None) (sym c.is_open.ensures ∙ c.if-is_open.true);
    } in
    inr (Unended, refl, inr end)
