use Rattle.std.proofs.Common.{◌≡◌, ℕ, [], ◌∷◌, ◌++◌, ap, sym, ◌∙◌, length, rules}
use Rattle.std.specs.Vec.{vec_len}
use Rattle.pit_script.specs.Inside.Kept.{progress_in}
use Rattle.pit_script.specs.declared.fact.ScriptFact.TheVariants.{Does, Ends}
use Rattle.pit_script.proofs.Drafts.{kept-begins, kept-does, kept-ends, progress-does, progress-ends, may-begin, open-does, open-ends, added}
use Rattle.pit_script.proofs.draft.Draft.add.Goals as goal

pub invariant_of-self : goal.invariant_of-self
invariant_of-self g c =
    let steps = c.self.inside.steps.items in
    let ends = c.self.inside.ends.items in
    let is_open = c.self.inside.is_open in
    kept-begins steps ends is_open c.self.invariant (may-begin c.args.self.now (progress_in steps ends is_open) c.args.fact (sym c.self.view_is) c.in-Begin.is c.requires)

pub invariant_of-self-in-Does : goal.invariant_of-self-in-Does
invariant_of-self-in-Does g c =
    let steps = c.self.inside.steps.items in
    let ends = c.self.inside.ends.items in
    let is_open = c.self.inside.is_open in
    kept-does steps c.push.new.self.items ends is_open c.in-Does.step c.self.invariant (open-does c.args.self.now steps is_open ends c.args.fact c.in-Does.step (sym c.self.view_is) c.in-Does.is c.requires) c.in_ok-push-in-Does.ensures.items

pub invariant_of-self-in-Ends : goal.invariant_of-self-in-Ends
invariant_of-self-in-Ends g c =
    let steps = c.self.inside.steps.items in
    let ends = c.self.inside.ends.items in
    let is_open = c.self.inside.is_open in
    let counted : vec_len c.self.inside.steps ≡ length steps = search rules in
    kept-ends steps ends c.push-in-Ends.new.self.items is_open c.in-Ends.end c.self.invariant (open-ends c.args.self.now steps is_open ends c.args.fact c.in-Ends.end (sym c.self.view_is) c.in-Ends.is c.requires)
    (c.in_ok-push-in-Ends.ensures.items ∙ ap (λ (n : ℕ). ends ++ (n, c.in-Ends.end) ∷ []) (c.len-count.ensures ∙ counted))

pub returns-in_ok-push-in-Does-clause-ok : goal.returns-in_ok-push-in-Does-clause-ok
returns-in_ok-push-in-Does-clause-ok g c =
    let steps = c.self.inside.steps.items in
    let ends = c.self.inside.ends.items in
    let is_open = c.self.inside.is_open in
    progress-does steps c.push.new.self.items ends is_open c.in-Does.step c.self.invariant (open-does c.args.self.now steps is_open ends c.args.fact c.in-Does.step (sym c.self.view_is) c.in-Does.is c.requires) c.in_ok-push-in-Does.ensures.items
    ∙ added c.args.self.now (progress_in steps ends is_open) c.args.fact (Does c.in-Does.step) (sym c.self.view_is) c.in-Does.is

pub returns-in_ok-push-in-Ends-clause-ok : goal.returns-in_ok-push-in-Ends-clause-ok
returns-in_ok-push-in-Ends-clause-ok g c =
    let steps = c.self.inside.steps.items in
    let ends = c.self.inside.ends.items in
    let is_open = c.self.inside.is_open in
    let counted : vec_len c.self.inside.steps ≡ length steps = search rules in
    progress-ends steps ends c.push-in-Ends.new.self.items is_open c.in-Ends.end (open-ends c.args.self.now steps is_open ends c.args.fact c.in-Ends.end (sym c.self.view_is) c.in-Ends.is c.requires)
    (c.in_ok-push-in-Ends.ensures.items ∙ ap (λ (n : ℕ). ends ++ (n, c.in-Ends.end) ∷ []) (c.len-count.ensures ∙ counted))
    ∙ added c.args.self.now (progress_in steps ends is_open) c.args.fact (Ends c.in-Ends.end) (sym c.self.view_is) c.in-Ends.is
