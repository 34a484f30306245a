use Rattle.std.proofs.Common.{◌≡◌, ◌<◌, Some, nat_eq, ap, subst, sym, ◌∙◌}
use Rattle.std.specs.Prelude.{All, IfSome}
use Rattle.pit_model.specs.Fitting.{Fits}
use Rattle.pit_keyed.specs.Keyed.{HasFirstRoom, with_each}
use Rattle.pit_tx.specs.declared.error.WorkError.TheVariants.{NoMemory}
use Rattle.pit_tx.specs.Sets.{AreSound, Sets}
use Rattle.pit_tx.proofs.Inserted.{Fits-with_each, kept_after}
use Rattle.pit_tx.proofs.Refusing.{never-memory}
use Rattle.pit_tx.proofs.work.Work.put_each.Goals as goal

pub returns-in-Some-clause-memory : goal.returns-in-Some-clause-memory
returns-in-Some-clause-memory g c = λ same.
    let is : c.in-Some.error ≡ NoMemory = cc in
    absurd (never-memory c.args.self.now c.args.blocks.now c.args.t (sym c.first_refusal.ensures.due ∙ c.in-Some.is ∙ ap Some is))

pub invariant_of-self : goal.invariant_of-self
invariant_of-self g c =
    let w = c.self.inside in
    let k = c.deref_mut.result.now in
    let inv : AreSound (record { planner = w.planner; job = w.job; start = w.start; blocks = w.blocks; periods = w.periods; resources = w.resources; reads = k.reads; writes = k.writes.entries; revises = k.revises.entries })
    × HasFirstRoom k.writes × HasFirstRoom k.revises = rw c.deref_mut.ensures.value c.self.invariant in
    let within : All (λ b. (b < w.blocks) × IfSome (Some c.args.t) (λ t. t < w.periods)) c.args.blocks.now =
    subst (λ (sets : Sets). All (λ b. (b < sets.blocks) × (c.args.t < sets.periods)) c.args.blocks.now) (sym c.self.view_is) c.in_default.ensures.fits in (
      record {
        blocks = inv.0.blocks;
        periods = inv.0.periods;
        resources = inv.0.resources;
        reads = inv.0.reads;
        writes = kept_after (Fits w.blocks w.periods) c.insert_each.result k.writes.entries (with_each nat_eq k.writes.entries c.args.blocks.now (Some c.args.t)) c.insert_each.new.map.entries c.insert_each.ensures.ok
            c.insert_each.ensures.err inv.0.writes
            (Fits-with_each w.blocks w.periods k.writes.entries c.args.blocks.now (Some c.args.t) within inv.0.writes);
        revises = inv.0.revises;
      },
      c.insert_each.ensures.kept,
      inv.2,
    )
