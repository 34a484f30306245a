use Rattle.std.proofs.Common.{ℕ, rules}
use Rattle.pit_model.specs.Fitting.{RevisionsFit, pair_eq}
use Rattle.pit_keyed.specs.Keyed.{with_write}
use Rattle.pit_tx.proofs.Inserted.{RevisionsFit-insert_entry, kept_after}
use Rattle.pit_tx.specs.Sets.{AreSound}
use Rattle.pit_keyed.specs.Keyed.{HasFirstRoom}
use Rattle.pit_tx.proofs.work.Work.revise.Goals as goal

pub invariant_of-self : goal.invariant_of-self
invariant_of-self g c =
    let w = c.self.inside in
    let k = c.deref_mut.result.now in
    let inv : AreSound (record { planner = w.planner; job = w.job; start = w.start; blocks = w.blocks; periods = w.periods; resources = w.resources; reads = k.reads; writes = k.writes.entries; revises = k.revises.entries })
    × HasFirstRoom k.writes × HasFirstRoom k.revises = rw c.deref_mut.ensures.value c.self.invariant in
    let key : ℕ × ℕ = (c.args.r, c.args.t) in (
      record {
        blocks = inv.0.blocks;
        periods = inv.0.periods;
        resources = inv.0.resources;
        reads = inv.0.reads;
        writes = inv.0.writes;
        revises = kept_after (RevisionsFit w.resources w.periods) c.insert.result k.revises.entries (with_write pair_eq k.revises.entries key c.args.upper) c.insert.new.map.entries c.insert.ensures.ok
            c.insert.ensures.err inv.0.revises
            (RevisionsFit-insert_entry w.resources w.periods k.revises.entries key c.args.upper (search rules) inv.0.revises);
      },
      inv.1,
      c.insert.ensures.kept,
    )
