use Rattle.std.proofs.Common.{nat_eq, rules}
use Rattle.pit_model.specs.Fitting.{Fits}
use Rattle.pit_keyed.specs.Keyed.{with_read}
use Rattle.pit_tx.proofs.Inserted.{Fits-with_read, kept_after}
use Rattle.pit_tx.specs.Sets.{AreSound}
use Rattle.pit_keyed.specs.Keyed.{HasFirstRoom}
use Rattle.pit_tx.proofs.work.Work.note.Goals as goal

pub invariant_of-self : goal.invariant_of-self
invariant_of-self g c =
    let w = c.self.inside in
    let k = c.deref_mut.result.now in
    let inv : AreSound (record { planner = w.planner; job = w.job; start = w.start; blocks = w.blocks; periods = w.periods; resources = w.resources; reads = k.reads; writes = k.writes.entries; revises = k.revises.entries })
    × HasFirstRoom k.writes × HasFirstRoom k.revises = rw c.deref_mut.ensures.value c.self.invariant in (
      record {
        blocks = inv.0.blocks;
        periods = inv.0.periods;
        resources = inv.0.resources;
        reads = kept_after (Fits w.blocks w.periods) c.note.result k.reads (with_read nat_eq k.reads c.args.b c.args.period) c.note.new.self c.note.ensures.ok
            c.note.ensures.err inv.0.reads
            (Fits-with_read w.blocks w.periods k.reads c.args.b c.args.period (search rules) (search rules) inv.0.reads);
        writes = inv.0.writes;
        revises = inv.0.revises;
      },
      inv.1,
      inv.2,
    )
