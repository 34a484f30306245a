use Rattle.std.proofs.Common.{ap}
use Rattle.pit_step.specs.Devices.{writing_of}
use Rattle.pit.proofs.Views.{info_viewed}
use Rattle.pit.proofs.runs.run_info.Goals as goal

pub returns : goal.returns
returns g c =
    let left = g.D.File.Read.remaining in
    let pit = c.in_ok-files.files in
    info_viewed (g.D.Disk.told c.args.disk.now) c.args.words.now (writing_of (g.W.Sink.contents c.args.out.now) (g.W.Sink.contents c.info.new.out) (g.W.Sink.has_failed c.info.new.out)) _
    left (λ source. left source.reader) (λ source. source.has_failed) pit.model pit.precedence c.new-model.result c.info.new.model c.new-precedence.result c.info.new.precedence (ap left c.new-model.ensures.reader) (ap left c.new-precedence.ensures.reader)
    c.args.words.now.blocks pit.blocks c.source_if-blocks.result c.info.new.blocks _ c.in_ok-files.ensures.opened c.in_ok-files.ensures.blocks c.source_if-blocks.ensures c.info.ensures.same c.info.ensures.done
