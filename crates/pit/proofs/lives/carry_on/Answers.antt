use Rattle.std.proofs.Common.{ℕ, inl, inr, refl, subst}
use Rattle.std.proofs.lemmas.Result.{MatchResult-weaker}
use Rattle.pit_step.specs.Devices.{writing_of}
use Rattle.pit_step.specs.Steps.{IsResultOf}
use Rattle.pit_live.specs.Live.{filing_of, live_run}
use Rattle.pit_live.specs.LiveFiles.{known_names}
use Rattle.pit.proofs.LiveReadings.{live_readings, read-from}
use Rattle.pit.proofs.lives.carry_on.Goals as goal

pub returns-in-Err : goal.returns-in-Err
returns-in-Err g c =
    let names = known_names g.D.Names.TwoNames.stood g.D.Names.TwoNames.synced c.args.file.names in
    let there = c.is_there-is_there in
    (filing_of names names, refl, inr (there.result, there.ensures, inl (c.in-Err.ensures.err, (tt, (refl, refl)))))

pub returns-in-Err-read : goal.returns-in-Err-read
returns-in-Err-read g c =
    let left = g.D.File.Read.remaining in
    let names = known_names g.D.Names.TwoNames.stood g.D.Names.TwoNames.synced c.args.file.names in
    let there = c.is_there-is_there in
    let in_files = c.files.inside in
    let read = live_readings (λ source. left source.reader) (λ source. source.has_failed) in_files.model c.read.new.model in_files.precedence c.read.new.precedence in_files.blocks c.read.new.blocks
    in_files.history c.read.new.history in
    let from = read-from (λ source. left source.reader) (λ source. source.has_failed) in_files.model c.read.new.model in_files.precedence c.read.new.precedence in_files.blocks c.read.new.blocks
    in_files.history c.read.new.history c.in-Ok.opened.0 c.files.view_is c.in-Err-read.ensures.same_blocks c.in-Err-read.ensures.same in
    (filing_of names names, refl, inr (there.result, there.ensures, inr (c.in-Ok.opened.0, c.in-Ok.ensures.ok, inr (read, from, inl (c.in-Err-read.ensures.read, (refl, refl))))))

pub returns : goal.returns
returns g c =
    let left = g.D.File.Read.remaining in
    let there = c.is_there-is_there in
    let in_files = c.files.inside in
    let read = live_readings (λ source. left source.reader) (λ source. source.has_failed) in_files.model c.read.new.model in_files.precedence c.read.new.precedence in_files.blocks c.read.new.blocks
    in_files.history c.read.new.history in
    let from = read-from (λ source. left source.reader) (λ source. source.has_failed) in_files.model c.read.new.model in_files.precedence c.read.new.precedence in_files.blocks c.read.new.blocks
    in_files.history c.read.new.history c.in-Ok.opened.0 c.files.view_is c.in-Ok-read.ensures.same_blocks c.in-Ok-read.ensures.same in
    let input = c.in-Ok-read.input in
    let filing = filing_of c.new-kept.result c.live-answer.new.file in
    let lines = writing_of (g.L.Sink.contents c.args.report.now) (g.L.Sink.contents c.live-answer.new.report) (g.L.Sink.has_failed c.live-answer.new.report) in
    let ran = subst (λ (planners : ℕ). IsResultOf (live_run input planners filing lines) tt c.live-answer.result) c.planner_count-planners.ensures.is c.live-answer.ensures in (
      filing,
      c.new-kept.ensures,
      MatchResult-weaker c.live-answer.result ran
          (λ status gives. (there.result, there.ensures, (c.in-Ok.opened.0, c.in-Ok.ensures.ok, (read, from, (input, c.in-Ok-read.ensures.read, gives)))))
          (λ fault fails. inr (there.result, there.ensures, inr (c.in-Ok.opened.0, c.in-Ok.ensures.ok, inr (read, from, inr (input, c.in-Ok-read.ensures.read, fails))))),
    )
