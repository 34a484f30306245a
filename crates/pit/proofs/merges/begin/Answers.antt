use Rattle.std.proofs.Common.{length, inl, inr, refl, ap, arith, false}
use Rattle.std.proofs.lemmas.List.{length-map}
use Rattle.std.proofs.lemmas.Result.{MatchResult-weaker}
use Rattle.pit.specs.Histories.{history_refusal}
use Rattle.pit.specs.MergeRun.{MergeFiles}
use Rattle.pit.proofs.MergeFiles.{as-many-edits}
use Rattle.pit.proofs.MergeReadings.{readings, are-from}
use Rattle.pit.proofs.History.{ready_history}
use Rattle.pit.proofs.merges.begin.Goals as goal

pub returns-in-Err : goal.returns-in-Err
returns-in-Err g c = inl (c.in-Err.ensures, (tt, (refl, refl)))

pub returns-in-Err-read : goal.returns-in-Err-read
returns-in-Err-read g c =
    let left = g.D.File.Read.remaining in
    let in_files = c.files.inside in
    let read = readings (λ source. left source.reader) (λ source. source.has_failed) in_files.model c.read.new.model in_files.precedence c.read.new.precedence in_files.start c.read.new.start
    in_files.edits.items in_files.edits.items in_files.edits.items in
    let from = are-from (λ source. left source.reader) (λ source. source.has_failed) in_files.model c.read.new.model in_files.precedence c.read.new.precedence in_files.start c.read.new.start
    in_files.edits.items in_files.edits.items in_files.edits.items c.in-Ok.files c.files.view_is refl c.in-Err-read.ensures.same refl in
    inr (c.in-Ok.files, c.in-Ok.ensures, inr (read, from, inl (c.in-Err-read.ensures.read, (tt, (refl, refl)))))

pub returns-in-Err-prepared : goal.returns-in-Err-prepared
returns-in-Err-prepared g c =
    let left = g.D.File.Read.remaining in
    let in_files = c.files.inside in
    let read = readings (λ source. left source.reader) (λ source. source.has_failed) in_files.model c.read.new.model in_files.precedence c.read.new.precedence in_files.start c.read.new.start
    in_files.edits.items in_files.edits.items in_files.edits.items in
    let from = are-from (λ source. left source.reader) (λ source. source.has_failed) in_files.model c.read.new.model in_files.precedence c.read.new.precedence in_files.start c.read.new.start
    in_files.edits.items in_files.edits.items in_files.edits.items c.in-Ok.files c.files.view_is refl c.in-Ok-read.ensures.same refl in
    inr (c.in-Ok.files, c.in-Ok.ensures, inr (read, from, inr (c.in-Ok-read.input, c.in-Ok-read.ensures.read, inl (c.in-Err-prepared.ensures.fault, (refl, refl)))))

pub merge-answer-requires : goal.merge-answer-requires
merge-answer-requires g c =
    let left = g.D.File.Read.remaining in
    let count = as-many-edits (g.D.Disk.told c.args.disk.now) c.args.words.now false c.in-Ok.files c.in-Ok.ensures in
    record {
      few = omega (arith, ap length c.deref_mut.ensures.value, length-map c.files.inside.edits.items (λ source. left source.reader), ap (λ (f : MergeFiles). length f.edits) c.files.view_is, count, c.args.words.now.few);
    }

pub returns : goal.returns
returns g c =
    let left = g.D.File.Read.remaining in
    let in_files = c.files.inside in
    let read = readings (λ source. left source.reader) (λ source. source.has_failed) in_files.model c.read.new.model in_files.precedence c.read.new.precedence in_files.start c.read.new.start
    in_files.edits.items c.deref_mut.result.now c.merge-answer.new.edits in
    let from = are-from (λ source. left source.reader) (λ source. source.has_failed) in_files.model c.read.new.model in_files.precedence c.read.new.precedence in_files.start c.read.new.start
    in_files.edits.items c.deref_mut.result.now c.merge-answer.new.edits c.in-Ok.files c.files.view_is c.deref_mut.ensures.value c.in-Ok-read.ensures.same c.merge-answer.ensures.same_edits in
    let input = c.in-Ok-read.input in
    let ready = ready_history (history_refusal (g.D.Disk.told c.args.disk.now) c.args.words.now.origin) c.args.words.now.origin g.D.History.HistoryOut.state c.in-Ok-prepared.history c.merge-answer.new.history
    c.merge-answer.ensures.same c.in-Ok-prepared.ensures.named c.in-Ok-prepared.ensures.ready c.in-Ok-prepared.ensures.new in
    MatchResult-weaker c.merge-answer.result c.merge-answer.ensures.done
    (λ status gives. (c.in-Ok.files, c.in-Ok.ensures, (read, from, (input, c.in-Ok-read.ensures.read, ((input, _), (refl, ready), gives)))))
    (λ fault fails. inr (c.in-Ok.files, c.in-Ok.ensures, inr (read, from, inr (input, c.in-Ok-read.ensures.read, inr ((input, _), (refl, ready), fails)))))
