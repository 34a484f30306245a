use Rattle.std.proofs.Common.{length, inl, inr, refl, ap, arith}
use Rattle.std.proofs.lemmas.List.{length-map}
use Rattle.std.proofs.lemmas.Result.{MatchResult-weaker}
use Rattle.pit.specs.MergeRun.{MergeFiles}
use Rattle.pit.proofs.MergeFiles.{as-many-edits}
use Rattle.pit.proofs.MergeReadings.{readings, are-from}
use Rattle.pit.proofs.merges.merge_held.Goals as goal

pub returns-in-Err-clause-done : goal.returns-in-Err-clause-done
returns-in-Err-clause-done g c = inr (c.is_history_there-is_there.result, c.is_history_there-is_there.ensures, inl (c.in-Err.ensures, (tt, (refl, refl))))

pub returns-in-Err-read-clause-done : goal.returns-in-Err-read-clause-done
returns-in-Err-read-clause-done g c =
    let left = g.D.File.Read.remaining in
    let in_files = c.files.inside in
    let read = readings (λ source. left source.reader) (λ source. source.has_failed) in_files.model c.read.new.model in_files.precedence c.read.new.precedence in_files.start c.read.new.start
    in_files.edits.items in_files.edits.items in_files.edits.items in
    let from = are-from (λ source. left source.reader) (λ source. source.has_failed) in_files.model c.read.new.model in_files.precedence c.read.new.precedence in_files.start c.read.new.start
    in_files.edits.items in_files.edits.items in_files.edits.items c.in-Ok.files c.files.view_is refl c.in-Err-read.ensures.same refl in
    inr (c.is_history_there-is_there.result, c.is_history_there-is_there.ensures, inr (c.in-Ok.files, c.in-Ok.ensures, inr (read, from, inl (c.in-Err-read.ensures.read, (refl, refl)))))

pub merge-requires : goal.merge-requires
merge-requires g c =
    let left = g.D.File.Read.remaining in
    let count = as-many-edits (g.D.Disk.told c.args.disk.now) c.args.words.now c.is_history_there-is_there.result c.in-Ok.files c.in-Ok.ensures in
    record {
      few = omega (arith, ap length c.deref_mut.ensures.value, length-map c.files.inside.edits.items (λ source. left source.reader), ap (λ (f : MergeFiles). length f.edits) c.files.view_is, count, c.args.words.now.few);
    }

pub returns-clause-done : goal.returns-clause-done
returns-clause-done g c =
    let left = g.D.File.Read.remaining in
    let in_files = c.files.inside in
    let read = readings (λ source. left source.reader) (λ source. source.has_failed) in_files.model c.read.new.model in_files.precedence c.read.new.precedence in_files.start c.read.new.start
    in_files.edits.items c.deref_mut.result.now c.merge.new.edits in
    let from = are-from (λ source. left source.reader) (λ source. source.has_failed) in_files.model c.read.new.model in_files.precedence c.read.new.precedence in_files.start c.read.new.start
    in_files.edits.items c.deref_mut.result.now c.merge.new.edits c.in-Ok.files c.files.view_is c.deref_mut.ensures.value c.in-Ok-read.ensures.same c.merge.ensures.same_edits in
    let there = c.is_history_there-is_there in
    let input = c.in-Ok-read.input in
    MatchResult-weaker c.merge.result c.merge.ensures.done
    (λ status gives. (there.result, there.ensures, (c.in-Ok.files, c.in-Ok.ensures, (read, from, (input, c.in-Ok-read.ensures.read, gives)))))
    (λ fault fails. inr (there.result, there.ensures, inr (c.in-Ok.files, c.in-Ok.ensures, inr (read, from, inr (input, c.in-Ok-read.ensures.read, fails)))))
