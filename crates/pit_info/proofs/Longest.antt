-- The runs of unknown keys are the longest ones.
use Rattle.std.proofs.Common.{◌≡◌, ◌<◌, nat_lt, Bool, true, false, List, [], ◌∷◌, ◌++◌, length, filter, Option, All, refl, sym, ap, subst, ◌∙◌, append_assoc, arith}
use Rattle.std.specs.Prelude.{MatchOption, ⊤}
use Rattle.std.specs.List.{slice_split}
use Rattle.std.proofs.lemmas.List.{append-nil}
use Rattle.std.proofs.lemmas.List.Elements.{All-nil, All-cons, All-push, All-filter}
use Rattle.std.proofs.lemmas.List.Splits.{slice_split_none, slice_split_at}
use Rattle.pit_text.specs.Cutting.{Cut}
use Rattle.pit_text.specs.Model.{last_of}
use Rattle.pit_info.specs.Unknown.{has_known_key, unknown_runs}
use Rattle.pit_info.specs.LongestRuns.{BeginsKnown, EndsKnown, IsLongestRun}
use Rattle.pit_info.proofs.Ranges.{last-push}
use Rattle.pit_info.proofs.Spans.{kept}

abbrev AllUnknown : List Cut → Type 0
AllUnknown run = All (λ line. has_known_key line ≡ false) run

-- a part of these lines, maybe without a line
record IsPart (lines run : List Cut) : Type 0 where
  unknown : AllUnknown run
  before : List Cut
  after : List Cut
  cut : lines ≡ before ++ (run ++ after)
  begins : EndsKnown before
  ends : BeginsKnown after

abbrev ArePartsOf : List Cut → List (List Cut) → Type 0
ArePartsOf lines parts = All (IsPart lines) parts

-- what a known key leaves behind it
ends-known : (done run : List Cut) (line : Cut) → has_known_key line ≡ true → EndsKnown (done ++ (run ++ line ∷ []))
ends-known done run line known =
    subst (λ (o : Option Cut). MatchOption o ⊤ (λ l. has_known_key l ≡ true)) (sym (ap (λ (ls : List Cut). last_of ls) (sym (append_assoc done run (line ∷ []))) ∙ last-push (done ++ run) line)) known

part-last : (done run : List Cut) → EndsKnown done → AllUnknown run → ArePartsOf (done ++ (run ++ [])) (slice_split has_known_key (run ++ []))
part-last done run bound unknown =
    subst (λ (parts : List (List Cut)). ArePartsOf (done ++ (run ++ [])) parts) (sym (ap (slice_split has_known_key) (append-nil run) ∙ slice_split_none has_known_key run unknown))
    (All-cons (IsPart (done ++ (run ++ []))) run [] (record { unknown = unknown; before = done; after = []; cut = refl; begins = bound; ends = tt }) (All-nil (IsPart (done ++ (run ++ [])))))

module _ (line : Cut) (rest : List Cut)
    (later : (done run : List Cut) → EndsKnown done → AllUnknown run → ArePartsOf (done ++ (run ++ rest)) (slice_split has_known_key (run ++ rest))) (done run : List Cut) (bound : EndsKnown done)
    (unknown : AllUnknown run) where
  moved : (done ++ (run ++ line ∷ [])) ++ rest ≡ done ++ (run ++ line ∷ rest)
  moved = append_assoc done (run ++ line ∷ []) rest ∙ ap (λ (ls : List Cut). done ++ ls) (append_assoc run (line ∷ []) rest)

  part-then : has_known_key line ≡ true → ArePartsOf (done ++ (run ++ line ∷ rest)) (slice_split has_known_key (run ++ line ∷ rest))
  part-then known =
      subst (λ (parts : List (List Cut)). ArePartsOf (done ++ (run ++ line ∷ rest)) parts) (sym (slice_split_at has_known_key run line rest unknown known))
      (All-cons (IsPart (done ++ (run ++ line ∷ rest))) run (slice_split has_known_key rest)
      (record { unknown = unknown; before = done; after = line ∷ rest; cut = refl; begins = bound; ends = known })
      (subst (λ (ls : List Cut). ArePartsOf ls (slice_split has_known_key rest)) moved
      (later (done ++ (run ++ line ∷ [])) [] (ends-known done run line known) (All-nil (λ (l : Cut). has_known_key l ≡ false)))))

  part-more : has_known_key line ≡ false → ArePartsOf (done ++ (run ++ line ∷ rest)) (slice_split has_known_key (run ++ line ∷ rest))
  part-more other =
      subst (λ (ls : List Cut). ArePartsOf (done ++ ls) (slice_split has_known_key ls)) (append_assoc run (line ∷ []) rest)
      (later done (run ++ line ∷ []) bound (All-push (λ (l : Cut). has_known_key l ≡ false) run line unknown other))

  part-by : (known : Bool) → has_known_key line ≡ known → ArePartsOf (done ++ (run ++ line ∷ rest)) (slice_split has_known_key (run ++ line ∷ rest))
  part-by true is = part-then is
  part-by false is = part-more is

parts : (lines done run : List Cut) → EndsKnown done → AllUnknown run → ArePartsOf (done ++ (run ++ lines)) (slice_split has_known_key (run ++ lines))
parts [] done run bound unknown = part-last done run bound unknown
parts (line ∷ rest) done run bound unknown = part-by line rest (parts rest) done run bound unknown (has_known_key line) refl

some-kept : (runs : List (List Cut)) → All (λ (run : List Cut). 0 < length run) (filter (λ run. nat_lt 0 (length run)) runs)
some-kept [] = All-nil (λ (run : List Cut). 0 < length run)
some-kept ([] ∷ runs) = some-kept runs
some-kept ((line ∷ others) ∷ runs) =
    subst (λ (rs : List (List Cut)). All (λ (run : List Cut). 0 < length run) rs) (sym (kept line others runs))
    (All-cons (λ (run : List Cut). 0 < length run) (line ∷ others) (filter (λ run. nat_lt 0 (length run)) runs) (omega arith) (some-kept runs))

pub longest : (lines : List Cut) → All (IsLongestRun lines) (unknown_runs lines)
unfolding unknown_runs
longest lines = λ k d below.
    let part =
    All-filter (λ (run : List Cut). nat_lt 0 (length run)) (IsPart lines) (slice_split has_known_key lines) (parts lines [] [] tt (All-nil (λ (l : Cut). has_known_key l ≡ false))) k d below in
    record {
      some = some-kept (slice_split has_known_key lines) k d below;
      unknown = part.unknown;
      before = part.before;
      after = part.after;
      cut = part.cut;
      begins = part.begins;
      ends = part.ends;
    }
