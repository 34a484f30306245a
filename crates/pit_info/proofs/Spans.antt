-- Runs of unknown keys, one more line at a time.
use Rattle.std.proofs.Common.{◌≡◌, ℕ, suc, nat_lt, true, false, List, [], ◌∷◌, ◌++◌, length, take, filter, Option, Some, None, unwrap_or, All, refl, sym, ap, subst, ◌∙◌, append_assoc, arith}
use Rattle.std.specs.Prelude.{flat_map}
use Rattle.std.specs.Io.KnownBytes.{Appends}
use Rattle.std.specs.List.{slice_split, position_or_len}
use Rattle.std.proofs.lemmas.Bool.Decides.{nat_tests}
use Rattle.std.proofs.lemmas.List.{append-nil}
use Rattle.std.proofs.lemmas.List.Elements.{All-push}
use Rattle.std.proofs.lemmas.List.Splits.{slice_split_none, slice_split_at}
use Rattle.pit_num.proofs.CallerLemmas.{appends_nothing, appends_more}
use Rattle.pit_text.specs.Cutting.{Cut}
use Rattle.pit_info.specs.Unknown.{key_field, has_known_key, begins_section, header_of, unknown_runs, run_text, runs_text, unknown_text}
use Rattle.pit_info.specs.declared.unknown.Span.{Span}
use Rattle.pit_info.specs.Inside.Spans.{IsSpanAt, IsSpanOf, IsNextSpan, pending_text}
use Rattle.pit_info.proofs.Ranges.{last-push}

-- ---- the header

pub header-section : (line : Cut) (rest : List Cut) → begins_section line ≡ true → header_of (line ∷ rest) ≡ []
header-section line rest e = let at : position_or_len begins_section (line ∷ rest) ≡ 0 = simp e in ap (λ (n : ℕ). take n (line ∷ rest)) at

pub header-more : (line : Cut) (rest : List Cut) → begins_section line ≡ false → header_of (line ∷ rest) ≡ line ∷ header_of rest
header-more line rest e =
    let at : position_or_len begins_section (line ∷ rest) ≡ suc (position_or_len begins_section rest) = simp e (omega arith) in
    ap (λ (n : ℕ). take n (line ∷ rest)) at

-- ---- the runs of lines

-- a run with a line is kept
pub kept : (line : Cut) (others : List Cut) (runs : List (List Cut)) → filter (λ r. nat_lt 0 (length r)) ((line ∷ others) ∷ runs) ≡ (line ∷ others) ∷ filter (λ r. nat_lt 0 (length r)) runs
kept line others runs = let test : nat_lt 0 (length (line ∷ others)) ≡ true = grind (arith, nat_tests) in simp test

run-alone : (run : List Cut) → flat_map run_text (filter (λ r. nat_lt 0 (length r)) (run ∷ [])) ≡ run_text run
run-alone [] = refl
run-alone (line ∷ others) = ap (λ (rs : List (List Cut)). flat_map run_text rs) (kept line others []) ∙ append-nil (run_text (line ∷ others))

run-first : (run : List Cut) (runs : List (List Cut)) → flat_map run_text (filter (λ r. nat_lt 0 (length r)) (run ∷ runs)) ≡ run_text run ++ flat_map run_text (filter (λ r. nat_lt 0 (length r)) runs)
run-first [] runs = refl
run-first (line ∷ others) runs = ap (λ (rs : List (List Cut)). flat_map run_text rs) (kept line others runs)

pub runs-alone : (run : List Cut) → All (λ line. has_known_key line ≡ false) run → runs_text run ≡ run_text run
unfolding unknown_runs
runs-alone run unknown = ap (λ (parts : List (List Cut)). flat_map run_text (filter (λ r. nat_lt 0 (length r)) parts)) (slice_split_none has_known_key run unknown) ∙ run-alone run

pub runs-then : (run : List Cut) (line : Cut) (rest : List Cut) → All (λ l. has_known_key l ≡ false) run → has_known_key line ≡ true → runs_text (run ++ line ∷ rest) ≡ run_text run ++ runs_text rest
unfolding unknown_runs
runs-then run line rest unknown known =
    ap (λ (parts : List (List Cut)). flat_map run_text (filter (λ r. nat_lt 0 (length r)) parts)) (slice_split_at has_known_key run line rest unknown known)
    ∙ run-first run (slice_split has_known_key rest)

pub span-text : (run : List Cut) (span : Option Span) → IsSpanAt run span → pending_text span ≡ run_text run
span-text [] None is = refl
span-text [] (Some span) is = absurd is
span-text (line ∷ others) None is = absurd is
span-text (line ∷ others) (Some span) is = cc

-- ---- one more line

pub longer-first : (run : List Cut) (line : Cut) (span : Span) → IsSpanAt run None → span.first ≡ line.number → span.last ≡ line.number → span.key.now ≡ key_field line → IsSpanAt (run ++ line ∷ []) (Some span)
longer-first [] line span is first last key = (first, last, key)
longer-first (l ∷ others) line span is first last key = absurd is

pub longer-more : (run : List Cut) (line : Cut) (old span : Span) → IsSpanAt run (Some old) → span.first ≡ old.first → span.last ≡ line.number → span.key.now ≡ old.key.now → IsSpanAt (run ++ line ∷ []) (Some span)
longer-more [] line old span is first last key = absurd is
longer-more (l ∷ others) line old span is first last key =
    (first ∙ is.0, last ∙ sym (ap (λ (o : Option Cut). (unwrap_or o l).number) (last-push others line)), key ∙ is.2)

-- a known key ends the run
pub goes-known : (before after : Option (List ℕ)) (run : List Cut) (line : Cut) (span : Option Span) → has_known_key line ≡ true → IsSpanOf run span → Appends before after (pending_text span)
    → IsNextSpan before after run line None
goes-known before after run line span known is written = record {
  text = pending_text span;
  written = written;
  left = [];
  spans = record { unknown = λ k d below. absurd (omega (arith, below)); is = tt };
  same = λ rest. runs-then run line rest is.unknown known ∙ ap (λ (xs : List ℕ). xs ++ runs_text rest) (sym (span-text run span is.is));
}

-- any other goes on with it
pub goes-on : (here : Option (List ℕ)) (run : List Cut) (line : Cut) (span next : Option Span) → has_known_key line ≡ false → IsSpanOf run span → IsSpanAt (run ++ line ∷ []) next
    → IsNextSpan here here run line next
goes-on here run line span next other is longer = record {
  text = [];
  written = appends_nothing here;
  left = run ++ line ∷ [];
  spans = record { unknown = All-push (λ (l : Cut). has_known_key l ≡ false) run line is.unknown other; is = longer };
  same = λ rest. ap (λ (ls : List Cut). runs_text ls) (sym (append_assoc run (line ∷ []) rest));
}

-- ---- as far as the lines were read

-- this was written of the lines, and the run stands behind it
pub record IsReadSo (before after : Option (List ℕ)) (lines left : List Cut) (span : Option Span) : Type 0 where
  pub text : List ℕ
  pub written : Appends before after text
  pub run : List Cut
  pub spans : IsSpanOf run span
  pub whole : unknown_text lines ≡ text ++ runs_text (run ++ header_of left)

pub reads-none : (here : Option (List ℕ)) (lines left : List Cut) → left ≡ lines → IsReadSo here here lines left None
unfolding unknown_text
reads-none here lines left same = record {
  text = [];
  written = appends_nothing here;
  run = [];
  spans = record { unknown = λ k d below. absurd (omega (arith, below)); is = tt };
  whole = ap (λ (ls : List Cut). runs_text (header_of ls)) (sym same);
}

pub reads-more : (before between after : Option (List ℕ)) (lines left rest : List Cut) (line : Cut) (span next : Option Span) → IsReadSo before between lines left span → left ≡ line ∷ rest
    → begins_section line ≡ false → ((run : List Cut) → IsSpanOf run span → IsNextSpan between after run line next) → IsReadSo before after lines rest next
reads-more before between after lines left rest line span next so is other goes =
    let step = goes so.run so.spans in
    record {
      text = so.text ++ step.text;
      written = appends_more before between after so.text step.text so.written step.written;
      run = step.left;
      spans = step.spans;
      whole =
          so.whole ∙ ap (λ (ls : List Cut). so.text ++ runs_text (so.run ++ ls)) (ap header_of is ∙ header-more line rest other) ∙ ap (λ (xs : List ℕ). so.text ++ xs) (step.same (header_of rest))
          ∙ sym (append_assoc so.text step.text (runs_text (step.left ++ header_of rest)));
    }

-- the run is the last one
pub reads-end : (before between after : Option (List ℕ)) (lines left : List Cut) (span : Option Span) → IsReadSo before between lines left span → header_of left ≡ []
    → Appends between after (pending_text span) → Appends before after (unknown_text lines)
reads-end before between after lines left span so none last =
    subst (λ (xs : List ℕ). Appends before after xs)
    (sym (so.whole ∙ ap (λ (ls : List Cut). so.text ++ runs_text (so.run ++ ls)) none ∙ ap (λ (ls : List Cut). so.text ++ runs_text ls) (append-nil so.run)
    ∙ ap (λ (xs : List ℕ). so.text ++ xs) (runs-alone so.run so.spans.unknown ∙ sym (span-text so.run span so.spans.is))))
    (appends_more before between after so.text (pending_text span) so.written last)
