-- The words for the streams of planners.
use Rattle.std.proofs.Common.{◌≡◌, ◌∙◌, List, [], ℕ, Bool, Bor, false, length, map, nat_lt, Some, ap, sym}
use Rattle.std.specs.Prelude.{unwrap_or}
use Rattle.std.specs.List.{list_all}
use Rattle.std.proofs.lemmas.List.{length-map}
use Rattle.std.proofs.lemmas.List.Folds.{list_all-map}
use Rattle.clap.specs.declared.parser.matches.ArgMatches.{ArgMatches}
use Rattle.pit_command.specs.Inputs.{streams_of, stream_words}
use Rattle.pit_command.specs.Limits.{planners_max}
use Rattle.pit_command.specs.Words.{has_many_planners}
use Rattle.pit_command.specs.Pairs.{has_pair, are_pairs}

-- whether the words that are given are pairs
pub pairs_given : (given : ArgMatches) (words : List (Bor (List ℕ))) (are : Bool) → Some (map (λ word. word.now) words) ≡ streams_of given
    → list_all (λ word. has_pair word.now) words ≡ are → are_pairs (stream_words given) ≡ are
pairs_given given words are given_is pairs =
    ap (λ streams. are_pairs (unwrap_or streams [])) (sym given_is) ∙ list_all-map has_pair (λ (word : Bor (List ℕ)). word.now) words ∙ pairs

-- there are no more of them than there may be
pub few_given : (given : ArgMatches) (words : List (Bor (List ℕ))) → Some (map (λ word. word.now) words) ≡ streams_of given
    → nat_lt planners_max (length words) ≡ false → has_many_planners given ≡ false
few_given given words given_is few =
    ap (λ streams. nat_lt planners_max (length (unwrap_or streams []))) (sym given_is) ∙ ap (nat_lt planners_max) (length-map words (λ (word : Bor (List ℕ)). word.now)) ∙ few
