-- Each step at the board keeps the rule by which the published commits grow.
use Rattle.std.proofs.Common.{◌≡◌, ◌≢◌, ℕ, List, [], ◌∷◌, ◌++◌, set, refl, subst, ⊎_elim}
use mathlib.Core.List.{IsPrefix}
use mathlib.Core.Option.{some}
use lib.ListN.{get_elem?}
use Rattle.atomic_table.proofs.Lists.{at_set, at_snoc}
use Rattle.pit_plan.specs.Schedule.{Commit}
use Rattle.pit_board.specs.Inside.BoardRule.{BeginsWithSeen}
use Rattle.pit_board.proofs.CallerLemmas.{prefix-refl, prefix-trans}

-- a new place has seen the opening commits
pub rule-place : (opening published : List Commit) (views : List (List Commit)) → BeginsWithSeen opening published views → BeginsWithSeen opening published (views ++ opening ∷ [])
rule-place opening published views h = record {
  begins = h.begins;
  each = λ j u e. ⊎_elim (h.each j u) (λ (same : opening ≡ u). subst (λ (l : List Commit). IsPrefix l published) same h.begins) (at_snoc views opening u j e);
}

-- a place may come to see whatever the published commits begin with
rule-seen : (opening published : List Commit) (views : List (List Commit)) (place : ℕ) (v : List Commit) → BeginsWithSeen opening published views → IsPrefix v published
    → BeginsWithSeen opening published (set views place v)
rule-seen opening published views place v h p = record {
  begins = h.begins;
  each = λ j u e. ⊎_elim (λ (t : (j ≡ place) × (v ≡ u)). subst (λ (l : List Commit). IsPrefix l published) t.1 p) (λ (t : (j ≢ place) × (get_elem? views j ≡ some u)). h.each j u t.1)
      (at_set views place j v u e);
}

-- a place sees what is published, which may be more than before
pub rule-sees : (opening published more : List Commit) (views : List (List Commit)) (place : ℕ) → BeginsWithSeen opening published views → IsPrefix published more
    → BeginsWithSeen opening more (set views place more)
rule-sees opening published more views place h p =
    let grown : BeginsWithSeen opening more views = record {
      begins = prefix-trans opening published more h.begins p;
      each = λ j u e. prefix-trans u published more (h.each j u e) p;
    } in
    rule-seen opening more views place more grown (prefix-refl more)

-- the writer tells what it sees
pub rule-told : (opening published : List Commit) (views : List (List Commit)) (place : ℕ) (v : List Commit) → BeginsWithSeen opening published views → get_elem? views place ≡ some v
    → BeginsWithSeen opening published (set views place v ++ v ∷ [])
rule-told opening published views place v h at =
    let p : IsPrefix v published = h.each place v at in
    let kept : BeginsWithSeen opening published (set views place v) = rule-seen opening published views place v h p in
    record {
      begins = h.begins;
      each = λ j u e. ⊎_elim (kept.each j u) (λ (same : v ≡ u). subst (λ (l : List Commit). IsPrefix l published) same p) (at_snoc (set views place v) v u j e);
    }

-- a place learns what it is told, which is spent
pub rule-learnt : (opening published : List Commit) (views : List (List Commit)) (place other : ℕ) (w : List Commit) → BeginsWithSeen opening published views → ¬ (other ≡ place)
    → get_elem? (set views place w) other ≡ some w → BeginsWithSeen opening published (set (set views place w) other [])
rule-learnt opening published views place other w h apart there =
    let p : IsPrefix w published =
    ⊎_elim (λ (t : (other ≡ place) × (w ≡ w)). absurd (apart t.0)) (λ (t : (other ≢ place) × (get_elem? views other ≡ some w)). h.each other w t.1) (at_set views place other w w there) in
    rule-seen opening published (set views place w) other [] (rule-seen opening published views place w h p) (published, refl)
