-- The work of an edit, one block more at a time.
use Rattle.std.proofs.Common.{◌≡◌, ℕ, ◌+◌, ◌<◌, List, [], ◌∷◌, ◌++◌, length, take, get_or, Option, None, IfSome, sym, ap, ap₂, subst, ◌∙◌, arith}
use Rattle.std.specs.Prelude.{All, nat_eq, is_some, if◌then◌else◌}
use Rattle.std.specs.List.Sorted.{IsStrictlyIncreasing}
use Rattle.std.proofs.lemmas.List.{map_more}
use Rattle.std.proofs.lemmas.List.Elements.{All-get_or}
use Rattle.pit_model.specs.Pit.{Pit}
use Rattle.pit_keyed.specs.Keyed.{at_key}
use Rattle.pit_tx.specs.Sets.{Sets, known_of}
use Rattle.pit_edit.specs.Changes.{Edit, base_of, wanted_of}
use Rattle.pit_edit.specs.Inside.Works.{sets_of}
use Rattle.pit_edit.proofs.Lookups.{pairs_of, absent, front-others}

-- a block that is neither written nor read isn't known
pub unknown : (sets : Sets) (b : ℕ) → at_key nat_eq sets.reads b ≡ None → at_key nat_eq sets.writes b ≡ None → known_of sets b ≡ None
unknown sets b unread unwritten =
    ap (λ (w : Option (Option ℕ)). if is_some w then w else at_key nat_eq sets.reads b) unwritten ∙ unread

module _ (pit : Pit) (edit : Edit) (xs : List ℕ) (i : ℕ) (work : Sets) (below : i < length xs) (is : work ≡ sets_of pit edit (take i xs)) where
  abbrev next : ℕ
  next = get_or xs i 0

  pub next-known : All (λ b. b < pit.blocks) xs → next < work.blocks
  next-known known = omega (arith, All-get_or (λ b. b < pit.blocks) xs i 0 below known, ap (λ (s : Sets). s.blocks) is)

  pub next-within : (period : Option ℕ) → IfSome period (λ t. t < pit.periods) → IfSome period (λ t. t < work.periods)
  next-within period within = subst (λ (n : ℕ). IfSome period (λ t. t < n)) (sym (ap (λ (s : Sets). s.periods) is)) within

  pub next-unread : IsStrictlyIncreasing xs → at_key nat_eq work.reads next ≡ None
  next-unread rising = ap (λ (s : Sets). at_key nat_eq s.reads next) is ∙ absent (base_of edit) next (take i xs) (front-others xs i rising below)

  pub next-unwritten : IsStrictlyIncreasing xs → at_key nat_eq work.writes next ≡ None
  next-unwritten rising = ap (λ (s : Sets). at_key nat_eq s.writes next) is ∙ absent (wanted_of edit) next (take i xs) (front-others xs i rising below)

  abbrev with_pairs : List (ℕ × Option ℕ) → List (ℕ × Option ℕ) → Sets
  with_pairs reads writes = record (sets_of pit edit []) { reads = reads; writes = writes }

  pub next-changed : (after : Sets) (base wanted : Option ℕ) → base ≡ base_of edit next → wanted ≡ wanted_of edit next
      → after ≡ record work { reads = work.reads ++ (next, base) ∷ []; writes = work.writes ++ (next, wanted) ∷ [] } → after ≡ sets_of pit edit (take (i + 1) xs)
  next-changed after base wanted base_is wanted_is changed =
      changed
      ∙ (ap (λ (s : Sets). record s { reads = s.reads ++ (next, base) ∷ []; writes = s.writes ++ (next, wanted) ∷ [] }) is
      ∙ ap₂ with_pairs
      (ap (λ (p : Option ℕ). pairs_of (base_of edit) (take i xs) ++ (next, p) ∷ []) base_is ∙ sym (map_more (λ (b : ℕ). (b, base_of edit b)) xs i 0 below))
      (ap (λ (p : Option ℕ). pairs_of (wanted_of edit) (take i xs) ++ (next, p) ∷ []) wanted_is ∙ sym (map_more (λ (b : ℕ). (b, wanted_of edit b)) xs i 0 below)))
