-- Heights of blocks, one more at a time.
use Rattle.std.proofs.Common.{◌≡◌, ℕ, ℤ, ◌+◌, Bool, List, [], ◌∷◌, ◌++◌, Option, Some, None, refl, sym, ap, ◌∙◌}
use Rattle.std.specs.Prelude.{◌||◌, option_to_list}
use Rattle.std.specs.BTreeSet.{BTreeSet, InsertsAll}
use Rattle.std.specs.List.{filter_map, range_with_len, cons_option}
use Rattle.std.specs.Ordering.{int_cmp, int_eq}
use Rattle.std.specs.Set.{is_member}
use Rattle.std.proofs.lemmas.List.Elements.{filter_map-append}
use Rattle.std.proofs.lemmas.List.Folds.{list_any-append}
use Rattle.pit_model.specs.Pit.{Pit}
use Rattle.pit_info.specs.Figures.{height_of, heights_in}
use Rattle.pit_step.proofs.CallerLemmas.{range-more}

heights-more : (pit : Pit) (b : ℕ) → heights_in pit (b + 1) ≡ heights_in pit b ++ filter_map (height_of pit) (b ∷ [])
heights-more pit b = ap (filter_map (height_of pit)) (range-more b) ∙ filter_map-append (height_of pit) (range_with_len 0 b) (b ∷ [])

listed : (o : Option ℤ) → option_to_list o ≡ cons_option o []
listed None = refl
listed (Some x) = refl

-- a set with the heights of the first blocks and with that of the next block
pub is_member-more : (pit : Pit) (b : ℕ) (old new : BTreeSet ℤ) → ((q : ℤ) → is_member int_eq old.keys q ≡ is_member int_eq (heights_in pit b) q) → InsertsAll int_cmp old (option_to_list (height_of pit b)) new
    → (q : ℤ) → is_member int_eq new.keys q ≡ is_member int_eq (heights_in pit (b + 1)) q
is_member-more pit b old new is inserts q =
    inserts.0 q
    ∙ ap (λ (m : Bool). m || is_member int_eq (option_to_list (height_of pit b)) q) (is q)
    ∙ ap (λ (xs : List ℤ). is_member int_eq (heights_in pit b) q || is_member int_eq xs q) (listed (height_of pit b))
    ∙ sym (list_any-append (int_eq q) (heights_in pit b) (filter_map (height_of pit) (b ∷ [])))
    ∙ sym (ap (λ (xs : List ℤ). is_member int_eq xs q) (heights-more pit b))
