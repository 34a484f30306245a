-- Which pits are sound.
use Rattle.std.proofs.Common.{◌≡◌, ℕ, ◌≤◌, ◌*◌, ℤ, pos, FitsSigned, List, [], Option, None, Some, unwrap_or, sym, ◌∙◌, subst, ◌==◌, ◌<◌, false, length, arith}
use Rattle.std.specs.List.{list_any}
use Rattle.std.proofs.Math.ListN.{length-set}
use Rattle.std.proofs.lemmas.Int.{ints}
use Rattle.std.proofs.lemmas.List.{length-replicate}
use Rattle.std.specs.Int.{w64}
use Rattle.pit_num.specs.declared.limits.TheConstants.{PERIODS_MAX, RATE_MAX}
use Rattle.pit_model.specs.declared.counts.TheConstants.{BLOCKS_MAX, RESOURCES_MAX}
use Rattle.pit_model.specs.Pit.{Pit, IsSound, AreCoefs, ArePreds, coefs_of, empty_pit, with_pair, with_coef, preds_from, with_preds}
use Rattle.pit_model.proofs.Rows.{get_or-replicate_default, set-each}
use Rattle.pit_model.proofs.Coefs.{AreCoefs-with_pair}
use Rattle.pit_model.proofs.Preds.{ArePreds-preds_from}

pub IsSound-empty : (blocks periods resources rate : ℕ) → (1 ≤ blocks) × (blocks ≤ BLOCKS_MAX) → (1 ≤ periods) × (periods ≤ PERIODS_MAX) → resources ≤ RESOURCES_MAX → rate ≤ RATE_MAX → IsSound (empty_pit blocks periods resources rate)
IsSound-empty blocks periods resources rate b p r i = record {
  some_block = b.0;
  few_blocks = b.1;
  some_period = p.0;
  few_periods = p.1;
  few_resources = r;
  low_rate = i;
  each_profit = length-replicate blocks None;
  each_coefs = length-replicate blocks [];
  each_preds = length-replicate blocks None;
  each_bound = length-replicate (periods * resources) (None, None);
  each_place = length-replicate blocks None;
  profits = λ block. subst (λ (o : Option ℤ). FitsSigned w64 (unwrap_or o (pos 0))) (sym (get_or-replicate_default blocks block None)) (omega (arith, ints));
  coefs = λ block. subst (λ (row : List (ℕ × ℤ)). AreCoefs resources row) (sym (get_or-replicate_default blocks block [])) (record { rising = λ k within. absurd (omega arith); in_range = λ k d within. absurd (omega arith); small = λ k d within. absurd (omega arith) });
  preds = λ block. subst (λ (o : Option (List ℕ)). ArePreds blocks block (unwrap_or o [])) (sym (get_or-replicate_default blocks block None)) (record { rising = λ k within. absurd (omega arith); in_range = λ k d within. absurd (omega arith); others = λ k d within. absurd (omega arith) });
}

pub IsSound-from_empty : (pit : Pit) (blocks periods resources rate : ℕ) → pit ≡ empty_pit blocks periods resources rate → (1 ≤ blocks) × (blocks ≤ BLOCKS_MAX) → (1 ≤ periods) × (periods ≤ PERIODS_MAX) → resources ≤ RESOURCES_MAX → rate ≤ RATE_MAX → IsSound pit
IsSound-from_empty pit blocks periods resources rate is b p r i = subst IsSound (sym is) (IsSound-empty blocks periods resources rate b p r i)

pub IsSound-with_coef : (pit : Pit) (block resource : ℕ) (value : ℤ) → IsSound pit → block < pit.blocks → resource < pit.resources → FitsSigned w64 value → list_any (λ pair. pair.0 == resource) (coefs_of pit block) ≡ false → IsSound (with_coef pit block resource value)
IsSound-with_coef pit block resource value sound b r v absent = record {
  some_block = sound.some_block;
  few_blocks = sound.few_blocks;
  some_period = sound.some_period;
  few_periods = sound.few_periods;
  few_resources = sound.few_resources;
  low_rate = sound.low_rate;
  each_profit = sound.each_profit;
  each_coefs = length-set pit.coefs block (with_pair (coefs_of pit block) (resource, value)) ∙ sound.each_coefs;
  each_preds = sound.each_preds;
  each_bound = sound.each_bound;
  each_place = sound.each_place;
  profits = sound.profits;
  coefs = set-each (λ _ row. AreCoefs pit.resources row) pit.coefs block (with_pair (coefs_of pit block) (resource, value)) [] (let long = sound.each_coefs in omega arith) (AreCoefs-with_pair pit.resources (coefs_of pit block) resource value (sound.coefs block) r v absent) sound.coefs;
  preds = sound.preds;
}

pub IsSound-with_preds : (pit : Pit) (block : ℕ) (listed : List ℕ) → IsSound pit → block < pit.blocks → IsSound (with_preds pit block listed)
IsSound-with_preds pit block listed sound b = record {
  some_block = sound.some_block;
  few_blocks = sound.few_blocks;
  some_period = sound.some_period;
  few_periods = sound.few_periods;
  few_resources = sound.few_resources;
  low_rate = sound.low_rate;
  each_profit = sound.each_profit;
  each_coefs = sound.each_coefs;
  each_preds = length-set pit.preds block (Some (preds_from (length pit.preds) block listed)) ∙ sound.each_preds;
  each_bound = sound.each_bound;
  each_place = sound.each_place;
  profits = sound.profits;
  coefs = sound.coefs;
  preds =
      set-each (λ k (row : Option (List ℕ)). ArePreds pit.blocks k (unwrap_or row [])) pit.preds block (Some (preds_from (length pit.preds) block listed)) None (let long = sound.each_preds in omega arith)
      (subst (λ n. ArePreds n block (preds_from (length pit.preds) block listed)) sound.each_preds (ArePreds-preds_from (length pit.preds) block listed))
      sound.preds;
}
