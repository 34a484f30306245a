-- What is read of profits that are kept as numbers and a set of blocks.
use Rattle.std.proofs.Common.{◌≡◌, ℕ, ℤ, pos, ◌<◌, Bool, true, false, cond, List, length, get_or, set, replicate, Option, Some, None, is_some, sym, ap, ◌∙◌, length-set, get_or-set_same, get_or-set_other}
use Rattle.std.proofs.lemmas.List.{get_or_read}
use Rattle.pit_model.specs.Inside.BlockSet.{member_values}
use Rattle.pit_model.specs.Inside.Profits.{value_in, profits_in}
use Rattle.pit_model.proofs.BlockSets.{IsWithBlock, get_or-member_values, member_values-none, member_values-with, below-known, known-view}

pub profits_in-none : (values : List ℤ) (known : List Bool) (blocks : ℕ) → length values ≡ blocks → ((b : ℕ) → get_or known b false ≡ false) → profits_in values known ≡ replicate blocks None
profits_in-none values known blocks long none = member_values-none (length values) known (value_in values) none ∙ ap (λ (n : ℕ). replicate n None) long

pub profits_in-set : (values : List ℤ) (before after : List Bool) (b : ℕ) (v : ℤ) → b < length values → IsWithBlock before after b → profits_in (set values b v) after ≡ set (profits_in values before) b (Some v)
profits_in-set values before after b v within with =
    ap (λ (n : ℕ). member_values n after (value_in (set values b v))) (length-set values b v)
    ∙ member_values-with (length values) before after (value_in values) (value_in (set values b v)) b v within with (get_or-set_same values b v (pos 0) within) (λ k other. get_or-set_other values b k v (pos 0) other)

pub profit-view : (values : List ℤ) (known : List Bool) (b : ℕ) (shown : List (Option ℤ)) (x : ℤ) → profits_in values known ≡ shown → b < length shown → is_some (get_or shown b None) ≡ true → x ≡ get_or values b x → Some x ≡ get_or shown b None
profit-view values known b shown x view_is within said read =
    let below : b < length values = below-known (length values) known (value_in values) shown b view_is within in
    let bit : get_or known b false ≡ true = known-view (length values) known (value_in values) shown b view_is within ∙ said in
    sym
    (ap (λ (l : List (Option ℤ)). get_or l b None) (sym view_is)
    ∙ get_or-member_values (length values) known (value_in values) b below
    ∙ ap (λ (c : Bool). cond c (Some (value_in values b)) None) bit
    ∙ ap (λ (v : ℤ). Some v) (sym (get_or_read values b x below read (pos 0))))
