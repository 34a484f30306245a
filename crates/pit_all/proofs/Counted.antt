-- Pairs that are counted, of which the first ones are kept.
use Rattle.std.proofs.Common.{◌≡◌, ℕ, ◌+◌, ◌<◌, ◌≤◌, true, false, List, [], ◌∷◌, ◌++◌, length, take, get_or, Option, refl, sym, ap, subst, ◌∙◌, arith, append_assoc, inl, inr}
use Rattle.std.proofs.lemmas.Bool.Decides.{leb_tells}
use Rattle.std.proofs.lemmas.List.{append-nil, take_all, take-append-le, length-take-le, length_push}
use Rattle.std.specs.Prelude.{flat_map}
use Rattle.std.specs.List.{range_with_len}
use Rattle.pit_plan.specs.Schedule.{in_order}
use Rattle.pit_plan.proofs.CallerLemmas.{flat_map-pushed}
use Rattle.pit_all.specs.declared.out_of_order.OutOfOrder.{OutOfOrder}
use Rattle.pit_all.specs.declared.outs.TheConstants.{PAIRS_SHOWN}
use Rattle.pit_all.specs.Breaches.{out_at}
use Rattle.pit_all.specs.Outs.{Counted, Counts, Notes}
use Rattle.pit_all.proofs.Pieces.{pieces-more}

-- ---- the first ones of a list

pub kept-full : {X : Type 0} (n : ℕ) (old list : List X) (x : X) → n ≤ length old → old ≡ take n list → old ≡ take n (list ++ x ∷ [])
kept-full n old list x full is =
    elim (leb_tells n (length list)) [
      | inl within ↦ is ∙ sym (take-append-le n list (x ∷ []) within.1)
      | inr past ↦
          let all = ap length is ∙ ap length (take_all n list (omega (arith, past.1))) in
          absurd (omega (arith, past.1, full, all))
    ]

pub kept-more : {X : Type 0} (n : ℕ) (old list : List X) (x : X) → length old < n → old ≡ take n list → old ++ x ∷ [] ≡ take n (list ++ x ∷ [])
kept-more n old list x room is =
    elim (leb_tells n (length list)) [
      | inl within ↦
          let long = ap length is ∙ length-take-le n list within.1 in
          absurd (omega (arith, long, room))
      | inr past ↦
          ap (λ xs. xs ++ x ∷ []) (is ∙ take_all n list (omega (arith, past.1)))
          ∙ sym (take_all n (list ++ x ∷ []) (let long = length_push list x in omega (arith, past.1, long)))
    ]

-- ---- what is noted

pub notes-none : (old : Counted) → Notes old [] old
notes-none old pairs counts = subst (Counts old) (sym (append-nil pairs)) counts

pub notes-more : (old between new : Counted) (some more : List OutOfOrder) → Notes old some between → Notes between more new → Notes old (some ++ more) new
notes-more old between new some more first next pairs counts = subst (Counts new) (append_assoc pairs some more) (next (pairs ++ some) (first pairs counts))

pub notes-one : (old new : Counted) (pair : OutOfOrder) → ((pairs : List OutOfOrder) → old.first ≡ take PAIRS_SHOWN pairs → new.first ≡ take PAIRS_SHOWN (pairs ++ pair ∷ [])) → new.count ≡ old.count + 1
    → Notes old (pair ∷ []) new
notes-one old new pair keeps one pairs counts = record {
  first = keeps pairs counts.first;
  count = let long = length_push pairs pair in omega (arith, long, one, counts.count);
}

-- ---- the pairs of a block, and of all

pub notes-step : (old between new : Counted) (schedule : ℕ → Option ℕ) (b : ℕ) (preds : List ℕ) (i d : ℕ) → i < length preds → Notes old (flat_map (out_at schedule b) (take i preds)) between
    → Notes between (out_at schedule b (get_or preds i d)) new → Notes old (flat_map (out_at schedule b) (take (i + 1) preds)) new
notes-step old between new schedule b preds i d below first next =
    subst (λ (pairs : List OutOfOrder). Notes old pairs new) (sym (pieces-more (out_at schedule b) preds i d below))
    (notes-more old between new (flat_map (out_at schedule b) (take i preds)) (out_at schedule b (get_or preds i d)) first next)

pub counts-next : (old new : Counted) (rows : ℕ → List OutOfOrder) (n : ℕ) → Counts old (flat_map rows (range_with_len 0 n)) → Notes old (rows n) new → Counts new (flat_map rows (range_with_len 0 (n + 1)))
counts-next old new rows n counts notes =
    subst (Counts new) (flat_map-pushed rows [] (flat_map rows (range_with_len 0 n)) (flat_map rows (range_with_len 0 n) ++ rows n) n refl refl) (notes (flat_map rows (range_with_len 0 n)) counts)

-- ---- a pair

pub none-out : (old : Counted) (schedule : ℕ → Option ℕ) (b a : ℕ) → in_order (schedule b) (schedule a) ≡ true → Notes old (out_at schedule b a) old
none-out old schedule b a kept = rw kept (notes-none old)

pub one-out : (old new : Counted) (schedule : ℕ → Option ℕ) (b a : ℕ) (period earlier : Option ℕ) → period ≡ schedule b → earlier ≡ schedule a → in_order period earlier ≡ false
    → Notes old (record { block = b; before = a; period = period; earlier = earlier } ∷ []) new → Notes old (out_at schedule b a) new
one-out old new schedule b a period earlier is also fails notes =
    let out : in_order (schedule b) (schedule a) ≡ false = ap (λ (p : Option ℕ). in_order p (schedule a)) (sym is) ∙ ap (in_order period) (sym also) ∙ fails in
    rw out
    (subst (λ (p : Option ℕ). Notes old (record { block = b; before = a; period = p; earlier = schedule a } ∷ []) new) is
    (subst (λ (p : Option ℕ). Notes old (record { block = b; before = a; period = period; earlier = p } ∷ []) new) also notes))
