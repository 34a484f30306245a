-- Lists that are made piece by piece, and the texts of lists.
use Rattle.std.proofs.Common.{◌≡◌, ℕ, ◌+◌, ◌<◌, List, [], ◌∷◌, ◌++◌, length, take, get_or, Some, refl, ap, ◌∙◌}
use Rattle.std.specs.Prelude.{flat_map}
use Rattle.std.proofs.lemmas.List.{append-nil, take_more}
use Rattle.std.proofs.lemmas.List.Concat.{flat_map-append}
use Rattle.pit_plan.specs.declared.breach.Breach.{Breach}
use Rattle.pit_step.specs.LineTexts.{breach_text}
use Rattle.pit_all.specs.declared.out_of_order.OutOfOrder.{OutOfOrder}
use Rattle.pit_all.specs.AllText.{out_text, outs_text, overs_text}

pub pieces-more : {X Y : Type 0} (piece : X → List Y) (xs : List X) (i : ℕ) (d : X) → i < length xs → flat_map piece (take (i + 1) xs) ≡ flat_map piece (take i xs) ++ piece (get_or xs i d)
pieces-more {X} {Y} piece xs i d below =
    ap (λ (ys : List X). flat_map piece ys) (take_more xs i d below)
    ∙ flat_map-append piece (take i xs) (get_or xs i d ∷ [])
    ∙ ap (λ (ys : List Y). flat_map piece (take i xs) ++ ys) (append-nil (piece (get_or xs i d)))

pub outs-none : outs_text [] ≡ []
unfolding outs_text
outs-none = refl

pub outs-more : (pairs : List OutOfOrder) (i : ℕ) (d : OutOfOrder) → i < length pairs → outs_text (take (i + 1) pairs) ≡ outs_text (take i pairs) ++ out_text (get_or pairs i d)
unfolding outs_text
outs-more pairs i d below = pieces-more out_text pairs i d below

pub overs-none : overs_text [] ≡ []
unfolding overs_text
overs-none = refl

pub overs-more : (overs : List Breach) (i : ℕ) (d : Breach) → i < length overs → overs_text (take (i + 1) overs) ≡ overs_text (take i overs) ++ breach_text (Some (get_or overs i d))
unfolding overs_text
overs-more overs i d below = pieces-more (λ over. breach_text (Some over)) overs i d below
