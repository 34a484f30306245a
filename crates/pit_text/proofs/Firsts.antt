-- What is said first.
use Rattle.std.proofs.Common.{◌≡◌, List, [], ◌∷◌, ◌++◌, Option, Some, None, ap, ◌∙◌, refl}
use Rattle.std.specs.List.{filter_map, cons_option}
use Rattle.std.proofs.lemmas.List.Elements.{filter_map-append}
use Rattle.pit_text.specs.Earlier.{first_of, first_value}

abbrev pub or_else : {X : Type 0} → Option X → Option X → Option X
or_else None other = other
or_else (Some x) other = Some x

pub or_else-none : {X : Type 0} (o : Option X) → or_else o None ≡ o
or_else-none None = refl
or_else-none (Some x) = refl

first_of-append : {X : Type 0} (xs ys : List X) → first_of (xs ++ ys) ≡ or_else (first_of xs) (first_of ys)
first_of-append [] ys = refl
first_of-append (x ∷ xs) ys = refl

first_of-one : {X : Type 0} (o : Option X) → first_of (cons_option o []) ≡ o
first_of-one None = refl
first_of-one (Some x) = refl

-- what is looked for first stands in the earlier facts, or in the last
pub first_value-more : {F X : Type 0} (h : F → Option X) (xs : List F) (x : F) → first_value h (xs ++ x ∷ []) ≡ or_else (first_value h xs) (h x)
first_value-more h xs x =
    ap (λ ys. first_of ys) (filter_map-append h xs (x ∷ []))
    ∙ first_of-append (filter_map h xs) (filter_map h (x ∷ []))
    ∙ ap (λ o. or_else (first_of (filter_map h xs)) o) (first_of-one (h x))
