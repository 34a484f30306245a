-- What is read of lists by block.
use Rattle.std.proofs.Common.{◌≡◌, ℕ, zero, suc, ◌-◌, ◌<◌, ◌≤◌, List, [], ◌∷◌, ◌++◌, length, get_or, set, take, replicate, refl, sym, ap, ◌∙◌, subst, arith, length-append, take_all, get_or-set_other, get_or-set_same}
use Rattle.std.proofs.lemmas.Bool.{cases_lt, cases_eq}
use Rattle.std.proofs.Math.Logic.{⊎_elim}
use Rattle.std.proofs.lemmas.List.{get_or-replicate, get_or_past, length-replicate}

-- a list of defaults reads as the default at each index
pub get_or-replicate_default : {X : Type 0} (n i : ℕ) (d : X) → get_or (replicate n d) i d ≡ d
get_or-replicate_default n i d =
    ⊎_elim
    (λ within. get_or-replicate n i d d within)
    (λ past. let long = length-replicate n d in get_or_past (replicate n d) i d (omega arith))
    (cases_lt i n)

pub get_or-append_default : {X : Type 0} (xs : List X) (n i : ℕ) (d : X) → get_or (xs ++ replicate n d) i d ≡ get_or xs i d
get_or-append_default [] n i d = get_or-replicate_default n i d
get_or-append_default (x ∷ xs) n zero d = refl
get_or-append_default (x ∷ xs) n (suc i) d = get_or-append_default xs n i d

-- a list that is filled up with defaults reads as it did
filled_up : {X : Type 0} (n known : ℕ) (xs filled : List X) (d : X) → length xs ≤ n → filled ≡ take n xs ++ replicate (n - known) d → filled ≡ xs ++ replicate (n - known) d
filled_up n known xs filled d few is = is ∙ ap (λ l. l ++ replicate (n - known) d) (take_all n xs few)

pub get_or-filled_up : {X : Type 0} (n known : ℕ) (xs filled : List X) (d : X) → length xs ≤ n → filled ≡ take n xs ++ replicate (n - known) d → (i : ℕ) → get_or filled i d ≡ get_or xs i d
get_or-filled_up n known xs filled d few is i = ap (λ l. get_or l i d) (filled_up n known xs filled d few is) ∙ get_or-append_default xs (n - known) i d

pub length-filled_up : {X : Type 0} (n known : ℕ) (xs filled : List X) (d : X) → length xs ≤ n → known ≡ length xs → filled ≡ take n xs ++ replicate (n - known) d → length filled ≡ n
length-filled_up n known xs filled d few long is =
    omega (arith, ap length (filled_up n known xs filled d few is), length-append xs (replicate (n - known) d), length-replicate (n - known) d)

-- what holds of each row and of a new one holds once the new one is set
pub set-each : {X : Type 0} (P : ℕ → X → Type 0) (rows : List X) (i : ℕ) (row d : X) → i < length rows → P i row → ((k : ℕ) → P k (get_or rows k d)) → (k : ℕ) → P k (get_or (set rows i row) k d)
set-each P rows i row d within here each k =
    ⊎_elim
    (λ same. subst (λ j. P j (get_or (set rows i row) j d)) (sym same) (rw get_or-set_same here))
    (λ other. rw (get_or-set_other rows i k row d other) (each k))
    (cases_eq k i)
