-- What callers cite of prefixes of one list.
use Rattle.std.proofs.Common.{◌≤◌, List, [], ◌++◌, length, sym, ap, ◌∙◌, arith, append_assoc, append-nil, length-append}
use mathlib.Core.List.{IsPrefix}

pub prefix-refl : {A : Type 0} (xs : List A) → IsPrefix xs xs
prefix-refl xs = ([], append-nil xs)

pub prefix-trans : {A : Type 0} (xs ys zs : List A) → IsPrefix xs ys → IsPrefix ys zs → IsPrefix xs zs
prefix-trans xs ys zs p q = (p.0 ++ q.0, sym (append_assoc xs p.0 q.0) ∙ (ap (λ l. l ++ q.0) p.1 ∙ q.1))

pub length-prefix : {A : Type 0} (xs ys : List A) → IsPrefix xs ys → length xs ≤ length ys
length-prefix xs ys p = omega (arith, ap length p.1, length-append xs p.0)
