-- Lists cut at the elements that pass a test.
use Rattle.std.proofs.Common.{◌≡◌, ℕ, suc, ◌+◌, ◌-◌, ◌<◌, ◌≤◌, not, nat_lt, nat_eq, Bool, true, false, Some, None, List, [], ◌∷◌, length, take, drop, map, filter, get_or, ap, sym, ◌∙◌, refl, arith, add_comm, subst, length-take}
use Rattle.std.specs.List.{slice_split, onto_first, position, position_or_len}
pub use Rattle.std.proofs.lemmas.List.{take_rest}
use Rattle.std.proofs.lemmas.List.{take_all, drop_all, drop_more, drop-take, take-take}
use Rattle.std.proofs.lemmas.List.Sums.{passes_at_first, prefix_len-le-length}
use Rattle.std.proofs.lemmas.Bool.{cond-true, cond-false}
use Rattle.std.proofs.lemmas.List.Splits.{slice_split_first}
use Rattle.std.proofs.lemmas.Bool.Decides.{nat_tests}
use Rattle.pit_num.specs.Lines.{without_empty_last}
use Rattle.pit_text.specs.Cutting.{lines_of, fields_of, is_gap, without_return, begins_with_eof}
use Rattle.pit_text.specs.Inside.Cutting.{FieldBegins}

-- what a first place says
pub place_is : {X : Type 0} (p : X → Bool) (xs : List X) (at : ℕ) → Some at ≡ position p xs → (at ≡ position_or_len p xs) × (at < length xs)
place_is p xs at h = grind (arith, nat_tests)

pub no_place : {X : Type 0} (p : X → Bool) (xs : List X) → None ≡ position p xs → length xs ≤ position_or_len p xs
no_place p xs h = grind (arith, nat_tests)

-- where nothing passes, a list is one part
one_part : {X : Type 0} (p : X → Bool) (x : X) (xs : List X) (b : Bool) → p x ≡ b → (length xs ≤ position_or_len p xs → slice_split p xs ≡ xs ∷ []) → length xs + 1 ≤ position_or_len p (x ∷ xs) → slice_split p (x ∷ xs) ≡ (x ∷ xs) ∷ []
one_part p x xs true e rest h = let at : position_or_len p (x ∷ xs) ≡ 0 = simp e in absurd (omega (arith, at))
one_part p x xs false e rest h =
    let longer : length xs ≤ position_or_len p xs = (let at : position_or_len p (x ∷ xs) ≡ position_or_len p xs + 1 = simp e (add_comm 1 (position_or_len p xs)) in omega (arith, at)) in
    simp e (ap (onto_first x) (rest longer))

pub split_none : {X : Type 0} (p : X → Bool) (xs : List X) → length xs ≤ position_or_len p xs → slice_split p xs ≡ xs ∷ []
split_none p [] h = refl
split_none p (x ∷ xs) h = one_part p x xs (p x) refl (split_none p xs) (omega arith)

-- a split has a first part
some_parts : {X : Type 0} (x : X) (parts : List (List X)) → (y : List X) × (ys : List (List X)) × (onto_first x parts ≡ y ∷ ys)
some_parts x [] = (x ∷ [], [], refl)
some_parts x (part ∷ parts) = (x ∷ part, parts, refl)

parts_by : {X : Type 0} (p : X → Bool) (x : X) (xs : List X) (b : Bool) → p x ≡ b → (y : List X) × (ys : List (List X)) × (slice_split p (x ∷ xs) ≡ y ∷ ys)
parts_by p x xs true e = ([], slice_split p xs, simp e)
parts_by p x xs false e = let parts = some_parts x (slice_split p xs) in (parts.0, parts.1, simp e parts.2)

pub has_parts : {X : Type 0} (p : X → Bool) (xs : List X) → (y : List X) × (ys : List (List X)) × (slice_split p xs ≡ y ∷ ys)
has_parts p [] = ([], [], refl)
has_parts p (x ∷ xs) = parts_by p x xs (p x) refl

-- the first part, and what is behind it
pub split_at : (p : ℕ → Bool) (xs : List ℕ) (at : ℕ) → Some at ≡ position p xs → slice_split p xs ≡ take at xs ∷ slice_split p (drop (at + 1) xs)
split_at p xs at h =
    let is : at ≡ position_or_len p xs = (place_is p xs at h).0 in
    let within : position_or_len p xs < length xs = omega (arith, is, (place_is p xs at h).1) in
    slice_split_first p xs 0 within ∙ ap (λ (n : ℕ). take n xs ∷ slice_split p (drop (n + 1) xs)) (sym is)

-- ---- lines

abbrev is_feed : ℕ → Bool
is_feed b = nat_eq b 10

pub no_lines : lines_of [] ≡ []
unfolding lines_of
no_lines = refl

line_in_front : (x y : List ℕ) (parts ys : List (List ℕ)) → parts ≡ y ∷ ys → without_empty_last (x ∷ parts) ≡ x ∷ without_empty_last parts
line_in_front x y parts ys e = ap (λ (ps : List (List ℕ)). without_empty_last (x ∷ ps)) e ∙ sym (ap (λ (ps : List (List ℕ)). x ∷ without_empty_last ps) e)

pub line_then : (text : List ℕ) (at : ℕ) → Some at ≡ position (λ b. nat_eq b 10) text → lines_of text ≡ without_return (take at text) ∷ lines_of (drop (at + 1) text)
unfolding lines_of
line_then text at h =
    let parts = has_parts is_feed (drop (at + 1) text) in
    ap (λ (ps : List (List ℕ)). map without_return (without_empty_last ps)) (split_at is_feed text at h)
    ∙ ap (λ (ls : List (List ℕ)). map without_return ls) (line_in_front (take at text) parts.0 (slice_split is_feed (drop (at + 1) text)) parts.1 parts.2)

pub line_alone : (text : List ℕ) → None ≡ position (λ b. nat_eq b 10) text → 0 < length text → lines_of text ≡ without_return text ∷ []
unfolding lines_of
line_alone text h some =
    let whole : without_empty_last (text ∷ []) ≡ text ∷ [] = grind (arith, nat_tests) in
    ap (λ (ps : List (List ℕ)). map without_return (without_empty_last ps)) (split_none is_feed text (no_place is_feed text h))
    ∙ ap (λ (ls : List (List ℕ)). map without_return ls) whole

-- ---- fields

pub gap_in_front : (b : ℕ) (line : List ℕ) → is_gap b ≡ true → fields_of (b ∷ line) ≡ fields_of line
unfolding fields_of
gap_in_front b line e = simp e

-- gaps in front don't matter
skip_by : (b : ℕ) (line : List ℕ) (c : Bool) → is_gap b ≡ c → fields_of line ≡ fields_of (drop (position_or_len (λ b. not (is_gap b)) line) line) → fields_of (b ∷ line) ≡ fields_of (drop (position_or_len (λ b. not (is_gap b)) (b ∷ line)) (b ∷ line))
skip_by b line true e rest =
    let at : position_or_len (λ b. not (is_gap b)) (b ∷ line) ≡ suc (position_or_len (λ b. not (is_gap b)) line) = simp e (omega arith) in
    gap_in_front b line e ∙ rest ∙ sym (ap (λ (n : ℕ). fields_of (drop n (b ∷ line))) at)
skip_by b line false e rest =
    let at : position_or_len (λ b. not (is_gap b)) (b ∷ line) ≡ 0 = simp e in
    sym (ap (λ (n : ℕ). fields_of (drop n (b ∷ line))) at)

skip : (line : List ℕ) → fields_of line ≡ fields_of (drop (position_or_len (λ b. not (is_gap b)) line) line)
skip [] = refl
skip (b ∷ line) = skip_by b line (is_gap b) refl (skip line)

pub fields_skip : (line : List ℕ) (at : ℕ) → Some at ≡ position (λ b. not (is_gap b)) line → fields_of line ≡ fields_of (drop at line)
fields_skip line at h = skip line ∙ ap (λ (n : ℕ). fields_of (drop n line)) (sym (place_is (λ b. not (is_gap b)) line at h).0)

pub no_fields : fields_of [] ≡ []
unfolding fields_of
no_fields = refl

pub fields_none : (line : List ℕ) → None ≡ position (λ b. not (is_gap b)) line → fields_of line ≡ []
fields_none line h = skip line ∙ ap (λ (l : List ℕ). fields_of l) (drop_all (position_or_len (λ b. not (is_gap b)) line) line (no_place (λ b. not (is_gap b)) line h)) ∙ no_fields

kept : (field : List ℕ) (more : List (List ℕ)) → 0 < length field → filter (λ f. nat_lt 0 (length f)) (field ∷ more) ≡ field ∷ filter (λ f. nat_lt 0 (length f)) more
kept field more some = let test : nat_lt 0 (length field) ≡ true = grind (arith, nat_tests) in simp test

begins_later : (text : List ℕ) → FieldBegins text → 0 < position_or_len is_gap text
begins_later [] h = absurd h
begins_later (b ∷ bs) h = let at : position_or_len is_gap (b ∷ bs) ≡ suc (position_or_len is_gap bs) = simp h (omega arith) in omega (arith, at)

pub has_byte : (text : List ℕ) → FieldBegins text → 0 < length text
has_byte [] h = absurd h
has_byte (b ∷ bs) h = omega arith

-- a byte that isn't a gap begins a field
pub begins_at : (line : List ℕ) (at : ℕ) → Some at ≡ position (λ b. not (is_gap b)) line → FieldBegins (drop at line)
begins_at line at h =
    let is : at ≡ position_or_len (λ b. not (is_gap b)) line = (place_is (λ b. not (is_gap b)) line at h).0 in
    let within : at < length line = (place_is (λ b. not (is_gap b)) line at h).1 in
    let passes : not (is_gap (get_or line at 0)) ≡ true = ap (λ (n : ℕ). not (is_gap (get_or line n 0))) is ∙ passes_at_first (λ b. not (is_gap b)) line 0 (omega (arith, is)) in
    let fails : is_gap (get_or line at 0) ≡ false = grind (arith, passes) in
    subst (λ (l : List ℕ). FieldBegins l) (sym (drop_more line at 0 within)) fails

pub field_then : (text : List ℕ) (at : ℕ) → FieldBegins text → Some at ≡ position is_gap text → fields_of text ≡ take at text ∷ fields_of (drop at text)
unfolding fields_of
field_then text at begins h =
    let is : at ≡ position_or_len is_gap text = (place_is is_gap text at h).0 in
    let within : at < length text = (place_is is_gap text at h).1 in
    let some : 0 < length (take at text) = omega (arith, length-take at text, begins_later text begins, is) in
    let passes : is_gap (get_or text at 0) ≡ true = ap (λ (n : ℕ). is_gap (get_or text n 0)) is ∙ passes_at_first is_gap text 0 (omega (arith, is)) in
    ap (λ (ps : List (List ℕ)). filter (λ f. nat_lt 0 (length f)) ps) (split_at is_gap text at h)
    ∙ kept (take at text) (slice_split is_gap (drop (at + 1) text)) some
    ∙ ap (λ (fs : List (List ℕ)). take at text ∷ fs) (sym (gap_in_front (get_or text at 0) (drop (at + 1) text) passes) ∙ ap (λ (l : List ℕ). fields_of l) (sym (drop_more text at 0 within)))

pub field_alone : (text : List ℕ) → FieldBegins text → None ≡ position is_gap text → fields_of text ≡ text ∷ []
unfolding fields_of
field_alone text begins h =
    let some : 0 < length text = has_byte text begins in
    ap (λ (ps : List (List ℕ)). filter (λ f. nat_lt 0 (length f)) ps) (split_none is_gap text (no_place is_gap text h))
    ∙ kept text [] some

-- a byte that isn't a gap is the first of the first field
front_part : (b : ℕ) (parts : List (List ℕ)) → (part : List ℕ) × (more : List (List ℕ)) × (filter (λ f. nat_lt 0 (length f)) (onto_first b parts) ≡ (b ∷ part) ∷ more)
front_part b [] = ([], [], kept (b ∷ []) [] (omega arith))
front_part b (part ∷ parts) = (part, filter (λ f. nat_lt 0 (length f)) parts, kept (b ∷ part) parts (omega arith))

front_of : (b : ℕ) (bs : List ℕ) → is_gap b ≡ false → (part : List ℕ) × (more : List (List ℕ)) × (fields_of (b ∷ bs) ≡ (b ∷ part) ∷ more)
unfolding fields_of
front_of b bs begins =
    let front = front_part b (slice_split is_gap bs) in
    let split : slice_split is_gap (b ∷ bs) ≡ onto_first b (slice_split is_gap bs) = simp begins in
    (front.0, front.1, ap (λ (ps : List (List ℕ)). filter (λ f. nat_lt 0 (length f)) ps) split ∙ front.2)

front_at : (line : List ℕ) (at : ℕ) → Some at ≡ position (λ b. not (is_gap b)) line → (part : List ℕ) × (more : List (List ℕ)) × (fields_of line ≡ (get_or line at 0 ∷ part) ∷ more)
front_at line at h =
    let within : at < length line = (place_is (λ b. not (is_gap b)) line at h).1 in
    let rest : drop at line ≡ get_or line at 0 ∷ drop (at + 1) line = drop_more line at 0 within in
    let front = front_of (get_or line at 0) (drop (at + 1) line) (subst (λ (l : List ℕ). FieldBegins l) rest (begins_at line at h)) in
    (front.0, front.1, fields_skip line at h ∙ ap (λ (l : List ℕ). fields_of l) rest ∙ front.2)

pub has_fields : (line : List ℕ) (at : ℕ) → Some at ≡ position (λ b. not (is_gap b)) line → nat_eq (length (fields_of line)) 0 ≡ false
has_fields line at h =
    let front = front_at line at h in
    let some : nat_eq (length ((get_or line at 0 ∷ front.0) ∷ front.1)) 0 ≡ false = grind (arith, nat_tests) in
    ap (λ (fs : List (List ℕ)). nat_eq (length fs) 0) front.2 ∙ some

-- a first field that begins with another byte than `E` isn't `EOF`
pub not_last : (line : List ℕ) (at : ℕ) → Some at ≡ position (λ b. not (is_gap b)) line → nat_eq (get_or line at 0) 69 ≡ false → begins_with_eof (fields_of line) ≡ false
not_last line at h other =
    let front = front_at line at h in
    ap (λ (fs : List (List ℕ)). begins_with_eof fs) front.2 ∙ simp other

-- the first field, by its length
field_by : (text : List ℕ) (b : Bool) → nat_lt (position_or_len is_gap text) (length text) ≡ b → FieldBegins text → fields_of text ≡ take (position_or_len is_gap text) text ∷ fields_of (drop (position_or_len is_gap text) text)
field_by text true e begins = field_then text (position_or_len is_gap text) begins (sym (cond-true _ _ _ e))
field_by text false e begins =
    let long : length text ≤ position_or_len is_gap text = grind (arith, nat_tests) in
    field_alone text begins (sym (cond-false _ _ _ e))
    ∙ ap (λ (l : List ℕ). l ∷ []) (sym (take_all (position_or_len is_gap text) text long))
    ∙ ap (λ (fs : List (List ℕ)). take (position_or_len is_gap text) text ∷ fs) (sym (ap (λ (l : List ℕ). fields_of l) (drop_all (position_or_len is_gap text) text long) ∙ no_fields))

pub field_first : (text : List ℕ) → FieldBegins text → fields_of text ≡ take (position_or_len is_gap text) text ∷ fields_of (drop (position_or_len is_gap text) text)
field_first text begins = field_by text (nat_lt (position_or_len is_gap text) (length text)) refl begins

-- the first field of a line in front of a text, and the line's rest in front of what follows
pub field_in_front : (text : List ℕ) (len start end : ℕ) → len ≤ length text → Some start ≡ position (λ b. not (is_gap b)) (take len text) → end ≡ position_or_len is_gap (take (len - start) (drop start text))
    → fields_of (take len text) ≡ take end (drop start text) ∷ fields_of (take (len - start - end) (drop end (drop start text)))
field_in_front text len start end within h ends =
    let line = take len text in
    let rest = take (len - start) (drop start text) in
    let below : start < len = omega (arith, length-take len text, (place_is (λ b. not (is_gap b)) line start h).1) in
    let cut : drop start line ≡ rest = ap (λ (n : ℕ). drop start (take n text)) (omega (arith, below)) ∙ drop-take start (len - start) text in
    let begins : FieldBegins rest = subst (λ (l : List ℕ). FieldBegins l) cut (begins_at line start h) in
    let most : end ≤ len - start = omega (arith, ends, prefix_len-le-length (λ b. not (is_gap b)) rest, length-take (len - start) (drop start text)) in
    let more : end + (len - start - end) ≡ len - start = omega (arith, most) in
    let field : take end rest ≡ take end (drop start text) = take-take end (len - start) (drop start text) most in
    let behind : drop end rest ≡ take (len - start - end) (drop end (drop start text)) = ap (λ (n : ℕ). drop end (take n (drop start text))) (sym more) ∙ drop-take end (len - start - end) (drop start text) in
    fields_skip line start h ∙ ap (λ (l : List ℕ). fields_of l) cut ∙ field_first rest begins
    ∙ ap (λ (n : ℕ). take n rest ∷ fields_of (drop n rest)) (sym ends)
    ∙ ap (λ (f : List ℕ). f ∷ fields_of (drop end rest)) field ∙ ap (λ (l : List ℕ). take end (drop start text) ∷ fields_of l) behind

pub lines_empty : (text : List ℕ) → length text ≡ 0 → lines_of text ≡ []
lines_empty [] h = no_lines
lines_empty (b ∷ bs) h = absurd (omega (arith, h))

pub ruleset cuts = (line_then, line_alone, lines_empty, no_lines, fields_skip, fields_none, field_then, field_alone, begins_at, place_is, no_fields, take_rest)

pub ruleset counts = (has_fields, fields_none)

pub ruleset fields = (fields_none, field_in_front, place_is, take_rest)
