-- What one write after another leaves on a device.
use Rattle.std.proofs.Common.{◌≡◌, ℕ, ◌+◌, Bool, Option, Some, None, List, [], ◌∷◌, ◌++◌, refl, sym, ap, subst, ◌∙◌, append_assoc, length, length-append, take, drop, ◌≤◌, ◌-◌, ◌<◌, suc, arith, IsTrue, IsErr, OnErr, OnOk, Result, Ok, Err, replicate}
use Rattle.std.proofs.lemmas.Bool.{false≢true}
use Rattle.std.proofs.lemmas.List.{append-nil, take-replicate, take_at, take-append-drop, take_rest}
use Rattle.std.proofs.Math.Seq.{take-add}
use Rattle.std.specs.Io.KnownBytes.{Appends, Keeps}
use Rattle.pit_num.specs.Printed.{AppendsFront, WritesText, WritesIfAny}

pub appends_nothing : (a : Option (List ℕ)) → Appends a a []
appends_nothing None = tt
appends_nothing (Some xs) = sym (append-nil xs)

pub appends_more : (a b c : Option (List ℕ)) (xs ys : List ℕ) → Appends a b xs → Appends b c ys → Appends a c (xs ++ ys)
appends_more None b c xs ys p q = tt
appends_more (Some us) None c xs ys p q = absurd p
appends_more (Some us) (Some vs) None xs ys p q = absurd q
appends_more (Some us) (Some vs) (Some ws) xs ys p q = q ∙ ap (λ zs. zs ++ ys) p ∙ append_assoc us xs ys

pub appends_kept : (a b c : Option (List ℕ)) (xs : List ℕ) → Appends a b xs → Keeps b c → Appends a c xs
appends_kept None b c xs p q = tt
appends_kept (Some us) None c xs p q = absurd p
appends_kept (Some us) (Some vs) None xs p q = absurd q
appends_kept (Some us) (Some vs) (Some ws) xs p q = q ∙ p

-- a front of a text is one of a longer text
pub front_more : (a b : Option (List ℕ)) (xs ys : List ℕ) → AppendsFront a b xs → AppendsFront a b (xs ++ ys)
front_more a b xs ys front = record { written = front.written; rest = front.rest ++ ys; whole = ap (λ zs. zs ++ ys) front.whole ∙ append_assoc front.written front.rest ys; appended = front.appended }

-- and behind what was written before
pub front_after : (a b c : Option (List ℕ)) (xs ys : List ℕ) → Appends a b xs → AppendsFront b c ys → AppendsFront a c (xs ++ ys)
front_after a b c xs ys before front = record {
  written = xs ++ front.written;
  rest = front.rest;
  whole = ap (λ zs. xs ++ zs) front.whole ∙ sym (append_assoc xs front.written front.rest);
  appended = appends_more a b c xs front.written before front.appended;
}

-- a fact that follows from another at any answer
pub map_ok : {T E : Type 0} (r : Result T E) {P Q : Type 0} → (P → Q) → OnOk r P → OnOk r Q
map_ok (Ok x) f p = f p
map_ok (Err e) f p = tt

pub map_err : {T E : Type 0} (r : Result T E) {P Q : Type 0} → (P → Q) → OnErr r P → OnErr r Q
map_err (Ok x) f p = tt
map_err (Err e) f p = f p

-- a call whose first write failed
pub failed_early : {D E : Type 0} (contents : D → Option (List ℕ)) (has_failed : D → Bool) (old new : D) (text : List ℕ) (result : Result (Unit {0}) E)
    → IsErr result → AppendsFront (contents old) (contents new) text → IsTrue (has_failed new) → WritesText contents has_failed old new text result
failed_early contents has_failed old new text (Ok x) is front failed = absurd (false≢true is)
failed_early contents has_failed old new text (Err e) is front failed = record { ok = tt; err = front; fault = failed; sound = tt }

-- the same of a text that may be empty
pub failed_early_if_any : {D E : Type 0} (contents : D → Option (List ℕ)) (has_failed : D → Bool) (old new : D) (text : List ℕ) (result : Result (Unit {0}) E)
    → IsErr result → AppendsFront (contents old) (contents new) text → IsTrue (has_failed new) → (text ≡ [] → ⊥) → WritesIfAny contents has_failed old new text result
failed_early_if_any contents has_failed old new text (Ok x) is front failed some = absurd (false≢true is)
failed_early_if_any contents has_failed old new text (Err e) is front failed some = record { ok = tt; err = front; fault = failed; sound = tt; empty = λ none. absurd (some none) }

-- a write behind another
pub written_behind : {D E : Type 0} (contents : D → Option (List ℕ)) (has_failed : D → Bool) (old between new : D) (front rest text : List ℕ) (result : Result (Unit {0}) E)
    → Appends (contents old) (contents between) front → WritesText contents has_failed between new rest result → front ++ rest ≡ text → WritesText contents has_failed old new text result
written_behind contents has_failed old between new front rest text result before writes whole =
    subst (λ (xs : List ℕ). WritesText contents has_failed old new xs result) whole (record {
      ok = map_ok result (λ after. appends_more (contents old) (contents between) (contents new) front rest before after) writes.ok;
      err = map_err result (λ after. front_after (contents old) (contents between) (contents new) front rest before after) writes.err;
      fault = writes.fault;
      sound = writes.sound;
    })

-- a text that isn't empty
pub some_written : {D E : Type 0} (contents : D → Option (List ℕ)) (has_failed : D → Bool) (old new : D) (text other : List ℕ) (result : Result (Unit {0}) E)
    → WritesIfAny contents has_failed old new text result → text ≡ other → 0 < length other → WritesText contents has_failed old new other result
some_written contents has_failed old new text other result writes same some =
    subst (λ (xs : List ℕ). WritesText contents has_failed old new xs result) same (record {
      ok = writes.ok;
      err = writes.err;
      fault = writes.fault;
      sound = map_ok result (λ sound. sound (subst (λ (xs : List ℕ). 0 < length xs) (sym same) some)) writes.sound;
    })

-- a point and zeros, over which digits were written at the end
pub placed : (k start : ℕ) (digits old new : List ℕ) → start + length digits ≡ 1 + k → length digits ≤ k → k ≤ 18 → old ≡ 46 ∷ replicate 18 48 → drop start new ≡ digits ++ drop (1 + k) old → take start new ≡ take start old → take (1 + k) new ≡ 46 ∷ (replicate (k - length digits) 48 ++ digits)
placed k start digits old new total short wide is back front =
    let zeros : ℕ = k - length digits in
    let begins : start ≡ suc (k - length digits) = omega arith in
    let at_front : take start old ≡ 46 ∷ replicate (k - length digits) 48 =
    ap (λ (xs : List ℕ). take start xs) is ∙ ap (λ (n : ℕ). take n (46 ∷ replicate 18 48)) begins ∙ ap (λ (xs : List ℕ). 46 ∷ xs) (take-replicate (k - length digits) 18 48 (omega arith)) in
    ap (λ (n : ℕ). take n new) (sym total)
    ∙ take-add start (length digits) new
    ∙ ap (λ (xs : List ℕ). xs ++ take (length digits) (drop start new)) (front ∙ at_front)
    ∙ ap (λ (xs : List ℕ). (46 ∷ replicate (k - length digits) 48) ++ take (length digits) xs) back
    ∙ ap (λ (xs : List ℕ). (46 ∷ replicate (k - length digits) 48) ++ xs) (take_at digits (drop (1 + k) old) (length digits) refl)

-- what is left after some of it was given
pub rest_after : (text done rest : List ℕ) (n : ℕ) → text ≡ done ++ rest → text ≡ (done ++ take n rest) ++ take (length rest - n) (drop n rest)
rest_after text done rest n is =
    is ∙ ap (λ (xs : List ℕ). done ++ xs) (sym (take-append-drop n rest))
    ∙ sym (append_assoc done (take n rest) (drop n rest))
    ∙ ap (λ (xs : List ℕ). (done ++ take n rest) ++ xs) (sym (take_rest rest n))

-- nothing is left of an empty text
pub rest_of_none : (text done rest : List ℕ) → text ≡ done ++ rest → 0 < length rest → text ≡ [] → ⊥
rest_of_none text done rest is some none = let long : length text ≡ length done + length rest = ap length is ∙ length-append done rest in let short : length text ≡ 0 = ap length none in omega arith
