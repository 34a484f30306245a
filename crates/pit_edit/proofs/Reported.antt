-- Which conflicts are reported, and of which edits there is no change.
use Rattle.std.proofs.Common.{◌≡◌, ℕ, zero, suc, ◌<◌, Bool, true, false, cond, List, [], ◌∷◌, length, get_or, Option, Some, None, refl, ap, subst, ◌∙◌, arith}
use Rattle.std.specs.Prelude.{Contains, ◌||◌, ◌&&◌, not, if◌then◌else◌}
use Rattle.std.specs.List.{filter, range_with_len}
use Rattle.std.proofs.lemmas.Bool.{ltb-true, lt-ltb, eq-eqb}
use Rattle.std.proofs.lemmas.List.Elements.{All-weaker, All-contains, All-contains_itself, All-filter, filter_passes, Contains-append_left, Contains-append_right, Contains-push}
use Rattle.pit_desk.specs.declared.reply.EntryReply.{EntryReply}
use Rattle.pit_edit.specs.Changes.{Edit, base_of, wanted_of, is_same, is_apart, is_change, changes_of, is_late, late_of}
use Rattle.pit_edit.specs.EditText.{was_moved, reported_of}
use Rattle.pit_edit.proofs.Filters.{filter-none, range-below}

-- ---- filters

module _ (p : ℕ → Bool) where
  behind : (b : Bool) (y x : ℕ) (zs : List ℕ) → Contains zs x → Contains (cond b (y ∷ zs) zs) x
  behind true y x zs among = Contains-append_right (y ∷ []) zs x among
  behind false y x zs among = among

  at_front : (b : Bool) (x : ℕ) (zs : List ℕ) → b ≡ true → Contains (cond b (x ∷ zs) zs) x
  at_front true x zs is = Contains-append_left (x ∷ []) zs x (Contains-push [] x)
  at_front false x zs is = cc

  -- an element that passes is kept
  kept-at : (xs : List ℕ) (x i : ℕ) → i < length xs → get_or xs i x ≡ x → p x ≡ true → Contains (filter p xs) x
  kept-at [] x i below at passes = absurd (omega (arith, below))
  kept-at (y ∷ xs) x zero below at passes = subst (Contains (filter p (y ∷ xs))) at (at_front (p y) y (filter p xs) (ap p at ∙ passes))
  kept-at (y ∷ xs) x (suc i) below at passes = behind (p y) y x (filter p xs) (kept-at xs x i (omega (arith, below)) at passes)

  kept : (xs : List ℕ) (x : ℕ) → Contains xs x → p x ≡ true → Contains (filter p xs) x
  kept xs x among passes = kept-at xs x among.0 among.1 among.2 passes

  -- and what is kept is one of them, and passes
  kept-one : (xs : List ℕ) (x : ℕ) → Contains (filter p xs) x → Contains xs x
  kept-one xs x among = All-contains (Contains xs) (filter p xs) x (All-filter p (Contains xs) xs (All-contains_itself xs)) among

  kept-passes : (xs : List ℕ) (x : ℕ) → Contains (filter p xs) x → p x ≡ true
  kept-passes xs x among = All-contains (λ (y : ℕ). p y ≡ true) (filter p xs) x (filter_passes p xs) among

-- ---- conflicts

module _ (is_partial : Bool) (reply : Option EntryReply) (start : ℕ) (version : ℕ → ℕ) (changes : List ℕ) (b : ℕ) where
  pub reported : Contains (reported_of is_partial reply (late_of start version changes)) b → Contains changes b × (start < version b)
  reported = by (is_partial || was_moved reply)
    where
      by : (tells : Bool) → Contains (if tells then late_of start version changes else []) b → Contains changes b × (start < version b)
      by true among = (kept-one (is_late start version) changes b among, ltb-true start (version b) (kept-passes (is_late start version) changes b among))
      by false among = absurd (omega (arith, among.1))

  pub none-left : (is_partial || was_moved reply) ≡ true → Contains changes b → start < version b → Contains (reported_of is_partial reply (late_of start version changes)) b
  none-left tells among late = by (is_partial || was_moved reply) tells
    where
      by : (is : Bool) → is ≡ true → Contains (if is then late_of start version changes else []) b
      by true is = kept (is_late start version) changes b among (lt-ltb start (version b) late)
      by false is = cc

-- ---- edits without a change

-- what is wanted is what the base has
pub unchanged : (blocks : ℕ) (edit : Edit) (held : ℕ → Option ℕ) → ((b : ℕ) → b < blocks → wanted_of edit b ≡ base_of edit b) → changes_of blocks edit held ≡ []
unfolding changes_of
unchanged blocks edit held same =
    filter-none (is_change edit held) (range_with_len 0 blocks)
    (All-weaker (λ b. b < blocks) (λ b. is_change edit held b ≡ false) (λ b below. none b (same b below)) (range_with_len 0 blocks) (range-below blocks))
  where
    itself : (p : Option ℕ) → is_same p p ≡ true
    itself None = refl
    itself (Some t) = eq-eqb t t refl

    none : (b : ℕ) → wanted_of edit b ≡ base_of edit b → is_change edit held b ≡ false
    none b is = ap (λ (p : Option ℕ). is_apart (base_of edit b) (held b) p) is ∙ ap (λ (s : Bool). not s && not (is_same (base_of edit b) (held b))) (itself (base_of edit b))
