-- Nothing is written exactly where nothing differs.
use Rattle.std.proofs.Common.{◌≡◌, ◌≢◌, ℕ, zero, suc, ◌+◌, ◌<◌, ℤ, pos, Bool, true, false, List, [], ◌∷◌, ◌++◌, length, Option, cond, refl, sym, ap, ◌∙◌, arith, inl, inr, if◌then◌else◌}
use Rattle.std.specs.Prelude.{flat_map}
use Rattle.std.specs.Option.{option_eq}
use Rattle.std.specs.Ordering.{int_eq}
use Rattle.std.specs.List.{range_with_len}
use Rattle.std.proofs.lemmas.Bool.{false≢true, cond-false}
use Rattle.std.proofs.lemmas.Bool.Decides.{Decides-int_eq}
use Rattle.pit_model.specs.Pit.{Pit}
use Rattle.pit_plan.specs.Schedule.{Commit, held_period, limit_of, load_of, value_of, share, earned_in, is_in, coef_of}
use Rattle.pit_plan.proofs.CallerLemmas.{flat_map-none, total-same}
use Rattle.pit_step.specs.declared.status.Status.TheVariants.{Fine}
use Rattle.pit_diff.specs.Changes.{Change, is_same, change_at, changes_of, goes, moved, move_of, periods_and_none, moves_from, moves_by, moves_of}
use Rattle.pit_diff.specs.Laid.{LeaveTheSame}
use Rattle.pit_diff.specs.DiffText.{change_text, changes_text, moves_text, by_cell, limit_line, limit_change, limits_text, load_line, load_change, loads_text, value_line, value_change, diff_text, diff_status, diff_answer}
use Rattle.pit_diff.proofs.Ranges.{flat_map-below}
use Rattle.pit_diff.proofs.Same.{period-decides, limit-decides, tells}
use Rattle.pit_diff.proofs.Counting.{moved-none, moved-more, goes-elsewhere}

-- ---- lists without an item

front-nil : {X : Type 0} (xs ys : List X) → xs ++ ys ≡ [] → xs ≡ []
front-nil [] ys none = refl
front-nil (x ∷ xs) ys none = cc

rest-nil : {X : Type 0} (xs ys : List X) → xs ++ ys ≡ [] → ys ≡ []
rest-nil [] ys none = none
rest-nil (x ∷ xs) ys none = cc

some-item : {X : Type 0} (xs : List X) → 0 < length xs → xs ≡ [] → ⊥
some-item xs some none = let same = ap length none in omega (arith, some, same)

-- a list that is left out where a test passes
passed : {X : Type 0} (test : Bool) (xs : List X) → 0 < length xs → (if test then [] else xs) ≡ [] → test ≡ true
passed true xs some none = refl
passed false xs some none = absurd (some-item xs some none)

left-out : {X : Type 0} (test : Bool) (xs : List X) → test ≡ true → (if test then [] else xs) ≡ []
left-out true xs is = refl
left-out false xs is = absurd (false≢true is)

flat-nothing : {X Y : Type 0} (f : X → List Y) (xs : List X) → ((x : X) → f x ≡ []) → flat_map f xs ≡ []
flat-nothing f [] none = refl
flat-nothing {X} {Y} f (x ∷ xs) none = ap (λ (ys : List Y). ys ++ flat_map f xs) (none x) ∙ flat-nothing f xs none

below-nothing : {X : Type 0} (f : ℕ → List X) (n : ℕ) → ((k : ℕ) → k < n → f k ≡ []) → flat_map f (range_with_len 0 n) ≡ []
below-nothing {X} f n none =
    let nothing : ℕ → List X = λ (k : ℕ). [] in
    flat_map-below f nothing n none ∙ flat-nothing nothing (range_with_len 0 n) (λ k. refl)

flat-items : {X Y : Type 0} (f : X → List Y) (xs : List X) → ((x : X) → 0 < length (f x)) → flat_map f xs ≡ [] → xs ≡ []
flat-items f [] some none = refl
flat-items f (x ∷ xs) some none = absurd (some-item (f x) (some x) (front-nil (f x) (flat_map f xs) none))

-- ---- lines

some_change : (change : Change) → 0 < length (change_text change)
unfolding change_text
some_change change = omega arith

some_limit : (r t : ℕ) (old new : Option ℤ) → 0 < length (limit_line r t old new)
unfolding limit_line
some_limit r t old new = omega arith

-- ---- nothing is written

block-same : (blocks : ℕ) (old new : ℕ → Option ℕ) (b : ℕ) → b < blocks → changes_text (changes_of blocks old new) ≡ [] → old b ≡ new b
unfolding changes_of
block-same blocks old new b below none =
    let no_change = flat-items change_text (flat_map (change_at old new) (range_with_len 0 blocks)) some_change none in
    let here : change_at old new b ≡ [] = flat_map-none (change_at old new) 0 blocks b no_change (omega arith) (omega (arith, below)) in
    (period-decides (old b) (new b)).0 (passed (is_same (old b) (new b)) (record { block = b; old = old b; new = new b } ∷ []) (omega arith) here)

limit-same : (pit : Pit) (old new : ℕ → ℕ → Option ℤ) (r t : ℕ) → r < pit.resources → t < pit.periods → limits_text pit old new ≡ [] → old r t ≡ new r t
unfolding by_cell
limit-same pit old new r t known in_time none =
    let row : flat_map (λ (q : ℕ). limit_change q t (old q t) (new q t)) (range_with_len 0 pit.resources) ≡ [] =
    flat_map-none (λ (u : ℕ). flat_map (λ (q : ℕ). limit_change q u (old q u) (new q u)) (range_with_len 0 pit.resources)) 0 pit.periods t none (omega arith) (omega (arith, in_time)) in
    let here : limit_change r t (old r t) (new r t) ≡ [] = flat_map-none (λ (q : ℕ). limit_change q t (old q t) (new q t)) 0 pit.resources r row (omega arith) (omega (arith, known)) in
    (limit-decides (old r t) (new r t)).0 (passed (option_eq int_eq (old r t) (new r t)) (limit_line r t (old r t) (new r t)) (some_limit r t (old r t) (new r t)) here)

parts-nil : (a b c rest : List ℕ) → a ++ (b ++ (c ++ rest)) ≡ [] → (a ≡ []) × (c ≡ [])
parts-nil a b c rest none = (front-nil a (b ++ (c ++ rest)) none, front-nil c rest (rest-nil b (c ++ rest) (rest-nil a (b ++ (c ++ rest)) none)))

pub none-same : (pit : Pit) (before after : List Commit) → diff_text pit before after ≡ [] → LeaveTheSame pit before after
unfolding diff_text
none-same pit before after none =
    let old = held_period before in
    let new = held_period after in
    let parts =
    parts-nil (changes_text (changes_of pit.blocks old new)) (moves_text (moves_of pit.blocks pit.periods old new)) (limits_text pit (limit_of pit before) (limit_of pit after))
    (loads_text pit old new ++ value_change (value_of pit old) (value_of pit new)) none in
    record {
      periods = λ b below. block-same pit.blocks old new b below parts.0;
      limits = λ r t known in_time. limit-same pit (limit_of pit before) (limit_of pit after) r t known in_time parts.1;
    }

-- ---- nothing differs

module _ (old new : ℕ → Option ℕ) where
  no-changes : (n : ℕ) → ((b : ℕ) → b < n → old b ≡ new b) → changes_of n old new ≡ []
  unfolding changes_of
  no-changes n same =
      below-nothing (change_at old new) n
      (λ b below. left-out (is_same (old b) (new b)) (record { block = b; old = old b; new = new b } ∷ []) ((period-decides (old b) (new b)).1 (same b below)))

  none-moved : (n : ℕ) (from to : Option ℕ) → ((b : ℕ) → b < n → old b ≡ new b) → from ≢ to → moved n old new from to ≡ 0
  none-moved zero from to same apart = moved-none old new from to
  none-moved (suc n) from to same apart =
      let one : ◌≡◌ {A = ℕ} (n + 1) (suc n) = omega arith in
      let less = none-moved n from to (λ b below. same b (omega (arith, below))) apart in
      let stays = goes-elsewhere old new from to n (λ both. apart (sym both.0 ∙ (same n (omega arith) ∙ both.1))) in
      let none : ◌≡◌ {A = ℕ} (cond (goes old new from to n) 1 0) 0 = cond-false (goes old new from to n) 1 0 stays in
      ap (λ (k : ℕ). moved k old new from to) (sym one) ∙ omega (arith, moved-more old new n from to, less, none)

  no-move : (from to : Option ℕ) (number : ℕ) → (from ≢ to → number ≡ 0) → move_of from to number ≡ []
  no-move from to number none =
      elim (tells (is_same from to) (period-decides from to)) [ inl same ↦ rw (same.0) refl | inr other ↦ rw (other.0, none other.1) refl ]

  no-moves : (n periods : ℕ) → ((b : ℕ) → b < n → old b ≡ new b) → moves_by periods (moved n old new) ≡ []
  unfolding moves_by
  no-moves n periods same =
      flat-nothing (moves_from periods (moved n old new)) (periods_and_none periods)
      (λ from.
      flat-nothing (λ (to : Option ℕ). move_of from to (moved n old new from to)) (periods_and_none periods)
      (λ to. no-move from to (moved n old new from to) (λ apart. none-moved n from to same apart)))

no-cells : (pit : Pit) (text : ℕ → ℕ → List ℕ) → ((r t : ℕ) → r < pit.resources → t < pit.periods → text r t ≡ []) → by_cell pit text ≡ []
unfolding by_cell
no-cells pit text none =
    below-nothing (λ (t : ℕ). flat_map (λ (r : ℕ). text r t) (range_with_len 0 pit.resources)) pit.periods
    (λ t in_time. below-nothing (λ (r : ℕ). text r t) pit.resources (λ r known. none r t known in_time))

load-same : (pit : Pit) (old new : ℕ → Option ℕ) (r t : ℕ) → ((b : ℕ) → b < pit.blocks → old b ≡ new b) → load_of pit old r t ≡ load_of pit new r t
load-same pit old new r t same =
    total-same (share pit old r t) (share pit new r t) pit.blocks (λ b below. ap (λ (p : Option ℕ). if is_in p t then coef_of pit b r else pos 0) (same b below))

value-same : (pit : Pit) (old new : ℕ → Option ℕ) → ((b : ℕ) → b < pit.blocks → old b ≡ new b) → value_of pit old ≡ value_of pit new
value-same pit old new same =
    total-same (λ b. earned_in pit b (old b)) (λ b. earned_in pit b (new b)) pit.blocks (λ b below. ap (earned_in pit b) (same b below))

parts-none : (a b c d e : List ℕ) → a ≡ [] → b ≡ [] → c ≡ [] → d ≡ [] → e ≡ [] → a ++ (b ++ (c ++ (d ++ e))) ≡ []
parts-none a b c d e no_a no_b no_c no_d no_e = rw (no_a, no_b, no_c, no_d, no_e) refl

pub same-none : (pit : Pit) (before after : List Commit) → LeaveTheSame pit before after → diff_text pit before after ≡ []
unfolding diff_text
same-none pit before after leave =
    let old = held_period before in
    let new = held_period after in
    parts-none (changes_text (changes_of pit.blocks old new)) (moves_text (moves_of pit.blocks pit.periods old new)) (limits_text pit (limit_of pit before) (limit_of pit after))
    (loads_text pit old new) (value_change (value_of pit old) (value_of pit new))
    (ap changes_text (no-changes old new pit.blocks leave.periods))
    (ap moves_text (no-moves old new pit.blocks pit.periods leave.periods))
    (no-cells pit (λ r t. limit_change r t (limit_of pit before r t) (limit_of pit after r t))
    (λ r t known in_time.
    left-out (option_eq int_eq (limit_of pit before r t) (limit_of pit after r t)) (limit_line r t (limit_of pit before r t) (limit_of pit after r t))
    ((limit-decides (limit_of pit before r t) (limit_of pit after r t)).1 (leave.limits r t known in_time))))
    (no-cells pit (λ r t. load_change r t (load_of pit old r t) (load_of pit new r t))
    (λ r t known in_time.
    left-out (int_eq (load_of pit old r t) (load_of pit new r t)) (load_line r t (load_of pit old r t) (load_of pit new r t))
    ((Decides-int_eq (load_of pit old r t) (load_of pit new r t)).1 (load-same pit old new r t leave.periods))))
    (left-out (int_eq (value_of pit old) (value_of pit new)) (value_line (value_of pit old) (value_of pit new))
    ((Decides-int_eq (value_of pit old) (value_of pit new)).1 (value-same pit old new leave.periods)))

-- ---- the status

fine-none : (text : List ℕ) → diff_status text ≡ Fine → text ≡ []
fine-none [] fine = refl
fine-none (b ∷ text) fine = cc

pub fine-same : (pit : Pit) (before after : List Commit) → (diff_answer pit before after).1 ≡ Fine → LeaveTheSame pit before after
fine-same pit before after fine = none-same pit before after (fine-none (diff_text pit before after) fine)

pub same-fine : (pit : Pit) (before after : List Commit) → LeaveTheSame pit before after → (diff_answer pit before after).1 ≡ Fine
same-fine pit before after leave = ap diff_status (same-none pit before after leave)
