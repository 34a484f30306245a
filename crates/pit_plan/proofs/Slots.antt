-- What writes leave of a list that has an item for each number.
use Rattle.std.proofs.Common.{◌≡◌, ◌≢◌, ℕ, zero, suc, ◌+◌, ◌*◌, ◌<◌, ℤ, cond, List, [], ◌∷◌, ◌++◌, length, length-append, length-set, take, get_or, Option, Some, None, refl, sym, ap, subst, ◌∙◌, arith, inl, inr}
use Rattle.std.specs.Prelude.{nat_eq, unwrap_or, is_some, slice_set, replicate, All, AllPairs}
use Rattle.std.specs.Map.{lookup}
use Rattle.std.specs.List.{AllByRecursion}
use Rattle.std.proofs.lemmas.List.{take_more, get_or-set_same, get_or-set_other, get_or-replicate}
use Rattle.std.proofs.lemmas.List.Sums.{fold_push}
use Rattle.std.proofs.lemmas.List.Elements.{recursion_from_All}
use Rattle.std.proofs.lemmas.Bool.Decides.{eqb_tells}
use Rattle.pit_model.specs.Fitting.{Fits, RevisionsFit}
use Rattle.pit_model.specs.Pit.{Pit, cell_of, upper_of}
use Rattle.pit_plan.specs.Schedule.{Commit, Writes, by_block, write_of, revision_of, held_period, last_number, limit_of}
use Rattle.pit_plan.specs.Standing.{Standing, IsPlanOf, Adds}
use Rattle.pit_plan.specs.Inside.Plan.{with_writes}
use Rattle.pit_plan.specs.Inside.Touched.{overlaid_item}
use Rattle.pit_plan.specs.Limits.{cell_limit, at_cell}
use Rattle.pit_plan.specs.Inside.Limits.{by_cell}
use Rattle.pit_plan.proofs.Commits.{held_period-nil, held_period-push, last_number-nil, last_number-push, limit_of-nil, limit_of-push}
use Rattle.pit_plan.proofs.ByCell.{cell-below, lookup-cell, once-cells}

pub with_writes-none : {X Y : Type 0} (value : ℕ × Y → X) (xs : List X) → with_writes value xs [] ≡ xs
unfolding with_writes
with_writes-none value xs = refl

-- one more write
pub with_writes-more : {X Y : Type 0} (value : ℕ × Y → X) (xs ys : List X) (ws : List (ℕ × Y)) (i : ℕ) (d : ℕ × Y) → i < length ws → ys ≡ with_writes value xs (take i ws)
    → slice_set ys (get_or ws i d).0 (value (get_or ws i d)) ≡ with_writes value xs (take (i + 1) ws)
unfolding with_writes
with_writes-more value xs ys ws i d within is =
    rw (take_more ws i d within, is) (sym (fold_push (λ zs v. slice_set zs v.0 (value v)) xs (take i ws) (get_or ws i d)))

pub length-with_writes : {X Y : Type 0} (value : ℕ × Y → X) (xs : List X) (ws : List (ℕ × Y)) → length (with_writes value xs ws) ≡ length xs
unfolding with_writes
length-with_writes value xs [] = refl
length-with_writes value xs (w ∷ ws) = length-with_writes value (slice_set xs w.0 (value w)) ws ∙ length-set xs w.0 (value w)

-- a block that no write names keeps its item
pub with_writes-other : {X Y : Type 0} (value : ℕ × Y → X) (xs : List X) (ws : List (ℕ × Y)) (b : ℕ) (d : X) → lookup (nat_eq b) ws ≡ None → get_or (with_writes value xs ws) b d ≡ get_or xs b d
unfolding with_writes
with_writes-other value xs [] b d none = refl
with_writes-other value xs (w ∷ ws) b d none =
    elim (eqb_tells b w.0) [
      | inl here ↦ absurd (cc (ap (λ x. cond x (Some w.1) (lookup (nat_eq b) ws)) here.0, none))
      | inr there ↦
          with_writes-other value (slice_set xs w.0 (value w)) ws b d (sym (ap (λ x. cond x (Some w.1) (lookup (nat_eq b) ws)) there.0) ∙ none)
          ∙ get_or-set_other xs w.0 b (value w) d there.1
    ]

abbrev Once : {Y : Type 0} → List (ℕ × Y) → Type 0
Once [] = Unit {0}
Once (w ∷ ws) = AllByRecursion (λ v. w.0 ≢ v.0) ws × Once ws

once-from_pairs : {Y : Type 0} (ws : List (ℕ × Y)) → AllPairs (λ v w. v.0 ≢ w.0) ws → Once ws
once-from_pairs [] h = tt
once-from_pairs (w ∷ ws) h =
    (recursion_from_All (λ v. w.0 ≢ v.0) ws (λ k d l. h 0 (suc k) d (omega arith) (omega arith)), once-from_pairs ws (λ i j d lt l. h (suc i) (suc j) d (omega arith) (omega arith)))

absent : {Y : Type 0} (ws : List (ℕ × Y)) (b : ℕ) → AllByRecursion (λ v. b ≢ v.0) ws → lookup (nat_eq b) ws ≡ None
absent [] b h = refl
absent (w ∷ ws) b h = elim (eqb_tells b w.0) [ inl here ↦ absurd (h.0 here.1) | inr there ↦ ap (λ x. cond x (Some w.1) (lookup (nat_eq b) ws)) there.0 ∙ absent ws b h.1 ]

-- a block that a write names has the value of that write
with_writes-named : {X Y : Type 0} (value : ℕ × Y → X) (xs : List X) (ws : List (ℕ × Y)) (b : ℕ) (d : X) (p : Y) → Once ws → b < length xs → lookup (nat_eq b) ws ≡ Some p
    → get_or (with_writes value xs ws) b d ≡ value (b, p)
unfolding with_writes
with_writes-named {Y = Y} value xs [] b d p once below some = absurd (cc)
with_writes-named {Y = Y} value xs (w ∷ ws) b d p once below some =
    elim (eqb_tells b w.0) [
      | inl here ↦
          let is : Some w.1 ≡ Some p = sym (ap (λ x. cond x (Some w.1) (lookup (nat_eq b) ws)) here.0) ∙ some in
          let none : lookup (nat_eq b) ws ≡ None = absent ws b (subst (λ (x : ℕ). AllByRecursion (λ v. x ≢ v.0) ws) (sym here.1) once.0) in
          let what : w.1 ≡ p = cc in
          let same : w ≡ (b, p) = ap (λ (x : ℕ). (x, w.1)) (sym here.1) ∙ ap (λ (y : Y). (b, y)) what in
          with_writes-other value (slice_set xs w.0 (value w)) ws b d none
          ∙ (subst (λ (x : ℕ). get_or (slice_set xs x (value w)) b d ≡ value w) here.1 (get_or-set_same xs b (value w) d below) ∙ ap value same)
      | inr there ↦
          with_writes-named value (slice_set xs w.0 (value w)) ws b d p once.1 (simp length-set below) (sym (ap (λ x. cond x (Some w.1) (lookup (nat_eq b) ws)) there.0) ∙ some)
    ]

-- a block that a write names is in range, where each write is
named-below : {Y : Type 0} (ws : List (ℕ × Y)) (b n : ℕ) (p : Y) → AllByRecursion (λ w. w.0 < n) ws → lookup (nat_eq b) ws ≡ Some p → b < n
named-below [] b n p each some = absurd (cc (some))
named-below (w ∷ ws) b n p each some =
    elim (eqb_tells b w.0) [
      | inl here ↦ subst (λ (k : ℕ). k < n) (sym here.1) each.0
      | inr there ↦ named-below ws b n p each.1 (sym (ap (λ x. cond x (Some w.1) (lookup (nat_eq b) ws)) there.0) ∙ some)
    ]

-- periods into which writes are laid are those over which they are laid
pub with_writes-overlaid : (periods : List (Option ℕ)) (writes : Writes) (b : ℕ) → AllPairs (λ v w. v.0 ≢ w.0) writes → All (λ w. w.0 < length periods) writes
    → by_block (with_writes (λ w. w.1) periods writes) b ≡ overlaid_item (by_block periods) writes b
with_writes-overlaid periods writes b once below = by (lookup (nat_eq b) writes) refl
  where
    by : (x : Option (Option ℕ)) → lookup (nat_eq b) writes ≡ x → by_block (with_writes (λ w. w.1) periods writes) b ≡ overlaid_item (by_block periods) writes b
    by None is = with_writes-other (λ w. w.1) periods writes b None is ∙ sym (ap (λ y. unwrap_or y (by_block periods b)) is)
    by (Some p) is =
        let known = named-below writes b (length periods) p (recursion_from_All (λ w. w.0 < length periods) writes below) is in
        with_writes-named (λ w. w.1) periods writes b None p (once-from_pairs writes once) known is ∙ sym (ap (λ y. unwrap_or y (by_block periods b)) is)

-- the plan after a commit stands for what it stood for and then the commit
pub with_writes-adds : (old : Standing) (commit : Commit) → length old.periods ≡ old.pit.blocks → length old.versions ≡ old.pit.blocks → length old.limits ≡ old.pit.periods * old.pit.resources
    → Fits old.pit.blocks old.pit.periods commit.writes → RevisionsFit old.pit.resources old.pit.periods commit.revises
    → Adds old commit (record {
      pit = old.pit;
      commits = old.commits + 1;
      periods = with_writes (λ w. w.1) old.periods commit.writes;
      versions = with_writes (λ w. old.commits + 1) old.versions commit.writes;
      limits = with_writes (λ v. v.1) old.limits (by_cell old.pit commit.revises);
    })
with_writes-adds old commit periods versions limits fits revised = record {
  pit = refl;
  stands = λ commits st. record {
    count = simp length-append (omega (arith, st.count));
    period = λ b below. by-period commits st b below (write_of commit b) refl;
    version = λ b below. by-version commits st b below (write_of commit b) refl;
    limit = λ r t lr lt. by-limit commits st r t lr lt (revision_of commit r t) refl;
  };
}
  where
    by-period : (commits : List Commit) → IsPlanOf old commits → (b : ℕ) → b < old.pit.blocks → (x : Option (Option ℕ)) → write_of commit b ≡ x
        → get_or (with_writes (λ w. w.1) old.periods commit.writes) b None ≡ held_period (commits ++ commit ∷ []) b
    by-period commits st b below None is =
        with_writes-other (λ w. w.1) old.periods commit.writes b None is ∙ (st.period b below ∙ sym (held_period-push commits commit b ∙ ap (λ y. unwrap_or y (held_period commits b)) is))
    by-period commits st b below (Some p) is =
        with_writes-named (λ w. w.1) old.periods commit.writes b None p (once-from_pairs commit.writes fits.once) (omega (arith, below, periods)) is
        ∙ sym (held_period-push commits commit b ∙ ap (λ y. unwrap_or y (held_period commits b)) is)

    by-version : (commits : List Commit) → IsPlanOf old commits → (b : ℕ) → b < old.pit.blocks → (x : Option (Option ℕ)) → write_of commit b ≡ x
        → get_or (with_writes (λ w. old.commits + 1) old.versions commit.writes) b 0 ≡ last_number (commits ++ commit ∷ []) b
    by-version commits st b below None is =
        with_writes-other (λ w. old.commits + 1) old.versions commit.writes b 0 is
        ∙ (st.version b below ∙ sym (last_number-push commits commit b ∙ ap (λ y. cond (is_some y) (length commits + 1) (last_number commits b)) is))
    by-version commits st b below (Some p) is =
        with_writes-named (λ w. old.commits + 1) old.versions commit.writes b 0 p (once-from_pairs commit.writes fits.once) (omega (arith, below, versions)) is
        ∙ (omega (arith, st.count) ∙ sym (last_number-push commits commit b ∙ ap (λ y. cond (is_some y) (length commits + 1) (last_number commits b)) is))

    by-limit : (commits : List Commit) → IsPlanOf old commits → (r t : ℕ) → r < old.pit.resources → t < old.pit.periods → (x : Option (Option ℤ)) → revision_of commit r t ≡ x
        → get_or (with_writes (λ v. v.1) old.limits (by_cell old.pit commit.revises)) (cell_of old.pit r t) None ≡ limit_of old.pit (commits ++ commit ∷ []) r t
    by-limit commits st r t lr lt None is =
        with_writes-other (λ v. v.1) old.limits (by_cell old.pit commit.revises) (cell_of old.pit r t) None (lookup-cell old.pit r t commit.revises lr revised ∙ is)
        ∙ (st.limit r t lr lt ∙ sym (limit_of-push old.pit commits commit r t ∙ ap (λ y. unwrap_or y (limit_of old.pit commits r t)) is))
    by-limit commits st r t lr lt (Some limit) is =
        with_writes-named (λ v. v.1) old.limits (by_cell old.pit commit.revises) (cell_of old.pit r t) None limit (once-from_pairs (by_cell old.pit commit.revises) (once-cells old.pit commit.revises revised))
        (omega (arith, cell-below old.pit r t lr lt, limits)) (lookup-cell old.pit r t commit.revises lr revised ∙ is)
        ∙ sym (limit_of-push old.pit commits commit r t ∙ ap (λ y. unwrap_or y (limit_of old.pit commits r t)) is)

-- a pit without a period for any block, and with its own limits
pub nothing-stands : (pit : Pit) (limits : List (Option ℤ)) → ((r t : ℕ) → r < pit.resources → t < pit.periods → at_cell pit (cell_limit limits) r t ≡ upper_of pit r t)
    → IsPlanOf (record { pit = pit; commits = 0; periods = replicate pit.blocks None; versions = replicate pit.blocks 0; limits = limits }) []
nothing-stands pit limits each = record {
  count = refl;
  period = λ b below. get_or-replicate pit.blocks b None None below ∙ sym (held_period-nil b);
  version = λ b below. get_or-replicate pit.blocks b 0 0 below ∙ sym (last_number-nil b);
  limit = λ r t lr lt. each r t lr lt ∙ sym (limit_of-nil pit r t);
}

-- of two writes at one place the second stands
pub set-twice : {X : Type 0} (xs : List X) (i : ℕ) (a b : X) → slice_set (slice_set xs i a) i b ≡ slice_set xs i b
set-twice [] i a b = refl
set-twice (x ∷ xs) zero a b = refl
set-twice (x ∷ xs) (suc i) a b = ap (λ ys. x ∷ ys) (set-twice xs i a b)
