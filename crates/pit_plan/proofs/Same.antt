-- Schedules that agree on all blocks are alike, and limits that agree on all resources and periods.
use Rattle.std.proofs.Common.{◌≡◌, ◌≢◌, ℕ, ◌<◌, cond, refl, ℤ, pos, List, [], ◌∷◌, ◌++◌, Option, Some, None, sym, ap, subst, ◌∙◌}
use Rattle.std.specs.Prelude.{unwrap_or}
use Rattle.pit_num.specs.Least.{ComesBefore}
use Rattle.pit_num.proofs.CallerLemmas.{least-same}
use Rattle.pit_model.specs.Fitting.{RevisionsFit}
use Rattle.pit_model.specs.Pit.{Pit, IsSound, lower_of}
use Rattle.pit_plan.proofs.Sums.{total-same}
use Rattle.pit_plan.specs.Schedule.{Commit, IsPred, by_block, coef_of, write_of, revision_of, held_period, limit_of, is_in, share, load_of, value_of, earned_in, in_order, is_within}
use Rattle.pit_plan.specs.Standing.{Standing, IsPlanOf, limit_in_force}
use Rattle.pit_plan.specs.Breaches.{IsFirstBreach, IsOrdered, IsOutOfOrder, IsOverLimit, IsBreachOf, IsGood, IsGoodNow}
use Rattle.pit_plan.specs.Limits.{cell_limit, at_cell}
use Rattle.pit_plan.specs.Inside.Limits.{by_cell}
use Rattle.pit_plan.specs.Inside.Touched.{overlaid_item}
use Rattle.pit_plan.specs.Shortfalls.{short_at, shorts_in, shortfalls_of}
use Rattle.std.specs.List.{range_with_len}
use Rattle.pit_plan.specs.declared.short.Short.{Short}
use Rattle.pit_plan.specs.declared.breach.Breach.{Breach}
use Rattle.pit_plan.specs.declared.breach.Breach.TheVariants.{Precedence, Over}
use Rattle.pit_plan.proofs.Preds.{pred-known}
use Rattle.pit_plan.proofs.Shorts.{flat_map-same}
use Rattle.pit_plan.proofs.Commits.{held_period-push, limit_of-push}
use Rattle.pit_plan.proofs.ByCell.{lookup-cell}

abbrev pub Agree : Pit → (ℕ → Option ℕ) → (ℕ → Option ℕ) → Type 0
Agree pit s u = (b : ℕ) → b < pit.blocks → s b ≡ u b

pub same-load : (pit : Pit) (s u : ℕ → Option ℕ) (r t : ℕ) → Agree pit s u → load_of pit s r t ≡ load_of pit u r t
same-load pit s u r t h = total-same (share pit s r t) (share pit u r t) pit.blocks (λ b l. share-at b (h b l))
  where
    share-at : (b : ℕ) → s b ≡ u b → share pit s r t b ≡ share pit u r t b
    share-at b e = ap (λ x. cond (is_in x t) (coef_of pit b r) (pos 0)) e

pub same-value : (pit : Pit) (s u : ℕ → Option ℕ) → Agree pit s u → value_of pit s ≡ value_of pit u
same-value pit s u h = total-same (λ b. earned_in pit b (s b)) (λ b. earned_in pit b (u b)) pit.blocks (λ b l. ap (earned_in pit b) (h b l))

same-shorts : (pit : Pit) (s u : ℕ → Option ℕ) (t : ℕ) → Agree pit s u → shorts_in pit s t ≡ shorts_in pit u t
same-shorts pit s u t h =
    flat_map-same (λ r. short_at r t (load_of pit s r t) (lower_of pit r t)) (λ r. short_at r t (load_of pit u r t) (lower_of pit r t))
    (range_with_len 0 pit.resources) (λ r. ap (λ load. short_at r t load (lower_of pit r t)) (same-load pit s u r t h))

pub same-shortfalls : (pit : Pit) (s u : ℕ → Option ℕ) → Agree pit s u → shortfalls_of pit s ≡ shortfalls_of pit u
unfolding shortfalls_of
same-shortfalls pit s u h = flat_map-same (shorts_in pit s) (shorts_in pit u) (range_with_len 0 pit.periods) (λ t. same-shorts pit s u t h)

order-at : (pit : Pit) (s u : ℕ → Option ℕ) → IsSound pit → Agree pit s u → (b a : ℕ) → IsPred pit b a → in_order (s b) (s a) ≡ in_order (u b) (u a)
order-at pit s u sound h b a is = let k = pred-known pit b a sound is in ap (λ x. in_order x (s a)) (h b k.0) ∙ ap (in_order (u b)) (h a k.1)

pub same-order : (pit : Pit) (s u : ℕ → Option ℕ) → IsSound pit → Agree pit s u → IsOrdered pit s → IsOrdered pit u
same-order pit s u sound h o b a is = sym (order-at pit s u sound h b a is) ∙ o b a is

under-at : (pit : Pit) (s u : ℕ → Option ℕ) (lim : ℕ → ℕ → Option ℤ) → Agree pit s u → (t r : ℕ) → is_within (load_of pit s r t) (lim r t) ≡ is_within (load_of pit u r t) (lim r t)
under-at pit s u lim h t r = ap (λ x. is_within x (lim r t)) (same-load pit s u r t h)

-- so their first breaches are the same
pub same-breach : (pit : Pit) (s u : ℕ → Option ℕ) (lim : ℕ → ℕ → Option ℤ) (x : Option Breach) → IsSound pit → Agree pit s u → IsFirstBreach pit s lim x → IsFirstBreach pit u lim x
same-breach pit s u lim None sound h f =
    record {
      ordered = same-order pit s u sound h f.ordered;
      within = λ t r p q. sym (under-at pit s u lim h t r) ∙ f.within t r p q;
    }
same-breach pit s u lim (Some (Precedence block before)) sound h f =
    least-same ComesBefore (IsOutOfOrder pit s) (IsOutOfOrder pit u) (Some (block, before)) f
    (λ p is. (is.0, sym (order-at pit s u sound h p.0 p.1 is.0) ∙ is.1)) (λ p is. (is.0, order-at pit s u sound h p.0 p.1 is.0 ∙ is.1))
same-breach pit s u lim (Some (Over resource period load top)) sound h f =
    record {
      ordered = same-order pit s u sound h f.ordered;
      least = least-same ComesBefore (IsOverLimit pit s lim) (IsOverLimit pit u lim) (Some (period, resource)) f.least
          (λ p is. (is.0, is.1, sym (under-at pit s u lim h p.0 p.1) ∙ is.2)) (λ p is. (is.0, is.1, under-at pit s u lim h p.0 p.1 ∙ is.2));
      load_is = f.load_is ∙ same-load pit s u resource period h;
      limit_is = f.limit_is;
    }

-- ---- limits that agree on all resources and periods

abbrev pub AgreeOn : Pit → (ℕ → ℕ → Option ℤ) → (ℕ → ℕ → Option ℤ) → Type 0
AgreeOn pit lim also = (r t : ℕ) → r < pit.resources → t < pit.periods → lim r t ≡ also r t

over-by : (pit : Pit) (s : ℕ → Option ℕ) (lim also : ℕ → ℕ → Option ℤ) → AgreeOn pit lim also → (p : ℕ × ℕ) → IsOverLimit pit s lim p → IsOverLimit pit s also p
over-by pit s lim also h p is = (is.0, is.1, ap (λ (l : Option ℤ). is_within (load_of pit s p.1 p.0) l) (sym (h p.1 p.0 is.1 is.0)) ∙ is.2)

pub same-limits : (pit : Pit) (s : ℕ → Option ℕ) (lim also : ℕ → ℕ → Option ℤ) (x : Option Breach) → AgreeOn pit lim also → IsFirstBreach pit s lim x → IsFirstBreach pit s also x
same-limits pit s lim also None h f = record {
  ordered = f.ordered;
  within = λ t r lt lr. ap (λ (l : Option ℤ). is_within (load_of pit s r t) l) (sym (h r t lr lt)) ∙ f.within t r lt lr;
}
same-limits pit s lim also (Some (Precedence block before)) h f = f
same-limits pit s lim also (Some (Over resource period load top)) h f = record {
  ordered = f.ordered;
  least = least-same ComesBefore (IsOverLimit pit s lim) (IsOverLimit pit s also) (Some (period, resource)) f.least (over-by pit s lim also h) (over-by pit s also lim (λ r t lr lt. sym (h r t lr lt)));
  load_is = f.load_is;
  limit_is = sym (h resource period f.least.passes.1 f.least.passes.0) ∙ f.limit_is;
}

-- ---- what is found of a plan

-- what is found of its periods and its limits is found of what its commits leave
pub breach-of : (inside plan : Standing) (periods : List (Option ℕ)) (x : Option Breach) → inside ≡ plan → periods ≡ inside.periods → IsSound inside.pit
    → IsFirstBreach inside.pit (by_block periods) (limit_in_force inside) x → (commits : List Commit) → IsPlanOf plan commits → IsBreachOf plan.pit commits x
breach-of inside plan periods x is same sound first commits =
    subst (λ (p : Standing). IsPlanOf p commits → IsBreachOf p.pit commits x) is
    (λ st. same-limits inside.pit (held_period commits) (limit_in_force inside) (limit_of inside.pit commits) x st.limit
    (same-breach inside.pit (by_block inside.periods) (held_period commits) (limit_in_force inside) x sound st.period
    (subst (λ (ps : List (Option ℕ)). IsFirstBreach inside.pit (by_block ps) (limit_in_force inside) x) same first)))

-- and what is found of these with a commit laid over them, where they are good, is found of what its commits and that one leave
pub breach-after : (inside plan : Standing) (w : Commit) (x : Option Breach) → inside ≡ plan → IsSound inside.pit → RevisionsFit inside.pit.resources inside.pit.periods w.revises
    → (IsGood inside.pit (by_block inside.periods) (limit_in_force inside)
    → IsFirstBreach inside.pit (overlaid_item (by_block inside.periods) w.writes) (at_cell inside.pit (overlaid_item (cell_limit inside.limits) (by_cell inside.pit w.revises))) x)
    → IsGoodNow plan → (commits : List Commit) → IsPlanOf plan commits → IsBreachOf plan.pit (commits ++ w ∷ []) x
breach-after inside plan w x is sound fit first good commits =
    subst (λ (p : Standing). IsGoodNow p → IsPlanOf p commits → IsBreachOf p.pit (commits ++ w ∷ []) x) is
    (λ now st. same-limits inside.pit (held_period (commits ++ w ∷ [])) after (limit_of inside.pit (commits ++ w ∷ [])) x
    (λ r t lr lt. ap (λ (l : Option (Option ℤ)). unwrap_or l (limit_in_force inside r t)) (lookup-cell inside.pit r t w.revises lr fit)
    ∙ (ap (unwrap_or (revision_of w r t)) (st.limit r t lr lt) ∙ sym (limit_of-push inside.pit commits w r t)))
    (same-breach inside.pit (overlaid_item (by_block inside.periods) w.writes) (held_period (commits ++ w ∷ [])) after x sound
    (λ b below. ap (unwrap_or (write_of w b)) (st.period b below) ∙ sym (held_period-push commits w b))
    (first (same-limits inside.pit (by_block inside.periods) (limit_of inside.pit commits) (limit_in_force inside) None (λ r t lr lt. sym (st.limit r t lr lt))
    (same-breach inside.pit (held_period commits) (by_block inside.periods) (limit_of inside.pit commits) None sound (λ b below. sym (st.period b below)) (now commits st)))))) good
  where
    after : ℕ → ℕ → Option ℤ
    after = at_cell inside.pit (overlaid_item (cell_limit inside.limits) (by_cell inside.pit w.revises))

pub load-of : (inside plan : Standing) (periods : List (Option ℕ)) (r t : ℕ) (load : ℤ) → inside ≡ plan → periods ≡ inside.periods → load ≡ load_of inside.pit (by_block periods) r t
    → (commits : List Commit) → IsPlanOf plan commits → load ≡ load_of plan.pit (held_period commits) r t
load-of inside plan periods r t load is same found commits =
    subst (λ (p : Standing). IsPlanOf p commits → load ≡ load_of p.pit (held_period commits) r t) is
    (λ st. found ∙ (ap (λ (ps : List (Option ℕ)). load_of inside.pit (by_block ps) r t) same ∙ same-load inside.pit (by_block inside.periods) (held_period commits) r t st.period))

pub value-of : (inside plan : Standing) (periods : List (Option ℕ)) (worth : ℤ) → inside ≡ plan → periods ≡ inside.periods → worth ≡ value_of inside.pit (by_block periods)
    → (commits : List Commit) → IsPlanOf plan commits → worth ≡ value_of plan.pit (held_period commits)
value-of inside plan periods worth is same found commits =
    subst (λ (p : Standing). IsPlanOf p commits → worth ≡ value_of p.pit (held_period commits)) is
    (λ st. found ∙ (ap (λ (ps : List (Option ℕ)). value_of inside.pit (by_block ps)) same ∙ same-value inside.pit (by_block inside.periods) (held_period commits) st.period))

pub shortfalls-of : (inside plan : Standing) (periods : List (Option ℕ)) (shorts : List Short) → inside ≡ plan → periods ≡ inside.periods → shorts ≡ shortfalls_of inside.pit (by_block periods)
    → (commits : List Commit) → IsPlanOf plan commits → shorts ≡ shortfalls_of plan.pit (held_period commits)
shortfalls-of inside plan periods shorts is same found commits =
    subst (λ (p : Standing). IsPlanOf p commits → shorts ≡ shortfalls_of p.pit (held_period commits)) is
    (λ st. found ∙ (ap (λ (ps : List (Option ℕ)). shortfalls_of inside.pit (by_block ps)) same ∙ same-shortfalls inside.pit (by_block inside.periods) (held_period commits) st.period))

pub shortfalls-some : (inside plan : Standing) (periods : List (Option ℕ)) → inside ≡ plan → periods ≡ inside.periods → shortfalls_of inside.pit (by_block periods) ≢ []
    → (commits : List Commit) → IsPlanOf plan commits → shortfalls_of plan.pit (held_period commits) ≢ []
shortfalls-some inside plan periods is same some commits stands =
    λ none. some (shortfalls-of inside plan periods (shortfalls_of inside.pit (by_block periods)) is same refl commits stands ∙ none)
