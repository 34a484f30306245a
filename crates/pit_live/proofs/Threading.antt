-- Planners that sat down, one after the other.
use Rattle.std.proofs.Math.ListN.{get_or-append}
use Rattle.std.proofs.Math.Seq.{get_or-append_seam}
use Rattle.std.proofs.Common.{◌≡◌, ℕ, ◌+◌, List, [], ◌∷◌, ◌++◌, length, refl, sym, subst, ◌∙◌, arith, length-append, add-zero}
use Rattle.pit_model.specs.Pit.{Pit}
use Rattle.pit_desk.specs.History.{Answered}
use Rattle.pit_share.specs.Planners.{PlannerState}
use Rattle.pit_share.specs.Opening.{AreSeats}
use Rattle.pit_live.specs.Sat.{PlannerSat, AllSat}
use Rattle.pit_live.specs.declared.sitting.Sitting.{Sitting}

-- the last seat has the last number, and the others keep theirs
pub numbered-last : (xs : List ℕ) (x : ℕ) → AreSeats (length (xs ++ x ∷ [])) (xs ++ x ∷ []) → x ≡ length xs + 1
numbered-last xs x all =
    let seam = get_or-append_seam xs x [] 0 in
    sym seam ∙ all.each (length xs) (omega (arith, length-append xs (x ∷ [])))

pub numbered-front : (xs : List ℕ) (x : ℕ) → AreSeats (length (xs ++ x ∷ [])) (xs ++ x ∷ []) → AreSeats (length xs) xs
numbered-front xs x all = record {
  many = refl;
  each = λ i less. sym (get_or-append xs (x ∷ []) 0 i less) ∙ all.each i (omega (arith, length-append xs (x ∷ []), less));
}

sat-more : (pit : Pit) (max_entries : ℕ) (opening : List Answered) (k : ℕ) (ls : List PlannerState) (ss : List Sitting) (l : PlannerState) (s : Sitting)
    → AllSat pit max_entries opening k ls ss → PlannerSat pit max_entries opening (k + length ls) l s → AllSat pit max_entries opening k (ls ++ l ∷ []) (ss ++ s ∷ [])
sat-more pit max_entries opening k [] [] l s all last = (subst (λ (n : ℕ). PlannerSat pit max_entries opening n l s) (add-zero k) last, tt)
sat-more pit max_entries opening k [] (y ∷ ss) l s all last = absurd all
sat-more pit max_entries opening k (x ∷ ls) [] l s all last = absurd all
sat-more pit max_entries opening k (x ∷ ls) (y ∷ ss) l s (first, rest) last =
    let same : k + length (x ∷ ls) ≡ (k + 1) + length ls = omega arith in
    (first, sat-more pit max_entries opening (k + 1) ls ss l s rest (subst (λ (n : ℕ). PlannerSat pit max_entries opening n l s) same last))

-- one planner more
pub sat-next : (pit : Pit) (max_entries : ℕ) (opening : List Answered) (n : ℕ) (ls new_ls : List PlannerState) (ss new_ss : List Sitting) (l : PlannerState) (s : Sitting)
    → AllSat pit max_entries opening 1 ls ss → n ≡ 1 + length ls → PlannerSat pit max_entries opening n l s → new_ls ≡ ls ++ l ∷ [] → new_ss ≡ ss ++ s ∷ []
    → AllSat pit max_entries opening 1 new_ls new_ss
sat-next pit max_entries opening n ls new_ls ss new_ss l s all is last here there =
    rw (here, there) (sat-more pit max_entries opening 1 ls ss l s all (subst (λ (m : ℕ). PlannerSat pit max_entries opening m l s) is last))
