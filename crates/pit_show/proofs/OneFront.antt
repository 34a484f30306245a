-- There is one front of the entries that has so many commits.
use Rattle.std.proofs.Common.{◌≡◌, ℕ, zero, suc, ◌+◌, ◌-◌, ◌<◌, ◌≤◌, List, [], ◌∷◌, ◌++◌, length, take, inl, inr, refl, sym, ap, ◌∙◌, arith, length-append}
use Rattle.std.proofs.lemmas.Bool.{cases_order}
use Rattle.std.proofs.Math.Seq.{take-append_seam}
use Rattle.pit_desk.specs.History.{Answered, commits_by, commits_of}
use Rattle.pit_show.specs.Fronts.{IsFront}
use Rattle.pit_show.proofs.Fronts.{length-commits_by, none-shorter}

pub one-front : (entries : List Answered) (count : ℕ) (front other : List Answered) → IsFront entries count front → IsFront entries count other → front ≡ other
one-front entries count front other p q =
    elim (cases_order (length front) (length other)) [
      | inl same ↦
          sym (take-append_seam front p.rest)
          ∙ (ap (λ (n : ℕ). take n (front ++ p.rest)) same ∙ (ap (λ (h : List Answered). take (length other) h) (sym p.cut ∙ q.cut) ∙ take-append_seam other q.rest))
      | inr apart ↦ elim apart [ inl less ↦ absurd (none-shorter entries count front other p q less) | inr more ↦ absurd (none-shorter entries count other front q p more) ]
    ]

-- an entry before a front, whose commits count too
front-cons : (e : Answered) (entries front : List Answered) (count left : ℕ) → left + length (commits_by e) ≡ count → 0 < count → IsFront entries left front → IsFront (e ∷ entries) count (e ∷ front)
front-cons e entries front count left sum some is = record {
  rest = is.rest;
  cut = ap (λ (h : List Answered). e ∷ h) is.cut;
  has = omega (arith, length-append (commits_by e) (commits_of front), is.has, sum);
  shortest = shorter;
}
  where
    shorter : (k : ℕ) → k < length (e ∷ front) → length (commits_of (take k (e ∷ front))) < count
    shorter zero below = some
    shorter (suc k) below = omega (arith, length-append (commits_by e) (commits_of (take k front)), is.shortest k (omega (arith, below)), sum)

pub some-front : (entries : List Answered) (count : ℕ) → count ≤ length (commits_of entries) → (front : List Answered) × IsFront entries count front
some-front entries zero within = ([], record { rest = entries; cut = refl; has = refl; shortest = λ k below. absurd (omega (arith, below)) })
some-front [] (suc n) within = absurd (omega (arith, within))
some-front (e ∷ entries) (suc n) within =
    let few = length-commits_by e in
    let more = some-front entries (suc n - length (commits_by e)) (omega (arith, within, few, length-append (commits_by e) (commits_of entries))) in
    (e ∷ more.0, front-cons e entries more.0 (suc n) (suc n - length (commits_by e)) (omega (arith, few)) (omega arith) more.1)
