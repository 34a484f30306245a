-- What steps note.
use Rattle.std.proofs.lemmas.List.Elements.{All-append, All-nil, All-cons, Contains-append_right, Contains-get_or}
use Rattle.std.proofs.Common.{inl, inr, ◌≡◌, ℕ, ◌<◌, length, subst, Bool, List, [], ◌∷◌, ◌++◌, get_or, Option, refl, sym, ap, ◌∙◌, arith, append-nil, append_assoc}
use Rattle.pit_model.specs.Pit.{Pit}
use Rattle.pit_plan.specs.Schedule.{Commit}
use Rattle.pit_script.specs.declared.step.Step.{Step}
use Rattle.pit_script.specs.declared.step.Step.TheVariants as step
use Rattle.pit_script.specs.declared.step.Way.{Way}
use Rattle.pit_job.specs.Cones.{IsNextOf, Reaches, here, further}
use Rattle.pit_job.specs.Effect.{Known, Effect, changes, unread, nothing, seen, is_carried, leads_to, members_of, step_after}
use Rattle.pit_job.specs.Outcomes.{IfGoesOn, IsReadOver, IsReadAmong, IsReadBy, IsRead}
use Rattle.pit_job.specs.Inside.Doing.{NotesOnly}
use Rattle.pit_job.proofs.Cones.{cone-reached, has-cone}

pub notes-none : (IsOne : ℕ → Type 0) (old new : List (ℕ × Option ℕ)) → new ≡ old → NotesOnly IsOne old new
notes-none IsOne old new same = record { more = []; grown = same ∙ sym (append-nil old); each = All-nil (λ read. IsOne read.0) }

pub notes-one : (IsOne : ℕ → Type 0) (b : ℕ) (p : Option ℕ) (old new : List (ℕ × Option ℕ)) → IsOne b → new ≡ old ++ (b, p) ∷ [] → NotesOnly IsOne old new
notes-one IsOne b p old new one is = record { more = (b, p) ∷ []; grown = is; each = All-cons (λ read. IsOne read.0) (b, p) [] one (All-nil (λ read. IsOne read.0)) }

pub notes-map : (P Q : ℕ → Type 0) → ((b : ℕ) → P b → Q b) → (old new : List (ℕ × Option ℕ)) → NotesOnly P old new → NotesOnly Q old new
notes-map P Q f old new notes = record { more = notes.more; grown = notes.grown; each = λ k d less. f (get_or notes.more k d).0 (notes.each k d less) }

pub notes-trans : (P : ℕ → Type 0) (a b c : List (ℕ × Option ℕ)) → NotesOnly P a b → NotesOnly P b c → NotesOnly P a c
notes-trans P a b c f g = record {
  more = f.more ++ g.more;
  grown = g.grown ∙ (ap (λ (xs : List (ℕ × Option ℕ)). xs ++ g.more) f.grown ∙ append_assoc a f.more g.more);
  each = All-append (λ read. P read.0) f.more g.more f.each g.each;
}

-- what the first step may read, and what the others may, the steps may read
pub read-first : (pit : Pit) (s : Step) (ss : List Step) (b : ℕ) → IsReadBy pit b s → IsRead pit (s ∷ ss) b
read-first pit s ss b reads = record { reader = s; among = (0, omega arith, refl); reads = reads }

pub read-later : (pit : Pit) (s : Step) (ss : List Step) (b : ℕ) → IsRead pit ss b → IsRead pit (s ∷ ss) b
read-later pit s ss b read = record { reader = read.reader; among = Contains-append_right (s ∷ []) ss read.reader read.among; reads = read.reads }

-- what the step at i may read
pub one-read : (pit : Pit) (ss : List Step) (i : ℕ) (d : Step) (b : ℕ) → i < length ss → IsReadBy pit b (get_or ss i d) → IsRead pit ss b
one-read pit ss i d b less reads = record { reader = get_or ss i d; among = Contains-get_or ss i d less; reads = reads }

-- what a line reads over what is known, its block leads to
pub next-reached : (pit : Pit) (how : Way) (at : Known) (c t b : ℕ) → IsNextOf (leads_to pit how) c (members_of pit how at c t) b → Reaches (leads_to pit how) c b
next-reached pit how at c t b (inl same) = subst (Reaches (leads_to pit how) c) (sym same) here
next-reached pit how at c t b (inr (m, among, leads)) =
    let wanted : ℕ → Bool = λ x. is_carried how t (at x) in
    further m b (cone-reached pit.blocks wanted (leads_to pit how) c pit.blocks m (has-cone pit.blocks wanted (leads_to pit how) c m among).1) leads

-- what a step reads over what is known, it may read
pub over-read : (pit : Pit) (known : Known) (own : Commit) (s : Step) (b : ℕ) → IsReadOver pit known own s b → IsReadBy pit b s
over-read pit known own (step.Read c) b is = is.0
over-read pit known own (step.Put c t) b is = is
over-read pit known own (step.Clear c) b is = is
over-read pit known own (step.Shift c is_back by) b is = is.0
over-read pit known own (step.Bench height t) b is = is
over-read pit known own (step.Expect c period) b is = is.0
over-read pit known own (step.Carry how c t) b is = next-reached pit how (λ x. seen known own x) c t b is.0
over-read pit known own (step.Revise r t upper) b is = is

goes-on : (e : Effect) (P : Commit → Type 0) (Q : Type 0) → ((own : Commit) → P own → Q) → IfGoesOn e P → Q
goes-on (changes own) P Q f is = f own is
goes-on unread P Q f is = absurd is
goes-on nothing P Q f is = absurd is

-- and so for steps in order
pub among-read : (pit : Pit) (known : Known) (ss : List Step) (own : Commit) (b : ℕ) → IsReadAmong pit known own ss b → IsRead pit ss b
among-read pit known [] own b is = absurd is
among-read pit known (s ∷ ss) own b (inl first) = read-first pit s ss b (over-read pit known own s b first)
among-read pit known (s ∷ ss) own b (inr later) =
    read-later pit s ss b (goes-on (step_after pit known own s) (λ after. IsReadAmong pit known after ss b) (IsRead pit ss b) (λ after is. among-read pit known ss after b is) later)
