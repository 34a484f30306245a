-- Open files that are read whole, some behind others.
use Rattle.std.proofs.Common.{◌≡◌, inl, inr, ℕ, ◌+◌, List, [], ◌∷◌, ◌++◌, Option, Some, None, Bool, Result, Ok, Err, IfOk, MatchResult, map, is_some, option_map, option_to_list, refl, ap, subst, sym, ◌∙◌}
use Rattle.std.proofs.lemmas.List.{map-append}
use Rattle.std.specs.Iterator.{Yields}
use Rattle.std.specs.Vec.Iter.{into_iter_items, into_iter_steps}
use Rattle.std.specs.declared.vec.IntoIter.{IntoIter}
use Rattle.pit_step.specs.declared.input.Input.{Input}
use Rattle.pit_step.specs.declared.fault.CliFault.{CliFault}
use Rattle.pit_step.specs.declared.fault.CliFault.TheVariants.{NoMemory}
use Rattle.pit_step.specs.Steps.{each, IsResultOf}
use Rattle.pit_opening.specs.Beginnings.{Begun, is_carried_on as carries_on}
use Rattle.pit_cli.specs.Texts.{Texts}
use Rattle.pit_command.specs.declared.plan_words.PlanWords.{PlanWords}
use Rattle.pit.specs.declared.source_files.OpenFile.{OpenFile}
use Rattle.pit.specs.Files.{Told}
use Rattle.pit.specs.Histories.{kept_path, is_continued, AreApart}
use Rattle.pit.specs.OpenFiles.{AreOpen, still, files_step}
use Rattle.pit.specs.PlanRun.{read_step, read_all, read_each, begin_text, all_texts, texts_step}
use Rattle.pit.specs.Sources.{plan_files, has_begun}
use Rattle.pit.proofs.Each.{gives-append, fails-first, fails-then}

-- what a vector has given, with one more and what is left, is all that it had
taken : {X Z : Type 0} (s : IntoIter X Z) (xs : List X) (t : IntoIter X Z) → Yields into_iter_steps s xs t → into_iter_items s ≡ xs ++ into_iter_items t
taken s [] t y = ap into_iter_items y
taken {X} s (x ∷ xs) t y = y.1.0 ∙ ap (λ (ys : List X). x ∷ ys) (taken y.0 xs t y.2)

pub taken-more : {X Z : Type 0} (s : IntoIter X Z) (xs : List X) (t : IntoIter X Z) (x : X) (u : IntoIter X Z) → Yields into_iter_steps s xs t → into_iter_steps t (Some x) u
    → into_iter_items s ≡ xs ++ x ∷ into_iter_items u
taken-more {X} s xs t x u y step = taken s xs t y ∙ ap (λ (ys : List X). xs ++ ys) step.0

pub reading-left : (n : ℕ) (files : List (Input × Option (List ℕ))) → (each (λ (k : ℕ). read_step) n files).IsUntouched
reading-left n [] = tt
reading-left n (file ∷ files) = (tt, reading-left (n + 1) files)

-- there is no memory
pub wants-memory : (files : List (Input × Option (List ℕ))) (fault : CliFault) → fault ≡ NoMemory → (read_each files).Fails tt fault
wants-memory files fault is = inl (is, reading-left 1 files)

module _ {F : Type 0} (left : F → Option (List ℕ)) where
  abbrev pub known_of : OpenFile F → Input × Option (List ℕ)
  known_of file = (file.input, left file.file)

  module _ (fs gs : List (OpenFile F)) where
    pub read-both : (texts others : List (List ℕ)) → (read_all (map known_of fs)).Gives tt texts → (read_all (map known_of gs)).Gives tt others
        → (read_all (map known_of (fs ++ gs))).Gives tt (texts ++ others)
    read-both texts others a b = rw (map-append known_of fs gs) (gives-append read_step 1 (map known_of fs) (map known_of gs) texts others a b)

    pub unread-first : (fault : CliFault) → (read_all (map known_of fs)).Fails tt fault → (read_all (map known_of (fs ++ gs))).Fails tt fault
    unread-first fault f = rw (map-append known_of fs gs) (fails-first read_step reading-left 1 (map known_of fs) (map known_of gs) fault f)

    pub unread-then : (texts : List (List ℕ)) (fault : CliFault) → (read_all (map known_of fs)).Gives tt texts → (read_all (map known_of gs)).Fails tt fault
        → (read_all (map known_of (fs ++ gs))).Fails tt fault
    unread-then texts fault a f = rw (map-append known_of fs gs) (fails-then read_step reading-left 1 (map known_of fs) (map known_of gs) texts fault a f)

    -- and where there may be no memory for what comes last
    pub unread-last : (texts : List (List ℕ)) (fault : CliFault) → (read_all (map known_of fs)).Gives tt texts → (read_each (map known_of gs)).Fails tt fault
        → (read_each (map known_of (fs ++ gs))).Fails tt fault
    unread-last texts fault a (inl p) = wants-memory (map known_of (fs ++ gs)) fault p.0
    unread-last texts fault a (inr (u, m, f)) = inr (tt, (refl, tt), unread-then texts fault a f)

  -- a fault of reading
  pub unread : (fs : List (OpenFile F)) (fault : CliFault) → (read_all (map known_of fs)).Fails tt fault → (read_each (map known_of fs)).Fails tt fault
  unread fs fault f = inr (tt, (refl, tt), f)

pub list-of_map : {X Y : Type 0} (f : X → Y) (o : Option X) → option_to_list (option_map f o) ≡ map f (option_to_list o)
list-of_map f None = refl
list-of_map f (Some x) = refl

-- ---- the texts of a plan

module _ (told : Told) (words : PlanWords) (is_there : Bool) where
  pub unopened : (fault : CliFault) → (files_step told words.origin (plan_files words is_there)).Fails tt fault → (texts_step told words is_there).Fails tt fault
  unopened fault f = inl (f, (tt, tt))

  module _ {F : Type 0} (left : F → Option (List ℕ)) (files : List (OpenFile F)) (are_open : AreOpen left told (plan_files words is_there) files)
      (apart : AreApart told (kept_path words.origin) (plan_files words is_there)) where
    pub all-read : (blocks begun continued : Bool) (result : Result Texts CliFault) → blocks ≡ is_some words.blocks → begun ≡ has_begun words.origin is_there → continued ≡ is_continued words.origin
        → MatchResult result (λ texts. (read_each (map (known_of left) files)).Gives tt (all_texts texts)) ((read_each (map (known_of left) files)).Fails tt)
        → IfOk result (λ texts. is_some texts.blocks ≡ blocks) → IfOk result (λ texts. is_some (begin_text texts.beginning) ≡ begun)
        → IfOk result (λ texts. carries_on texts.beginning ≡ continued) → IsResultOf (texts_step told words is_there) tt result
    all-read blocks begun continued (Ok texts) with_blocks with_begun with_history read b s k = (
      map (still told) (plan_files words is_there),
      (tt, (refl, tt), (map (still told) (plan_files words is_there), are_open.opened, (refl, apart))),
      (
        all_texts texts,
        subst (λ (fs : List (Input × Option (List ℕ))). (read_each fs).Gives tt (all_texts texts)) are_open.known read,
        record { order = refl; blocks = b ∙ with_blocks; begun = s ∙ with_begun; continued = k ∙ with_history },
      ),
    )
    all-read blocks begun continued (Err fault) with_blocks with_begun with_history read b s k =
        inr (
          map (still told) (plan_files words is_there),
          (tt, (refl, tt), (map (still told) (plan_files words is_there), are_open.opened, (refl, apart))),
          inl (subst (λ (fs : List (Input × Option (List ℕ))). (read_each fs).Fails tt fault) are_open.known read, tt),
        )

-- the texts that were read are those of a plan
pub texts-are : {X : Type 0} (items : X → List ℕ) (texts : Texts) (model precedence : X) (blocks begun : Option X) (beginning : Begun) (scripts : List X)
    → texts ≡ record { model = items model; precedence = items precedence; blocks = option_map items blocks; beginning = beginning; scripts = map items scripts }
    → begin_text beginning ≡ option_map items begun
    → items model ∷ items precedence ∷ (map items (option_to_list blocks) ++ (map items (option_to_list begun) ++ map items scripts)) ≡ all_texts texts
texts-are items texts model precedence blocks begun beginning scripts is begins =
    sym (ap (λ (t : Texts). all_texts t) is ∙ rw (list-of_map items blocks, begins, list-of_map items begun) refl)
