-- Files that are opened, some behind others.
use Rattle.std.proofs.Common.{◌≡◌, inl, inr, ℕ, ◌+◌, ◌<◌, List, [], ◌∷◌, ◌++◌, Option, map, length, take, drop, slice_index_or, refl, ap, subst, sym, ◌∙◌, arith}
use Rattle.std.specs.Borrow.{Bor}
use Rattle.std.proofs.lemmas.List.{map-append, map_push, length-map, length-take, take_more, take-append-drop}
use Rattle.pit_step.specs.declared.input.Input.{Input}
use Rattle.pit_step.specs.declared.fault.CliFault.{CliFault}
use Rattle.pit_step.specs.Devices.{Reading}
use Rattle.pit_step.specs.declared.fault.CliFault.TheVariants.{NoMemory}
use Rattle.pit_step.specs.Steps.{in_turn, may_step, each}
use Rattle.pit_command.specs.declared.origin.Origin.{Origin}
use Rattle.pit.specs.declared.source_files.OpenFile.{OpenFile}
use Rattle.pit.specs.Files.{Told, numbered, open_step, open_each}
use Rattle.pit.specs.Histories.{kept_path, IsMeeting}
use Rattle.pit.specs.OpenFiles.{AreOpen, name_of, held_at, still, files_step}
use Rattle.pit.proofs.Each.{gives-append, fails-first, fails-then}

-- ---- numbered inputs

numbered-append : (input : ℕ → Input) (n : ℕ) (xs ys : List (List ℕ)) → numbered input n (xs ++ ys) ≡ numbered input n xs ++ numbered input (n + length xs) ys
numbered-append input n [] ys = ap (λ (k : ℕ). numbered input k ys) (omega arith)
numbered-append input n (x ∷ xs) ys =
    ap (λ (fs : List (Input × List ℕ)). (input n, x) ∷ fs)
    (numbered-append input (n + 1) xs ys ∙ ap (λ (k : ℕ). numbered input (n + 1) xs ++ numbered input k ys) (omega arith))

abbrev pub texts_of : List (Bor (List ℕ)) → List (List ℕ)
texts_of paths = map (λ path. path.now) paths

module _ (input : ℕ → Input) (paths : List (Bor (List ℕ))) (i : ℕ) (path : Bor (List ℕ)) (below : i < length paths) (is : path ≡ slice_index_or paths i path) where
  -- one more
  pub numbered-more : numbered input 1 (texts_of (take (i + 1) paths)) ≡ numbered input 1 (texts_of (take i paths)) ++ (input (i + 1), path.now) ∷ []
  numbered-more =
      let long : length (texts_of (take i paths)) ≡ i = omega (arith, length-map (take i paths) (λ (p : Bor (List ℕ)). p.now), length-take i paths, below) in
      ap (λ (ps : List (Bor (List ℕ))). numbered input 1 (texts_of ps)) (take_more paths i path below ∙ ap (λ (p : Bor (List ℕ)). take i paths ++ p ∷ []) (sym is))
      ∙ ap (λ (ts : List (List ℕ)). numbered input 1 ts) (map_push (λ (p : Bor (List ℕ)). p.now) (take i paths) path)
      ∙ numbered-append input 1 (texts_of (take i paths)) (path.now ∷ [])
      ∙ ap (λ (k : ℕ). numbered input 1 (texts_of (take i paths)) ++ (input k, path.now) ∷ []) (omega (arith, long))

-- all are those up to one, and the others
pub numbered-split : (input : ℕ → Input) (paths : List (Bor (List ℕ))) (k : ℕ)
    → numbered input 1 (texts_of paths) ≡ numbered input 1 (texts_of (take k paths)) ++ numbered input (1 + length (texts_of (take k paths))) (texts_of (drop k paths))
numbered-split input paths k =
    ap (λ (ps : List (Bor (List ℕ))). numbered input 1 (texts_of ps)) (sym (take-append-drop k paths))
    ∙ ap (λ (ts : List (List ℕ)). numbered input 1 ts) (map-append (λ (p : Bor (List ℕ)). p.now) (take k paths) (drop k paths))
    ∙ numbered-append input 1 (texts_of (take k paths)) (texts_of (drop k paths))

-- ---- opening

module _ (told : Told) where
  pub opening-left : (n : ℕ) (files : List (Input × List ℕ)) → (each (λ (k : ℕ). open_step told) n files).IsUntouched
  opening-left n [] = tt
  opening-left n (file ∷ files) = (tt, opening-left (n + 1) files)

  pub fails-before : (xs ys : List (Input × List ℕ)) (fault : CliFault) → (open_each told xs).Fails tt fault → (open_each told (xs ++ ys)).Fails tt fault
  fails-before xs ys fault f = fails-first (open_step told) opening-left 1 xs ys fault f

  pub fails-behind : (xs ys : List (Input × List ℕ)) (readings : List Reading) (fault : CliFault) → (open_each told xs).Gives tt readings → (open_each told ys).Fails tt fault
      → (open_each told (xs ++ ys)).Fails tt fault
  fails-behind xs ys readings fault g f = fails-then (open_step told) opening-left 1 xs ys readings fault g f

  module _ {F : Type 0} (left : F → Option (List ℕ)) where
    abbrev known_of : OpenFile F → Input × Option (List ℕ)
    known_of file = (file.input, left file.file)

    pub both-open : (xs ys : List (Input × List ℕ)) (fs gs : List (OpenFile F)) → AreOpen left told xs fs → AreOpen left told ys gs → AreOpen left told (xs ++ ys) (fs ++ gs)
    both-open xs ys fs gs a b = record {
      named = rw (map-append name_of fs gs, a.named, b.named) refl;
      known = rw (map-append known_of fs gs, map-append (held_at told) xs ys, a.known, b.known) refl;
      opened = rw (map-append (still told) xs ys) (gives-append (open_step told) 1 xs ys (map (still told) xs) (map (still told) ys) a.opened b.opened);
    }

    pub none-open : AreOpen left told [] []
    none-open = record { named = refl; known = refl; opened = refl }

    -- one more of several
    pub more-open : (input : ℕ → Input) (paths : List (Bor (List ℕ))) (i : ℕ) (path : Bor (List ℕ)) (files : List (OpenFile F)) (file : OpenFile F) → i < length paths → path ≡ slice_index_or paths i path
        → AreOpen left told (numbered input 1 (texts_of (take i paths))) files → (one : Input) → one ≡ input (i + 1) → AreOpen left told ((one, path.now) ∷ []) (file ∷ [])
        → AreOpen left told (numbered input 1 (texts_of (take (i + 1) paths))) (files ++ file ∷ [])
    more-open input paths i path files file below is a one same b =
        subst (λ (xs : List (Input × List ℕ)). AreOpen left told xs (files ++ file ∷ [])) (sym (numbered-more input paths i path below is))
        (both-open (numbered input 1 (texts_of (take i paths))) ((input (i + 1), path.now) ∷ []) files (file ∷ []) a
        (subst (λ (x : Input). AreOpen left told ((x, path.now) ∷ []) (file ∷ [])) same b))

    -- or one of several doesn't open
    pub stops-open : (input : ℕ → Input) (paths : List (Bor (List ℕ))) (i : ℕ) (path : Bor (List ℕ)) (files : List (OpenFile F)) (fault : CliFault) → i < length paths → path ≡ slice_index_or paths i path
        → AreOpen left told (numbered input 1 (texts_of (take i paths))) files → (one : Input) → one ≡ input (i + 1) → (open_each told ((one, path.now) ∷ [])).Fails tt fault
        → (open_each told (numbered input 1 (texts_of paths))).Fails tt fault
    stops-open input paths i path files fault below is a one same g =
        let f = subst (λ (x : Input). (open_each told ((x, path.now) ∷ [])).Fails tt fault) same g in
        let first = numbered input 1 (texts_of (take i paths)) in
        let upto = subst (λ (xs : List (Input × List ℕ)). (open_each told xs).Fails tt fault) (sym (numbered-more input paths i path below is))
        (fails-behind first ((input (i + 1), path.now) ∷ []) (map (still told) first) fault a.opened f) in
        subst (λ (xs : List (Input × List ℕ)). (open_each told xs).Fails tt fault) (sym (numbered-split input paths (i + 1)))
        (fails-before (numbered input 1 (texts_of (take (i + 1) paths))) (numbered input (1 + length (texts_of (take (i + 1) paths))) (texts_of (drop (i + 1) paths))) fault upto)

-- the last files, behind all others, for the list of which there may be no memory
pub last-behind : (told : Told) (xs ys zs : List (Input × List ℕ)) (fault : CliFault) → (open_each told xs).Gives tt (map (still told) xs) → (open_each told ys).Gives tt (map (still told) ys)
    → (in_turn (may_step NoMemory) (open_each told zs)).Fails tt fault → (in_turn (may_step NoMemory) (open_each told (xs ++ (ys ++ zs)))).Fails tt fault
last-behind told xs ys zs fault a b (inl p) = inl (p.0, opening-left told 1 (xs ++ (ys ++ zs)))
last-behind told xs ys zs fault a b (inr (u, m, f)) =
    inr (tt, (refl, tt), fails-behind told xs (ys ++ zs) (map (still told) xs) fault a (fails-behind told ys zs (map (still told) ys) fault b f))

-- ---- before one is read

module _ (told : Told) (origin : Origin) (names : List (Input × List ℕ)) (fault : CliFault) where
  pub not-open : (in_turn (may_step NoMemory) (open_each told names)).Fails tt fault → (files_step told origin names).Fails tt fault
  not-open (inl p) = inl (p.0, (p.1, tt))
  not-open (inr (u, m, f)) = inr (u, m, inl (f, tt))

  pub not-apart : (open_each told names).Gives tt (map (still told) names) → IsMeeting told (kept_path origin) names fault → (files_step told origin names).Fails tt fault
  not-apart are_open meets = inr (tt, (refl, tt), inr (map (still told) names, are_open, meets))
