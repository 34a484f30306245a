-- The program and a subcommand, as far as they have been told.
use Rattle.std.proofs.Common.{◌≡◌, ◌∷◌, ◌++◌, ◌<◌, ◌+◌, ℕ, refl, List, [], map, take, length, get_or, add-one}
use Rattle.std.proofs.Math.Seq.{take-suc}
use Rattle.std.proofs.lemmas.List.{map-append}
use Rattle.clap.specs.Simple.{App, Shape, new_shape, with_rule, with_subcommand}
use Rattle.clap.specs.Walk.{Rule}
use Rattle.pit_command.specs.Command.{app_begun, rule_for, shape_for}
use Rattle.pit_command.specs.declared.rules.Argument.{Argument}
use Rattle.pit_command.specs.declared.subcommand.Subcommand.{Subcommand}

-- what one more row stands for
map_more : {A B : Type 0} (f : A → B) (rows : List A) (i : ℕ) (row : A) → i < length rows
    → map f (take (i + 1) rows) ≡ map f (take i rows) ++ f (get_or rows i row) ∷ []
map_more f rows i row h = rw (add-one, take-suc rows i row h) (map-append f (take i rows) (get_or rows i row ∷ []))

-- a subcommand with some arguments
abbrev pub app_with : List ℕ → List Argument → App
app_with name arguments = record {
  top = record (new_shape name) { rules = map rule_for arguments };
  subs = [];
}

-- one more argument
pub argument_more : (old new : App) (name : List ℕ) (rows : List Argument) (i : ℕ) (row : Argument) (rule : Rule) → i < length rows
    → old ≡ app_with name (take i rows) → rule ≡ rule_for (get_or rows i row) → new ≡ with_rule old rule → new ≡ app_with name (take (i + 1) rows)
argument_more old new name rows i row rule h was here adds = rw (adds, was, here, map_more rule_for rows i row h) refl

begun_more : (shapes : List Shape) (shape : Shape) → with_subcommand (app_begun shapes) shape ≡ app_begun (shapes ++ shape ∷ [])
begun_more [] shape = refl
begun_more (first ∷ rest) shape = refl

-- one more subcommand
pub subcommand_more : (old new : App) (rows : List Subcommand) (i : ℕ) (row : Subcommand) → i < length rows
    → old ≡ app_begun (map shape_for (take i rows)) → new ≡ with_subcommand old (shape_for (get_or rows i row))
    → new ≡ app_begun (map shape_for (take (i + 1) rows))
subcommand_more old new rows i row h was adds =
    rw (adds, was, map_more shape_for rows i row h) (begun_more (map shape_for (take i rows)) (shape_for (get_or rows i row)))
