-- The comment that `show` prints of a history.
use Rattle.std.specs.Prelude.{ℕ, List, [], ◌∷◌, ◌++◌, length, codes}
use Rattle.hex.specs.Hex.{encode_lower}
use Rattle.sha2.specs.Sha256.{sha256}
use Rattle.pit_desk.specs.History.{Answered, commits_of}
use Rattle.pit_lines.specs.Texts.{entries_text}
use Rattle.pit_lines.specs.declared.format.Format.TheVariants.{Two}
use Rattle.pit_step.specs.LineTexts.{field_text}

-- the SHA-256 of the lines of entries in format 2
abbrev pub sum_of : List Answered → List ℕ
sum_of entries = sha256 (entries_text Two entries)

-- `% commits N sum S`, with S in lowercase hex digits
unfoldable pub comment_text : ℕ → List ℕ → List ℕ
comment_text commits digits = codes "% commits " ++ (field_text commits 32 ++ (codes "sum " ++ (digits ++ 10 ∷ [])))

-- of the entries up to the last commit that is shown
abbrev pub history_comment : List Answered → List ℕ
history_comment entries = comment_text (length (commits_of entries)) (encode_lower (sum_of entries))
