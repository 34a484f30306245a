-- The words that the lines of a script begin with.
use Rattle.std.specs.Prelude.{ℕ, List, [], ◌∷◌, Option, Some, None, Result, Ok, Err, if◌then◌else◌, codes}
use Rattle.std.specs.Map.{lookup}
use Rattle.std.specs.Str.{bytes_eq}
use Rattle.pit_text.specs.Numbers.{is_ascii}
use Rattle.pit_script.specs.declared.error.ScriptFault.{ScriptFault}
use Rattle.pit_script.specs.declared.error.ScriptFault.TheVariants.{NotAscii, UnknownWord}
use Rattle.pit_script.specs.declared.word.Word.{Word}
use Rattle.pit_script.specs.declared.word.Word.TheVariants.{Begin, Read, Put, Clear, Shift, Bench, Expect, Cone, Push, Revise, Commit, Abort}

abbrev pub words : List (List ℕ × Word)
words =
    (codes "begin", Begin)
    ∷ (codes "read", Read)
    ∷ (codes "put", Put)
    ∷ (codes "clear", Clear)
    ∷ (codes "shift", Shift)
    ∷ (codes "bench", Bench)
    ∷ (codes "expect", Expect)
    ∷ (codes "cone", Cone)
    ∷ (codes "push", Push)
    ∷ (codes "revise", Revise)
    ∷ (codes "commit", Commit)
    ∷ (codes "abort", Abort)
    ∷ []

unfoldable pub word_of : List ℕ → Option Word
word_of field = lookup (bytes_eq field) words

abbrev pub or_unknown : Option Word → Result Word ScriptFault
or_unknown None = Err UnknownWord
or_unknown (Some word) = Ok word

abbrev pub word_in : List ℕ → Result Word ScriptFault
word_in field = if is_ascii field then or_unknown (word_of field) else Err NotAscii
