-- The words that requests begin with.
use Rattle.std.specs.Prelude.{ℕ, List, [], ◌∷◌, Option, Some, None, Result, Ok, Err, if◌then◌else◌, codes}
use Rattle.std.specs.Map.{lookup}
use Rattle.std.specs.Str.{bytes_eq}
use Rattle.pit_text.specs.Numbers.{is_ascii}
use Rattle.pit_script.specs.declared.error.ScriptFault.{ScriptFault}
use Rattle.pit_script.specs.declared.error.ScriptFault.TheVariants.{NotAscii, UnknownWord}
use Rattle.pit_script.specs.declared.word.Word.TheVariants as script
use Rattle.pit_serve.specs.declared.word.RequestWord.{RequestWord}
use Rattle.pit_serve.specs.declared.word.RequestWord.TheVariants.{Line, Abandon, Value}

abbrev pub words : List (List ℕ × RequestWord)
words =
    (codes "begin", Line script.Begin)
    ∷ (codes "read", Line script.Read)
    ∷ (codes "put", Line script.Put)
    ∷ (codes "clear", Line script.Clear)
    ∷ (codes "commit", Line script.Commit)
    ∷ (codes "abandon", Abandon)
    ∷ (codes "value", Value)
    ∷ []

unfoldable pub word_of : List ℕ → Option RequestWord
word_of field = lookup (bytes_eq field) words

abbrev pub or_unknown : Option RequestWord → Result RequestWord ScriptFault
or_unknown None = Err UnknownWord
or_unknown (Some word) = Ok word

abbrev pub word_in : List ℕ → Result RequestWord ScriptFault
word_in field = if is_ascii field then or_unknown (word_of field) else Err NotAscii
