-- How far a text was read, and what is answered of the line where reading ended.
use Rattle.std.specs.Prelude.{◌≡◌, ◌⊎◌, List, ◌++◌, Result, Err, IsOk}
use Rattle.pit_text.specs.Cutting.{Cut}
use Rattle.pit_text.specs.Stands.{Judge, StandsFor, NamesFault}

-- of a list of lines those in front were read, and state these facts
pub record IsReadTo {F C : Type 0} (judge : Judge F C) (lines left : List Cut) (facts : List F) : Type 0 where
  pub done : List Cut
  pub cut : lines ≡ done ++ left
  pub stands : StandsFor judge done facts

-- what is answered of a line that is judged so, where its fact isn't added: out of memory, if it states one, or else what is wrong with it
abbrev pub IsCauseOf : {F C D : Type 0} → C → (D → C) → Result F D → C → Type 0
IsCauseOf no_memory cause_of judged cause = ((cause ≡ no_memory) × IsOk judged) ⊎ NamesFault cause_of (λ fault. judged ≡ Err fault) cause
