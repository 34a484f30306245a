-- What a line asks for, and whether it is answered.
use Rattle.std.proofs.Common.{◌≡◌, ℕ, ◌==◌, ◌||◌, ◌&&◌, not, Bool, true, false, List, [], ◌∷◌, length, Ok, Err, refl, if◌then◌else◌}
use Rattle.std.specs.Prelude.{Result}
use Rattle.pit_model.specs.Pit.{Pit}
use Rattle.pit_text.specs.Cutting.{without_return, fields_of, is_last, is_comment}
use Rattle.pit_script.specs.declared.error.ScriptFault.{ScriptFault}
use Rattle.pit_serve.specs.Asked.{asked_of, asked_within, asked_or, request_of_line}
use Rattle.pit_serve.specs.InputLines.{is_long, answered_among}
use Rattle.pit_serve.specs.declared.asked.Asked.{Asked}
use Rattle.pit_serve.specs.declared.asked.Asked.TheVariants.{Nothing, End, Request, Wrong}
use Rattle.pit_serve.specs.declared.fault.RequestFault.{RequestFault}
use Rattle.pit_serve.specs.declared.fault.RequestFault.TheVariants.{LineTooLong}
use Rattle.pit_serve.specs.declared.request.Request.{Request as Asking}

-- what a line is, by three tests and what its fields ask for
abbrev kind : Bool → Bool → Bool → Result Asking ScriptFault → Asked
kind long last skipped asks = if long then Wrong LineTooLong else (if last then End else (if skipped then Nothing else asked_or asks))

-- those that are answered, by the same tests of the first
abbrev among : Bool → Bool → Bool → List ℕ → List (List ℕ) → List (List ℕ)
among long last skipped line rest = if (not long && last) then [] else (if (long || not skipped) then line ∷ rest else rest)

nothing : (long last skipped : Bool) (asks : Result Asking ScriptFault) (line : List ℕ) (rest : List (List ℕ)) → kind long last skipped asks ≡ Nothing → among long last skipped line rest ≡ rest
nothing true last skipped asks line rest is = absurd (cc is)
nothing false true skipped asks line rest is = absurd (cc is)
nothing false false true asks line rest is = refl
nothing false false false (Ok request) line rest is = absurd (cc is)
nothing false false false (Err fault) line rest is = absurd (cc is)

ended : (long last skipped : Bool) (asks : Result Asking ScriptFault) (line : List ℕ) (rest : List (List ℕ)) → kind long last skipped asks ≡ End → among long last skipped line rest ≡ []
ended true last skipped asks line rest is = absurd (cc is)
ended false true skipped asks line rest is = refl
ended false false true asks line rest is = absurd (cc is)
ended false false false (Ok request) line rest is = absurd (cc is)
ended false false false (Err fault) line rest is = absurd (cc is)

asked : (long last skipped : Bool) (asks : Result Asking ScriptFault) (line : List ℕ) (rest : List (List ℕ)) (request : Asking) → kind long last skipped asks ≡ Request request
    → among long last skipped line rest ≡ line ∷ rest
asked true last skipped asks line rest request is = refl
asked false true skipped asks line rest request is = absurd (cc is)
asked false false true asks line rest request is = absurd (cc is)
asked false false false asks line rest request is = refl

wrong : (long last skipped : Bool) (asks : Result Asking ScriptFault) (line : List ℕ) (rest : List (List ℕ)) (fault : RequestFault) → kind long last skipped asks ≡ Wrong fault
    → among long last skipped line rest ≡ line ∷ rest
wrong true last skipped asks line rest fault is = refl
wrong false true skipped asks line rest fault is = absurd (cc is)
wrong false false true asks line rest fault is = absurd (cc is)
wrong false false false asks line rest fault is = refl

abbrev is_skipped : List ℕ → Bool
is_skipped line = is_comment line || length (fields_of line) == 0

pub nothing_passes : (pit : Pit) (is_open : Bool) (line : List ℕ) (lines : List (List ℕ)) → asked_of pit is_open line ≡ Nothing → answered_among (line ∷ lines) ≡ answered_among lines
unfolding asked_of asked_within answered_among
nothing_passes pit is_open line lines is =
    nothing (is_long line) (is_last (without_return line)) (is_skipped (without_return line)) (request_of_line pit is_open (fields_of (without_return line))) line (answered_among lines) is

pub end_stops : (pit : Pit) (is_open : Bool) (line : List ℕ) (lines : List (List ℕ)) → asked_of pit is_open line ≡ End → answered_among (line ∷ lines) ≡ []
unfolding asked_of asked_within answered_among
end_stops pit is_open line lines is =
    ended (is_long line) (is_last (without_return line)) (is_skipped (without_return line)) (request_of_line pit is_open (fields_of (without_return line))) line (answered_among lines) is

pub request_stands : (pit : Pit) (is_open : Bool) (line : List ℕ) (lines : List (List ℕ)) (request : Asking) → asked_of pit is_open line ≡ Request request
    → answered_among (line ∷ lines) ≡ line ∷ answered_among lines
unfolding asked_of asked_within answered_among
request_stands pit is_open line lines request is =
    asked (is_long line) (is_last (without_return line)) (is_skipped (without_return line)) (request_of_line pit is_open (fields_of (without_return line))) line (answered_among lines) request is

pub wrong_stands : (pit : Pit) (is_open : Bool) (line : List ℕ) (lines : List (List ℕ)) (fault : RequestFault) → asked_of pit is_open line ≡ Wrong fault
    → answered_among (line ∷ lines) ≡ line ∷ answered_among lines
unfolding asked_of asked_within answered_among
wrong_stands pit is_open line lines fault is =
    wrong (is_long line) (is_last (without_return line)) (is_skipped (without_return line)) (request_of_line pit is_open (fields_of (without_return line))) line (answered_among lines) fault is
