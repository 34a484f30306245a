-- Inputs that have no path.
use Rattle.std.proofs.Common.{◌≡◌, ◌⊎◌, inl, inr, suc, false, [], ◌∷◌, arith}
use Rattle.clap.specs.declared.error.kind.ErrorKind.{ErrorKind}
use Rattle.clap.specs.declared.parser.matches.ArgMatches.{ArgMatches}
use Rattle.pit_step.specs.declared.input.Input.{Input}
use Rattle.pit_command.specs.Words.{AreMany, IsLacking, has_many}

-- the last of three
pub lacks-last : (given : ArgMatches) (first second last : Input) (kind : ErrorKind) → IsLacking given (last ∷ []) kind → IsLacking given (first ∷ second ∷ last ∷ []) kind
lacks-last given first second last kind ((k, input, below, is, none), same) = ((suc (suc k), input, omega (arith, below), is, none), same)

pub no-edits : (given : ArgMatches) (first second last : Input) (kind : ErrorKind) → AreMany given kind ⊎ ((has_many given ≡ false) × IsLacking given (last ∷ []) kind)
    → AreMany given kind ⊎ ((has_many given ≡ false) × IsLacking given (first ∷ second ∷ last ∷ []) kind)
no-edits given first second last kind (inl many) = inl many
no-edits given first second last kind (inr p) = inr (p.0, lacks-last given first second last kind p.1)
