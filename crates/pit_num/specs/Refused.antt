-- What a call answers where a refusal may be due.
use Rattle.std.specs.Prelude.{◌≡◌, Option, Some, None, Result, IfErr, IsErrOf}

-- the result is the refusal that is due, and where none is, nothing but out of memory is answered
abbrev pub IsRefusedBy : {T E : Type 0} → E → Result T E → Option E → Type 0
IsRefusedBy no_memory result None = IfErr result (λ e. e ≡ no_memory)
IsRefusedBy no_memory result (Some refusal) = IsErrOf result refusal
