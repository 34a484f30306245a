-- A fault that a `?` hands on.
use Rattle.std.proofs.Common.{◌≡◌, Result, Ok, Err, IsErr, IsErrAnd, IfErr, MatchResult, sym, subst}
use Rattle.std.proofs.lemmas.Bool.{false≢true}

pub handed_on : {B E : Type 0} (result : Result B E) (fault : E) (Gives : B → Type 0) (Fails : E → Type 0)
    → IsErr result → IsErrAnd result (λ (e : E). e ≡ fault) → Fails fault → MatchResult result Gives Fails
handed_on (Ok x) fault Gives Fails is same fails = absurd (false≢true is)
handed_on (Err e) fault Gives Fails is same fails = subst Fails (sym same) fails

pub err_handed : {B E : Type 0} (result : Result B E) (fault : E) (Fails : E → Type 0) → IsErr result → IsErrAnd result (λ (e : E). e ≡ fault) → Fails fault → IfErr result Fails
err_handed (Ok x) fault Fails is same fails = absurd (false≢true is)
err_handed (Err e) fault Fails is same fails = subst Fails (sym same) fails
