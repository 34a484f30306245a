-- The numbers that the words give.
use Rattle.std.proofs.Common.{◌≡◌, ℕ, List, Option, None, Some, Result, Ok, Err}
use Rattle.std.specs.Str.Parse.{ParsesUnsigned}
use Rattle.clap.specs.Matches.{found_of, one_text, ReadsOne}
use Rattle.clap.specs.declared.parser.matches.ArgMatches.{ArgMatches}
use Rattle.pit_command.specs.Words.{ReadsAs, IsNumber}

module _ (E : Type 0) (bits : ℕ) (G : List ℕ → Result ℕ E → Type 0) (only : (u : List ℕ) (x : Result ℕ E) → G u x → ParsesUnsigned bits 10 u x) where
  reads_as : (text : List ℕ) (o : Option ℕ) → ReadsOne G text o → ReadsAs bits text o
  reads_as text (Some n) reads = only text (Ok n) reads
  reads_as text None reads = only text (Err reads.0) reads.1

  pub number_is : (given : ArgMatches) (name : List ℕ) (o : Option ℕ) → (one_text (found_of given) name ≡ None → o ≡ None)
      → ((text : List ℕ) → one_text (found_of given) name ≡ Some text → ReadsOne G text o) → IsNumber given name bits o
  number_is given name o absent present = record { absent = absent; present = λ text at. reads_as text o (present text at) }
