use Rattle.std.proofs.Common.{rules, arith, w64, [], slice_index_or}
use Rattle.std.proofs.lemmas.Int.{to_z-of_z}
use Rattle.pit_model.proofs.Few.{fewer_pairs}
use Rattle.pit_model.proofs.Sound.{IsSound-with_coef}
use Rattle.pit_model.proofs.builder.Builder.set_coef.Goals as goal

pub add-requires-clause-few : goal.add-requires-clause-few
add-requires-clause-few g c =
    fewer_pairs c.self.inside.resources (slice_index_or c.self.inside.coefs c.args.b []) c.args.r c.args.v (c.self.invariant.coefs c.args.b) (omega arith) (omega arith) (search rules)

pub invariant_of-self-2 : goal.invariant_of-self-2
invariant_of-self-2 g c =
    rw (c.in_ok-add.ensures.ok, to_z-of_z w64 c.args.v (search rules))
    (IsSound-with_coef _ c.args.b c.args.r c.args.v c.self.invariant (omega arith) (omega arith) (search rules) (search rules))
