use Rattle.std.proofs.Common.{ap, option_map, sym, ◌∙◌, Some, ℕ, List}
use Rattle.pit_cli.proofs.Wanting.{placed-built}
use Rattle.pit_cli.proofs.texts.placed_pit.Goals as goal

pub returns : goal.returns
returns g c =
    placed-built c.args.given c.in_ok-builder.builder _ c.deref.result.now c.built-2.result (ap (λ o. option_map (λ bytes. bytes.items) o) c.in-Some.is ∙ ap (λ (xs : List ℕ). Some xs) (sym c.deref.ensures.value))
    c.in_ok-builder.ensures c.built-2.ensures
