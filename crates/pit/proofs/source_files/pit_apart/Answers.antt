use Rattle.std.proofs.Common.{◌∷◌, [], Some, option_to_list}
use Rattle.pit.proofs.Apart.{joined-apart, one-apart}
use Rattle.pit.proofs.source_files.pit_apart.Goals as goal

pub returns-clause-apart : goal.returns-clause-apart
returns-clause-apart g c =
    let told = g.D.Disk.told c.args.disk.now in
    let history = Some c.args.history.now in
    let files = c.args.files.now in
    let blocks = option_to_list files.blocks in
    joined-apart told history (files.model ∷ []) (files.precedence ∷ blocks) c.apart_if.result (one-apart told history files.model c.in_ok-apart.ensures.apart)
    (joined-apart told history (files.precedence ∷ []) blocks c.apart_if.result (one-apart told history files.precedence c.in_ok-apart-2.ensures.apart) c.apart_if.ensures.apart)
