use Rattle.std.proofs.Common.{◌∙◌, length, refl, rules, tests, arith}
use Rattle.std.proofs.lemmas.Iterator.{YieldsList-from_range}
use Rattle.std.proofs.lemmas.Iterator.Search.{all_from_yields_List}
use Rattle.paths.proofs.Named.{is_first, distinct-all}
use Rattle.paths.proofs.path.are_distinct.Goals as goal

pub returns : goal.returns
returns c =
    let t = c.args.stations.now in
    all_from_yields_List (is_first t) _ _ c.all.result c.all.ensures.ran
    (YieldsList-from_range 0 (length t) (length t) refl (omega arith))
    (λ x b q k. search (rules, tests)) ∙ distinct-all t
