use Rattle.std.proofs.Common.{◌∙◌, rules, tests}
use Rattle.std.proofs.lemmas.Iterator.{YieldsList-from_slice}
use Rattle.std.proofs.lemmas.Iterator.Consumers.{YieldsList-from_enumerate}
use Rattle.std.proofs.lemmas.Iterator.Search.{all_from_yields_List}
use Rattle.packets.proofs.Held.{is_made, held}
use Rattle.packets.proofs.unsealed.Unsealed.has_tags.Goals as goal

pub returns-clause-is : goal.returns-clause-is
returns-clause-is g c =
    let tag = g.S.Seal.meaning c.args.seal.now in
    let h = c.args.self.now.header in
    let t = c.args.self.now.stations.now in
    let tags = c.args.tags.now in
    let all = all_from_yields_List (is_made tag h t tags) _ _ c.all.result c.all.ensures.ran
    (YieldsList-from_enumerate (YieldsList-from_slice tags cc) cc)
    (λ x b q k. search (rules, tests)) in
    all ∙ held tag h t tags c.requires
