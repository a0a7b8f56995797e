use Rattle.std.proofs.Common.{sym, ◌∙◌, rules, tests}
use Rattle.std.specs.Option.{option_to_list}
use Rattle.std.proofs.lemmas.Iterator.{YieldsList-from_slice}
use Rattle.std.proofs.lemmas.Iterator.Adapters.{YieldsList-from_flatten, YieldsList-from_once, option_map_id}
use Rattle.std.proofs.lemmas.Iterator.Consumers.{YieldsList-from_copied}
use Rattle.std.proofs.lemmas.Iterator.Search.{find_from_yields_List}
use Rattle.values.specs.Reports.{leading}
use Rattle.values.specs.Majorities.{majority-exact}
use Rattle.values.proofs.majority.leader.Goals as goal

pub returns : goal.returns
returns c =
    let rs = c.args.reports.now in
    let found = find_from_yields_List (λ v. leading v rs) _ _ c.find.result c.find.ensures.ran
    (YieldsList-from_flatten _ _ (λ x. x) option_to_list (λ o j b. YieldsList-from_once o b.0)
    (YieldsList-from_copied (YieldsList-from_slice rs cc))
    c.flatten.ensures.front c.flatten.ensures.back c.flatten.ensures.done)
    (λ x b q k. search (rules, tests)) in
    let is = sym (option_map_id c.find.result) ∙ found in
    record { value = is; exact = majority-exact rs c.find.result is }
