use Rattle.std.proofs.Common.{◌≡◌, ◌<◌, arith, rules, get_or, ◌∙◌, sym}
use Rattle.std.proofs.lemmas.List.{same_lists}
use Rattle.std.proofs.lemmas.List.FromFn.{get_or-map-range_with_len}
use Rattle.seals.specs.Worked.{counting_key}
use Rattle.seals.proofs.worked.counting_keys.Goals as goal

pub returns : goal.returns
returns c =
    let items = c.from_fn.ensures.items in
    same_lists _ _ items.long
    (λ i d h.
    let below : i < 7 = omega (arith, items.long) in
    let call = items.at i d below in
    let at : get_or c.from_fn.result i d ≡ counting_key i = search rules in
    at ∙ sym (get_or-map-range_with_len counting_key 0 7 i i d below (omega arith)))
