use Rattle.std.proofs.Common.{◌≡◌, ◌+◌, ◌<◌, arith, rules, get_or, ◌∙◌, sym}
use Rattle.std.proofs.lemmas.List.{same_lists}
use Rattle.std.proofs.lemmas.List.FromFn.{get_or-range_with_len}
use Rattle.seals.proofs.worked.counting_words.Goals as goal

pub returns : goal.returns
returns c =
    let items = c.from_fn.ensures.items in
    same_lists _ _ items.long
    (λ i d h.
    let below : i < 1792 = omega (arith, items.long) in
    let call = items.at i d below in
    let at : get_or c.from_fn.result i d ≡ 0 + i = search rules in
    at ∙ sym (get_or-range_with_len 0 1792 i d below))
