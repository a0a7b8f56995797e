use Rattle.std.proofs.Common.{rules, ◌∙◌, arith}
use Rattle.std.proofs.lemmas.Iterator.Adapters.{YieldsList-from_rev_slice}
use Rattle.std.proofs.lemmas.Iterator.Consumers.{fold_from_yields_List}
use Rattle.siphash.proofs.Places.{taken_in, little-fold, little-small}
use Rattle.siphash.proofs.words.number.Goals as goal

pub returns : goal.returns
returns c =
    let bs = c.args.bytes.now in
    let folded = fold_from_yields_List _ taken_in 0 c.fold.result c.fold.ensures.ran (YieldsList-from_rev_slice bs cc) (λ a x b q k. search rules) in
    let is = folded ∙ little-fold bs (λ i. (c.type_inv.bytes i).fits) (omega arith) in
    record { value = is; bound = omega (arith, is, little-small bs 7 (λ i. (c.type_inv.bytes i).fits) (omega arith)) }
