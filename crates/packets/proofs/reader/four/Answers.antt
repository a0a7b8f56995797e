use Rattle.std.proofs.Common.{ℕ, List, [], ◌∷◌, ◌++◌, length, drop, ap, ◌∙◌}
use Rattle.std.proofs.lemmas.List.{take_at}
use Rattle.packets.proofs.reader.four.Goals as goal

pub returns : goal.returns
returns c =
    let part = c.args.part.now in
    let zeros : List ℕ = 0 ∷ 0 ∷ 0 ∷ 0 ∷ [] in
    let is = c.copy_from_slice.ensures.after in
    record {
      is = ap (λ xs. xs ++ drop (length part) zeros) is;
      front = take_at c.copy_from_slice.new.self _ (length part) (ap length is) ∙ is;
    }
