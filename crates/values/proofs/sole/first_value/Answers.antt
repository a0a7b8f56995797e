use Rattle.std.proofs.Common.{◌≡◌, List, [], ◌∷◌, Some, None, Option, slice_get, refl, ap}
use Rattle.std.specs.Option.{option_to_list}
use Rattle.std.proofs.lemmas.Iterator.{YieldsList, YieldsList-from_slice}
use Rattle.std.proofs.lemmas.Iterator.Adapters.{YieldsList-from_flatten, YieldsList-from_once}
use Rattle.std.proofs.lemmas.Iterator.Consumers.{YieldsList-from_copied}
use Rattle.values.specs.Reports.{reported_values}
use Rattle.values.proofs.sole.first_value.Goals as goal

-- `next` gives the first item of a chain
first_item : {S A : Type 0} (steps : S → Option A → S → Type 0) (s t : S) (r : Option A) (xs : List A) → steps s r t →
    YieldsList steps (λ x. x) s xs → r ≡ slice_get xs 0
first_item steps s t None [] step road = refl
first_item steps s t None (x ∷ xs) step road = absurd (road.runs.0 t step)
first_item steps s t (Some x) [] step road = absurd (road.runs x t step)
first_item steps s t (Some x) (y ∷ xs) step road = ap Some (road.runs.1 x t step).0

pub returns : goal.returns
returns c =
    let reports = YieldsList-from_copied (YieldsList-from_slice c.args.reports.now cc) in
    let values = YieldsList-from_flatten _ _ (λ x. x) option_to_list (λ o j b. YieldsList-from_once o b.0) reports
    c.flatten.ensures.front c.flatten.ensures.back c.flatten.ensures.done in
    first_item _ _ _ c.next.result (reported_values c.args.reports.now) c.next.ensures.steps values
