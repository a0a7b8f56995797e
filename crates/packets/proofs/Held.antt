-- Tags that are compared, one after another, with those that the stations make.
use Rattle.std.proofs.Common.{◌≡◌, ℕ, ◌+◌, ◌&&◌, Bool, eqb, List, [], ◌∷◌, length, get_or, drop, sym, refl, ap, ◌∙◌, add-one, arith}
use Rattle.std.proofs.Math.Bool.{and-true, and_assoc}
use Rattle.std.proofs.lemmas.List.{drop_more}
use Rattle.std.specs.List.{list_all, enumerate_from}
use Rattle.packets.specs.declared.header.Header.{Header}
use Rattle.packets.specs.Form.{parts_of}
use Rattle.packets.specs.Tags.{tag_for, hold_to, tags_hold}
use Rattle.packets.specs.Laws.{MadeByStations}
use Rattle.packets.proofs.OneForm.{made_by}

module _ (tag : ℕ → List ℕ → ℕ) (h : Header) (t tags : List ℕ) where
  -- whether a tag is that of the station at its place
  abbrev pub is_made : ℕ × ℕ → Bool
  is_made p = eqb p.1 (tag_for tag h t p.0)

  -- what is left of the tags is checked after the first i
  held-from : (i : ℕ) (xs : List ℕ) → drop i tags ≡ xs → i + length xs ≡ length tags
      → (hold_to tag (parts_of h t tags) i && list_all is_made (enumerate_from i xs)) ≡ hold_to tag (parts_of h t tags) (length tags)
  held-from i [] left end =
      let last : i ≡ length tags = omega arith in
      and-true (hold_to tag (parts_of h t tags) i) ∙ ap (hold_to tag (parts_of h t tags)) last
  held-from i (x ∷ xs) left end =
      let p = parts_of h t tags in
      let more = sym (drop_more tags i 0 (omega arith)) ∙ left in
      let here : get_or tags i 0 ≡ x = ap (λ ys. get_or ys 0 0) more in
      let rest : drop (i + 1) tags ≡ xs = ap (drop 1) more in
      let next : hold_to tag p (i + 1) ≡ (hold_to tag p i && is_made (i, x)) = ap (hold_to tag p) (add-one i) ∙ ap (λ y. hold_to tag p i && is_made (i, y)) here in
      sym (and_assoc (hold_to tag p i) (is_made (i, x)) (list_all is_made (enumerate_from (i + 1) xs))) ∙ ap (λ b. b && list_all is_made (enumerate_from (i + 1) xs)) (sym next) ∙ held-from (i + 1) xs rest (omega arith)

  pub held : length tags ≡ length t → list_all is_made (enumerate_from 0 tags) ≡ tags_hold tag (parts_of h t tags)
  held many = held-from 0 tags refl (omega arith) ∙ ap (hold_to tag (parts_of h t tags)) many

  pub made : length tags ≡ length t → MadeByStations tag (parts_of h t tags)
  made many = made_by tag (parts_of h t tags) many
